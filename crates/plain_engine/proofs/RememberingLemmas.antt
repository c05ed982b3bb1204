-- An engine that remembers its turns makes those of one that does not, and each leaves its record.
use Rattle.std.proofs.Common.{◌≡◌, ◌≢◌, ◌⊎◌, ◌-◌, ℕ, Bool, true, List, [], length, take, Option, Some, None, Result, Ok, Err, IsOk, refl, ap, sym, ◌∙◌, inl, inr, subst}
use Rattle.std.proofs.lemmas.Bool.{false≢true}
use Rattle.policy_trait.specs.Model.{PolicyModel}
use Rattle.policy_trait.specs.PolicyLaws.{KeepsLaws}
use Rattle.shared_terms.specs.Counts.{next_count}
use Rattle.shared_terms.specs.Steps.{◌>>=◌}
use Rattle.monitor_calls.specs.Service.{Job}
use Rattle.turn_steps.specs.Feeds.{Tape, unread}
use Rattle.turn_steps.specs.declared.look.Look.{Look}
use Rattle.turn_steps.specs.declared.stop.Stop.{Stop}
use Rattle.undo_log.specs.Past.{Past, Record, newest, older, past_of, pushed}
use Rattle.undo_log.proofs.PopLemmas.{pushed_none}
use Rattle.engine_trait.specs.Accounts.{Account, IsUncached, account_after_turn, is_over, remembering}
use Rattle.engine_trait.specs.Back.{Backed, IsPastOf, back}
use Rattle.engine_trait.specs.History.{record_of}
use Rattle.engine_trait.specs.Machine.{Machine}
use Rattle.engine_trait.specs.Standing.{GivesUp, Standing, Stepped, is_ready, step, wanting}
use Rattle.engine_trait.specs.Turn.{is_job, is_served, job_at, preparation, rule_answer, rule_at, turn_of}
use Rattle.engine_trait.specs.declared.ends.TurnEnd.{TurnEnd}
use Rattle.engine_trait.specs.declared.ends.TurnEnd.TheVariants as ends
use Rattle.engine_trait.proofs.AccountLemmas.{accounted_checked, accounted_missed, never_over, rule_counted_missed}
use Rattle.engine_trait.proofs.PastLemmas.{back_some, past_pushed}
use Rattle.engine_trait.proofs.StepLemmas.{plain_step, ready_parts}
use Rattle.plain_engine.specs.Plain.{after_look_up, given_up, turned_back, with_past}

-- a step to this engine
abbrev pub stepped_to : {S T : Type 0} → Standing S T → Tape → TurnEnd → Stepped S T
stepped_to f fed ended = record { standing = f; feed = fed; ended = ended }

-- an engine and its feed, after a turn was taken back
abbrev pub backed_to : {S T : Type 0} → Standing S T → Tape → Backed S T
backed_to f fed = record { standing = f; feed = fed }

-- a turn ended for want of memory, or otherwise
by_memory : (ended : TurnEnd) → (ended ≡ ends.Memory) ⊎ (ended ≢ ends.Memory)
by_memory ends.Memory = inl refl
by_memory (ends.Ran byte) = inr (λ is. cc)
by_memory ends.Break = inr (λ is. cc)
by_memory (ends.Stopped why) = inr (λ is. cc)
by_memory ends.Idle = inr (λ is. cc)
by_memory ends.TagsOut = inr (λ is. cc)

-- an account that keeps no rules, with other records
still_uncached : {T : Type 0} (a : Account T) (past : Past T T) → IsUncached a → IsUncached (record a { past = past })
still_uncached a past plain = record { ways = plain.ways; table = plain.table; sets = plain.sets }

module _ {S T : Type 0} (eq : T → T → Bool) (m : PolicyModel T S) (s : Machine S T) (h : ℕ) (a : Account T) (past : Past T T) (plain : IsUncached a) where
  abbrev remembers : Account T → Account T
  remembers account = record account { past = past }

  accounted_by : (found : Result Look Stop) → preparation m s h ≡ found → account_after_turn eq m s h (remembers a) ≡ remembers (account_after_turn eq m s h a)
  accounted_by (Ok look) looked =
      accounted_missed eq m s h (remembers a) look (still_uncached a past plain) looked ∙ ap remembers (sym (accounted_missed eq m s h a look plain looked))
  accounted_by (Err why) looked =
      accounted_checked eq m s h (remembers a) why (still_uncached a past plain) looked ∙ ap remembers (sym (accounted_checked eq m s h a why plain looked))

  -- a turn counts the same, whatever is remembered
  accounted_past : account_after_turn eq m s h (remembers a) ≡ remembers (account_after_turn eq m s h a)
  accounted_past = accounted_by (preparation m s h) refl

module _ {S T : Type 0} (m : PolicyModel T S) (s : Machine S T) (h : ℕ) where
  job_of : (found : Result (Option (Job T)) Stop) → is_job found ≡ true → (job : Job T) × (found ≡ Ok (Some job))
  job_of (Ok (Some job)) is = (job, refl)
  job_of (Ok None) is = absurd (false≢true is)
  job_of (Err why) is = absurd (false≢true is)

  look_by : (found : Result Look Stop) → preparation m s h ≡ found → IsOk (found >>= rule_answer m s h) → (look : Look) × (preparation m s h ≡ Ok look)
  look_by (Ok look) looked allowed = (look, looked)
  look_by (Err why) looked allowed = absurd (false≢true allowed)

  -- a turn that comes to its rule was prepared
  look_of : IsOk (rule_at m s h) → (look : Look) × (preparation m s h ≡ Ok look)
  unfolding rule_at
  look_of allowed = look_by (preparation m s h) refl allowed

module _ {S T : Type 0} (eq : T → T → Bool) (m : PolicyModel T S) (e : Standing S T) (past : Past T T) (feed : Tape) (h : ℕ) (plain : IsUncached e.account) (ready : is_ready e h ≡ true) where
  abbrev made : Record T T
  made = record_of m e.machine feed h

  abbrev remembered : Stepped S T → Stepped S T
  remembered stepped = record { standing = with_past stepped.standing (pushed past made); feed = stepped.feed; ended = stepped.ended }

  -- with the account that the turn leaves
  abbrev turned : Account T → Stepped S T
  turned account = record {
    standing = record { machine = (turn_of m e.machine feed h).machine; account = remembering made account };
    feed = (turn_of m e.machine feed h).feed;
    ended = (turn_of m e.machine feed h).ended;
  }

  pub remembered_step : (f : Standing S T) (fed : Tape) (ended : TurnEnd) → step eq m e feed h ≡ record { standing = f; feed = fed; ended = ended }
      → step eq m (with_past e past) feed h ≡ record { standing = with_past f (pushed past made); feed = fed; ended = ended }
  remembered_step f fed ended is =
      plain_step eq m (with_past e past) feed h (still_uncached e.account past plain) ready
      ∙ ap turned (accounted_past eq m e.machine h e.account past plain)
      ∙ ap remembered (sym (plain_step eq m e feed h plain ready) ∙ is)

  pub turned_machine : (f : Standing S T) (fed : Tape) (ended : TurnEnd) → step eq m e feed h ≡ record { standing = f; feed = fed; ended = ended }
      → (turn_of m e.machine feed h).machine ≡ f.machine
  turned_machine f fed ended is = ap (λ (stepped : Stepped S T). stepped.standing.machine) (sym (plain_step eq m e feed h plain ready) ∙ is)

  -- the records are those of the turns that led to the machine still
  pub remembered_past : (holds : S → Type 0) → KeepsLaws m holds → (f : Standing S T) (fed : Tape) (ended : TurnEnd)
      → step eq m e feed h ≡ record { standing = f; feed = fed; ended = ended } → IsPastOf m holds e.machine past.kept → IsPastOf m holds f.machine (pushed past made).kept
  remembered_past holds laws f fed ended is led =
      subst (λ (machine : Machine S T). IsPastOf m holds machine (pushed past made).kept) (turned_machine f fed ended is)
      (past_pushed m holds laws e.machine past feed h (ready_parts e h ready).1 led)

  module _ (f : Standing S T) (fed : Tape) (ended : TurnEnd) (left : Record T T) (after : Past T T) (left_is : left ≡ made) (after_is : after ≡ pushed past left) where
    after_made : after ≡ pushed past made
    after_made = after_is ∙ ap (pushed past) left_is

    -- with the record that was taken of the turn
    pub recorded_step : step eq m e feed h ≡ stepped_to f fed ended → step eq m (with_past e past) feed h ≡ stepped_to (with_past f after) fed ended
    recorded_step is = remembered_step f fed ended is ∙ ap (λ (kept : Past T T). stepped_to (with_past f kept) fed ended) (sym after_made)

    pub recorded_past : (holds : S → Type 0) → KeepsLaws m holds → step eq m e feed h ≡ stepped_to f fed ended → IsPastOf m holds e.machine past.kept
        → IsPastOf m holds f.machine after.kept
    recorded_past holds laws is led =
        subst (λ (kept : Past T T). IsPastOf m holds f.machine kept.kept) (sym after_made) (remembered_past holds laws f fed ended is led)

  -- a turn that tells its record, if it was made
  module _ (f : Standing S T) (fed : Tape) (ended : TurnEnd) (noted : Option (Record T T)) (steps : ended ≢ ends.Memory → step eq m e feed h ≡ stepped_to f fed ended)
      (notes : ended ≢ ends.Memory → noted ≡ Some made) (unmade : ended ≡ ends.Memory → noted ≡ None) where
    module _ (left : Record T T) (after : Past T T) (is : noted ≡ Some left) (after_is : after ≡ pushed past left) where
      noted_ends : ended ≢ ends.Memory
      noted_ends out = cc (sym is ∙ unmade out)

      noted_is : left ≡ made
      noted_is = cc (sym is ∙ notes noted_ends)

      pub noted_step : step eq m (with_past e past) feed h ≡ stepped_to (with_past f after) fed ended
      noted_step = recorded_step f fed ended left after noted_is after_is (steps noted_ends)

      pub noted_past : (holds : S → Type 0) → KeepsLaws m holds → IsPastOf m holds e.machine past.kept → IsPastOf m holds f.machine after.kept
      noted_past holds laws led = recorded_past f fed ended left after noted_is after_is holds laws (steps noted_ends) led

    unnoted_by : noted ≡ None → (ended ≡ ends.Memory) ⊎ (ended ≢ ends.Memory) → ended ≡ ends.Memory
    unnoted_by none (inl out) = out
    unnoted_by none (inr made_it) = absurd (cc (sym none ∙ notes made_it))

    -- one that tells none ended for want of memory
    pub unnoted : noted ≡ None → ended ≡ ends.Memory
    unnoted none = unnoted_by none (by_memory ended)

  -- a log for none is left as it was
  forgotten : past ≡ past_of [] 0 → pushed past made ≡ past
  forgotten none = ap (λ (kept : Past T T). pushed kept made) none ∙ pushed_none made ∙ sym none

  module _ (holds : S → Type 0) (laws : KeepsLaws m holds) (f : Standing S T) (fed : Tape) (ended : TurnEnd) (led : IsPastOf m holds e.machine past.kept) where
    -- where memory ran out, the machine is the same
    pub unturned_past : GivesUp eq m e feed h f fed → IsPastOf m holds f.machine past.kept
    unturned_past gives = subst (λ (machine : Machine S T). IsPastOf m holds machine past.kept) (sym gives.machine) led

    forgotten_past_by : past ≡ past_of [] 0 → (ended ≢ ends.Memory → step eq m e feed h ≡ stepped_to f fed ended) → (ended ≡ ends.Memory → GivesUp eq m e feed h f fed)
        → (ended ≡ ends.Memory) ⊎ (ended ≢ ends.Memory) → IsPastOf m holds f.machine past.kept
    forgotten_past_by none steps gives (inl out) = unturned_past (gives out)
    forgotten_past_by none steps gives (inr made_it) =
        subst (λ (kept : Past T T). IsPastOf m holds f.machine kept.kept) (forgotten none) (remembered_past holds laws f fed ended (steps made_it) led)

    -- no record leads to the machine after a turn that left none
    pub forgotten_past : past ≡ past_of [] 0 → (ended ≢ ends.Memory → step eq m e feed h ≡ stepped_to f fed ended) → (ended ≡ ends.Memory → GivesUp eq m e feed h f fed)
        → IsPastOf m holds f.machine past.kept
    forgotten_past none steps gives = forgotten_past_by none steps gives (by_memory ended)

  -- memory ran out in a service that nothing refuses
  pub remembered_gives_up : (f : Standing S T) (fed : Tape) → is_served m e.machine h ≡ true → f ≡ given_up (after_look_up e) → GivesUp eq m e feed h f fed
      → GivesUp eq m (with_past e past) feed h (with_past f past) fed
  remembered_gives_up f fed served f_is gives =
      let looked = look_of m e.machine h gives.allowed in
      let there = job_of m e.machine h (job_at m e.machine h) served in
      let still = still_uncached e.account past plain in
      let counted = rule_counted_missed eq m e.machine h (with_past e past).account looked.0 still looked.1 in
      let missed : Account T = record (with_past e past).account { misses = next_count e.account.misses } in
      record {
        ready = ready;
        allowed = gives.allowed;
        machine = gives.machine;
        unfed = gives.unfed;
        account = inr (record {
          job = there.0;
          served = there.1;
          ruled = ap is_over counted ∙ never_over eq missed (record { ways = still.ways; table = still.table; sets = still.sets });
          wants = inl (ap (λ (x : Standing S T). (with_past x past).account) f_is ∙ ap wanting (sym counted));
        });
      }

-- the newest turn, taken back by its record
pub remembered_back : {S T : Type 0} (m : PolicyModel T S) (e : Standing S T) (past : Past T T) (feed : Tape) (made : Record T T) → newest past ≡ Some made
    → back m (with_past e past) feed ≡ record { standing = with_past (turned_back m e made) (older past); feed = unread made.fed feed }
remembered_back m e past feed made some = back_some m (with_past e past) feed made some

module _ {S T : Type 0} (past : Past T T) (none : past ≡ past_of [] 0) where
  with_own : (e : Standing S T) → e.account.past ≡ past_of [] 0 → with_past e past ≡ e
  with_own e bare = ap (with_past e) (none ∙ sym bare)

  -- an engine that remembers nothing stands as the one below it
  pub unremembering : (Holds : Standing S T → Standing S T → Type 0) (e f : Standing S T) → e.account.past ≡ past_of [] 0 → f.account.past ≡ past_of [] 0 → Holds e f
      → Holds (with_past e past) (with_past f past)
  unremembering Holds e f bare still is =
      subst (λ (x : Standing S T). Holds x (with_past f past)) (sym (with_own e bare)) (subst (λ (y : Standing S T). Holds e y) (sym (with_own f still)) is)

-- a log without a record, without its newest
pub older_none : {T : Type 0} (past : Past T T) → past.kept ≡ [] → older past ≡ past
older_none past none =
    ap (λ (kept : List (Record _ _)). past_of (take (length kept - 1) kept) past.most) none ∙ ap (λ (kept : List (Record _ _)). past_of kept past.most) (sym none)
