-- How a step ends.
use Rattle.std.proofs.Common.{◌≡◌, ℕ, Bool, true, false, Option, Some, None, ◌≢◌, refl, ap, sym, ◌∙◌, subst, ◌&&◌}
use Rattle.std.proofs.lemmas.Bool.{false≢true}
use Rattle.policy_trait.specs.Model.{PolicyModel}
use Rattle.turn_steps.specs.Feeds.{Tape}
use Rattle.undo_log.specs.Past.{Past, pushed}
use Rattle.engine_trait.specs.Accounts.{IsUncached, account_after_turn, is_over, remembering}
use Rattle.shared_terms.specs.Counts.{next_count}
use Rattle.engine_trait.specs.EngineLaws.{FollowsTurn, RunsOut, StaysIdle, is_made}
use Rattle.engine_trait.specs.History.{record_of}
use Rattle.engine_trait.specs.Machine.{is_ready_in}
use Rattle.engine_trait.specs.Standing.{Standing, idle, is_ready, is_running, made_step, out_of_words, step, step_by}
use Rattle.engine_trait.specs.declared.ends.Halt.{Halt}
use Rattle.engine_trait.specs.declared.ends.TurnEnd.{TurnEnd}
use Rattle.engine_trait.specs.declared.ends.TurnEnd.TheVariants as ends
use Rattle.engine_trait.proofs.AccountLemmas.{accounted_halt, accounted_past, accounted_plain, accounted_turns, never_over, out_past}
use Rattle.engine_trait.proofs.TurnLemmas.{turn_made}

-- ---- an engine that is ready

running : (halt : Option Halt) (ready : Bool) → (is_running halt && ready) ≡ true → (halt ≡ None) × (ready ≡ true)
running None ready both = (refl, both)
running (Some why) ready both = absurd (false≢true both)

pub ready_parts : {S T : Type 0} (e : Standing S T) (h : ℕ) → is_ready e h ≡ true → (e.account.halt ≡ None) × (is_ready_in e.machine.core h ≡ true)
ready_parts e h both = running e.account.halt (is_ready_in e.machine.core h) both

-- ---- ends of turns are not one another

abbrev is_idle : TurnEnd → Bool
is_idle ends.Idle = true
is_idle (ends.Ran byte) = false
is_idle ends.Break = false
is_idle (ends.Stopped why) = false
is_idle ends.TagsOut = false
is_idle ends.Memory = false

abbrev is_out : TurnEnd → Bool
is_out ends.TagsOut = true
is_out (ends.Ran byte) = false
is_out ends.Break = false
is_out (ends.Stopped why) = false
is_out ends.Idle = false
is_out ends.Memory = false

abbrev is_want : TurnEnd → Bool
is_want ends.Memory = true
is_want (ends.Ran byte) = false
is_want ends.Break = false
is_want (ends.Stopped why) = false
is_want ends.Idle = false
is_want ends.TagsOut = false

-- ---- a step

module _ {S T : Type 0} (eq : T → T → Bool) (m : PolicyModel T S) (e : Standing S T) (feed : Tape) (h : ℕ) where
  pub step_idle : is_ready e h ≡ false → step eq m e feed h ≡ idle eq m e feed h
  unfolding step
  step_idle waits = ap (λ ready. step_by eq m e feed h ready (is_over (account_after_turn eq m e.machine h e.account))) waits

  pub step_ready : is_ready e h ≡ true → step eq m e feed h ≡ step_by eq m e feed h true (is_over (account_after_turn eq m e.machine h e.account))
  unfolding step
  step_ready ready = ap (λ is_so. step_by eq m e feed h is_so (is_over (account_after_turn eq m e.machine h e.account))) ready

  pub step_out : is_ready e h ≡ true → is_over (account_after_turn eq m e.machine h e.account) ≡ true → step eq m e feed h ≡ out_of_words eq m e feed h
  step_out ready over = step_ready ready ∙ ap (λ is_so. step_by eq m e feed h true is_so) over

  pub step_made : is_ready e h ≡ true → is_over (account_after_turn eq m e.machine h e.account) ≡ false → step eq m e feed h ≡ made_step eq m e feed h
  step_made ready within = step_ready ready ∙ ap (λ is_so. step_by eq m e feed h true is_so) within

  made_follows : is_ready e h ≡ true → FollowsTurn eq m e feed h (made_step eq m e feed h)
  made_follows ready = record {
    ready = ready;
    machine = refl;
    fed = refl;
    ended = refl;
    account = refl;
    halt = accounted_halt eq m e.machine h e.account ∙ (ready_parts e h ready).0;
    turns = accounted_turns eq m e.machine h e.account;
    past = ap (λ (past : Past T T). pushed past (record_of m e.machine feed h)) (accounted_past eq m e.machine h e.account);
  }

  made_is_turn : is_ready e h ≡ true → is_made (made_step eq m e feed h).ended ≡ true
  made_is_turn ready = turn_made m e.machine feed h (ready_parts e h ready).1

  -- no turn that is made ends so
  not_turn : (end : TurnEnd) → is_ready e h ≡ true → (made_step eq m e feed h).ended ≡ end → is_made end ≡ true
  not_turn end ready is = sym (ap is_made is) ∙ made_is_turn ready

  follows_by : (ready over : Bool) → is_ready e h ≡ ready → is_made (step_by eq m e feed h ready over).ended ≡ true
      → FollowsTurn eq m e feed h (step_by eq m e feed h ready over)
  follows_by false over waits is = absurd (false≢true is)
  follows_by true true ready is = absurd (false≢true is)
  follows_by true false ready is = made_follows ready

  pub step_follows : is_made (step eq m e feed h).ended ≡ true → FollowsTurn eq m e feed h (step eq m e feed h)
  unfolding step
  step_follows is = follows_by (is_ready e h) (is_over (account_after_turn eq m e.machine h e.account)) refl is

  out_by : (ready over : Bool) → is_ready e h ≡ ready → is_over (account_after_turn eq m e.machine h e.account) ≡ over → (step_by eq m e feed h ready over).ended ≡ ends.TagsOut
      → RunsOut eq m e feed h (step_by eq m e feed h ready over)
  out_by false over waits is_so is = absurd (false≢true (ap is_out is))
  out_by true true ready is_so is = record { ready = ready; over = is_so; out = refl; past = out_past eq m e.machine h e.account }
  out_by true false ready is_so is = absurd (false≢true (not_turn ends.TagsOut ready is))

  pub step_runs_out : (step eq m e feed h).ended ≡ ends.TagsOut → RunsOut eq m e feed h (step eq m e feed h)
  unfolding step
  step_runs_out is = out_by (is_ready e h) (is_over (account_after_turn eq m e.machine h e.account)) refl refl is

  idle_by : (ready over : Bool) → is_ready e h ≡ ready → (step_by eq m e feed h ready over).ended ≡ ends.Idle
      → StaysIdle eq m e feed h (step_by eq m e feed h ready over)
  idle_by false over waits is = record { waits = waits; idle = refl }
  idle_by true true ready is = absurd (false≢true (ap is_idle is))
  idle_by true false ready is = absurd (false≢true (not_turn ends.Idle ready is))

  pub step_stays_idle : (step eq m e feed h).ended ≡ ends.Idle → StaysIdle eq m e feed h (step eq m e feed h)
  unfolding step
  step_stays_idle is = idle_by (is_ready e h) (is_over (account_after_turn eq m e.machine h e.account)) refl is

  -- the step of a hart that is ready is not idle
  pub ready_busy : is_ready e h ≡ true → (step eq m e feed h).ended ≢ ends.Idle
  ready_busy ready is = false≢true (sym (step_stays_idle is).waits ∙ ready)

  memory_by : (ready over : Bool) → is_ready e h ≡ ready → (step_by eq m e feed h ready over).ended ≢ ends.Memory
  memory_by false over waits is = false≢true (ap is_want is)
  memory_by true true ready is = false≢true (ap is_want is)
  memory_by true false ready is = false≢true (not_turn ends.Memory ready is)

  pub step_not_memory : (step eq m e feed h).ended ≢ ends.Memory
  unfolding step
  step_not_memory = memory_by (is_ready e h) (is_over (account_after_turn eq m e.machine h e.account)) refl

  -- a step that ends neither idle nor out is a turn
  pub is_turn : (end : TurnEnd) → end ≢ ends.Idle → end ≢ ends.TagsOut → end ≢ ends.Memory → is_made end ≡ true
  is_turn (ends.Ran byte) busy within has_memory = refl
  is_turn ends.Break busy within has_memory = refl
  is_turn (ends.Stopped why) busy within has_memory = refl
  is_turn ends.Idle busy within has_memory = absurd (busy refl)
  is_turn ends.TagsOut busy within has_memory = absurd (within refl)
  is_turn ends.Memory busy within has_memory = absurd (has_memory refl)

  pub step_is_turn : (step eq m e feed h).ended ≢ ends.Idle → (step eq m e feed h).ended ≢ ends.TagsOut → FollowsTurn eq m e feed h (step eq m e feed h)
  step_is_turn busy within = step_follows (is_turn (step eq m e feed h).ended busy within step_not_memory)

  -- ---- an engine that keeps no rules

  plain_within : IsUncached e.account → is_over (account_after_turn eq m e.machine h e.account) ≡ false
  plain_within plain =
      let after = accounted_plain eq m e.machine h e.account plain in
      ap is_over after.1 ∙ never_over eq (record e.account { misses = after.0; turns = next_count e.account.turns }) (record { ways = plain.ways; table = plain.table; sets = plain.sets })

  pub plain_step : IsUncached e.account → is_ready e h ≡ true → step eq m e feed h ≡ made_step eq m e feed h
  plain_step plain ready = step_made ready (plain_within plain)

  plain_made : IsUncached e.account → IsUncached (remembering (record_of m e.machine feed h) (account_after_turn eq m e.machine h e.account))
  plain_made plain =
      let after = accounted_plain eq m e.machine h e.account plain in
      subst (λ account. IsUncached (remembering (record_of m e.machine feed h) account)) (sym after.1) (record { ways = plain.ways; table = plain.table; sets = plain.sets })

  plain_hits : IsUncached e.account → (account_after_turn eq m e.machine h e.account).hits ≡ e.account.hits
  plain_hits plain = ap (λ account. account.hits) (accounted_plain eq m e.machine h e.account plain).1

  within_by : (ready over : Bool) → is_ready e h ≡ ready → over ≡ false → (step_by eq m e feed h ready over).ended ≢ ends.TagsOut
  within_by false over waits never is = false≢true (ap is_out is)
  within_by true over ready never is =
      false≢true (not_turn ends.TagsOut ready (sym (ap (λ is_so. (step_by eq m e feed h true is_so).ended) never) ∙ is))

  pub plain_in_words : IsUncached e.account → (step eq m e feed h).ended ≢ ends.TagsOut
  unfolding step
  plain_in_words plain = within_by (is_ready e h) (is_over (account_after_turn eq m e.machine h e.account)) refl (plain_within plain)

  stays_by : (ready over : Bool) → over ≡ false → IsUncached e.account → IsUncached (step_by eq m e feed h ready over).standing.account
  stays_by false over never plain = plain
  stays_by true over never plain = subst (λ is_so. IsUncached (step_by eq m e feed h true is_so).standing.account) (sym never) (plain_made plain)

  pub plain_stays : IsUncached e.account → IsUncached (step eq m e feed h).standing.account
  unfolding step
  plain_stays plain = stays_by (is_ready e h) (is_over (account_after_turn eq m e.machine h e.account)) (plain_within plain) plain

  hits_by : (ready over : Bool) → over ≡ false → IsUncached e.account → (step_by eq m e feed h ready over).standing.account.hits ≡ e.account.hits
  hits_by false over never plain = refl
  hits_by true over never plain = ap (λ is_so. (step_by eq m e feed h true is_so).standing.account.hits) never ∙ plain_hits plain

  pub plain_step_hits : IsUncached e.account → (step eq m e feed h).standing.account.hits ≡ e.account.hits
  unfolding step
  plain_step_hits plain = hits_by (is_ready e h) (is_over (account_after_turn eq m e.machine h e.account)) (plain_within plain) plain
