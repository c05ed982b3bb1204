-- The records of the last turns: what keeps them those that led to the machine, and what the newest of them tells.
use Rattle.std.proofs.Common.{◌≡◌, ◌-◌, ◌++◌, ℕ, false, true, List, [], ◌∷◌, drop, length, Option, Some, None, refl, ap, sym, ◌∙◌, subst, take}
use Rattle.std.specs.Option.{ForSome}
use Rattle.std.proofs.lemmas.Bool.{false≢true}
use Rattle.std.proofs.lemmas.List.{take-append-drop}
use Rattle.rv_decode.specs.declared.groups.Group.{Group}
use Rattle.rv_decode.specs.declared.groups.Group.TheVariants as group
use Rattle.policy_trait.specs.Model.{IsCommitted, PolicyModel}
use Rattle.policy_trait.specs.PolicyLaws.{KeepsLaws}
use Rattle.tag_memory.specs.Ram.{ram_bytes}
use Rattle.turn_steps.specs.Feeds.{Tape}
use Rattle.turn_steps.specs.Looks.{is_system}
use Rattle.turn_steps.specs.declared.look.Look.{Look}
use Rattle.undo_log.specs.Past.{Past, Record, newest, older, past_of, pushed}
use Rattle.undo_log.proofs.PopLemmas.{newest_kept}
use Rattle.engine_trait.specs.Accounts.{Account, remembering}
use Rattle.engine_trait.specs.Back.{IsLed, IsPastOf, LeadTo, back, back_by}
use Rattle.engine_trait.specs.History.{record_by, record_of, undone}
use Rattle.engine_trait.specs.HistoryLaws.{IsFit}
use Rattle.engine_trait.specs.Machine.{CoreState, IsMachine, Machine, is_ready_in}
use Rattle.engine_trait.specs.Standing.{Standing}
use Rattle.engine_trait.specs.Turn.{turn_of}
use Rattle.engine_trait.proofs.HistoryLemmas.{turn_back}
use Rattle.engine_trait.proofs.MachineLemmas.{turn_keeps}

-- ---- the record of a turn

-- only an ECALL reads the feed
pub next_unused : {T U : Type 0} (called : Group) (core : CoreState T) (next other : Option ℕ) (h : ℕ) (look : Look) → is_system called ≡ false
    → record_by {U = U} called core next h look ≡ record_by called core other h look
next_unused group.Get core next other h look plain = absurd (false≢true (sym plain))
next_unused group.Exit core next other h look plain = refl
next_unused group.Put core next other h look plain = refl
next_unused group.Break core next other h look plain = refl
next_unused _ core next other h look plain = refl

-- ---- an engine

-- one that keeps no records, and has room for none, remembers nothing
pub remembering_none : {T : Type 0} (made : Record T T) (account : Account T) → account.past ≡ past_of [] 0 → remembering made account ≡ account
remembering_none made account none =
    ap (λ (past : Past _ _). record account { past = pushed past made }) none ∙ ap (λ (past : Past _ _). record account { past = past }) (sym none)

module _ {S T : Type 0} (m : PolicyModel T S) (e : Standing S T) (feed : Tape) where
  pub back_none : newest e.account.past ≡ None → back m e feed ≡ record { standing = e; feed = feed }
  unfolding back
  back_none none = ap (back_by m e feed) none

  pub back_some : (made : Record T T) → newest e.account.past ≡ Some made → back m e feed ≡ back_by m e feed (Some made)
  unfolding back
  back_some made some = ap (back_by m e feed) some

-- ---- records that lead from one machine to another

module _ {S T : Type 0} (m : PolicyModel T S) where
  -- one turn more
  led_more : (kept : List (Record T T)) (first s : Machine S T) (feed : Tape) (h : ℕ) → is_ready_in s.core h ≡ true → LeadTo m first kept s
      → LeadTo m first (kept ++ record_of m s feed h ∷ []) (turn_of m s feed h).machine
  led_more [] first s feed h ready same =
      subst (λ (start : Machine S T). IsLed m start (record_of m s feed h) (λ next. next ≡ (turn_of m s feed h).machine)) (sym same)
      (record { feed = feed; hart = h; ready = ready; made_is = refl; rest = refl })
  led_more (made ∷ others) first s feed h ready led = record {
    feed = led.feed;
    hart = led.hart;
    ready = led.ready;
    made_is = led.made_is;
    rest = led_more others (turn_of m first led.feed led.hart).machine s feed h ready led.rest;
  }

  -- the last of them is that of a turn, up to which the others lead
  record LastLed (first : Machine S T) (front : List (Record T T)) (made : Record T T) (last : Machine S T) : Type 0 where
    before : Machine S T
    feed : Tape
    hart : ℕ
    ready : is_ready_in before.core hart ≡ true
    made_is : made ≡ record_of m before feed hart
    after : last ≡ (turn_of m before feed hart).machine
    led : LeadTo m first front before

  last_led : (front : List (Record T T)) (first : Machine S T) (made : Record T T) (last : Machine S T) → LeadTo m first (front ++ made ∷ []) last → LastLed first front made last
  last_led [] first made last led =
      record { before = first; feed = led.feed; hart = led.hart; ready = led.ready; made_is = led.made_is; after = sym led.rest; led = refl }
  last_led (other ∷ front) first made last led =
      let rest = last_led front (turn_of m first led.feed led.hart).machine made last led.rest in
      record {
        before = rest.before;
        feed = rest.feed;
        hart = rest.hart;
        ready = rest.ready;
        made_is = rest.made_is;
        after = rest.after;
        led = record { feed = led.feed; hart = led.hart; ready = led.ready; made_is = led.made_is; rest = rest.led };
      }

-- ---- the records of the last turns that led to a machine

-- the newest record, behind those of `front`, is that of the turn that led to the machine, which undoing it takes back
pub record IsNewest {S T : Type 0} (m : PolicyModel T S) (holds : S → Type 0) (s : Machine S T) (front : List (Record T T)) (made : Record T T) : Type 0 where
  pub before : Machine S T
  pub feed : Tape
  pub hart : ℕ
  pub sound : IsMachine m before
  pub valid : holds before.policy
  pub ready : is_ready_in before.core hart ≡ true
  pub made_is : made ≡ record_of m before feed hart
  pub after : s ≡ (turn_of m before feed hart).machine
  pub past : IsPastOf m holds before front
  pub undone_is : undone m s made ≡ before
  pub fit : IsFit (length s.core.harts) (ram_bytes s.core.ram) made
  pub committed : ForSome made.plan (IsCommitted m holds s.policy)

module _ {S T : Type 0} (m : PolicyModel T S) (holds : S → Type 0) (laws : KeepsLaws m holds) where
  -- none is kept yet
  pub past_none : (s : Machine S T) → IsMachine m s → holds s.policy → IsPastOf m holds s []
  past_none s is valid = record { first = s; sound = is; valid = valid; led = refl }

  -- a turn adds its record
  pub past_more : (s : Machine S T) (kept : List (Record T T)) (feed : Tape) (h : ℕ) → is_ready_in s.core h ≡ true → IsPastOf m holds s kept
      → IsPastOf m holds (turn_of m s feed h).machine (kept ++ record_of m s feed h ∷ [])
  past_more s kept feed h ready past =
      record { first = past.first; sound = past.sound; valid = past.valid; led = led_more m kept past.first s feed h ready past.led }

  -- without those of `front`, the oldest, the others lead there from a later machine
  past_behind : (s : Machine S T) (front kept : List (Record T T)) (first : Machine S T) → IsMachine m first → holds first.policy → LeadTo m first (front ++ kept) s
      → IsPastOf m holds s kept
  past_behind s [] kept first is valid led = record { first = first; sound = is; valid = valid; led = led }
  past_behind s (made ∷ front) kept first is valid led =
      let turned = turn_keeps m holds laws first valid is led.feed led.hart in
      past_behind s front kept (turn_of m first led.feed led.hart).machine turned.stays.machine turned.valid led.rest

  -- the oldest may be dropped
  pub past_cut : (s : Machine S T) (n : ℕ) (kept : List (Record T T)) → IsPastOf m holds s kept → IsPastOf m holds s (drop n kept)
  past_cut s n kept past =
      past_behind s (take n kept) (drop n kept) past.first past.sound past.valid
      (subst (λ (records : List (Record T T)). LeadTo m past.first records s) (sym (take-append-drop n kept)) past.led)

  -- so a log of the last turns stays one with the record of a turn
  pub past_pushed : (s : Machine S T) (past : Past T T) (feed : Tape) (h : ℕ) → is_ready_in s.core h ≡ true → IsPastOf m holds s past.kept
      → IsPastOf m holds (turn_of m s feed h).machine (pushed past (record_of m s feed h)).kept
  past_pushed s past feed h ready led =
      past_cut (turn_of m s feed h).machine (length (past.kept ++ record_of m s feed h ∷ []) - past.most) (past.kept ++ record_of m s feed h ∷ [])
      (past_more s past.kept feed h ready led)

  -- the machine that records lead to is sound, since the first is
  led_keeps : (kept : List (Record T T)) (first last : Machine S T) → IsMachine m first → holds first.policy → LeadTo m first kept last → IsMachine m last × holds last.policy
  led_keeps [] first last is valid same = subst (λ (s : Machine S T). IsMachine m s × holds s.policy) same (is, valid)
  led_keeps (made ∷ others) first last is valid led =
      let turned = turn_keeps m holds laws first valid is led.feed led.hart in
      led_keeps others (turn_of m first led.feed led.hart).machine last turned.stays.machine turned.valid led.rest

  -- of the turn of a machine, with its record
  turned_newest : (before : Machine S T) (feed : Tape) (h : ℕ) (front : List (Record T T)) → is_ready_in before.core h ≡ true → IsMachine m before → holds before.policy
      → IsPastOf m holds before front → IsNewest m holds (turn_of m before feed h).machine front (record_of m before feed h)
  turned_newest before feed h front ready is valid past =
      let stays = (turn_keeps m holds laws before valid is feed h).stays in
      let taken = turn_back m holds laws before valid is feed h ready in
      record {
        before = before;
        feed = feed;
        hart = h;
        sound = is;
        valid = valid;
        ready = ready;
        made_is = refl;
        after = refl;
        past = past;
        undone_is = taken.machine;
        fit = subst (λ (harts : ℕ). IsFit harts (ram_bytes (turn_of m before feed h).machine.core.ram) (record_of m before feed h)) (sym stays.harts)
            (subst (λ (bytes : ℕ). IsFit (length before.core.harts) bytes (record_of m before feed h)) (sym stays.ram) taken.fit);
        committed = taken.committed;
      }

  -- the newest of the records of the last turns
  pub past_back : (s : Machine S T) (front : List (Record T T)) (made : Record T T) → IsPastOf m holds s (front ++ made ∷ []) → IsNewest m holds s front made
  past_back s front made past =
      let last = last_led m front past.first made s past.led in
      let kept = led_keeps front past.first last.before past.sound past.valid last.led in
      subst (λ (machine : Machine S T). IsNewest m holds machine front made) (sym last.after)
      (subst (λ (r : Record T T). IsNewest m holds (turn_of m last.before last.feed last.hart).machine front r) (sym last.made_is)
      (turned_newest last.before last.feed last.hart front last.ready kept.0 kept.1 (record { first = past.first; sound = past.sound; valid = past.valid; led = last.led })))

  -- the same of a log
  pub past_newest : (s : Machine S T) (past : Past T T) (made : Record T T) → newest past ≡ Some made → IsPastOf m holds s past.kept → IsNewest m holds s (older past).kept made
  past_newest s past made last led = past_back s (older past).kept made (subst (IsPastOf m holds s) (newest_kept past made last) led)

  -- without it they are those of the turns that led to the machine before
  pub past_undone : (s : Machine S T) (past : Past T T) (made : Record T T) → newest past ≡ Some made → IsPastOf m holds s past.kept
      → IsPastOf m holds (undone m s made) (older past).kept
  past_undone s past made last led =
      let is = past_newest s past made last led in
      subst (λ (machine : Machine S T). IsPastOf m holds machine (older past).kept) (sym is.undone_is) is.past

  -- a machine that they lead to is sound
  pub past_sound : (s : Machine S T) (kept : List (Record T T)) → IsPastOf m holds s kept → IsMachine m s × holds s.policy
  past_sound s kept past = led_keeps kept past.first s past.sound past.valid past.led
