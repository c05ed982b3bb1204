-- Rounds that end with a turn still to come made as many turns as were asked for.
use Rattle.std.proofs.Common.{◌≡◌, ℕ, zero, suc, ◌+◌, ◌-◌, ◌<◌, ◌≤◌, Bool, true, false, ◌&&◌, ◌||◌, length, map, Option, Some, None, if◌then◌else◌, refl, ap, subst, sym, ◌∙◌, arith}
use Rattle.std.proofs.lemmas.Bool.{false≢true}
use Rattle.std.specs.List.{list_any, range_with_len}
use Rattle.policy_trait.specs.Model.{PolicyModel}
use Rattle.turn_steps.specs.Feeds.{Tape}
use Rattle.turn_steps.specs.declared.stop.Stop.{Stop}
use Rattle.engine_trait.specs.Accounts.{account_after_turn, is_over}
use Rattle.engine_trait.specs.Events.{event_of}
use Rattle.engine_trait.specs.EngineLaws.{is_made}
use Rattle.engine_trait.specs.Machine.{CoreState, is_ready_in, stop_at}
use Rattle.engine_trait.specs.Standing.{Standing, is_ready, is_running, step, step_by}
use Rattle.engine_trait.specs.declared.ends.Halt.{Halt}
use Rattle.engine_trait.specs.declared.ends.Halt.TheVariants as halt
use Rattle.engine_trait.proofs.AccountLemmas.{accounted_halt}
use Rattle.engine_trait.proofs.StepLemmas.{ready_parts}
use Rattle.engine_trait.proofs.TurnLemmas.{turn_made}
use Rattle.rounds.specs.Course.{Course, after_turn, first_ready, found_or_first, hart_stops, next_hart, next_turn, rounds, stays, taking, unless_stopped}
use Rattle.rounds.proofs.ReadinessLemmas.{ready_in}
use Rattle.rounds.proofs.RunLemmas.{rest_of}
use Rattle.rounds.proofs.TurnLemmas.{after_step}

-- ---- whose turn is next, and where none is

module _ {T : Type 0} (core : CoreState T) where
  abbrev IsReady : ℕ → Type 0
  IsReady h = is_ready_in core h ≡ true

  found_ready : (ready : Bool) (from h : ℕ) (rest : Option ℕ) → is_ready_in core from ≡ ready → (if ready then Some from else rest) ≡ Some h
      → (rest ≡ Some h → IsReady h) → IsReady h
  found_ready true from h rest is found others = subst IsReady (let e : from ≡ h = cc in e) is
  found_ready false from h rest is found others = others found

  first_is_ready : (from n h : ℕ) → first_ready core from n ≡ Some h → IsReady h
  unfolding first_ready
  first_is_ready from zero h found = absurd cc
  first_is_ready from (suc n) h found = found_ready (is_ready_in core from) from h (first_ready core (from + 1) n) refl found (first_is_ready (from + 1) n h)

  either_ready : (found first : Option ℕ) (h : ℕ) → found_or_first found first ≡ Some h → (found ≡ Some h → IsReady h) → (first ≡ Some h → IsReady h) → IsReady h
  either_ready (Some k) first h is now later = now is
  either_ready None first h is now later = later is

  next_hart_ready : (from h : ℕ) → next_hart core from ≡ Some h → IsReady h
  unfolding next_hart
  next_hart_ready from h is =
      either_ready (first_ready core from (length core.harts - from)) (first_ready core 0 (length core.harts)) h is
      (first_is_ready from (length core.harts - from) h) (first_is_ready 0 (length core.harts) h)

  none_of : (found first : Option ℕ) → found_or_first found first ≡ None → first ≡ None
  none_of (Some k) first is = absurd cc
  none_of None first is = is

  none_ready : (from : ℕ) → next_hart core from ≡ None → first_ready core 0 (length core.harts) ≡ None
  unfolding next_hart
  none_ready from is = none_of (first_ready core from (length core.harts - from)) (first_ready core 0 (length core.harts)) is

  none_first : (found first : Option ℕ) → found ≡ first → first ≡ None → found_or_first found first ≡ None
  none_first found first same none = ap (λ (one : Option ℕ). found_or_first one first) (same ∙ none) ∙ none

  none_next : (from : ℕ) → next_hart core from ≡ None → next_hart core 0 ≡ None
  unfolding next_hart
  none_next from is =
      none_first (first_ready core 0 (length core.harts - 0)) (first_ready core 0 (length core.harts))
      (ap (first_ready core 0) (let e : length core.harts - 0 ≡ length core.harts = omega arith in e))
      (none_of (first_ready core from (length core.harts - from)) (first_ready core 0 (length core.harts)) is)

  -- ---- stops where no hart is ready

  first_none : (ready : Bool) (from : ℕ) (rest : Option ℕ) → (if ready then Some from else rest) ≡ None → (ready ≡ false) × (rest ≡ None)
  first_none true from rest is = absurd cc
  first_none false from rest is = (refl, is)

  module _ (test : Option Stop → Bool) (not_stopped : (why : Stop) → test (Some why) ≡ false) where
    fails_at : (h : ℕ) (stop : Option Stop) → h < length core.harts → stop_at core h ≡ stop → is_ready_in core h ≡ false → test stop ≡ false
    fails_at h None there is waits = absurd (false≢true (sym waits ∙ ready_in core h there is))
    fails_at h (Some why) there is waits = not_stopped why

    none_passes : (from n : ℕ) → from + n ≤ length core.harts → first_ready core from n ≡ None → list_any test (map (stop_at core) (range_with_len from n)) ≡ false
    unfolding first_ready
    none_passes from zero within none = refl
    none_passes from (suc n) within none =
        let parts = first_none (is_ready_in core from) from (first_ready core (from + 1) n) none in
        let head = fails_at from (stop_at core from) (omega (arith, within)) refl parts.0 in
        let tail = none_passes (from + 1) n (omega (arith, within)) parts.1 in
        λ j. head j || tail j

    -- where a stop passes that no stopped hart's does, some hart is ready
    pub some_is_next : list_any test (hart_stops core) ≡ true → (next : Option ℕ) → next_hart core 0 ≡ next → (h : ℕ) × (next_hart core 0 ≡ Some h)
    some_is_next passes None is = absurd (false≢true (sym (none_passes 0 (length core.harts) (omega arith) (none_ready 0 is)) ∙ passes))
    some_is_next passes (Some h) is = (h, is)

-- ---- the same of an engine

ready_by : (running ready : Bool) (next : Option ℕ) (h : ℕ) → (if running then next else None) ≡ Some h → (next ≡ Some h → ready ≡ true) → (running && ready) ≡ true
ready_by true ready next h is each = each is
ready_by false ready next h is each = absurd cc

none_by : (running : Bool) (next other : Option ℕ) → (if running then next else None) ≡ None → (next ≡ None → other ≡ None) → (if running then other else None) ≡ None
none_by true next other is each = each is
none_by false next other is each = refl

module _ {S T : Type 0} (e : Standing S T) where
  next_is_ready : (from h : ℕ) → next_turn e from ≡ Some h → is_ready e h ≡ true
  unfolding next_turn
  next_is_ready from h is =
      ready_by (is_running e.account.halt) (is_ready_in e.machine.core h) (next_hart e.machine.core from) h is (next_hart_ready e.machine.core from h)

  none_from : (from : ℕ) → next_turn e from ≡ None → next_turn e 0 ≡ None
  unfolding next_turn
  none_from from is =
      none_by (is_running e.account.halt) (next_hart e.machine.core from) (next_hart e.machine.core 0) is (none_next e.machine.core from)

  halted_none : (why : Halt) (from : ℕ) → e.account.halt ≡ Some why → next_turn e from ≡ None
  unfolding next_turn
  halted_none why from is = ap (λ (stopped : Option Halt). unless_stopped stopped (next_hart e.machine.core from)) is

  -- an engine that runs has a turn next where a stop passes that no stopped hart's does
  pub turn_is_next : (test : Option Stop → Bool) → ((why : Stop) → test (Some why) ≡ false) → e.account.halt ≡ None
      → list_any test (hart_stops e.machine.core) ≡ true → (h : ℕ) × (next_turn e 0 ≡ Some h)
  unfolding next_turn
  turn_is_next test not_stopped runs passes =
      let found = some_is_next e.machine.core test not_stopped passes (next_hart e.machine.core 0) refl in
      (found.0, ap (λ (stopped : Option Halt). unless_stopped stopped (next_hart e.machine.core 0)) runs ∙ found.1)

-- ---- rounds

module _ {S T : Type 0} (eq : T → T → Bool) (m : PolicyModel T S) where
  module _ (e : Standing S T) (feed : Tape) (h : ℕ) where
    abbrev Halts : Standing S T → Type 0
    Halts f = f.account.halt ≡ Some halt.TagNumbers

    out_by : (ready over : Bool) → is_ready e h ≡ ready → ready ≡ true → is_made (step_by eq m e feed h ready over).ended ≡ false
        → Halts (step_by eq m e feed h ready over).standing
    out_by false over is ready unmade = absurd (false≢true ready)
    out_by true true is ready unmade = refl
    out_by true false is ready unmade = absurd (false≢true (sym unmade ∙ turn_made m e.machine feed h (ready_parts e h is).1))

    -- a ready hart's turn that was not made ran out of tag numbers
    unmade_is_out : is_ready e h ≡ true → is_made (step eq m e feed h).ended ≡ false → Halts (step eq m e feed h).standing
    unfolding step
    unmade_is_out ready unmade = out_by (is_ready e h) (is_over (account_after_turn eq m e.machine h e.account)) refl ready unmade

    abbrev IsShort : Standing S T → Type 0
    IsShort f = f.account.halt ≡ Some halt.Memory → ⊥

    memory_by : (ready over : Bool) → IsShort e → IsShort (step_by eq m e feed h ready over).standing
    memory_by false over has = has
    memory_by true true has = λ is. cc
    memory_by true false has = λ is. has (sym (accounted_halt eq m e.machine h e.account) ∙ is)

    -- a step wants no memory
    step_has_memory : IsShort e → IsShort (step eq m e feed h).standing
    unfolding step
    step_has_memory has = memory_by (is_ready e h) (is_over (account_after_turn eq m e.machine h e.account)) has

  halted_stays : (n from : ℕ) (e : Standing S T) (feed : Tape) (why : Halt) → e.account.halt ≡ Some why → rounds eq m n from e feed ≡ stays e feed
  unfolding rounds
  halted_stays zero from e feed why is = refl
  halted_stays (suc n) from e feed why is =
      ap (λ (next : Option ℕ). taking next (stays e feed) (λ h. after_step eq m e feed h (rest_of eq m n e feed h))) (halted_none e why from is)

  -- where a turn is still to come, so many were made
  abbrev EndsSpent : ℕ → Course S T → Type 0
  EndsSpent n course = (h : ℕ) → next_turn course.standing 0 ≡ Some h → length course.order ≡ n

  step_spent : (made : Bool) (n h : ℕ) (e : Standing S T) (feed : Tape) (others : Course S T) → is_ready e h ≡ true → is_made (step eq m e feed h).ended ≡ made
      → others ≡ rest_of eq m n e feed h → EndsSpent n others → EndsSpent (suc n) (after_turn made h (event_of m e.machine feed h) others)
  step_spent true n h e feed others ready is rest spent k next =
      let counted = spent k next in let all : suc (length others.order) ≡ suc n = omega (arith, counted) in all
  step_spent false n h e feed others ready is rest spent k next =
      let after = step eq m e feed h in
      let out = unmade_is_out e feed h ready is in
      let none : next_turn others.standing 0 ≡ None
      = ap (λ (course : Course S T). next_turn course.standing 0) (rest ∙ halted_stays n (h + 1) after.standing after.feed halt.TagNumbers out)
      ∙ halted_none after.standing halt.TagNumbers 0 out in
      absurd cc

  taken_spent : (n from : ℕ) (e : Standing S T) (feed : Tape) (next : Option ℕ) (go : ℕ → Course S T) → next_turn e from ≡ next
      → ((h : ℕ) → next ≡ Some h → EndsSpent (suc n) (go h)) → EndsSpent (suc n) (taking next (stays e feed) go)
  taken_spent n from e feed None go is each k next = absurd (let none = none_from e from is in cc)
  taken_spent n from e feed (Some h) go is each k next = each h refl k next

  pub rounds_spent : (n from : ℕ) (e : Standing S T) (feed : Tape) → EndsSpent n (rounds eq m n from e feed)
  unfolding rounds
  rounds_spent zero from e feed = λ k next. refl
  rounds_spent (suc n) from e feed =
      taken_spent n from e feed (next_turn e from) (λ h. after_step eq m e feed h (rest_of eq m n e feed h)) refl
      (λ h is. step_spent (is_made (step eq m e feed h).ended) n h e feed (rest_of eq m n e feed h) (next_is_ready e from h is) refl refl
      (rounds_spent n (h + 1) (step eq m e feed h).standing (step eq m e feed h).feed))

  -- ---- rounds want no memory

  taken_has_memory : (e : Standing S T) (feed : Tape) (next : Option ℕ) (go : ℕ → Course S T) → (e.account.halt ≡ Some halt.Memory → ⊥)
      → ((h : ℕ) → (go h).standing.account.halt ≡ Some halt.Memory → ⊥) → (taking next (stays e feed) go).standing.account.halt ≡ Some halt.Memory → ⊥
  taken_has_memory e feed None go has each = has
  taken_has_memory e feed (Some h) go has each = each h

  after_has_memory : (made : Bool) (h : ℕ) (e : Standing S T) (feed : Tape) (others : Course S T) → (others.standing.account.halt ≡ Some halt.Memory → ⊥)
      → (after_turn made h (event_of m e.machine feed h) others).standing.account.halt ≡ Some halt.Memory → ⊥
  after_has_memory true h e feed others has = has
  after_has_memory false h e feed others has = has

  pub rounds_have_memory : (n from : ℕ) (e : Standing S T) (feed : Tape) → (e.account.halt ≡ Some halt.Memory → ⊥)
      → (rounds eq m n from e feed).standing.account.halt ≡ Some halt.Memory → ⊥
  unfolding rounds
  rounds_have_memory zero from e feed has = has
  rounds_have_memory (suc n) from e feed has =
      taken_has_memory e feed (next_turn e from) (λ h. after_step eq m e feed h (rest_of eq m n e feed h)) has
      (λ h. after_has_memory (is_made (step eq m e feed h).ended) h e feed (rest_of eq m n e feed h)
      (rounds_have_memory n (h + 1) (step eq m e feed h).standing (step eq m e feed h).feed (step_has_memory e feed h has)))
