-- Which harts are ready, and whose turn is next.
use Rattle.std.proofs.Common.{◌≡◌, ℕ, zero, suc, ◌+◌, ◌-◌, ◌<◌, nat_lt, Bool, true, false, ◌&&◌, List, map, Option, Some, None, if◌then◌else◌, length, slice_index_or, refl, ap, subst, sym, ◌∙◌, arith}
use Rattle.std.specs.List.{range_with_len}
use Rattle.std.proofs.lemmas.Bool.Decides.{nat_tests}
use Rattle.std.proofs.lemmas.List.FromFn.{get_or-map-range_with_len, length-map-range_with_len}
use Rattle.turn_steps.specs.declared.stop.Stop.{Stop}
use Rattle.engine_trait.specs.Machine.{CoreState, has_no_stop, is_ready_in, stop_at}
use Rattle.engine_trait.specs.Standing.{Standing, is_ready, is_running}
use Rattle.rounds.specs.Course.{first_ready, found_or_first, hart_stops, next_hart, next_turn, order_in, unless_stopped}

never_both : (x : Bool) → (x && false) ≡ false
never_both true = refl
never_both false = refl

module _ {T : Type 0} (core : CoreState T) (h : ℕ) where
  -- a hart that is there is ready where it has no stop
  pub ready_in : h < length core.harts → stop_at core h ≡ None → is_ready_in core h ≡ true
  ready_in there none =
      let is_there : nat_lt h (length core.harts) ≡ true = grind (arith, nat_tests) in
      ap (λ (test : Bool). test && has_no_stop (stop_at core h)) is_there ∙ ap has_no_stop none

  stopped_in : (why : Stop) → stop_at core h ≡ Some why → is_ready_in core h ≡ false
  stopped_in why stopped =
      ap (λ (stop : Option Stop). nat_lt h (length core.harts) && has_no_stop stop) stopped
      ∙ never_both (nat_lt h (length core.harts))

  pub none_left : (n : ℕ) → n ≡ 0 → first_ready core h n ≡ None
  unfolding first_ready
  none_left n is = ap (first_ready core h) is

  pub is_first : (n : ℕ) → 0 < n → h < length core.harts → stop_at core h ≡ None
      → first_ready core h n ≡ Some h
  unfolding first_ready
  is_first zero some there none = absurd (omega arith)
  is_first (suc n) some there none =
      ap (λ (ready : Bool). if ready then Some h else first_ready core (h + 1) n) (ready_in there none)

  pub not_first : (n : ℕ) (why : Stop) → 0 < n → stop_at core h ≡ Some why
      → first_ready core (h + 1) (n - 1) ≡ first_ready core h n
  unfolding first_ready
  not_first zero why some stopped = absurd (omega arith)
  not_first (suc n) why some stopped =
      rw (stopped_in why stopped)
      (ap (first_ready core (h + 1)) (let e : suc n - 1 ≡ n = omega arith in e))

-- ---- what is next is ready

module _ {T : Type 0} (core : CoreState T) where
  abbrev IsReady : ℕ → Type 0
  IsReady h = is_ready_in core h ≡ true

  found_ready : (ready : Bool) (from h : ℕ) (rest : Option ℕ) → is_ready_in core from ≡ ready → (if ready then Some from else rest) ≡ Some h
      → (rest ≡ Some h → IsReady h) → IsReady h
  found_ready true from h rest is found others = subst IsReady (let e : from ≡ h = cc in e) is
  found_ready false from h rest is found others = others found

  first_is_ready : (from n h : ℕ) → first_ready core from n ≡ Some h → IsReady h
  unfolding first_ready
  first_is_ready from zero h found = absurd cc
  first_is_ready from (suc n) h found = found_ready (is_ready_in core from) from h (first_ready core (from + 1) n) refl found (first_is_ready (from + 1) n h)

  either_ready : (found first : Option ℕ) (h : ℕ) → found_or_first found first ≡ Some h → (found ≡ Some h → IsReady h) → (first ≡ Some h → IsReady h) → IsReady h
  either_ready (Some k) first h is now later = now is
  either_ready None first h is now later = later is

  next_hart_ready : (from h : ℕ) → next_hart core from ≡ Some h → IsReady h
  unfolding next_hart
  next_hart_ready from h is =
      either_ready (first_ready core from (length core.harts - from)) (first_ready core 0 (length core.harts)) h is
      (first_is_ready from (length core.harts - from) h) (first_is_ready 0 (length core.harts) h)

  ready_there : (h : ℕ) → IsReady h → h < length core.harts
  ready_there h ready = grind (arith, nat_tests)

if_running : (running : Bool) (next : Option ℕ) (h : ℕ) → (if running then next else None) ≡ Some h → (running ≡ true) × (next ≡ Some h)
if_running true next h is = (refl, is)
if_running false next h is = absurd cc

module _ {S T : Type 0} (e : Standing S T) (from h : ℕ) where
  next_parts : next_turn e from ≡ Some h → (is_running e.account.halt ≡ true) × (is_ready_in e.machine.core h ≡ true)
  unfolding next_turn
  next_parts is =
      let there = if_running (is_running e.account.halt) (next_hart e.machine.core from) h is in
      (there.0, next_hart_ready e.machine.core from h there.1)

  pub next_ready : next_turn e from ≡ Some h → is_ready e h ≡ true
  next_ready is =
      let there = next_parts is in
      (λ j. there.0 j && there.1 j)

  pub next_there : next_turn e from ≡ Some h → h < length e.machine.core.harts
  next_there is = ready_there e.machine.core h (next_parts is).1

-- ---- the order of turns

module _ {S T : Type 0} (e : Standing S T) (order : List (Option ℕ)) (kept : order ≡ order_in e.machine.core) (h : ℕ) (there : h < length e.machine.core.harts) where
  abbrev after : ℕ → Option ℕ
  after k = next_hart e.machine.core (k + 1)

  pub in_order : h < length order
  in_order = subst (λ (n : ℕ). h < n) (sym (ap length kept ∙ length-map-range_with_len after 0 (length e.machine.core.harts))) there

  pub next_in_order : unless_stopped e.account.halt (slice_index_or order h None) ≡ next_turn e (h + 1)
  unfolding next_turn
  next_in_order =
      ap (unless_stopped e.account.halt)
      (ap (λ (items : List (Option ℕ)). slice_index_or items h None) kept
      ∙ get_or-map-range_with_len after 0 (length e.machine.core.harts) h h None there (let e : 0 + h ≡ h = omega arith in e))

-- ---- two cores whose harts are ready alike

module _ {T U : Type 0} (core : CoreState T) (other : CoreState U) (stops : other.stops ≡ core.stops) (count : length other.harts ≡ length core.harts) where
  ready_same : (h : ℕ) → is_ready_in other h ≡ is_ready_in core h
  ready_same h =
      ap (λ (n : ℕ). nat_lt h n && has_no_stop (stop_at other h)) count
      ∙ ap (λ (all : List (Option Stop)). nat_lt h (length core.harts) && has_no_stop (slice_index_or all h None)) stops

  first_ready_same : (from n : ℕ) → first_ready other from n ≡ first_ready core from n
  unfolding first_ready
  first_ready_same from zero = refl
  first_ready_same from (suc more) =
      ap (λ ready. if ready then Some from else first_ready other (from + 1) more) (ready_same from)
      ∙ ap (λ rest. if is_ready_in core from then Some from else rest) (first_ready_same (from + 1) more)

  pub next_hart_same : (from : ℕ) → next_hart other from ≡ next_hart core from
  unfolding next_hart
  next_hart_same from =
      ap (λ (n : ℕ). found_or_first (first_ready other from (n - from)) (first_ready other 0 n)) count
      ∙ ap (λ found. found_or_first found (first_ready other 0 (length core.harts))) (first_ready_same from (length core.harts - from))
      ∙ ap (found_or_first (first_ready core from (length core.harts - from))) (first_ready_same 0 (length core.harts))

  pub hart_stops_same : hart_stops other ≡ hart_stops core
  hart_stops_same = λ j. map (λ h. slice_index_or (stops j) h None) (range_with_len 0 (count j))

  pub order_same : order_in other ≡ order_in core
  order_same = λ j. map (λ h. next_hart_same (h + 1) j) (range_with_len 0 (count j))
