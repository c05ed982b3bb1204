-- What stands after one turn more: the owners are the book's, and each hart's last retired turn is that of its own events.
use Rattle.std.proofs.Common.{◌≡◌, ℕ, ◌==◌, Bool, true, false, ◌&&◌, cond, List, [], ◌∷◌, ◌++◌, refl, ap, ◌∙◌, if◌then◌else◌}
use Rattle.std.specs.Cmp.{nat_eq_equiv}
use Rattle.std.specs.List.{fold}
use Rattle.std.proofs.lemmas.List.Sums.{fold-append}
use Rattle.policy_trait.specs.declared.birth.Birth.{Birth}
use Rattle.engine_trait.specs.Events.{Event, is_retirement}
use Rattle.part_turns.specs.Moments.{is_turn_of, turns_of}
use Rattle.comp_runs.specs.CompInvariant.{Last, Standing, first_standing, last_after, standing_of, stands_after}
use Rattle.comp_runs.specs.CompSafe.{is_jump, owner_at}
use Rattle.comp_runs.specs.OwnerBook.{OwnerBook, owner_book, owners_after}

-- ---- one turn

-- what a turn is to its hart, if it retires
abbrev pub last_at : {T : Type 0} → OwnerBook → Event T → Last
last_at owners event = record { owner = owner_at owners event; jumped = is_jump event.word }

last_by : {T : Type 0} (retires : Bool) (old : Standing) (event : Event T) (h : ℕ)
    → (if retires then last_after old event else old.last) h ≡ (if retires && (event.hart == h) then last_at old.owners event else old.last h)
last_by false old event h = refl
last_by true old event h = ap (λ own. if own then last_at old.owners event else old.last h) (nat_eq_equiv.symm h event.hart)

last_next : {T : Type 0} (old : Standing) (event : Event T) (h : ℕ)
    → (stands_after old event).last h ≡ (if is_turn_of h event then last_at old.owners event else old.last h)
last_next old event h = last_by (is_retirement event) old event h

pub last_own : {T : Type 0} (old : Standing) (event : Event T) (h : ℕ) → is_turn_of h event ≡ true
    → (stands_after old event).last h ≡ last_at old.owners event
last_own old event h own = last_next old event h ∙ ap (λ own. if own then last_at old.owners event else old.last h) own

pub last_other : {T : Type 0} (old : Standing) (event : Event T) (h : ℕ) → is_turn_of h event ≡ false → (stands_after old event).last h ≡ old.last h
last_other old event h other = last_next old event h ∙ ap (λ own. if own then last_at old.owners event else old.last h) other

pub is_own : {T : Type 0} (h : ℕ) (event : Event T) → is_retirement event ≡ true → event.hart ≡ h → is_turn_of h event ≡ true
is_own h event is_retired is = ap (λ retires. retires && (event.hart == h)) is_retired ∙ ap (λ n. n == h) is ∙ nat_eq_equiv.refl h

-- ---- along a list of events

owners_along : {T : Type 0} (old : Standing) (events : List (Event T)) → (fold stands_after old events).owners ≡ fold owners_after old.owners events
owners_along old [] = refl
owners_along old (event ∷ events) = owners_along (stands_after old event) events

record IsOther {T : Type 0} (own : Bool) (h : ℕ) (events : List (Event T)) : Type 0 where
  other : own ≡ false
  none : turns_of h events ≡ []

no_turn : {T : Type 0} (own : Bool) (h : ℕ) (event : Event T) (events : List (Event T))
    → cond own (event ∷ turns_of h events) (turns_of h events) ≡ [] → IsOther own h events
no_turn true h event events none = absurd cc
no_turn false h event events none = record { other = refl; none = none }

-- the turns of other harts leave what a hart did last
last_along : {T : Type 0} (old : Standing) (events : List (Event T)) (h : ℕ) → turns_of h events ≡ []
    → (fold stands_after old events).last h ≡ old.last h
last_along old [] h none = refl
last_along old (event ∷ events) h none =
    let split = no_turn (is_turn_of h event) h event events none in
    last_along (stands_after old event) events h split.none ∙ last_other old event h split.other

module _ {T : Type 0} (birth : ℕ → Birth) (entries : List ℕ) where
  abbrev standing : List (Event T) → Standing
  standing events = standing_of birth entries events

  pub owners_are : (events : List (Event T)) → (standing events).owners ≡ owner_book birth events
  unfolding standing_of owner_book
  owners_are events = owners_along (first_standing birth entries) events

  pub stands_next : (before : List (Event T)) (event : Event T) → standing (before ++ event ∷ []) ≡ stands_after (standing before) event
  unfolding standing_of
  stands_next before event = fold-append stands_after (first_standing birth entries) before (event ∷ [])

  -- before its first turn a hart comes from its entry
  pub last_at_first : (before : List (Event T)) (h : ℕ) → turns_of h before ≡ [] → (standing before).last h ≡ (first_standing birth entries).last h
  unfolding standing_of
  last_at_first before h none = last_along (first_standing birth entries) before h none

  -- after a turn of its own, from there
  pub last_since : (before : List (Event T)) (first : Event T) (between : List (Event T)) (h : ℕ) → is_turn_of h first ≡ true
      → turns_of h between ≡ []
      → (standing (before ++ first ∷ between)).last h ≡ last_at (owner_book birth before) first
  unfolding standing_of
  last_since before first between h own none =
      ap (λ (s : Standing). s.last h) (fold-append stands_after (first_standing birth entries) before (first ∷ between))
      ∙ last_along (stands_after (standing before) first) between h none
      ∙ last_own (standing before) first h own
      ∙ ap (λ (owners : OwnerBook). last_at owners first) (owners_are before)
