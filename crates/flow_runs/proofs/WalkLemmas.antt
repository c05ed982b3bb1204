-- The walk of a hart after one more turn, and what stands in a walk with one more visit.
use Rattle.std.proofs.Common.{◌≡◌, ◌≢◌, ℕ, zero, suc, ◌==◌, Bool, true, false, ◌&&◌, cond, ◌⊎◌, inl, inr, List, [], ◌∷◌, ◌++◌, map, Some, None, slice_get, append-nil, refl, sym, ap, ◌∙◌, arith}
use Rattle.std.specs.List.{filter}
use Rattle.std.proofs.lemmas.Bool.Decides.{nat_tests}
use Rattle.std.proofs.lemmas.List.{map-append}
use Rattle.std.proofs.lemmas.List.Elements.{filter-append}
use Rattle.std.proofs.lemmas.Option.{same_Some}
use Rattle.engine_trait.specs.Events.{Event, is_retirement}
use Rattle.part_turns.specs.Moments.{is_turn_of, turns_of}
use Rattle.flow_runs.specs.EdgeWalk.{Visit, visit_of, walk_of}
use Rattle.flow_runs.specs.FlowInvariant.{last_of}

-- ---- whose turn it is

module _ {T : Type 0} (h : ℕ) (e : Event T) where
  pub not_retired : is_retirement e ≡ false → is_turn_of h e ≡ false
  not_retired is = ap (λ (b : Bool). b && (e.hart == h)) is

  pub of_hart : is_retirement e ≡ true → e.hart ≡ h → is_turn_of h e ≡ true
  of_hart is same = grind (arith, nat_tests)

  pub of_other : e.hart ≢ h → is_turn_of h e ≡ false
  of_other differs = grind (arith, nat_tests)

  pub retired_there : is_turn_of h e ≡ true → (is_retirement e ≡ true) × (e.hart ≡ h)
  retired_there is = grind (arith, nat_tests)

  -- ---- the walk

  -- what a turn adds to it
  abbrev added : Bool → List Visit
  added is = cond is (visit_of e ∷ []) []

  one_turn : (is : Bool) → map visit_of (cond is (e ∷ []) []) ≡ added is
  one_turn true = refl
  one_turn false = refl

  walk_more : (before : List (Event T)) → walk_of h (before ++ e ∷ []) ≡ walk_of h before ++ added (is_turn_of h e)
  unfolding walk_of
  walk_more before =
      ap (map visit_of) (filter-append (is_turn_of h) before (e ∷ []))
      ∙ map-append visit_of (turns_of h before) (filter (is_turn_of h) (e ∷ []))
      ∙ ap (λ (xs : List Visit). map visit_of (turns_of h before) ++ xs) (one_turn (is_turn_of h e))

  pub walk_stays : (before : List (Event T)) → is_turn_of h e ≡ false → walk_of h (before ++ e ∷ []) ≡ walk_of h before
  walk_stays before is = walk_more before ∙ ap (λ (b : Bool). walk_of h before ++ added b) is ∙ append-nil (walk_of h before)

  pub walk_grows : (before : List (Event T)) → is_turn_of h e ≡ true → walk_of h (before ++ e ∷ []) ≡ walk_of h before ++ visit_of e ∷ []
  walk_grows before is = walk_more before ∙ ap (λ (b : Bool). walk_of h before ++ added b) is

-- ---- a walk with one more visit

pub last_appended : (walk : List Visit) (x : Visit) → last_of (walk ++ x ∷ []) ≡ Some x
last_appended [] x = refl
last_appended (y ∷ []) x = refl
last_appended (y ∷ (z ∷ rest)) x = last_appended (z ∷ rest) x

no_visit : {P : Type 0} (x : Visit) → None ≡ Some x → P
no_visit x e = cc

-- a visit of it is one of the walk, or the new one
pub visit_appended : (walk : List Visit) (x : Visit) (n : ℕ) (y : Visit) → slice_get (walk ++ x ∷ []) n ≡ Some y
    → (slice_get walk n ≡ Some y) ⊎ (y ≡ x)
visit_appended [] x zero y e = inr (sym (same_Some x y e))
visit_appended [] x (suc n) y e = no_visit y e
visit_appended (w ∷ walk) x zero y e = inl e
visit_appended (w ∷ walk) x (suc n) y e = visit_appended walk x n y e

-- two successive visits of it are two of the walk, or the walk's last one and the new one
pub pair_appended : (walk : List Visit) (x : Visit) (n : ℕ) (y z : Visit) → slice_get (walk ++ x ∷ []) n ≡ Some y
    → slice_get (walk ++ x ∷ []) (suc n) ≡ Some z
    → ((slice_get walk n ≡ Some y) × (slice_get walk (suc n) ≡ Some z)) ⊎ ((last_of walk ≡ Some y) × (z ≡ x))
pair_appended [] x n y z first second = no_visit z second
pair_appended (w ∷ []) x zero y z first second = inr (first, sym (same_Some x z second))
pair_appended (w ∷ []) x (suc n) y z first second = no_visit z second
pair_appended (w ∷ (v ∷ rest)) x zero y z first second = inl (first, second)
pair_appended (w ∷ (v ∷ rest)) x (suc n) y z first second = pair_appended (v ∷ rest) x n y z first second
