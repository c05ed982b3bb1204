-- A run each of whose turns does as control flow guarantees is safe.
use Rattle.std.proofs.Common.{◌≡◌, ℕ, suc, Bool, true, false, ◌⊎◌, inl, inr, List, [], ◌∷◌, ◌++◌, Some, slice_get, append_assoc, append-nil, refl, sym, ap, ◌∙◌, subst}
use Rattle.policy_trait.specs.declared.birth.Birth.{Birth}
use Rattle.engine_trait.specs.Events.{Event}
use Rattle.part_turns.specs.Moments.{Moment, is_jalr, is_turn_of}
use Rattle.flow_policy.specs.declared.tag.FlowTag.{FlowTag}
use Rattle.flow_runs.specs.EdgeWalk.{Visit, visit_of, walk_of}
use Rattle.flow_runs.specs.FlowInvariant.{last_of}
use Rattle.flow_runs.specs.FlowSafe.{FlowSafe, HasLabel, IsCode, IsListed, IsWalk}
use Rattle.flow_runs.specs.FlowTurn.{FlowTurn}
use Rattle.flow_runs.proofs.WalkLemmas.{pair_appended, retired_there, visit_appended, walk_grows, walk_stays}

module _ (birth : ℕ → Birth) (words : List ℕ) (edges : List (ℕ × ℕ)) where
  abbrev Walks : List Visit → Type 0
  Walks walk = IsWalk birth words edges walk

  -- ---- a walk with one more visit

  module _ (walk : List Visit) (x : Visit) (is : Walks walk) where
    code_more : (y : Visit) (n : ℕ) → IsCode birth words edges x → (slice_get walk n ≡ Some y) ⊎ (y ≡ x) → IsCode birth words edges y
    code_more y n code (inl there) = is.code n y there
    code_more y n code (inr new) = subst (IsCode birth words edges) (sym new) code

    label_more : (y : Visit) (n : ℕ) → (is_jalr x.word ≡ true → HasLabel birth words edges x) → (slice_get walk n ≡ Some y) ⊎ (y ≡ x)
        → is_jalr y.word ≡ true
        → HasLabel birth words edges y
    label_more y n labelled (inl there) jumps = is.labelled n y there jumps
    label_more y n labelled (inr new) jumps =
        subst (HasLabel birth words edges) (sym new) (labelled (ap (λ (v : Visit). is_jalr v.word) (sym new) ∙ jumps))

    edge_more : (y z : Visit) (n : ℕ) → ((v : Visit) → last_of walk ≡ Some v → is_jalr v.word ≡ true → IsListed birth words edges v x)
        → ((slice_get walk n ≡ Some y) × (slice_get walk (suc n) ≡ Some z)) ⊎ ((last_of walk ≡ Some y) × (z ≡ x)) → is_jalr y.word ≡ true
        → IsListed birth words edges y z
    edge_more y z n listed (inl there) jumps = is.listed n y z there.0 there.1 jumps
    edge_more y z n listed (inr new) jumps = subst (IsListed birth words edges y) (sym new.1) (listed y new.0 jumps)

    walk_appended : IsCode birth words edges x → (is_jalr x.word ≡ true → HasLabel birth words edges x)
        → ((v : Visit) → last_of walk ≡ Some v → is_jalr v.word ≡ true → IsListed birth words edges v x) → Walks (walk ++ x ∷ [])
    walk_appended code labelled listed = record {
      code = λ n y there. code_more y n code (visit_appended walk x n y there);
      labelled = λ n y there. label_more y n labelled (visit_appended walk x n y there);
      listed = λ n y z first second. edge_more y z n listed (pair_appended walk x n y z first second);
    }

  -- ---- a run

  module _ (events : List (Event FlowTag)) (turns : (x : Moment events) → FlowTurn birth words edges x.before x.event) (h : ℕ) where
    walk_goes_on : (before : List (Event FlowTag)) (e : Event FlowTag) → FlowTurn birth words edges before e → Walks (walk_of h before)
        → (mine : Bool) → is_turn_of h e ≡ mine
        → Walks (walk_of h (before ++ e ∷ []))
    walk_goes_on before e turn walks false mine = subst Walks (sym (walk_stays h e before mine)) walks
    walk_goes_on before e turn walks true mine =
        let there = retired_there h e mine in
        subst Walks (sym (walk_grows h e before mine))
        (walk_appended (walk_of h before) (visit_of e) walks (turn.code there.0) (turn.labelled there.0)
        (λ v last. turn.listed there.0 v (ap (λ (n : ℕ). last_of (walk_of n before)) there.1 ∙ last)))

    walk_along : (before later : List (Event FlowTag)) → before ++ later ≡ events → Walks (walk_of h before) → Walks (walk_of h events)
    walk_along before [] parts walks = subst (λ (es : List (Event FlowTag)). Walks (walk_of h es)) (sym (append-nil before) ∙ parts) walks
    walk_along before (e ∷ later) parts walks =
        walk_along (before ++ e ∷ []) later (append_assoc before (e ∷ []) later ∙ parts)
        (walk_goes_on before e (turns (record { before = before; event = e; later = later; parts = parts })) walks (is_turn_of h e) refl)

    no_walk : Walks (walk_of h (let none : List (Event FlowTag) = [] in none))
    unfolding walk_of
    no_walk = record {
      code = λ n x there. absurd cc;
      labelled = λ n x there jumps. absurd cc;
      listed = λ n x y first second jumps. absurd cc;
    }

pub run_is_safe : (birth : ℕ → Birth) (words : List ℕ) (edges : List (ℕ × ℕ)) (events : List (Event FlowTag))
    → ((x : Moment events) → FlowTurn birth words edges x.before x.event) → FlowSafe birth words edges events
run_is_safe birth words edges events turns h = walk_along birth words edges events turns h [] events refl (no_walk birth words edges events turns h)
