-- The four policies offer no service that a policy beside them may offer.
use Rattle.std.proofs.Common.{◌≡◌, ℕ, ◌≤◌, Bool, true, false, ◌||◌, List, Option, Some, None, refl, sym, ap, ◌∙◌, arith}
use Rattle.std.proofs.lemmas.Bool.{false≢true}
use Rattle.std.proofs.lemmas.Bool.Decides.{nat_tests}
use Rattle.sealing_policy.specs.Sealing.{sealing, sealing_knows}
use Rattle.compartment_policy.specs.Compartments.{CompartmentState, compartment_knows, compartments}
use Rattle.flow_policy.specs.Flow.{flow}
use Rattle.heap_policy.specs.Heap.{HeapState, heap, heap_knows}
use Rattle.policy_trait.specs.Model.{PolicyModel}
use Rattle.policy_product.specs.Both.{IsApart}
use Rattle.policy_product.specs.Maybe.{knows_in}
use Rattle.policy_start.specs.Services.{IsFromFirst, first_service}
use Rattle.policy_choice.specs.All.{AllState, all}

-- a number that none of the four has
module _ (k : ℕ) (above : first_service ≤ k) where
  no_seal : (part : Option ℕ) → knows_in sealing part k ≡ false
  no_seal None = refl
  no_seal (Some keys) = let not : sealing_knows k ≡ false = grind (arith, nat_tests) in not

  no_comp : (part : Option CompartmentState) → knows_in compartments part k ≡ false
  no_comp None = refl
  no_comp (Some state) = let not : compartment_knows k ≡ false = grind (arith, nat_tests) in not

  no_flow : (part : Option (List (ℕ × ℕ))) → knows_in flow part k ≡ false
  no_flow None = refl
  no_flow (Some edges) = refl

  no_heap : (part : Option HeapState) → knows_in heap part k ≡ false
  no_heap None = refl
  no_heap (Some state) = let not : heap_knows k ≡ false = grind (arith, nat_tests) in not

  neither : (x y : Bool) → x ≡ false → y ≡ false → x || y ≡ false
  neither x y not_x not_y = ap (λ (first : Bool). first || y) not_x ∙ not_y

  none_of_four : (s : AllState) → all.knows s k ≡ false
  none_of_four s =
      neither _ _ (no_seal s.0.part) (neither _ _ (no_comp s.1.0.part) (neither _ _ (no_flow s.1.1.0.part) (no_heap s.1.1.1.part)))

-- so a policy whose services have none of their numbers stands apart from them
pub stands_apart : {S T : Type 0} (m : PolicyModel T S) (all_state : AllState) (s : S) → IsFromFirst m s → IsApart all m all_state s
stands_apart m all_state s from k known = unknown (m.knows s k) (from k)
  where
    unknown : (knows : Bool) → (knows ≡ true → first_service ≤ k) → knows ≡ false
    unknown false above = refl
    unknown true above = absurd (false≢true (sym (none_of_four k (above refl) all_state) ∙ known))
