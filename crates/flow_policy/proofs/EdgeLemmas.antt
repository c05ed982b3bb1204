-- What the edges in order have, the list has.
use Rattle.std.proofs.Common.{◌≡◌, ℕ, ◌==◌, ◌&&◌, List, [], ◌∷◌, refl, ◌∙◌, arith}
use Rattle.std.proofs.lemmas.Bool.Decides.{nat_tests}
use Rattle.std.specs.BTreeSet.{BTreeSet, contains}
use Rattle.std.specs.List.{list_any}
use Rattle.std.specs.Ordering.{eq_by_cmp}
use Rattle.flow_policy.specs.Flow.{is_edge}
use Rattle.flow_policy.specs.Sorted.{AreSorted, edge_cmp}

same_edge : (source target : ℕ) (edge : ℕ × ℕ) → eq_by_cmp edge_cmp (source, target) edge ≡ ((edge.0 == source) && (edge.1 == target))
same_edge source target edge = grind (arith, nat_tests)

among : (source target : ℕ) (edges : List (ℕ × ℕ)) → list_any (eq_by_cmp edge_cmp (source, target)) edges ≡ is_edge edges source target
among source target [] = refl
among source target (edge ∷ edges) = rw (same_edge source target edge, among source target edges) refl

pub sorted_has : (source target : ℕ) (edges : List (ℕ × ℕ)) (sorted : BTreeSet (ℕ × ℕ)) → AreSorted edges sorted
    → contains edge_cmp sorted (source, target) ≡ is_edge edges source target
sorted_has source target edges sorted are = are.0 (source, target) ∙ among source target edges
