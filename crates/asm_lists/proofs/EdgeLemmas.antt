-- The order of pairs, and of edges made of them.
use Rattle.std.proofs.Common.{◌≡◌, ℕ, ◌≤◌, Bool, true, ◌==◌, ◌&&◌, List, [], ◌∷◌, length, map, take, Some, None, Contains, refl, ap, ◌∙◌, arith}
use Rattle.std.specs.declared.cmp.Ordering.TheVariants.{Less}
use Rattle.std.proofs.lemmas.Bool.Decides.{nat_tests}
use Rattle.std.proofs.lemmas.Cmp.{nat_cmp_total, nat_eq_equiv, and_equiv, on_equiv, on_total, then_total}
use Rattle.std.proofs.lemmas.Grind.{common_steps}
use Rattle.std.proofs.lemmas.List.{get_or-map, length-map, map-append, take_all}
use Rattle.std.proofs.lemmas.List.Folds.{list_all-append}
use Rattle.std.specs.Cmp.{IsEquivalence, IsTotalOrder}
use Rattle.std.specs.List.{list_all}
use Rattle.std.specs.List.Sorted.{IsStrictlySortedBy}
use Rattle.std.specs.Ordering.{eq_by_cmp}
use Rattle.image_format.specs.Conditions.{are_rows, is_edge, is_edge_after, whole}
use Rattle.image_format.specs.declared.rows.Edge.{Edge}
use Rattle.asm_lists.specs.Edges.{edge_of, pair_cmp, pair_of}

abbrev pub pair_eq : ℕ × ℕ → ℕ × ℕ → Bool
pair_eq a b = a.0 == b.0 && a.1 == b.1

pub pair_cmp_total : IsTotalOrder pair_cmp
pair_cmp_total = then_total (on_total (λ (p : ℕ × ℕ). p.0) nat_cmp_total) (on_total (λ (p : ℕ × ℕ). p.1) nat_cmp_total)

pub pair_eq_equivalence : IsEquivalence pair_eq
pair_eq_equivalence = and_equiv (on_equiv (λ (p : ℕ × ℕ). p.0) nat_eq_equiv) (on_equiv (λ (p : ℕ × ℕ). p.1) nat_eq_equiv)

pub pairs_tied : (a b : ℕ × ℕ) → pair_eq a b ≡ eq_by_cmp pair_cmp a b
pairs_tied a b = grind (arith, nat_tests)

pub pair_eq_exact : (a b : ℕ × ℕ) → pair_eq a b ≡ true → a ≡ b
pair_eq_exact a b same =
    let first : a.0 ≡ b.0 = grind (arith, nat_tests, same) in
    let second : a.1 ≡ b.1 = grind (arith, nat_tests, same) in
    λ i. (first i, second i)

follows : (a b : ℕ × ℕ) → pair_cmp a b ≡ Less → is_edge_after (edge_of a) (edge_of b) ≡ true
follows a b below = grind (arith, nat_tests)

rows_behind : (before : ℕ × ℕ) (pairs : List (ℕ × ℕ)) → list_all is_edge (map edge_of pairs) ≡ true
    → IsStrictlySortedBy pair_cmp (before ∷ pairs)
    → are_rows whole is_edge is_edge_after (Some (edge_of before)) (map edge_of pairs) ≡ true
unfolding IsStrictlySortedBy
rows_behind before [] fit sorted = refl
rows_behind before (pair ∷ pairs) fit sorted =
    let fits : is_edge (edge_of pair) ≡ true = grind (arith, fit) in
    let rest : list_all is_edge (map edge_of pairs) ≡ true = grind (arith, fit) in
    let after : is_edge_after (edge_of before) (edge_of pair) ≡ true = follows before pair sorted.0.0 in
    rw (fits, after) (rows_behind pair pairs rest sorted.1)

-- pairs in order are rows of an image
pub rows : (pairs : List (ℕ × ℕ)) → list_all is_edge (map edge_of pairs) ≡ true → IsStrictlySortedBy pair_cmp pairs
    → are_rows whole is_edge is_edge_after None (map edge_of pairs) ≡ true
unfolding IsStrictlySortedBy
rows [] fit sorted = refl
rows (pair ∷ pairs) fit sorted =
    let fits : is_edge (edge_of pair) ≡ true = grind (arith, fit) in
    let rest : list_all is_edge (map edge_of pairs) ≡ true = grind (arith, fit) in
    rw fits (rows_behind pair pairs rest sorted)

pairs_back : (pairs : List (ℕ × ℕ)) → map pair_of (map edge_of pairs) ≡ pairs
pairs_back [] = refl
pairs_back (pair ∷ pairs) = ap (λ more. pair ∷ more) (pairs_back pairs)

mapped : {A B : Type 0} (f : A → B) (xs : List A) (x : A) → Contains xs x → Contains (map f xs) (f x)
mapped f xs x (k, below, is) = (k, omega (arith, length-map xs f), get_or-map f xs k x (f x) below ∙ ap f is)

-- the edges are those of the pairs
pub edge_from_pair : (pairs : List (ℕ × ℕ)) (edge : Edge) → Contains pairs (pair_of edge) → Contains (map edge_of pairs) edge
edge_from_pair pairs edge has = mapped edge_of pairs (pair_of edge) has

pub pair_from_edge : (pairs : List (ℕ × ℕ)) (edge : Edge) → Contains (map edge_of pairs) edge → Contains pairs (pair_of edge)
pair_from_edge pairs edge has = rw pairs_back at (mapped pair_of (map edge_of pairs) edge has)

-- once all pairs are through, all edges are made
pub made_of_all : (edges : List Edge) (given pairs : List (ℕ × ℕ)) (i : ℕ) → given ≡ pairs → length given ≤ i
    → edges ≡ map edge_of (take i given)
    → edges ≡ map edge_of pairs
made_of_all edges given pairs i same all made = made ∙ ap (map edge_of) (take_all i given all ∙ same)

-- one more edge at the end of those so far
pub ruleset one_more = (common_steps, list_all-append, map-append)
