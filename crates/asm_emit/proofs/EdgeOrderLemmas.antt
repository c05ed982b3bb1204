-- Rows of edges that have the members of a list of pairs are the edges of the list in order.
use Rattle.std.proofs.Common.{◌≡◌, ℕ, Bool, true, false, cond, ◌&&◌, ◌||◌, List, [], ◌∷◌, map, Contains, refl, sym, ap, subst, ◌∙◌, arith}
use Rattle.std.specs.Prelude.{Option, Some, None, T}
use Rattle.std.specs.declared.cmp.Ordering.TheVariants.{Less}
use Rattle.std.specs.Cmp.{both_ways, eq_by_cmp_equiv}
use Rattle.std.specs.FinMap.{IsAntisymmetric, entries-from_sorted, find, from_sorted, get-from_entries, get-from_sorted, is_sorted, keys, same_map}
use Rattle.std.specs.FinMap.Entries.{below_all}
use Rattle.std.specs.List.{list_any}
use Rattle.std.specs.Ordering.{eq_by_cmp, is_eq, is_lt}
use Rattle.std.proofs.lemmas.Bool.Decides.{nat_tests}
use Rattle.std.proofs.lemmas.Map.Views.{Contains-from_any, list_any-from_Contains}
use Rattle.image_format.specs.Conditions.{are_rows, is_edge, is_edge_after, whole}
use Rattle.image_format.specs.declared.rows.Edge.{Edge}
use Rattle.asm_lists.specs.Edges.{AreEdgeRows, AreEdgesOf, edge_of, pair_cmp, pair_of}
use Rattle.asm_lists.proofs.EdgeLemmas.{edge_from_pair, pair_cmp_total, pair_eq_exact, pair_from_edge, pairs_tied}
use Rattle.asm_emit.specs.Edges.{bare, edges_in_order, pair_map}

abbrev Pair : Type 0
Pair = ℕ × ℕ

-- ---- rows are sorted

both : (a b : Bool) → T a → T b → T (a && b)
both true b p q = q
both false b p q = p

follows : (a b : Edge) → is_edge_after a b ≡ true → pair_cmp (pair_of a) (pair_of b) ≡ Less
follows a b after = grind (arith, nat_tests)

is_less : (a b : Pair) → pair_cmp a b ≡ Less → T (is_lt (pair_cmp a b))
is_less a b less = subst (λ r. T (is_lt r)) (sym less) tt

-- whatever is below the row before is below all rows
all_above : (x : Pair) (before : Edge) (edges : List Edge) → pair_cmp x (pair_of before) ≡ Less → are_rows whole is_edge is_edge_after (Some before) edges ≡ true
    → T (below_all pair_cmp x (bare (map pair_of edges)))
all_above x before [] less rows = tt
all_above x before (edge ∷ edges) less rows =
    let after : is_edge_after before edge ≡ true = grind (arith, rows) in
    let others : are_rows whole is_edge is_edge_after (Some edge) edges ≡ true = grind (arith, rows) in
    let here = pair_cmp_total.trans x (pair_of before) (pair_of edge) less (follows before edge after) in
    both (is_lt (pair_cmp x (pair_of edge))) (below_all pair_cmp x (bare (map pair_of edges))) (is_less x (pair_of edge) here) (all_above x edge edges here others)

first_below : (edge : Edge) (edges : List Edge) → are_rows whole is_edge is_edge_after (Some edge) edges ≡ true → T (below_all pair_cmp (pair_of edge) (bare (map pair_of edges)))
first_below edge [] rows = tt
first_below edge (next ∷ edges) rows =
    let after : is_edge_after edge next ≡ true = grind (arith, rows) in
    let others : are_rows whole is_edge is_edge_after (Some next) edges ≡ true = grind (arith, rows) in
    let here = follows edge next after in
    both (is_lt (pair_cmp (pair_of edge) (pair_of next))) (below_all pair_cmp (pair_of edge) (bare (map pair_of edges))) (is_less (pair_of edge) (pair_of next) here) (all_above (pair_of edge) next edges here others)

sorted_behind : (before : Option Edge) (edges : List Edge) → are_rows whole is_edge is_edge_after before edges ≡ true → T (is_sorted pair_cmp (bare (map pair_of edges)))
sorted_behind before [] rows = tt
sorted_behind before (edge ∷ edges) rows =
    let others : are_rows whole is_edge is_edge_after (Some edge) edges ≡ true = grind (arith, rows) in
    both (below_all pair_cmp (pair_of edge) (bare (map pair_of edges))) (is_sorted pair_cmp (bare (map pair_of edges))) (first_below edge edges others) (sorted_behind (Some edge) edges others)

-- ---- the same members

exact : (a b : Pair) → eq_by_cmp pair_cmp a b ≡ true → a ≡ b
exact a b same = pair_eq_exact a b (pairs_tied a b ∙ same)

only_equal_tie : IsAntisymmetric pair_cmp
only_equal_tie a b tie = exact a b (ap is_eq tie)

-- what is found at a pair: nothing beside it, where it is there
found_in : (q : Pair) (pairs : List Pair) → find pair_cmp q (bare pairs) ≡ cond (list_any (eq_by_cmp pair_cmp q) pairs) (Some tt) None
found_in q [] = refl
found_in q (pair ∷ pairs) = go (eq_by_cmp pair_cmp q pair) (found_in q pairs)
  where
    go : (b : Bool) → find pair_cmp q (bare pairs) ≡ cond (list_any (eq_by_cmp pair_cmp q) pairs) (Some tt) None
        → cond b (Some tt) (find pair_cmp q (bare pairs)) ≡ cond (b || list_any (eq_by_cmp pair_cmp q) pairs) (Some tt) None
    go true others = refl
    go false others = others

same_members : (pairs others : List Pair) → ((q : Pair) → Contains pairs q → Contains others q) → ((q : Pair) → Contains others q → Contains pairs q)
    → (q : Pair) → list_any (eq_by_cmp pair_cmp q) pairs ≡ list_any (eq_by_cmp pair_cmp q) others
same_members pairs others to from q =
    let equivalence = eq_by_cmp_equiv pair_cmp_total in
    both_ways (list_any (eq_by_cmp pair_cmp q) pairs) (list_any (eq_by_cmp pair_cmp q) others)
    (λ any. list_any-from_Contains equivalence q others (to q (Contains-from_any exact q pairs any)))
    (λ any. list_any-from_Contains equivalence q pairs (from q (Contains-from_any exact q others any)))

-- ---- the edges

edges_back : (edges : List Edge) → map edge_of (map pair_of edges) ≡ edges
edges_back [] = refl
edges_back (edge ∷ edges) = ap (λ (more : List Edge). edge ∷ more) (edges_back edges)

pairs_back : (pairs : List Pair) → map (λ (e : Pair × Unit {0}). e.0) (bare pairs) ≡ pairs
pairs_back [] = refl
pairs_back (pair ∷ pairs) = ap (λ (more : List Pair). pair ∷ more) (pairs_back pairs)

pub edges_are : (pairs : List Pair) (edges : List Edge) → AreEdgeRows edges → AreEdgesOf pairs edges → edges ≡ edges_in_order pairs
edges_are pairs edges rows members =
    let own = map pair_of edges in
    let sorted : T (is_sorted pair_cmp (bare own)) = sorted_behind None edges rows in
    let back : (q : Pair) → Contains own q → Contains pairs q = λ q has. (members (edge_of q)).0 (rw edges_back at (edge_from_pair own (edge_of q) has)) in
    let there : (q : Pair) → Contains pairs q → Contains own q = λ q has. pair_from_edge own (edge_of q) (rw edges_back ((members (edge_of q)).1 has)) in
    let same : from_sorted {R = pair_cmp} (bare own) ≡ pair_map pairs =
    same_map pair_cmp_total only_equal_tie (from_sorted (bare own)) (pair_map pairs) (λ q.
    get-from_sorted pair_cmp (bare own) q sorted ∙ found_in q own ∙ ap (λ b. cond b (Some tt) None) (same_members own pairs back there q) ∙ sym (found_in q pairs) ∙ sym (get-from_entries pair_cmp_total (bare pairs) q)) in
    let listed : keys (from_sorted {R = pair_cmp} (bare own)) ≡ own = ap (map (λ (e : Pair × Unit {0}). e.0)) (entries-from_sorted pair_cmp (bare own) sorted) ∙ pairs_back own in
    sym (edges_back edges) ∙ ap (map edge_of) (sym listed) ∙ ap (λ m. map edge_of (keys m)) same
