-- Pairs in the order of an image are rows of edges, and no more than there were.
use Rattle.std.proofs.Common.{◌≡◌, ℕ, ◌+◌, ◌≤◌, Bool, true, false, ◌&&◌, List, [], ◌∷◌, length, map, refl, sym, ap, subst, ◌∙◌, arith}
use Rattle.std.specs.Prelude.{None, T}
use Rattle.std.specs.declared.cmp.Ordering.{Ordering}
use Rattle.std.specs.declared.cmp.Ordering.TheVariants.{Less, Equal, Greater}
use Rattle.std.specs.FinMap.{entries, entries-insert, entries_sorted, is_sorted, len-empty, len-entries, put}
use Rattle.std.specs.FinMap.Entries.{below_all, by_order}
use Rattle.std.specs.List.{AllByRecursion, list_all}
use Rattle.std.specs.List.Sorted.{IsStrictlySortedBy}
use Rattle.std.specs.Ordering.{is_lt}
use Rattle.std.proofs.lemmas.List.{length-map}
use Rattle.std.proofs.lemmas.List.Folds.{list_all-map}
use Rattle.image_format.specs.Conditions.{are_rows, is_edge, is_edge_after, whole}
use Rattle.asm_lists.specs.Edges.{edge_of, pair_cmp}
use Rattle.asm_lists.proofs.EdgeLemmas.{pair_cmp_total, rows}
use Rattle.asm_emit.specs.Edges.{edges_in_order, pair_map}

abbrev Pair : Type 0
Pair = ℕ × ℕ

abbrev Entry : Type 0
Entry = Pair × Unit {0}

-- the edge of the pair is one of an image
abbrev pub is_pair : ℕ × ℕ → Bool
is_pair pair = is_edge (edge_of pair)

abbrev pair_in : Entry → Pair
pair_in entry = entry.0

-- ---- one more pair

-- what fits each of a list fits the first, and the others
parted : {A : Type 0} (p : A → Bool) (x : A) (xs : List A) → list_all p (x ∷ xs) ≡ true → (p x ≡ true) × (list_all p xs ≡ true)
parted p x xs fit = go (p x) fit
  where
    go : (t : Bool) → (t && list_all p xs) ≡ true → (t ≡ true) × (list_all p xs ≡ true)
    go true fit = (refl, fit)
    go false fit = absurd cc

put_fits : (p : Pair → Bool) (pair : Pair) (es : List Entry) → p pair ≡ true → list_all (λ e. p e.0) es ≡ true → list_all (λ e. p e.0) (put pair_cmp pair tt es) ≡ true
put_fits p pair [] fits fit = rw fits refl
put_fits p pair (entry ∷ es) fits fit = go (parted (λ e. p e.0) entry es fit) (put_fits p pair es fits) (pair_cmp pair entry.0)
  where
    go : (p entry.0 ≡ true) × (list_all (λ e. p e.0) es ≡ true) → (list_all (λ e. p e.0) es ≡ true → list_all (λ e. p e.0) (put pair_cmp pair tt es) ≡ true)
        → (o : Ordering) → list_all (λ e. p e.0) (by_order o ((pair, tt) ∷ entry ∷ es) ((entry.0, tt) ∷ es) (entry ∷ put pair_cmp pair tt es)) ≡ true
    go parts more Less = rw (fits, parts.0, parts.1) refl
    go parts more Equal = rw (parts.0, parts.1) refl
    go parts more Greater = rw (parts.0) (more parts.1)

put_few : (pair : Pair) (es : List Entry) → length (put pair_cmp pair tt es) ≤ length es + 1
put_few pair [] = omega arith
put_few pair (entry ∷ es) = go (pair_cmp pair entry.0) (put_few pair es)
  where
    go : (o : Ordering) → length (put pair_cmp pair tt es) ≤ length es + 1
        → length (by_order o ((pair, tt) ∷ entry ∷ es) ((entry.0, tt) ∷ es) (entry ∷ put pair_cmp pair tt es)) ≤ length (entry ∷ es) + 1
    go Less few = omega arith
    go Equal few = omega arith
    go Greater few = omega (arith, few)

-- ---- all pairs

no_entries : length (entries (pair_map [])) ≡ 0
no_entries = sym (len-entries (pair_map [])) ∙ len-empty pair_cmp (Unit {0})

fits_none : (p : Entry → Bool) (es : List Entry) → length es ≡ 0 → list_all p es ≡ true
fits_none p [] none = refl
fits_none p (entry ∷ es) none = absurd (omega arith)

put_pair : (pair : Pair) (pairs : List Pair) → entries (pair_map (pair ∷ pairs)) ≡ put pair_cmp pair tt (entries (pair_map pairs))
put_pair pair pairs = entries-insert pair_cmp_total (pair_map pairs) pair tt

all_fit : (p : Pair → Bool) (pairs : List Pair) → list_all p pairs ≡ true → list_all (λ e. p e.0) (entries (pair_map pairs)) ≡ true
all_fit p [] fit = fits_none (λ e. p e.0) (entries (pair_map [])) no_entries
all_fit p (pair ∷ pairs) fit =
    let parts = parted p pair pairs fit in
    subst (λ (es : List Entry). list_all (λ e. p e.0) es ≡ true) (sym (put_pair pair pairs))
    (put_fits p pair (entries (pair_map pairs)) parts.0 (all_fit p pairs parts.1))

all_few : (pairs : List Pair) → length (entries (pair_map pairs)) ≤ length pairs
all_few [] = omega (arith, no_entries)
all_few (pair ∷ pairs) =
    let here : length (entries (pair_map (pair ∷ pairs))) ≡ length (put pair_cmp pair tt (entries (pair_map pairs))) = ap (λ (es : List Entry). length es) (put_pair pair pairs) in
    omega (arith, here, put_few pair (entries (pair_map pairs)), all_few pairs)

-- ---- the order

halves : (a b : Bool) → T (a && b) → T a × T b
halves true b is = (tt, is)
halves false b is = absurd is

less : (o : Ordering) → T (is_lt o) → o ≡ Less
less Less is = refl
less Equal is = absurd is
less Greater is = absurd is

above : (x : Pair) (es : List Entry) → T (below_all pair_cmp x es) → AllByRecursion (λ y. pair_cmp x y ≡ Less) (map pair_in es)
above x [] is = tt
above x (entry ∷ es) is =
    let h = halves (is_lt (pair_cmp x entry.0)) (below_all pair_cmp x es) is in
    (less (pair_cmp x entry.0) h.0, above x es h.1)

strictly : (es : List Entry) → T (is_sorted pair_cmp es) → IsStrictlySortedBy pair_cmp (map pair_in es)
unfolding IsStrictlySortedBy
strictly [] is = tt
strictly (entry ∷ es) is =
    let h = halves (below_all pair_cmp entry.0 es) (is_sorted pair_cmp es) is in
    (above entry.0 es h.0, strictly es h.1)

-- ---- the edges

pub edge_rows : (pairs : List (ℕ × ℕ)) → list_all is_pair pairs ≡ true → are_rows whole is_edge is_edge_after None (edges_in_order pairs) ≡ true
edge_rows pairs fit =
    let es : List Entry = entries (pair_map pairs) in
    let small : list_all is_edge (map edge_of (map pair_in es)) ≡ true = list_all-map is_edge edge_of (map pair_in es) ∙ list_all-map is_pair pair_in es ∙ all_fit is_pair pairs fit in
    rows (map pair_in es) small (strictly es (entries_sorted (pair_map pairs)))

pub few_edges : (pairs : List (ℕ × ℕ)) → length (edges_in_order pairs) ≤ length pairs
few_edges pairs =
    let es : List Entry = entries (pair_map pairs) in
    omega (arith, length-map (map pair_in es) edge_of, length-map es pair_in, all_few pairs)
