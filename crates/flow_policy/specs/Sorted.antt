-- The edges in order, as they are searched.
use Rattle.std.specs.Prelude.{ℕ, List}
use Rattle.std.specs.BTreeSet.{BTreeSet, IsFromIterResult}
use Rattle.std.specs.declared.cmp.Ordering.{Ordering}
use Rattle.std.specs.Ordering.{nat_cmp, ordering_then}

-- the order of edges: by the source, and of one source by the target
abbrev pub edge_cmp : ℕ × ℕ → ℕ × ℕ → Ordering
edge_cmp x y = ordering_then (nat_cmp x.0 y.0) (nat_cmp x.1 y.1)

-- the set has each edge of the list and no other
abbrev pub AreSorted : List (ℕ × ℕ) → BTreeSet (ℕ × ℕ) → Type 0
AreSorted edges sorted = IsFromIterResult edge_cmp edges sorted
