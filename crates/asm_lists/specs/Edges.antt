-- Edges in the order of an image, and the pairs of a source and a target that they are made of.
use Rattle.std.specs.Prelude.{ℕ, ◌↔◌, Contains, IsTrue, List, None}
use Rattle.std.specs.declared.cmp.Ordering.{Ordering}
use Rattle.std.specs.Ordering.{nat_cmp, ordering_then}
use Rattle.image_format.specs.Conditions.{are_rows, is_edge, is_edge_after, whole}
use Rattle.image_format.specs.declared.rows.Edge.{Edge}

-- the edge of a pair, and the pair of an edge: the id of the source's label first, then that of the target's
abbrev pub edge_of : ℕ × ℕ → Edge
edge_of pair = record { source = pair.0; target = pair.1 }

abbrev pub pair_of : Edge → ℕ × ℕ
pair_of edge = (edge.source, edge.target)

-- by source, and then by target
abbrev pub pair_cmp : ℕ × ℕ → ℕ × ℕ → Ordering
pair_cmp a b = ordering_then (nat_cmp a.0 b.0) (nat_cmp a.1 b.1)

-- the list of edges of an image, but for its count: by source, then by target, and none stands twice
abbrev pub AreEdgeRows : List Edge → Type 0
AreEdgeRows edges = IsTrue (are_rows whole is_edge is_edge_after None edges)

-- the pairs of the edges are those given
abbrev pub AreEdgesOf : List (ℕ × ℕ) → List Edge → Type 0
AreEdgesOf pairs edges = (edge : Edge) → Contains edges edge ↔ Contains pairs (pair_of edge)
