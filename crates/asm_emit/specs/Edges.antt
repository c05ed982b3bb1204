-- Edges in the order of an image.
use Rattle.std.specs.Prelude.{ℕ, List, map}
use Rattle.std.specs.FinMap.{FinMap, from_entries, keys}
use Rattle.image_format.specs.declared.rows.Edge.{Edge}
use Rattle.asm_lists.specs.Edges.{edge_of, pair_cmp}

-- pairs of a source and a target, each with nothing beside it
abbrev pub bare : List (ℕ × ℕ) → List ((ℕ × ℕ) × Unit {0})
bare pairs = map (λ pair. (pair, tt)) pairs

-- pairs in any order and any number of times, as a finite map: it has each of them once, in their order
abbrev pub pair_map : List (ℕ × ℕ) → FinMap pair_cmp (Unit {0})
pair_map pairs = from_entries (bare pairs)

-- each edge once, by source and then by target
abbrev pub edges_in_order : List (ℕ × ℕ) → List Edge
edges_in_order pairs = map edge_of (keys (pair_map pairs))
