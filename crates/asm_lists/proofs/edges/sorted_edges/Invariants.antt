use Rattle.std.proofs.Common.{◌≡◌, map, take, true}
use Rattle.std.specs.List.{list_all}
use Rattle.image_format.specs.Conditions.{is_edge}
use Rattle.asm_lists.specs.Edges.{edge_of}
use Rattle.asm_lists.proofs.edges.sorted_edges.Given as goal

-- the edges so far are those of the pairs so far
abbrev pub invariant-loop-source : goal.invariant-loop-source
invariant-loop-source l = record {
  made : l.edges.items ≡ map edge_of (take l.source-index l.source-items);
  fit : list_all is_edge l.edges.items ≡ true;
}
