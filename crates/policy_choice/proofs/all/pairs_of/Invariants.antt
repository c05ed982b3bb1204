use Rattle.std.proofs.Common.{◌≡◌, length, map, take}
use Rattle.policy_choice.specs.All.{pair_of}
use Rattle.policy_choice.proofs.all.pairs_of.Given as goal

abbrev pub invariant-loop-edge : goal.invariant-loop-edge
invariant-loop-edge l = record {
  made : l.pairs.items ≡ map pair_of (take l.edge-index l.edges);
  size : length l.pairs.items ≡ l.edge-index;
}
