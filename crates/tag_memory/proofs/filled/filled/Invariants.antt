use Rattle.std.proofs.Common.{◌≡◌, replicate}
use Rattle.tag_memory.proofs.filled.filled.Given as goal

abbrev pub invariant-loop : goal.invariant-loop
invariant-loop g l = l.list.items ≡ replicate l.counter l.item
