use Rattle.std.proofs.Common.{◌≡◌, ◌++◌, drop, map, slice_index, take}
use Rattle.tag_memory.proofs.renumbering.renumber_all.Given as goal

-- so many numbers were changed
abbrev pub invariant-loop-number : goal.invariant-loop-number
invariant-loop-number l = l.number-items ≡ map (slice_index l.numbers) (take l.number-index l.fn.list.items) ++ drop l.number-index l.fn.list.items
