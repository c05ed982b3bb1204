use Rattle.std.proofs.Common.{◌≡◌, ◌++◌, drop, map, slice_index, take}
use Rattle.tag_memory.specs.Maps.{hart_by}
use Rattle.engine_trait.proofs.cores.renumber_harts.Given as goal

-- so many harts were changed
abbrev pub invariant-loop-hart : goal.invariant-loop-hart
invariant-loop-hart l = l.harts ≡ map (hart_by (slice_index l.numbers)) (take l.hart-index l.fn.harts) ++ drop l.hart-index l.fn.harts
