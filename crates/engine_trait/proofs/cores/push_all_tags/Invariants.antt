use Rattle.std.proofs.Common.{◌≡◌, ◌++◌, take}
use Rattle.std.specs.List.{flat_map}
use Rattle.tag_memory.specs.Hart.{hart_tags}
use Rattle.engine_trait.proofs.cores.push_all_tags.Given as goal

-- the tags of so many harts were added
abbrev pub invariant-loop-hart : goal.invariant-loop-hart
invariant-loop-hart g l = l.list.items ≡ l.fn.list.items ++ flat_map hart_tags (take l.hart-index l.harts)
