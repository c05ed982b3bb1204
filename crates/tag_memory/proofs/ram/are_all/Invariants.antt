use Rattle.std.proofs.Common.{◌≡◌, ◌-◌, drop, take, true}
use Rattle.std.specs.List.{list_all}
use Rattle.tag_memory.specs.Pages.{items_of}
use Rattle.tag_memory.proofs.ram.are_all.Given as goal

-- those that were passed are the same
abbrev pub invariant-loop-n : goal.invariant-loop-n
invariant-loop-n g l = list_all (g.T.PartialEq.eq l.item) (take (l.n - l.from) (drop l.from (items_of l.items))) ≡ true
