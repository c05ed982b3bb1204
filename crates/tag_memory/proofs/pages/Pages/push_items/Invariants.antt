use Rattle.std.proofs.Common.{◌≡◌, ◌++◌, take}
use Rattle.tag_memory.specs.Pages.{items_of}
use Rattle.tag_memory.proofs.pages.Pages.push_items.Given as goal

-- so many items were added
abbrev pub invariant-loop-n : goal.invariant-loop-n
invariant-loop-n g l = l.list.items ≡ l.fn.list.items ++ take l.n (items_of l.self)
