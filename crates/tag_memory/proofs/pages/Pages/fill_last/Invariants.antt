use Rattle.std.proofs.Common.{◌≡◌, ◌≤◌, ◌-◌, ◌++◌, replicate}
use Rattle.tag_memory.specs.Pages.{items_of}
use Rattle.tag_memory.proofs.pages.Pages.fill_last.Given as goal

-- so many items as were added are the same
abbrev pub invariant-loop-self : goal.invariant-loop-self
invariant-loop-self g l = record {
  items : items_of l.self ≡ items_of l.fn.self ++ replicate (l.self.count - l.fn.self.count) l.item;
  more : l.fn.self.count ≤ l.self.count;
  most : l.self.count ≤ l.end;
}

abbrev pub decreases-loop-self : goal.decreases-loop-self
decreases-loop-self g l = l.end - l.self.count
