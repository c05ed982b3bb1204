use Rattle.std.proofs.Common.{◌≡◌, ◌++◌}
use Rattle.tag_memory.specs.Pages.{shifts_to}
use Rattle.tag_memory.proofs.pages.push_shifts.Given as goal

abbrev pub invariant-loop-k : goal.invariant-loop-k
invariant-loop-k l = l.shifts.items ≡ l.fn.shifts.items ++ shifts_to l.place l.count l.k
