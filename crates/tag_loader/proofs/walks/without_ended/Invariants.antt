use Rattle.std.proofs.Common.{◌≡◌, length}
use Rattle.tag_loader.specs.Sorted.{rows_past}
use Rattle.tag_loader.proofs.walks.without_ended.Given as goal

abbrev pub invariant-loop-left : goal.invariant-loop-left
invariant-loop-left g l = rows_past g.R.Placed.past l.address l.left ≡ rows_past g.R.Placed.past l.address l.rows

abbrev pub decreases-loop-left : goal.decreases-loop-left
decreases-loop-left g l = length l.left
