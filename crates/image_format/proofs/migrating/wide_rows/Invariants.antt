use Rattle.std.proofs.Common.{◌≡◌, take}
use Rattle.image_format.proofs.migrating.wide_rows.Given as goal

abbrev pub invariant-loop-row : goal.invariant-loop-row
invariant-loop-row l = l.wide.items ≡ take l.row-index l.rows
