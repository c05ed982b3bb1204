use Rattle.std.proofs.Common.{◌≡◌, ◌-◌, None, length}
use Rattle.image_format.specs.Reading.{row_at, times, with_prefix}
use Rattle.image_format.specs.Rooms.{HasPlacesFor}
use Rattle.image_format.proofs.lists.rows_of.Given as goal

abbrev pub invariant-loop-row : goal.invariant-loop-row
invariant-loop-row g l =
    let step = row_at l.list g.R.Row.follows (g.R.Row.fields l.bounds.size l.bounds.ram) in
    record {
      read : with_prefix l.rows.items (times (l.count - l.row) step (record { row = l.row; before = l.before; bytes = l.rest })) ≡ times l.count step (record { row = 0; before = None; bytes = l.bytes });
      left : HasPlacesFor (l.count - l.row) g.R.Kept.BYTES (length l.rest) l.rows;
    }
