use Rattle.std.proofs.Common.{◌≡◌, ◌-◌, length}
use Rattle.image_format.specs.Conditions.{is_place}
use Rattle.image_format.specs.Reading.{field_at, times, with_prefix}
use Rattle.image_format.specs.Rooms.{HasPlacesFor}
use Rattle.image_format.proofs.reading.entries_of.Given as goal

abbrev pub invariant-loop : goal.invariant-loop
invariant-loop l =
    let entry = field_at l.size 5 (is_place l.sizes.ram) in
    record {
      read : with_prefix l.entries.items (times (l.sizes.harts - l.counter) entry l.rest) ≡ times l.sizes.harts entry l.bytes;
      left : HasPlacesFor (l.sizes.harts - l.counter) 4 (length l.rest) l.entries;
    }
