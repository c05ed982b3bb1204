use Rattle.std.proofs.Common.{◌≡◌, ◌-◌, length}
use Rattle.std.specs.Int.{w32}
use Rattle.image_format.specs.Reading.{number_at, times, with_prefix}
use Rattle.image_format.specs.Rooms.{HasPlacesFor}
use Rattle.image_format.proofs.segments.words_of.Given as goal

abbrev pub invariant-loop : goal.invariant-loop
invariant-loop l = record {
  read : with_prefix l.contents.items (times (l.count - l.counter) (number_at w32 l.size) l.rest) ≡ with_prefix l.fn.contents.items (times l.count (number_at w32 l.size) l.bytes);
  left : HasPlacesFor (l.count - l.counter) 4 (length l.rest) l.contents;
  places : l.contents.places ≡ l.fn.contents.places;
}
