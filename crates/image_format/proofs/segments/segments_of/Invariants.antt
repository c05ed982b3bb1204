use Rattle.std.proofs.Common.{◌-◌, length}
use Rattle.image_format.specs.Rooms.{HasPlacesFor}
use Rattle.image_format.proofs.PartLemmas.{HasRead}
use Rattle.image_format.proofs.SegmentRoomLemmas.{HasWordPlaces}
use Rattle.image_format.proofs.segments.segments_of.Given as goal

abbrev pub invariant-loop-row : goal.invariant-loop-row
invariant-loop-row l = record {
  read : HasRead l.count l.bounds.size l.bounds.ram l.bytes l.row l.before l.extents.items l.contents.items l.rest;
  extents : HasPlacesFor (l.count - l.row) 12 (length l.rest) l.extents;
  contents : HasWordPlaces l.bounds.ram l.before (length l.rest) l.contents;
}
