use Rattle.std.proofs.Common.{◌≡◌, ◌++◌, length, take}
use Rattle.std.specs.List.{flat_map}
use Rattle.image_format.specs.Spelling.{number, segment_spelling}
use Rattle.image_format.proofs.writing.put_segments.Given as goal

abbrev pub invariant-loop-i : goal.invariant-loop-i
invariant-loop-i l = l.out.items ≡ l.fn.out.items ++ (number (length l.image.segments) ++ flat_map segment_spelling (take l.i l.image.segments))
