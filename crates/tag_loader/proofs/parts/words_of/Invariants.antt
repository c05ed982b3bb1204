use Rattle.std.proofs.Common.{◌≡◌, ◌/◌, length, drop, replicate}
use Rattle.tag_loader.specs.Start.{with_segments}
use Rattle.tag_loader.proofs.parts.words_of.Given as goal

abbrev pub invariant-loop-i : goal.invariant-loop-i
invariant-loop-i l = record {
  whole : with_segments l.words.items (drop l.i l.image.segments) ≡ with_segments (replicate (l.image.ram / 4) 0) l.image.segments;
  size : length l.words.items ≡ l.image.ram / 4;
}
