use Rattle.std.proofs.Common.{◌≡◌, [], drop, take}
use Rattle.asm_places.specs.Places.{IsReached, places_from}
use Rattle.asm_places.specs.Seen.{IsSeen}
use Rattle.asm_places.proofs.PlaceLemmas.{with_prefix}
use Rattle.asm_places.proofs.places.places_of.Given as goal

-- what was placed and what is still placed are the whole, and what the lines so far have was noted
abbrev pub invariant-loop-line : goal.invariant-loop-line
invariant-loop-line l = record {
  so_far : with_prefix l.places.items (places_from l.ram (take l.line-index l.lines) l.place (drop l.line-index l.lines)) ≡ places_from l.ram [] 0 l.lines;
  noted : IsSeen l.seen (take l.line-index l.lines);
  reached : IsReached l.ram l.place;
}
