use Rattle.std.proofs.Common.{◌≡◌, drop, length}
use Rattle.std.specs.FinMap as map
use Rattle.image_format.specs.Compartments.{version_of}
use Rattle.asm_emit.specs.Assembled.{additions_of, draft_with}
use Rattle.asm_emit.specs.Draft.{empty_draft}
use Rattle.asm_emit.specs.Kept.{ArePlaced, IsDraft, place_or}
use Rattle.asm_emit.specs.Seen.{draft_of}
use Rattle.asm_emit.proofs.assembling.builder_of.Given as goal

-- what the lines so far and those that are left add is the whole, and what an image needs is kept up to the place of the next line
abbrev pub invariant-loop-i : goal.invariant-loop-i
invariant-loop-i l = record {
  so_far : draft_with (draft_of l.builder) (additions_of l.layout.version l.layout.harts l.layout.ram (map.get l.names) (drop l.i l.lines) (drop l.i l.layout.places.items)) ≡ draft_with (empty_draft l.layout.version l.layout.harts) (additions_of l.layout.version l.layout.harts l.layout.ram (map.get l.names) l.lines l.layout.places.items);
  version : version_of l.builder.compartments ≡ l.layout.version;
  entered : length l.builder.entries.items ≡ l.layout.harts;
  kept : IsDraft l.layout.ram (place_or l.layout.ram (drop l.i l.layout.places.items)) (draft_of l.builder);
  placed : ArePlaced l.layout.ram (drop l.i l.lines) (drop l.i l.layout.places.items);
}
