use Rattle.std.proofs.Common.{◌≡◌, length, map, take}
use Rattle.tag_loader.specs.Start.{start_hart}
use Rattle.tag_loader.proofs.parts.harts_of.Given as goal

abbrev pub invariant-loop-entry : goal.invariant-loop-entry
invariant-loop-entry g l = record {
  made : l.harts.items ≡ map (start_hart g.P.Policy.model l.policy l.image) (take l.entry-index l.entry-items);
  size : length l.harts.items ≡ l.entry-index;
}
