use Rattle.std.proofs.Common.{◌≡◌, ℕ, ◌-◌, ◌*◌, ◌<◌, ◌≤◌, length, slice_index_or}
use Rattle.tag_memory.specs.Pages.{items_of}
use Rattle.tag_loader.specs.Births.{birth_of}
use Rattle.tag_loader.specs.Start.{start_tag}
use Rattle.tag_loader.proofs.parts.tags_of.Given as goal

abbrev pub invariant-loop-n : goal.invariant-loop-n
invariant-loop-n g l = record {
  made : (k : ℕ) (d : _) → k < l.n → slice_index_or (items_of l.tags) k d ≡ start_tag g.P.Policy.model l.policy l.image k;
  size : length (items_of l.tags) ≡ l.n;
  most : l.n ≤ l.count;
  ram : l.births.ram ≡ l.image.ram;
  rest : (at : ℕ) → 4 * l.n ≤ at → birth_of l.births at ≡ birth_of l.image at;
}

abbrev pub decreases-loop-n : goal.decreases-loop-n
decreases-loop-n g l = l.count - l.n
