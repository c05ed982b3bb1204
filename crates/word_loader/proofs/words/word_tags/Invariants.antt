use Rattle.std.proofs.Common.{◌≡◌, ℕ, ◌-◌, ◌*◌, ◌<◌, ◌≤◌, Some, length, map, slice_get, slice_index_or}
use Rattle.std.specs.List.{range_with_len}
use Rattle.engine_trait.specs.Accounts.{with_tags}
use Rattle.tag_intern.specs.Table.{Extends}
use Rattle.tag_memory.specs.Pages.{items_of}
use Rattle.tag_loader.specs.Births.{birth_of}
use Rattle.tag_loader.specs.Start.{start_tag}
use Rattle.word_loader.proofs.words.word_tags.Given as goal

abbrev pub invariant-loop-n : goal.invariant-loop-n
invariant-loop-n g l =
    let before = g.T.TagTable.state l.fn.table in
    let now = g.T.TagTable.state l.table in
    let tag = start_tag g.P.Policy.model l.policy l.image in
    record {
      seen : now.tags ≡ with_tags g.P.Tag.PartialEq.eq before.tags (map tag (range_with_len 0 l.n));
      limit : now.limit ≡ before.limit;
      extends : Extends before.tags now.tags;
      made : (k d : ℕ) → k < l.n → slice_get now.tags (slice_index_or (items_of l.words) k d) ≡ Some (tag k);
      size : length (items_of l.words) ≡ l.n;
      most : l.n ≤ l.count;
      ram : l.births.ram ≡ l.image.ram;
      rest : (at : ℕ) → 4 * l.n ≤ at → birth_of l.births at ≡ birth_of l.image at;
    }

abbrev pub decreases-loop-n : goal.decreases-loop-n
decreases-loop-n g l = l.count - l.n
