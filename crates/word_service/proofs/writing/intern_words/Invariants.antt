use Rattle.std.proofs.Common.{◌≡◌, ◌≤◌, IfSome, Some, length, slice_get, take}
use Rattle.engine_trait.specs.Accounts.{with_tags}
use Rattle.tag_intern.specs.Table.{Extends}
use Rattle.word_service.specs.Written.{StandFor, tags_of}
use Rattle.word_service.proofs.writing.intern_words.Given as goal

abbrev pub invariant-loop-item : goal.invariant-loop-item
invariant-loop-item g l =
    let before = g.T.TagTable.state l.fn.tags in
    let now = g.T.TagTable.state l.tags in
    record {
      seen : now.tags ≡ with_tags g.T.Tag.PartialEq.eq before.tags (tags_of (take l.item-index l.words));
      limit : now.limit ≡ before.limit;
      within : length now.tags ≤ now.limit;
      extends : Extends before.tags now.tags;
      last : IfSome l.last (λ known. slice_get now.tags known.1 ≡ Some known.0.now);
      words : StandFor now.tags l.written.items (take l.item-index l.words);
    }
