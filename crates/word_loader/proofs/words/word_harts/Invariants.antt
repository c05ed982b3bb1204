use Rattle.std.proofs.Common.{◌≡◌, map, take}
use Rattle.engine_trait.specs.Accounts.{with_tags}
use Rattle.tag_intern.specs.Table.{Extends}
use Rattle.tag_memory.specs.Hart.{HartState}
use Rattle.word_loader.specs.Named.{AreHartsOf}
use Rattle.word_loader.proofs.words.word_harts.Given as goal

abbrev pub invariant-loop-start : goal.invariant-loop-start
invariant-loop-start g l =
    let before = g.T.TagTable.state l.fn.table in
    let now = g.T.TagTable.state l.table in
    let read = take l.start-index l.start-items in
    record {
      seen : now.tags ≡ with_tags g.P.Tag.PartialEq.eq before.tags (map (λ (hart : HartState _). hart.pc_tag) read);
      limit : now.limit ≡ before.limit;
      extends : Extends before.tags now.tags;
      harts : AreHartsOf now.tags read l.harts.items;
    }
