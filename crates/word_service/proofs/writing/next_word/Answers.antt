use Rattle.std.proofs.Common.{◌≡◌, Some, rules, slice_get}
use Rattle.tag_intern.proofs.ComingLemmas.{known_fits, known_stays, never_full}
use Rattle.word_service.proofs.writing.next_word.Goals as goal

pub returns-in-Some-clause-grown : goal.returns-in-Some-clause-grown
returns-in-Some-clause-grown g c =
    let table = g.T.TagTable.state c.args.tags.now in
    let known : slice_get table.tags c.in-Some.word ≡ Some c.args.tag.now = search rules in
    known_stays g.T.Tag.PartialEq.eq g.met.T.Tag.Eq.laws table c.in-Some.word c.args.tag.now known

pub returns-in-Some-clause-over : goal.returns-in-Some-clause-over
returns-in-Some-clause-over g c =
    let table = g.T.TagTable.state c.args.tags.now in
    let known : slice_get table.tags c.in-Some.word ≡ Some c.args.tag.now = search rules in (
      λ full. absurd (never_full c.in-Some.word full),
      λ over. absurd (known_fits g.T.Tag.PartialEq.eq g.met.T.Tag.Eq.laws table c.in-Some.word c.args.tag.now known c.len-len.ensures.sound.within over),
    )
