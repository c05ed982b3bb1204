use Rattle.std.proofs.Common.{◌≡◌, Some, rules, slice_get}
use Rattle.tag_intern.specs.Words.{tag_at}
use Rattle.tag_intern.proofs.ComingLemmas.{known_fits, known_stays, never_full}
use Rattle.tag_intern.proofs.sweep.next_word.Goals as goal

pub returns-in-Some-clause-grown : goal.returns-in-Some-clause-grown
returns-in-Some-clause-grown g c =
    let made = g.T.TagTable.state c.args.made.now in
    let tag = tag_at c.args.plain (g.T.TagTable.state c.args.tags.now).tags c.args.word in
    let known : slice_get made.tags c.in-Some.known ≡ Some tag = search rules in
    known_stays g.T.Tag.PartialEq.eq g.met.T.Tag.Eq.laws made c.in-Some.known tag known

pub returns-in-Some-clause-over : goal.returns-in-Some-clause-over
returns-in-Some-clause-over g c =
    let made = g.T.TagTable.state c.args.made.now in
    let tag = tag_at c.args.plain (g.T.TagTable.state c.args.tags.now).tags c.args.word in
    let known : slice_get made.tags c.in-Some.known ≡ Some tag = search rules in (
      λ full. absurd (never_full c.in-Some.known full),
      λ over. absurd (known_fits g.T.Tag.PartialEq.eq g.met.T.Tag.Eq.laws made c.in-Some.known tag known c.len-len.ensures.sound.within over),
    )
