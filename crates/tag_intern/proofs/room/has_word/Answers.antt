use Rattle.std.proofs.Common.{sym, ◌∙◌}
use Rattle.tag_intern.proofs.RoomLemmas.{known_by}
use Rattle.tag_intern.proofs.room.has_word.Goals as goal

pub returns : goal.returns
returns g c =
    known_by g.T.Tag.PartialEq.eq (g.T.TagTable.state c.args.tags.now).tags c.args.tag.now g.met.T.Tag.Eq.laws g.met.T.Tag.Same.same c.is_some.result
    (λ none. c.word_of.ensures.missing.0 (sym c.is_some.ensures ∙ none)) (λ absent. c.is_some.ensures ∙ c.word_of.ensures.missing.1 absent)
