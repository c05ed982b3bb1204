use Rattle.tag_intern.proofs.TableLemmas.{distinct_with_tags, extends_with_tags, prefix, longer, same_words, with_word}
use Rattle.tag_intern.proofs.law.growth_law.Goals as goal

pub returns-clause-extends : goal.returns-clause-extends
returns-clause-extends g c = extends_with_tags g.T.PartialEq.eq g.met.T.Eq.laws

pub returns-clause-longer : goal.returns-clause-longer
returns-clause-longer g c tags more = longer tags _ (extends_with_tags g.T.PartialEq.eq g.met.T.Eq.laws tags more)

pub returns-clause-distinct : goal.returns-clause-distinct
returns-clause-distinct g c = distinct_with_tags g.T.PartialEq.eq g.met.T.Eq.laws

pub returns-clause-known : goal.returns-clause-known
returns-clause-known g c = with_word g.T.PartialEq.eq g.met.T.Eq.laws

pub returns-clause-words : goal.returns-clause-words
returns-clause-words g c tags more = same_words tags _ (extends_with_tags g.T.PartialEq.eq g.met.T.Eq.laws tags more)

pub returns-clause-undone : goal.returns-clause-undone
returns-clause-undone g c tags more = prefix tags _ (extends_with_tags g.T.PartialEq.eq g.met.T.Eq.laws tags more)
