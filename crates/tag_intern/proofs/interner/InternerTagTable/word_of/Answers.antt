use Rattle.std.proofs.Common.{◌∙◌, Some, ap, is_some}
use Rattle.tag_intern.proofs.TableLemmas.{exact_at, missing_at}
use Rattle.tag_intern.proofs.interner.InternerTagTable.word_of.Goals as goal

pub returns-in_err-word-clause-exact : goal.returns-in_err-word-clause-exact
returns-in_err-word-clause-exact g c =
    exact_at g.T.PartialEq.eq g.met.T.Eq.laws g.met.T.Same.same c.args.self.now.tags c.args.tag.now c.self.inside.tags.keys
    (ap (λ table. table.tags) c.self.view_is) c.self.invariant.distinct c.from_residual.result
    (c.from_residual.ensures ∙ c.in_err-word.ensures.index) (ap is_some c.from_residual.ensures ∙ c.in_err-word.ensures.found)

pub returns-clause-exact : goal.returns-clause-exact
returns-clause-exact g c =
    exact_at g.T.PartialEq.eq g.met.T.Eq.laws g.met.T.Same.same c.args.self.now.tags c.args.tag.now c.self.inside.tags.keys
    (ap (λ table. table.tags) c.self.view_is) c.self.invariant.distinct (Some c.in_ok-word.word)
    c.in_ok-word.ensures.index c.in_ok-word.ensures.found

pub returns-clause-missing : goal.returns-clause-missing
returns-clause-missing g c =
    missing_at g.T.PartialEq.eq g.met.T.Eq.laws g.met.T.Same.same c.args.self.now.tags c.args.tag.now c.self.inside.tags.keys
    (ap (λ table. table.tags) c.self.view_is) c.self.invariant.distinct (Some c.in_ok-word.word)
    c.in_ok-word.ensures.index c.in_ok-word.ensures.found
