use Rattle.std.proofs.Common.{refl}
use Rattle.std.proofs.lemmas.Option.{none-some}
use Rattle.tag_pairs.proofs.StateLemmas.{no_left, no_right, none_found, pair_found}
use Rattle.tag_pairs.proofs.TableLemmas.{none_exactly}
use Rattle.tag_pairs.proofs.pairs.PairsTagTable.word_of.Goals as goal

pub returns-in_err-left-clause-exact : goal.returns-in_err-left-clause-exact
returns-in_err-left-clause-exact g c =
    let lefts = g.A.TagTable.state c.self.inside.lefts in
    let rights = g.B.TagTable.state c.self.inside.rights in
    none_found lefts rights c.self.inside.pairs c.self.invariant c.args.self.now c.self.view_is c.args.tag.now c.from_residual.result c.from_residual.ensures
    (no_left lefts rights c.self.inside.pairs c.self.invariant c.args.self.now c.self.view_is c.args.tag.now
    (λ word there. none-some word ((c.in_err-left.ensures.exact word).1 there)))

pub returns-in_err-left-clause-missing : goal.returns-in_err-left-clause-missing
returns-in_err-left-clause-missing g c = none_exactly c.from_residual.result c.args.self.now.tags c.args.tag.now (returns-in_err-left-clause-exact g c)

pub returns-in_err-right-clause-exact : goal.returns-in_err-right-clause-exact
returns-in_err-right-clause-exact g c =
    let lefts = g.A.TagTable.state c.self.inside.lefts in
    let rights = g.B.TagTable.state c.self.inside.rights in
    none_found lefts rights c.self.inside.pairs c.self.invariant c.args.self.now c.self.view_is c.args.tag.now
    c.from_residual-in_err-right.result c.from_residual-in_err-right.ensures
    (no_right lefts rights c.self.inside.pairs c.self.invariant c.args.self.now c.self.view_is c.args.tag.now
    (λ word there. none-some word ((c.in_err-right.ensures.exact word).1 there)))

pub returns-in_err-right-clause-missing : goal.returns-in_err-right-clause-missing
returns-in_err-right-clause-missing g c = none_exactly c.from_residual-in_err-right.result c.args.self.now.tags c.args.tag.now (returns-in_err-right-clause-exact g c)

pub returns-clause-exact : goal.returns-clause-exact
returns-clause-exact g c =
    pair_found (g.A.TagTable.state c.self.inside.lefts) (g.B.TagTable.state c.self.inside.rights) c.self.inside.pairs c.self.invariant c.args.self.now c.self.view_is
    c.args.tag.now c.in_ok-left.left c.in_ok-right.right ((c.in_ok-left.ensures.exact c.in_ok-left.left).0 refl) ((c.in_ok-right.ensures.exact c.in_ok-right.right).0 refl)
    c.word_of-3.result c.word_of-3.ensures.exact

pub returns-clause-missing : goal.returns-clause-missing
returns-clause-missing g c = none_exactly c.word_of-3.result c.args.self.now.tags c.args.tag.now (returns-clause-exact g c)
