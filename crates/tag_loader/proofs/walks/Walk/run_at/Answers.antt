use Rattle.std.proofs.Common.{ap, subst, sym, ◌∙◌}
use Rattle.std.specs.List.{find}
use Rattle.tag_loader.specs.Sorted.{Ascends, BeginsUnended, holds}
use Rattle.tag_loader.proofs.SortedLemmas.{unended-ascends, unended-begins, unended-finds}
use Rattle.tag_loader.proofs.walks.Walk.run_at.Goals as goal

pub first_run-requires-clause-ascends : goal.first_run-requires-clause-ascends
first_run-requires-clause-ascends g c =
    let first = g.R.Placed.first in
    let past = g.R.Placed.past in
    subst (Ascends first past) (sym c.without_ended-self-inside.ensures) (unended-ascends first past c.args.address c.self.inside.rows.now c.self.invariant)

pub first_run-requires-clause-unended : goal.first_run-requires-clause-unended
first_run-requires-clause-unended g c =
    let past = g.R.Placed.past in
    subst (BeginsUnended past c.args.address) (sym c.without_ended-self-inside.ensures) (unended-begins g.R.Placed.first past c.args.address c.self.inside.rows.now)

pub invariant_of-self : goal.invariant_of-self
invariant_of-self g c =
    let first = g.R.Placed.first in
    let past = g.R.Placed.past in
    subst (Ascends first past) (sym c.without_ended-self-inside.ensures) (unended-ascends first past c.args.address c.self.inside.rows.now c.self.invariant)

pub returns-clause-later : goal.returns-clause-later
returns-clause-later g c =
    let first = g.R.Placed.first in
    let past = g.R.Placed.past in
    λ at from.
    ap (find (holds first past at)) c.without_ended-self-inside.ensures
    ∙ unended-finds first past c.args.address at from c.self.inside.rows.now
    ∙ ap (find (holds first past at)) c.self.view_is

pub returns-clause-told : goal.returns-clause-told
returns-clause-told g c = λ at from below. sym (returns-clause-later g c at from) ∙ c.first_run.ensures.told at from below
