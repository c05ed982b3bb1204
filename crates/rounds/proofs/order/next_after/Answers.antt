use Rattle.std.proofs.Common.{◌∙◌}
use Rattle.rounds.proofs.ReadinessLemmas.{in_order, next_in_order}
use Rattle.rounds.proofs.order.next_after.Goals as goal

pub bounds-deref-h : goal.bounds-deref-h
bounds-deref-h g c = in_order (g.E.Engine.standing c.args.engine.now) _ (c.deref.ensures.0 ∙ c.renew.ensures) c.args.h c.requires.hart

pub returns-clause-next : goal.returns-clause-next
returns-clause-next g c =
    c.unless_stopped.ensures ∙ next_in_order (g.E.Engine.standing c.args.engine.now) _ (c.deref.ensures.0 ∙ c.renew.ensures) c.args.h c.requires.hart
