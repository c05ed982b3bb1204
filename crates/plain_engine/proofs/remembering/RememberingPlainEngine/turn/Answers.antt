use Rattle.std.proofs.Common.{◌≡◌, false, subst, sym, ◌∙◌}
use Rattle.engine_trait.specs.Standing.{Standing, is_ready}
use Rattle.engine_trait.proofs.StepLemmas.{step_idle}
use Rattle.plain_engine.proofs.remembering.RememberingPlainEngine.turn.Goals as goal

pub returns-then-not-is_ready-clause-step : goal.returns-then-not-is_ready-clause-step
returns-then-not-is_ready-clause-step g c has_memory =
    let idle = sym c.is_ready.ensures.ready ∙ c.if-not-is_ready.true in
    step_idle g.P.Tag.PartialEq.eq g.P.Policy.model c.args.self.now c.args.feed.now c.args.h
    (subst (λ (e : Standing g.row.P.Denot g.row.P-Tag.Denot). is_ready e c.args.h ≡ false) c.self.view_is idle)
