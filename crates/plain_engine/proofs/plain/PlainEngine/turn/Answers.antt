use Rattle.std.proofs.Common.{sym, ◌∙◌}
use Rattle.engine_trait.proofs.StepLemmas.{step_idle}
use Rattle.plain_engine.proofs.plain.PlainEngine.turn.Goals as goal

pub returns-then-not-is_ready-clause-step : goal.returns-then-not-is_ready-clause-step
returns-then-not-is_ready-clause-step g c has_memory =
    step_idle g.P.Tag.PartialEq.eq g.P.Policy.model c.args.self.now c.args.feed.now c.args.h (sym c.is_ready.ensures.ready ∙ c.if-not-is_ready.true)
