use Rattle.std.proofs.Common.{sym, ◌∙◌}
use Rattle.turn_steps.proofs.StepLemmas.{not_call}
use Rattle.engine_trait.proofs.TurnLemmas.{step_prepared}
use Rattle.plain_engine.proofs.PlainLemmas.{effect_step, refused_step}
use Rattle.plain_engine.proofs.plain.PlainEngine.ready_turn.Goals as goal

pub returns-in-Err-clause-step : goal.returns-in-Err-clause-step
returns-in-Err-clause-step g c has_memory =
    refused_step g.P.Tag.PartialEq.eq g.P.Policy.model c.args.self.now c.args.feed.now c.args.h c.is_ready-ready.ensures.uncached c.is_ready-ready.ensures.unremembered c.requires.ready
    c.in-Some.look c.in-Err.why c.stop_asked.new.self c.stop_asked.result
    (step_prepared g.P.Policy.model c.args.self.now.machine c.args.h c.in-Some.look c.in-Some.ensures.seen c.in-Some.ensures.looked c.in-Some.ensures.plain)
    (sym c.ask.ensures ∙ c.in-Err.is)
    (c.stop_asked.ensures.standing) c.stop_asked.ensures.end

pub returns-clause-step : goal.returns-clause-step
returns-clause-step g c has_memory =
    effect_step g.P.Tag.PartialEq.eq g.P.Policy.model c.args.self.now c.args.feed.now c.args.h c.is_ready-ready.ensures.uncached c.is_ready-ready.ensures.unremembered c.requires.ready
    c.in-Some.look c.in-Ok.outs c.step.new.self c.args.feed.now c.step.result
    (step_prepared g.P.Policy.model c.args.self.now.machine c.args.h c.in-Some.look c.in-Some.ensures.seen c.in-Some.ensures.looked c.in-Some.ensures.plain)
    (sym c.ask.ensures ∙ c.in-Ok.is)
    (not_call c.in-Some.look.group c.in-Some.ensures.plain)
    (c.step.ensures.standing c.args.feed.now)
    (c.step.ensures.feed c.args.feed.now)
    (c.step.ensures.end c.args.feed.now)
