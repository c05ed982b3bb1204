use Rattle.std.proofs.Common.{sym, ◌∙◌}
use Rattle.plain_engine.proofs.PlainLemmas.{call_served, checked_step, effect_step, gives_up, refused_step, service_step}
use Rattle.plain_engine.proofs.plain.Plain.rare_turn.Goals as goal

pub returns-in-Err-clause-step : goal.returns-in-Err-clause-step
returns-in-Err-clause-step g c has_memory =
    checked_step g.P.Tag.PartialEq.eq g.P.Policy.model c.args.self.now c.args.feed.now c.args.h c.is_ready-ready.ensures.uncached c.is_ready-ready.ensures.unremembered c.requires.ready
    c.in-Err.why c.stop_unasked.new.self c.stop_unasked.result (sym c.prepare.ensures.value ∙ c.in-Err.is)
    (c.stop_unasked.ensures.standing) c.stop_unasked.ensures.end

pub returns-in-Err-ask-clause-step : goal.returns-in-Err-ask-clause-step
returns-in-Err-ask-clause-step g c has_memory =
    refused_step g.P.Tag.PartialEq.eq g.P.Policy.model c.args.self.now c.args.feed.now c.args.h c.is_ready-ready.ensures.uncached c.is_ready-ready.ensures.unremembered c.requires.ready
    c.in-Ok.look c.in-Err-ask.why c.stop_asked.new.self c.stop_asked.result (sym c.prepare.ensures.value ∙ c.in-Ok.is)
    (sym c.ask.ensures ∙ c.in-Err-ask.is)
    (c.stop_asked.ensures.standing) c.stop_asked.ensures.end

pub returns-then-is_call-clause-step : goal.returns-then-is_call-clause-step
returns-then-is_call-clause-step g c has_memory =
    service_step g.P.Tag.PartialEq.eq g.P.Policy.model c.args.self.now c.args.feed.now c.args.h c.is_ready-ready.ensures.uncached c.is_ready-ready.ensures.unremembered c.requires.ready
    c.in-Ok.look c.in-Ok-ask.outs c.service.new.self c.service.result (sym c.prepare.ensures.value ∙ c.in-Ok.is)
    (sym c.ask.ensures ∙ c.in-Ok-ask.is)
    (c.service.ensures.served has_memory)

pub returns-then-is_call-clause-memory : goal.returns-then-is_call-clause-memory
returns-then-is_call-clause-memory g c out =
    gives_up g.P.Tag.PartialEq.eq g.P.Policy.model c.args.self.now c.args.feed.now c.args.h c.is_ready-ready.ensures.uncached c.is_ready-ready.ensures.unremembered c.requires.ready
    c.in-Ok.look c.in-Ok-ask.outs c.service.new.self (sym c.prepare.ensures.value ∙ c.in-Ok.is)
    (sym c.ask.ensures ∙ c.in-Ok-ask.is)
    (sym c.is_call.ensures ∙ c.if-is_call.true)
    (c.service.ensures.unrefused out)
    (c.service.ensures.memory out)

pub returns-then-is_call-clause-served : goal.returns-then-is_call-clause-served
returns-then-is_call-clause-served g c out =
    call_served g.P.Policy.model c.args.self.now.machine c.args.h c.in-Ok.look c.in-Ok-ask.outs (sym c.prepare.ensures.value ∙ c.in-Ok.is)
    (sym c.ask.ensures ∙ c.in-Ok-ask.is)
    (sym c.is_call.ensures ∙ c.if-is_call.true)
    (c.service.ensures.unrefused out)

pub returns-clause-step : goal.returns-clause-step
returns-clause-step g c has_memory =
    effect_step g.P.Tag.PartialEq.eq g.P.Policy.model c.args.self.now c.args.feed.now c.args.h c.is_ready-ready.ensures.uncached c.is_ready-ready.ensures.unremembered c.requires.ready
    c.in-Ok.look c.in-Ok-ask.outs c.effect.new.self c.effect.new.feed c.effect.result (sym c.prepare.ensures.value ∙ c.in-Ok.is)
    (sym c.ask.ensures ∙ c.in-Ok-ask.is)
    (sym c.is_call.ensures ∙ c.if-is_call.false)
    (c.effect.ensures.standing)
    (c.effect.ensures.feed)
    (c.effect.ensures.end)
