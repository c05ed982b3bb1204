use Rattle.std.proofs.Common.{◌≡◌, ℕ, Option, Some, ap, subst, sym, ◌∙◌}
use Rattle.turn_steps.specs.Feeds.{first_fed}
use Rattle.engine_trait.specs.History.{record_by}
use Rattle.engine_trait.specs.Standing.{Standing}
use Rattle.plain_engine.proofs.NotedLemmas.{allowed_made, checked_made, effect_made, refused_made}
use Rattle.plain_engine.proofs.PlainLemmas.{call_served, checked_step, effect_step, gives_up, refused_step, service_step}
use Rattle.plain_engine.proofs.plain.Plain.noted_turn.Goals as goal

pub returns-in-Err-clause-step : goal.returns-in-Err-clause-step
returns-in-Err-clause-step g c has_memory =
    checked_step g.P.Tag.PartialEq.eq g.P.Policy.model c.args.self.now c.args.feed.now c.args.h c.is_ready-ready.ensures.uncached c.is_ready-ready.ensures.unremembered c.requires.ready
    c.in-Err.why c.noted_stop_unasked.new.self c.noted_stop_unasked.result.end (sym c.prepare.ensures.value ∙ c.in-Err.is)
    (c.noted_stop_unasked.ensures.standing) c.noted_stop_unasked.ensures.end

pub returns-in-Err-ask-clause-step : goal.returns-in-Err-ask-clause-step
returns-in-Err-ask-clause-step g c has_memory =
    refused_step g.P.Tag.PartialEq.eq g.P.Policy.model c.args.self.now c.args.feed.now c.args.h c.is_ready-ready.ensures.uncached c.is_ready-ready.ensures.unremembered c.requires.ready
    c.in-Ok.look c.in-Err-ask.why c.noted_stop_asked.new.self c.noted_stop_asked.result.end (sym c.prepare.ensures.value ∙ c.in-Ok.is)
    (sym c.ask.ensures ∙ c.in-Err-ask.is)
    (c.noted_stop_asked.ensures.standing) c.noted_stop_asked.ensures.end

pub returns-then-is_call-clause-step : goal.returns-then-is_call-clause-step
returns-then-is_call-clause-step g c has_memory =
    service_step g.P.Tag.PartialEq.eq g.P.Policy.model c.args.self.now c.args.feed.now c.args.h c.is_ready-ready.ensures.uncached c.is_ready-ready.ensures.unremembered c.requires.ready
    c.in-Ok.look c.in-Ok-ask.outs c.noted_service.new.self c.noted_service.result.end (sym c.prepare.ensures.value ∙ c.in-Ok.is)
    (sym c.ask.ensures ∙ c.in-Ok-ask.is)
    (c.noted_service.ensures.served has_memory)

pub returns-then-is_call-clause-memory : goal.returns-then-is_call-clause-memory
returns-then-is_call-clause-memory g c out =
    gives_up g.P.Tag.PartialEq.eq g.P.Policy.model c.args.self.now c.args.feed.now c.args.h c.is_ready-ready.ensures.uncached c.is_ready-ready.ensures.unremembered c.requires.ready
    c.in-Ok.look c.in-Ok-ask.outs c.noted_service.new.self (sym c.prepare.ensures.value ∙ c.in-Ok.is)
    (sym c.ask.ensures ∙ c.in-Ok-ask.is)
    (sym c.is_call.ensures ∙ c.if-is_call.true)
    (c.noted_service.ensures.unrefused out)
    (c.noted_service.ensures.memory out)

pub returns-then-is_call-clause-served : goal.returns-then-is_call-clause-served
returns-then-is_call-clause-served g c out =
    call_served g.P.Policy.model c.args.self.now.machine c.args.h c.in-Ok.look c.in-Ok-ask.outs (sym c.prepare.ensures.value ∙ c.in-Ok.is)
    (sym c.ask.ensures ∙ c.in-Ok-ask.is)
    (sym c.is_call.ensures ∙ c.if-is_call.true)
    (c.noted_service.ensures.unrefused out)

pub returns-clause-step : goal.returns-clause-step
returns-clause-step g c has_memory =
    effect_step g.P.Tag.PartialEq.eq g.P.Policy.model c.args.self.now c.args.feed.now c.args.h c.is_ready-ready.ensures.uncached c.is_ready-ready.ensures.unremembered c.requires.ready
    c.in-Ok.look c.in-Ok-ask.outs c.effect.new.self c.effect.new.feed c.effect.result (sym c.prepare.ensures.value ∙ c.in-Ok.is)
    (sym c.ask.ensures ∙ c.in-Ok-ask.is)
    (sym c.is_call.ensures ∙ c.if-is_call.false)
    (c.effect.ensures.standing)
    (c.effect.ensures.feed)
    (c.effect.ensures.end)

pub returns-in-Err-clause-made : goal.returns-in-Err-clause-made
returns-in-Err-clause-made g c has_memory =
    c.noted_stop_unasked.ensures.made
    ∙ ap Some (sym (checked_made g.P.Policy.model c.args.self.now.machine c.args.feed.now c.args.h c.in-Err.why (sym c.prepare.ensures.value ∙ c.in-Err.is)))

pub returns-in-Err-ask-clause-made : goal.returns-in-Err-ask-clause-made
returns-in-Err-ask-clause-made g c has_memory =
    c.noted_stop_asked.ensures.made
    ∙ ap Some (sym (refused_made g.P.Policy.model c.args.self.now.machine c.args.feed.now c.args.h c.in-Ok.look c.in-Err-ask.why
    (sym c.prepare.ensures.value ∙ c.in-Ok.is) (sym c.ask.ensures ∙ c.in-Err-ask.is)))

pub returns-then-is_call-clause-made : goal.returns-then-is_call-clause-made
returns-then-is_call-clause-made g c has_memory =
    c.noted_service.ensures.made c.args.feed.now has_memory
    ∙ ap Some (sym (allowed_made g.P.Policy.model c.args.self.now.machine c.args.feed.now c.args.h c.in-Ok.look c.in-Ok-ask.outs
    (sym c.prepare.ensures.value ∙ c.in-Ok.is) (sym c.ask.ensures ∙ c.in-Ok-ask.is)))

pub returns-clause-made : goal.returns-clause-made
returns-clause-made g c has_memory =
    let look = c.in-Ok.look in
    let taken = c.record-made.ensures ∙ ap (λ (next : Option ℕ). record_by look.group c.self.inside.core next c.args.h look) c.peek.ensures in
    let taken_now =
    subst (λ (e : Standing g.row.P.Denot g.row.P-Tag.Denot). c.record-made.result ≡ record_by look.group e.machine.core (first_fed c.args.feed.now.left) c.args.h look)
    c.self.view_is taken in
    ap Some (taken_now
    ∙ sym (effect_made g.P.Policy.model c.args.self.now.machine c.args.feed.now c.args.h look c.in-Ok-ask.outs
    (sym c.prepare.ensures.value ∙ c.in-Ok.is) (sym c.ask.ensures ∙ c.in-Ok-ask.is) (sym c.is_call.ensures ∙ c.if-is_call.false)))
