use Rattle.std.proofs.Common.{◌≡◌, ◌∙◌, IsOk, ap, refl, sym, subst}
use Rattle.std.proofs.lemmas.Bool.{false≢true}
use Rattle.engine_trait.specs.Standing.{Stepped}
use Rattle.engine_trait.specs.Turn.{carried_at}
use Rattle.engine_trait.specs.declared.ends.TurnEnd.TheVariants as ends
use Rattle.engine_trait.proofs.StepLemmas.{ready_busy}
use Rattle.pump_engine.specs.Pump.{standing_by_words}
use Rattle.pump_engine.specs.Steps.{unanswered_end}
use Rattle.pump_engine.proofs.EndLemmas.{count_stays, ends_made, stopped_bytes, stopped_count}
use Rattle.pump_engine.proofs.EndLemmas.{fails_alone, memory_unanswered, missed_grows, service_gives_up, service_grows, service_there, service_turn}
use Rattle.pump_engine.proofs.TurnLemmas.{checked_turn, effect_turn, unanswered_gives_up, unanswered_turn}
use Rattle.pump_engine.proofs.pump.Pump.rare_turn.Goals as goal

-- ---- a check that failed

pub returns-in-Err-clause-step : goal.returns-in-Err-clause-step
returns-in-Err-clause-step g c has_memory =
    checked_turn g.P.Tag.PartialEq.eq g.P.Policy.model c.args.self.now c.args.feed.now c.args.h c.requires.ready c.stop_hart.new.self c.in-Err.why c.stop_hart.result c.is_ready-ready.ensures.within
    (sym c.prepare.ensures.value ∙ c.in-Err.is) c.stop_hart.ensures.state c.stop_hart.ensures.end

pub returns-in-Err-clause-memory : goal.returns-in-Err-clause-memory
returns-in-Err-clause-memory g c out = absurd (cc (c.stop_hart.ensures.end, out))

pub returns-in-Err-clause-failure : goal.returns-in-Err-clause-failure
returns-in-Err-clause-failure g c why failing stops =
    fails_alone g.P.Tag.PartialEq.eq g.P.Policy.model (standing_by_words g.P.Policy.model c.args.self.now) c.args.feed.now
    c.args.h
    (standing_by_words g.P.Policy.model c.stop_hart.new.self) c.args.feed.now c.stop_hart.result
    (returns-in-Err-clause-step g c (λ is_memory. absurd (cc (is_memory, stops)))) why failing stops

pub returns-in-Err-clause-busy : goal.returns-in-Err-clause-busy
returns-in-Err-clause-busy g c idles = absurd (cc (c.stop_hart.ensures.end, idles))

pub returns-in-Err-clause-harts : goal.returns-in-Err-clause-harts
returns-in-Err-clause-harts g c =
    count_stays c.stop_hart.new.self.core c.args.self.now.core c.args.self.now.core refl _ _
    (stopped_count c.args.self.now c.stop_hart.new.self c.args.h c.in-Err.why c.stop_hart.ensures.state)

pub returns-in-Err-clause-ram : goal.returns-in-Err-clause-ram
returns-in-Err-clause-ram g c =
    stopped_bytes c.args.self.now c.stop_hart.new.self c.args.h c.in-Err.why c.stop_hart.ensures.state

pub returns-in-Err-clause-kept : goal.returns-in-Err-clause-kept
returns-in-Err-clause-kept g c out = absurd (cc (c.stop_hart.ensures.end, out))

-- ---- a rule without outputs

pub returns-in-Err-answered-clause-step : goal.returns-in-Err-answered-clause-step
returns-in-Err-answered-clause-step g c has_memory =
    unanswered_turn g.P.Tag.PartialEq.eq g.P.Policy.model c.args.self.now c.args.feed.now c.args.h c.requires.ready c.answered.new.self c.in-Ok.look (sym c.prepare.ensures.value ∙ c.in-Ok.is) c.answered.ensures.stays c.end_unanswered.new.self c.in-Err-answered.end c.end_unanswered.result c.in-Err-answered.ensures.unruled c.end_unanswered.ensures.state c.end_unanswered.ensures.end
    (λ out. has_memory (c.end_unanswered.ensures.end ∙ ap (unanswered_end _) out))

pub returns-in-Err-answered-clause-memory : goal.returns-in-Err-answered-clause-memory
returns-in-Err-answered-clause-memory g c out =
    unanswered_gives_up g.P.Tag.PartialEq.eq g.P.Policy.model c.args.self.now c.args.feed.now c.args.h c.requires.ready c.answered.new.self c.in-Ok.look (sym c.prepare.ensures.value ∙ c.in-Ok.is) c.answered.ensures.stays c.end_unanswered.new.self c.in-Err-answered.end c.in-Err-answered.ensures.unruled c.end_unanswered.ensures.state
    (memory_unanswered _ c.in-Err-answered.end (sym c.end_unanswered.ensures.end ∙ out))

pub returns-in-Err-answered-clause-failure : goal.returns-in-Err-answered-clause-failure
returns-in-Err-answered-clause-failure g c why failing stops =
    fails_alone g.P.Tag.PartialEq.eq g.P.Policy.model (standing_by_words g.P.Policy.model c.args.self.now) c.args.feed.now c.args.h (standing_by_words g.P.Policy.model c.end_unanswered.new.self) c.args.feed.now c.end_unanswered.result
    (unanswered_turn g.P.Tag.PartialEq.eq g.P.Policy.model c.args.self.now c.args.feed.now c.args.h c.requires.ready c.answered.new.self c.in-Ok.look (sym c.prepare.ensures.value ∙ c.in-Ok.is) c.answered.ensures.stays c.end_unanswered.new.self c.in-Err-answered.end c.end_unanswered.result c.in-Err-answered.ensures.unruled c.end_unanswered.ensures.state c.end_unanswered.ensures.end
    (λ out. let is_memory : c.end_unanswered.result ≡ ends.Memory = c.end_unanswered.ensures.end ∙ ap (unanswered_end _) out in absurd (cc (is_memory, stops)))) why failing stops

pub returns-in-Err-answered-clause-kept : goal.returns-in-Err-answered-clause-kept
returns-in-Err-answered-clause-kept g c out =
    missed_grows g.P.Tag.PartialEq.eq g.P.Policy.model c.args.self.now c.args.h c.in-Ok.look (sym c.prepare.ensures.value ∙ c.in-Ok.is)
    (c.in-Err-answered.ensures.unruled.allowed (memory_unanswered _ c.in-Err-answered.end (sym c.end_unanswered.ensures.end ∙ out)))
    (λ kept. false≢true (subst IsOk c.in-Err-answered.is (c.answered.ensures.kept kept)))

pub returns-in-Err-answered-clause-busy : goal.returns-in-Err-answered-clause-busy
returns-in-Err-answered-clause-busy g c idles =
    ready_busy g.P.Tag.PartialEq.eq g.P.Policy.model (standing_by_words g.P.Policy.model c.args.self.now) c.args.feed.now c.args.h c.requires.ready
    (ap (λ (s : Stepped _ _). s.ended) (returns-in-Err-answered-clause-step g c (λ is_memory. absurd (cc (is_memory, idles)))) ∙ idles)

pub returns-in-Err-answered-clause-harts : goal.returns-in-Err-answered-clause-harts
returns-in-Err-answered-clause-harts g c =
    count_stays c.end_unanswered.new.self.core c.answered.new.self.core c.args.self.now.core c.answered.ensures.harts _ _
    c.end_unanswered.ensures.harts

pub returns-in-Err-answered-clause-ram : goal.returns-in-Err-answered-clause-ram
returns-in-Err-answered-clause-ram g c =
    c.end_unanswered.ensures.bytes ∙ c.answered.ensures.bytes

-- ---- a service of the policy

pub returns-then-is_call-clause-step : goal.returns-then-is_call-clause-step
returns-then-is_call-clause-step g c has_memory = service_turn g.P.Tag.PartialEq.eq g.P.Policy.model c.args.self.now c.args.feed.now c.args.h c.requires.ready c.answered.new.self c.in-Ok.look (sym c.prepare.ensures.value ∙ c.in-Ok.is) c.answered.ensures.stays c.in-Ok-answered.outs c.in-Ok-answered.ensures.allowed (sym c.is_call.ensures ∙ c.if-is_call.true) c.service.new.self c.service.result c.service.ensures.ends has_memory

pub returns-then-is_call-clause-memory : goal.returns-then-is_call-clause-memory
returns-then-is_call-clause-memory g c out = service_gives_up g.P.Tag.PartialEq.eq g.P.Policy.model c.args.self.now c.args.feed.now c.args.h c.requires.ready c.answered.new.self c.in-Ok.look (sym c.prepare.ensures.value ∙ c.in-Ok.is) c.answered.ensures.stays c.in-Ok-answered.outs c.in-Ok-answered.ensures.allowed (sym c.is_call.ensures ∙ c.if-is_call.true) c.service.new.self c.service.result c.service.ensures.ends out

pub returns-then-is_call-clause-failure : goal.returns-then-is_call-clause-failure
returns-then-is_call-clause-failure g c why failing stops =
    fails_alone g.P.Tag.PartialEq.eq g.P.Policy.model (standing_by_words g.P.Policy.model c.args.self.now) c.args.feed.now c.args.h (standing_by_words g.P.Policy.model c.service.new.self) c.args.feed.now c.service.result
    (service_turn g.P.Tag.PartialEq.eq g.P.Policy.model c.args.self.now c.args.feed.now c.args.h c.requires.ready c.answered.new.self c.in-Ok.look (sym c.prepare.ensures.value ∙ c.in-Ok.is) c.answered.ensures.stays c.in-Ok-answered.outs c.in-Ok-answered.ensures.allowed (sym c.is_call.ensures ∙ c.if-is_call.true) c.service.new.self c.service.result c.service.ensures.ends (λ is_memory. absurd (cc (is_memory, stops)))) why failing stops

pub returns-then-is_call-clause-busy : goal.returns-then-is_call-clause-busy
returns-then-is_call-clause-busy g c idles =
    ready_busy g.P.Tag.PartialEq.eq g.P.Policy.model (standing_by_words g.P.Policy.model c.args.self.now) c.args.feed.now c.args.h c.requires.ready
    (ap (λ (s : Stepped _ _). s.ended) (returns-then-is_call-clause-step g c (λ is_memory. absurd (cc (is_memory, idles)))) ∙ idles)

pub returns-then-is_call-clause-kept : goal.returns-then-is_call-clause-kept
returns-then-is_call-clause-kept g c out =
    service_grows g.P.Tag.PartialEq.eq g.P.Policy.model c.args.self.now c.args.h
    (service_there g.P.Tag.PartialEq.eq g.P.Policy.model c.args.self.now c.args.feed.now c.args.h c.requires.ready c.answered.new.self c.in-Ok.look (sym c.prepare.ensures.value ∙ c.in-Ok.is) c.answered.ensures.stays c.in-Ok-answered.outs c.in-Ok-answered.ensures.allowed (sym c.is_call.ensures ∙ c.if-is_call.true) c.service.new.self c.service.result c.service.ensures.ends out)

pub returns-then-is_call-clause-harts : goal.returns-then-is_call-clause-harts
returns-then-is_call-clause-harts g c =
    count_stays c.service.new.self.core c.answered.new.self.core c.args.self.now.core c.answered.ensures.harts _ _ c.service.ensures.harts

pub returns-then-is_call-clause-ram : goal.returns-then-is_call-clause-ram
returns-then-is_call-clause-ram g c =
    c.service.ensures.bytes ∙ c.answered.ensures.bytes

-- ---- any other instruction

pub returns-clause-step : goal.returns-clause-step
returns-clause-step g c has_memory =
    effect_turn g.P.Tag.PartialEq.eq g.P.Policy.model c.args.self.now c.args.feed.now c.args.h c.requires.ready c.answered.new.self c.in-Ok.look (sym c.prepare.ensures.value ∙ c.in-Ok.is) c.answered.ensures.stays c.in-Ok-answered.outs c.in-Ok-answered.ensures.allowed c.effect.new.self c.effect.new.feed c.effect.result
    (sym c.is_call.ensures ∙ c.if-is_call.false) c.effect.ensures.state c.effect.ensures.feed c.effect.ensures.end

pub returns-clause-memory : goal.returns-clause-memory
returns-clause-memory g c out =
    absurd ((ends_made (carried_at c.answered.new.self.core c.args.feed.now c.args.h c.in-Ok.look c.in-Ok-answered.outs).done).0
    (sym c.effect.ensures.end ∙ out))

pub returns-clause-failure : goal.returns-clause-failure
returns-clause-failure g c why failing stops = absurd (c.effect.ensures.no_failure why failing stops)

pub returns-clause-busy : goal.returns-clause-busy
returns-clause-busy g c idles =
    absurd ((ends_made (carried_at c.answered.new.self.core c.args.feed.now c.args.h c.in-Ok.look c.in-Ok-answered.outs).done).1
    (sym c.effect.ensures.end ∙ idles))

pub returns-clause-harts : goal.returns-clause-harts
returns-clause-harts g c =
    count_stays c.effect.new.self.core c.answered.new.self.core c.args.self.now.core c.answered.ensures.harts _ _ c.effect.ensures.harts

pub returns-clause-ram : goal.returns-clause-ram
returns-clause-ram g c =
    c.effect.ensures.bytes ∙ c.answered.ensures.bytes

pub returns-clause-kept : goal.returns-clause-kept
returns-clause-kept g c out =
    absurd ((ends_made (carried_at c.answered.new.self.core c.args.feed.now c.args.h c.in-Ok.look c.in-Ok-answered.outs).done).0
    (sym c.effect.ensures.end ∙ out))
