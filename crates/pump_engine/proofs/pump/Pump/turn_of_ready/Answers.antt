use Rattle.std.proofs.Common.{◌≡◌, ◌∙◌, IsOk, ap, sym, subst}
use Rattle.std.proofs.lemmas.Bool.{false≢true}
use Rattle.engine_trait.specs.Standing.{Stepped}
use Rattle.engine_trait.specs.declared.ends.TurnEnd.TheVariants as ends
use Rattle.engine_trait.proofs.StepLemmas.{ready_busy}
use Rattle.pump_engine.specs.Pump.{standing_by_words}
use Rattle.pump_engine.specs.Steps.{unanswered_end}
use Rattle.turn_steps.proofs.StepLemmas.{not_call}
use Rattle.pump_engine.proofs.CountLemmas.{step_by_words}
use Rattle.pump_engine.proofs.EndLemmas.{count_stays, fails_alone, memory_unanswered, missed_grows}
use Rattle.pump_engine.proofs.TurnLemmas.{effect_turn, unanswered_gives_up, unanswered_turn}
use Rattle.pump_engine.proofs.pump.Pump.turn_of_ready.Goals as goal

-- ---- a rule without outputs

pub returns-in-Err-clause-step : goal.returns-in-Err-clause-step
returns-in-Err-clause-step g c has_memory =
    unanswered_turn g.P.Tag.PartialEq.eq g.P.Policy.model c.args.self.now c.args.feed.now c.args.h c.requires.ready c.answered.new.self c.in-Some.look (step_by_words g.P.Policy.model c.args.self.now c.args.h c.in-Some.look c.in-Some.ensures.seen c.in-Some.ensures.looked c.in-Some.ensures.plain) c.answered.ensures.stays c.end_unanswered.new.self c.in-Err.end c.end_unanswered.result c.in-Err.ensures.unruled c.end_unanswered.ensures.state c.end_unanswered.ensures.end
    (λ out. has_memory (c.end_unanswered.ensures.end ∙ ap (unanswered_end _) out))

pub returns-in-Err-clause-memory : goal.returns-in-Err-clause-memory
returns-in-Err-clause-memory g c out =
    unanswered_gives_up g.P.Tag.PartialEq.eq g.P.Policy.model c.args.self.now c.args.feed.now c.args.h c.requires.ready c.answered.new.self c.in-Some.look (step_by_words g.P.Policy.model c.args.self.now c.args.h c.in-Some.look c.in-Some.ensures.seen c.in-Some.ensures.looked c.in-Some.ensures.plain) c.answered.ensures.stays c.end_unanswered.new.self c.in-Err.end c.in-Err.ensures.unruled c.end_unanswered.ensures.state
    (memory_unanswered _ c.in-Err.end (sym c.end_unanswered.ensures.end ∙ out))

pub returns-in-Err-clause-failure : goal.returns-in-Err-clause-failure
returns-in-Err-clause-failure g c why failing stops =
    fails_alone g.P.Tag.PartialEq.eq g.P.Policy.model (standing_by_words g.P.Policy.model c.args.self.now) c.args.feed.now c.args.h (standing_by_words g.P.Policy.model c.end_unanswered.new.self) c.args.feed.now c.end_unanswered.result
    (unanswered_turn g.P.Tag.PartialEq.eq g.P.Policy.model c.args.self.now c.args.feed.now c.args.h c.requires.ready c.answered.new.self c.in-Some.look (step_by_words g.P.Policy.model c.args.self.now c.args.h c.in-Some.look c.in-Some.ensures.seen c.in-Some.ensures.looked c.in-Some.ensures.plain) c.answered.ensures.stays c.end_unanswered.new.self c.in-Err.end c.end_unanswered.result c.in-Err.ensures.unruled c.end_unanswered.ensures.state c.end_unanswered.ensures.end
    (λ out. let is_memory : c.end_unanswered.result ≡ ends.Memory = c.end_unanswered.ensures.end ∙ ap (unanswered_end _) out in absurd (cc (is_memory, stops)))) why failing stops

pub returns-in-Err-clause-kept : goal.returns-in-Err-clause-kept
returns-in-Err-clause-kept g c out =
    missed_grows g.P.Tag.PartialEq.eq g.P.Policy.model c.args.self.now c.args.h c.in-Some.look (step_by_words g.P.Policy.model c.args.self.now c.args.h c.in-Some.look c.in-Some.ensures.seen c.in-Some.ensures.looked c.in-Some.ensures.plain)
    (c.in-Err.ensures.unruled.allowed (memory_unanswered _ c.in-Err.end (sym c.end_unanswered.ensures.end ∙ out)))
    (λ kept. false≢true (subst IsOk c.in-Err.is (c.answered.ensures.kept kept)))

pub returns-in-Err-clause-busy : goal.returns-in-Err-clause-busy
returns-in-Err-clause-busy g c idles =
    ready_busy g.P.Tag.PartialEq.eq g.P.Policy.model (standing_by_words g.P.Policy.model c.args.self.now) c.args.feed.now c.args.h c.requires.ready
    (ap (λ (s : Stepped _ _). s.ended) (returns-in-Err-clause-step g c (λ is_memory. absurd (cc (is_memory, idles)))) ∙ idles)

pub returns-in-Err-clause-harts : goal.returns-in-Err-clause-harts
returns-in-Err-clause-harts g c =
    count_stays c.end_unanswered.new.self.core c.answered.new.self.core c.args.self.now.core c.answered.ensures.harts _ _
    c.end_unanswered.ensures.harts

pub returns-in-Err-clause-ram : goal.returns-in-Err-clause-ram
returns-in-Err-clause-ram g c =
    c.end_unanswered.ensures.bytes ∙ c.answered.ensures.bytes

-- ---- any other instruction

pub returns-clause-step : goal.returns-clause-step
returns-clause-step g c has_memory =
    effect_turn g.P.Tag.PartialEq.eq g.P.Policy.model c.args.self.now c.args.feed.now c.args.h c.requires.ready c.answered.new.self c.in-Some.look (step_by_words g.P.Policy.model c.args.self.now c.args.h c.in-Some.look c.in-Some.ensures.seen c.in-Some.ensures.looked c.in-Some.ensures.plain) c.answered.ensures.stays c.in-Ok.outs c.in-Ok.ensures.allowed c.step.new.self c.args.feed.now c.step.result
    (not_call c.in-Some.look.group c.in-Some.ensures.plain) (c.step.ensures.state c.args.feed.now) (c.step.ensures.feed c.args.feed.now) (c.step.ensures.end c.args.feed.now)

pub returns-clause-memory : goal.returns-clause-memory
returns-clause-memory g c out = absurd (cc (c.step.ensures.ran, out))

pub returns-clause-failure : goal.returns-clause-failure
returns-clause-failure g c why failing stops = absurd (cc (c.step.ensures.ran, stops))

pub returns-clause-busy : goal.returns-clause-busy
returns-clause-busy g c idles = absurd (cc (c.step.ensures.ran, idles))

pub returns-clause-harts : goal.returns-clause-harts
returns-clause-harts g c =
    count_stays c.step.new.self.core c.answered.new.self.core c.args.self.now.core c.answered.ensures.harts _ _ c.step.ensures.harts

pub returns-clause-ram : goal.returns-clause-ram
returns-clause-ram g c =
    c.step.ensures.bytes ∙ c.answered.ensures.bytes

pub returns-clause-kept : goal.returns-clause-kept
returns-clause-kept g c out = absurd (cc (c.step.ensures.ran, out))
