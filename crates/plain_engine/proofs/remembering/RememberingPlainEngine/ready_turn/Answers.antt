use Rattle.std.proofs.Common.{◌≡◌, subst, sym, true, ◌∙◌}
use Rattle.turn_steps.specs.Feeds.{first_fed}
use Rattle.turn_steps.proofs.StepLemmas.{not_call}
use Rattle.engine_trait.specs.Standing.{GivesUp, Standing, is_ready, step}
use Rattle.engine_trait.proofs.TurnLemmas.{step_prepared}
use Rattle.plain_engine.specs.Plain.{with_past}
use Rattle.plain_engine.proofs.NotedLemmas.{effect_made}
use Rattle.plain_engine.proofs.PlainLemmas.{effect_step}
use Rattle.plain_engine.proofs.RememberingLemmas.{forgotten_past, recorded_past, recorded_step, stepped_to, unremembering}
use Rattle.plain_engine.proofs.remembering.RememberingPlainEngine.ready_turn.Goals as goal

-- a log for no record
pub invariant_of-self : goal.invariant_of-self
invariant_of-self g c =
    let turned = c.ready_turn-end in
    let ready = subst (λ (x : Standing g.row.P.Denot g.row.P-Tag.Denot). is_ready x c.args.h ≡ true) (sym c.self.view_is) c.requires.ready in
    forgotten_past g.P.Tag.PartialEq.eq g.P.Policy.model c.self.inside.plain c.self.inside.past c.args.feed.now c.args.h c.is_ready-ready.ensures.uncached ready
    g.P.Policy.holds g.met.P.Policy.lawful turned.new.self turned.new.feed turned.result c.self.invariant (c.keeps.ensures.none c.if-not-keeps.true)
    turned.ensures.step turned.ensures.memory

pub returns-then-not-keeps-clause-memory : goal.returns-then-not-keeps-clause-memory
returns-then-not-keeps-clause-memory g c out =
    let m = g.P.Policy.model in
    let eq = g.P.Tag.PartialEq.eq in
    let turned = c.ready_turn-end in
    subst (λ (x : Standing g.row.P.Denot g.row.P-Tag.Denot). GivesUp eq m x c.args.feed.now c.args.h (with_past turned.new.self c.self.inside.past) turned.new.feed) c.self.view_is
    (unremembering c.self.inside.past (c.keeps.ensures.none c.if-not-keeps.true)
    (λ (x y : Standing g.row.P.Denot g.row.P-Tag.Denot). GivesUp eq m x c.args.feed.now c.args.h y turned.new.feed)
    c.self.inside.plain turned.new.self c.is_ready-ready.ensures.unremembered c.forgets.ensures (turned.ensures.memory out))

-- the turn of a common instruction
pub invariant_of-self-2 : goal.invariant_of-self-2
invariant_of-self-2 g c =
    let m = g.P.Policy.model in
    let eq = g.P.Tag.PartialEq.eq in
    let e = c.self.inside.plain in
    let look = c.in-Some.look in
    let outs = c.in-Ok.outs in
    let feed = c.args.feed.now in
    let ready = subst (λ (x : Standing g.row.P.Denot g.row.P-Tag.Denot). is_ready x c.args.h ≡ true) (sym c.self.view_is) c.requires.ready in
    let looked = step_prepared m e.machine c.args.h look c.in-Some.ensures.seen c.in-Some.ensures.looked c.in-Some.ensures.plain in
    let ruled = sym c.ask.ensures ∙ c.in-Ok.is in
    let own = not_call look.group c.in-Some.ensures.plain in
    let steps = effect_step eq m e feed c.args.h c.is_ready-ready.ensures.uncached c.is_ready-ready.ensures.unremembered ready look outs c.step-end.new.self feed c.step-end.result
    looked ruled own (c.step-end.ensures.standing feed) (c.step-end.ensures.feed feed) (c.step-end.ensures.end feed) in
    let made = c.step_record-made.ensures (first_fed feed.left) ∙ sym (effect_made m e.machine feed c.args.h look outs looked ruled own) in
    recorded_past eq m e c.self.inside.past feed c.args.h c.is_ready-ready.ensures.uncached ready c.step-end.new.self feed c.step-end.result
    c.step_record-made.result c.push.new.self made c.push.ensures.kept g.P.Policy.holds g.met.P.Policy.lawful steps c.self.invariant

pub returns-clause-step : goal.returns-clause-step
returns-clause-step g c has_memory =
    let m = g.P.Policy.model in
    let eq = g.P.Tag.PartialEq.eq in
    let e = c.self.inside.plain in
    let look = c.in-Some.look in
    let outs = c.in-Ok.outs in
    let feed = c.args.feed.now in
    let ready = subst (λ (x : Standing g.row.P.Denot g.row.P-Tag.Denot). is_ready x c.args.h ≡ true) (sym c.self.view_is) c.requires.ready in
    let looked = step_prepared m e.machine c.args.h look c.in-Some.ensures.seen c.in-Some.ensures.looked c.in-Some.ensures.plain in
    let ruled = sym c.ask.ensures ∙ c.in-Ok.is in
    let own = not_call look.group c.in-Some.ensures.plain in
    let steps = effect_step eq m e feed c.args.h c.is_ready-ready.ensures.uncached c.is_ready-ready.ensures.unremembered ready look outs c.step-end.new.self feed c.step-end.result
    looked ruled own (c.step-end.ensures.standing feed) (c.step-end.ensures.feed feed) (c.step-end.ensures.end feed) in
    let made = c.step_record-made.ensures (first_fed feed.left) ∙ sym (effect_made m e.machine feed c.args.h look outs looked ruled own) in
    subst (λ (x : Standing g.row.P.Denot g.row.P-Tag.Denot). step eq m x feed c.args.h ≡ stepped_to (with_past c.step-end.new.self c.push.new.self) feed c.step-end.result) c.self.view_is
    (recorded_step eq m e c.self.inside.past feed c.args.h c.is_ready-ready.ensures.uncached ready c.step-end.new.self feed c.step-end.result
    c.step_record-made.result c.push.new.self made c.push.ensures.kept steps)
