use Rattle.std.proofs.Common.{◌≡◌, ◌∙◌, ap, false, refl, sym}
use Rattle.engine_trait.specs.Standing.{is_ready}
use Rattle.engine_trait.specs.declared.ends.TurnEnd.TheVariants as ends
use Rattle.pump_engine.specs.Pump.{PumpState, standing_by_words}
use Rattle.pump_engine.proofs.RememberLemmas.{led_after}
use Rattle.pump_engine.proofs.TurnLemmas.{idle_turn}
use Rattle.pump_engine.proofs.remembering.RememberingPumpEngine.turn.Goals as goal

-- the records are those of the last turns, however the turn ended
pub invariant_of-self : goal.invariant_of-self
invariant_of-self g c =
    let m = g.P.Policy.model in
    led_after g.P.Tag.PartialEq.eq m g.P.Policy.holds g.met.P.Policy.lawful (standing_by_words m c.self.inside.pump) c.args.feed.now c.args.h c.self.invariant
    (standing_by_words m c.turn_of_ready.new.self) c.turn_of_ready.new.feed c.turn_of_ready.result c.turn_of_ready.ensures.step c.turn_of_ready.ensures.memory

-- ---- a hart that is not ready

pub returns-then-not-is_ready-clause-step : goal.returns-then-not-is_ready-clause-step
returns-then-not-is_ready-clause-step g c has_memory =
    let m = g.P.Policy.model in
    let waits : is_ready (standing_by_words m c.args.self.now) c.args.h ≡ false =
    ap (λ (q : PumpState g.row.P.Denot g.row.P-Tag.Denot). is_ready (standing_by_words m q) c.args.h) (sym c.self.view_is)
    ∙ sym c.is_ready.ensures.ready ∙ c.if-not-is_ready.true in
    idle_turn g.P.Tag.PartialEq.eq m c.args.self.now c.args.feed.now c.args.h c.args.self.now c.args.feed.now ends.Idle waits refl refl refl

pub returns-then-not-is_ready-clause-memory : goal.returns-then-not-is_ready-clause-memory
returns-then-not-is_ready-clause-memory g c out = absurd (cc out)

pub returns-then-not-is_ready-clause-failure : goal.returns-then-not-is_ready-clause-failure
returns-then-not-is_ready-clause-failure g c why failing stops = absurd (cc stops)

pub returns-then-not-is_ready-clause-idle : goal.returns-then-not-is_ready-clause-idle
returns-then-not-is_ready-clause-idle g c idles = record { same = refl; unfed = refl }

pub returns-then-not-is_ready-clause-harts : goal.returns-then-not-is_ready-clause-harts
returns-then-not-is_ready-clause-harts g c = refl

pub returns-then-not-is_ready-clause-ram : goal.returns-then-not-is_ready-clause-ram
returns-then-not-is_ready-clause-ram g c = refl

pub returns-then-not-is_ready-clause-kept : goal.returns-then-not-is_ready-clause-kept
returns-then-not-is_ready-clause-kept g c out = absurd (cc out)
