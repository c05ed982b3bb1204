use Rattle.std.proofs.Common.{◌∙◌, refl, sym}
use Rattle.engine_trait.specs.declared.ends.TurnEnd.TheVariants as ends
use Rattle.pump_engine.proofs.TurnLemmas.{idle_turn}
use Rattle.pump_engine.proofs.pump.engine.PumpNoLogTagEngine.turn.Goals as goal

pub returns-then-not-is_ready-clause-step : goal.returns-then-not-is_ready-clause-step
returns-then-not-is_ready-clause-step g c has_memory =
    idle_turn g.P.Tag.PartialEq.eq g.P.Policy.model c.args.self.now c.args.feed.now c.args.h c.args.self.now c.args.feed.now ends.Idle (sym c.is_ready.ensures.ready ∙ c.if-not-is_ready.true) refl refl refl

pub returns-then-not-is_ready-clause-memory : goal.returns-then-not-is_ready-clause-memory
returns-then-not-is_ready-clause-memory g c out = absurd (cc out)

pub returns-then-not-is_ready-clause-failure : goal.returns-then-not-is_ready-clause-failure
returns-then-not-is_ready-clause-failure g c why failing stops = absurd (cc stops)

pub returns-then-not-is_ready-clause-idle : goal.returns-then-not-is_ready-clause-idle
returns-then-not-is_ready-clause-idle g c idles = record { same = refl; unfed = refl }

pub returns-then-not-is_ready-clause-harts : goal.returns-then-not-is_ready-clause-harts
returns-then-not-is_ready-clause-harts g c = refl

pub returns-then-not-is_ready-clause-ram : goal.returns-then-not-is_ready-clause-ram
returns-then-not-is_ready-clause-ram g c = refl

pub returns-then-not-is_ready-clause-kept : goal.returns-then-not-is_ready-clause-kept
returns-then-not-is_ready-clause-kept g c out = absurd (cc out)
