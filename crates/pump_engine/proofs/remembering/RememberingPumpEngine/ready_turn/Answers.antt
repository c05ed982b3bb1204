use Rattle.pump_engine.specs.Pump.{standing_by_words}
use Rattle.pump_engine.proofs.RememberLemmas.{led_after}
use Rattle.pump_engine.proofs.remembering.RememberingPumpEngine.ready_turn.Goals as goal

-- the records are those of the last turns, however the turn ended
pub invariant_of-self : goal.invariant_of-self
invariant_of-self g c =
    let m = g.P.Policy.model in
    led_after g.P.Tag.PartialEq.eq m g.P.Policy.holds g.met.P.Policy.lawful (standing_by_words m c.self.inside.pump) c.args.feed.now c.args.h c.self.invariant
    (standing_by_words m c.turn_of_ready.new.self) c.turn_of_ready.new.feed c.turn_of_ready.result c.turn_of_ready.ensures.step c.turn_of_ready.ensures.memory
