use Rattle.pump_engine.proofs.StayLemmas.{pump_at, pump_stopped}
use Rattle.pump_engine.proofs.pump.Pump.stop_hart.Goals as goal
use Rattle.pump_engine.specs.Pump.{PumpState, pump_of}
use Rattle.pump_engine.specs.Steps.{after_stop}

pub invariant_of-self : goal.invariant_of-self
invariant_of-self g c =
    let p : PumpState g.row.P.Denot g.row.P-Tag.Denot =
    pump_of c.self.inside.policy c.self.inside.core (g.T.TagTable.state c.self.inside.tags) (g.C.RuleStore.state c.self.inside.store) c.self.inside.turns c.self.inside.sweeps c.self.inside.halt (g.H.WordLog.past c.self.inside.log) in
    record {
      pump = pump_at g.P.Policy.model (after_stop p c.args.h c.args.why) (pump_stopped g.P.Policy.model p c.self.invariant.pump c.args.h c.args.why)
          c.stop_hart.new.self c.stop_hart.ensures (g.H.WordLog.past c.remember_stop.new.log) c.remember_stop.ensures
          c.count_up.new.count c.self.inside.sweeps c.self.inside.halt;
      masks_are = c.self.invariant.masks_are;
      open_are = c.self.invariant.open_are;
    }
