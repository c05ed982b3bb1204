use Rattle.std.proofs.Common.{◌<◌, ◌∙◌, ap, length, sym, subst}
use Rattle.tag_memory.specs.Ram.{ram_bytes}
use Rattle.turn_steps.specs.Effects.{IsSound}
use Rattle.undo_log.specs.Past.{pushed}
use Rattle.engine_trait.specs.History.{record_by}
use Rattle.miss_handler.specs.Asked.{AreOutWords}
use Rattle.pump_engine.proofs.StayLemmas.{pump_at, pump_effected}
use Rattle.pump_engine.proofs.pump.Pump.effect.Goals as goal
use Rattle.pump_engine.specs.Pump.{PumpState, pump_of}
use Rattle.pump_engine.specs.Steps.{after_effect}

pub invariant_of-self : goal.invariant_of-self
invariant_of-self g c =
    let p : PumpState g.row.P.Denot g.row.P-Tag.Denot =
    pump_of c.self.inside.policy c.self.inside.core (g.T.TagTable.state c.self.inside.tags) (g.C.RuleStore.state c.self.inside.store) c.self.inside.turns c.self.inside.sweeps c.self.inside.halt (g.H.WordLog.past c.self.inside.log) in
    let there = subst (λ (q : PumpState g.row.P.Denot g.row.P-Tag.Denot). c.args.h < length q.core.harts) (sym c.self.view_is) c.requires.hart in
    let sound = subst (λ (q : PumpState g.row.P.Denot g.row.P-Tag.Denot). IsSound (ram_bytes q.core.ram) c.args.look.now.effect) (sym c.self.view_is) c.requires.sound in
    let outputs = subst (λ (q : PumpState g.row.P.Denot g.row.P-Tag.Denot). AreOutWords (length q.table.tags) c.args.outs) (sym c.self.view_is) c.requires.out_words in
    let remembered = c.remember_effect.ensures
    ∙ ap (λ next. pushed (g.H.WordLog.past c.self.inside.log) (record_by c.args.look.now.group c.self.inside.core next c.args.h c.args.look.now)) c.peek.ensures in
    record {
      pump = pump_at g.P.Policy.model (after_effect p c.args.feed.now c.args.h c.args.look.now c.args.outs)
          (pump_effected g.P.Policy.model p c.self.invariant.pump c.args.feed.now c.args.h c.args.look.now c.args.outs there sound outputs)
          c.effect.new.self c.effect.ensures.core (g.H.WordLog.past c.remember_effect.new.log) remembered
          c.count_up.new.count c.self.inside.sweeps c.self.inside.halt;
      masks_are = c.self.invariant.masks_are;
      open_are = c.self.invariant.open_are;
    }
