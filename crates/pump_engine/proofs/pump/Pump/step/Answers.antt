use Rattle.std.proofs.Common.{◌<◌, [], ◌∙◌, None, ap, length, sym, subst}
use Rattle.tag_memory.specs.Ram.{ram_bytes}
use Rattle.turn_steps.specs.Effects.{IsSound}
use Rattle.turn_steps.specs.Feeds.{first_fed, tape_of}
use Rattle.undo_log.specs.Past.{pushed}
use Rattle.engine_trait.proofs.PastLemmas.{next_unused}
use Rattle.miss_handler.specs.Asked.{AreOutWords}
use Rattle.pump_engine.proofs.StayLemmas.{pump_at, pump_effected}
use Rattle.pump_engine.proofs.pump.Pump.step.Goals as goal
use Rattle.pump_engine.specs.Pump.{PumpState, pump_of}
use Rattle.pump_engine.specs.Steps.{after_effect}

pub invariant_of-self : goal.invariant_of-self
invariant_of-self g c =
    let p : PumpState g.row.P.Denot g.row.P-Tag.Denot =
    pump_of c.self.inside.policy c.self.inside.core (g.T.TagTable.state c.self.inside.tags) (g.C.RuleStore.state c.self.inside.store) c.self.inside.turns c.self.inside.sweeps c.self.inside.halt (g.H.WordLog.past c.self.inside.log) in
    let there = subst (λ (q : PumpState g.row.P.Denot g.row.P-Tag.Denot). c.args.h < length q.core.harts) (sym c.self.view_is) c.requires.hart in
    let sound = subst (λ (q : PumpState g.row.P.Denot g.row.P-Tag.Denot). IsSound (ram_bytes q.core.ram) c.args.look.now.effect) (sym c.self.view_is) c.requires.sound in
    let outputs = subst (λ (q : PumpState g.row.P.Denot g.row.P-Tag.Denot). AreOutWords (length q.table.tags) c.args.outs) (sym c.self.view_is) c.requires.out_words in
    record {
      pump = pump_at g.P.Policy.model (after_effect p (tape_of []) c.args.h c.args.look.now c.args.outs)
          (pump_effected g.P.Policy.model p c.self.invariant.pump (tape_of []) c.args.h c.args.look.now c.args.outs there sound outputs)
          c.step.new.self (c.step.ensures.core (tape_of [])) (g.H.WordLog.past c.remember_step.new.log) c.remember_step.ensures
          c.count_up.new.count c.self.inside.sweeps c.self.inside.halt;
      masks_are = c.self.invariant.masks_are;
      open_are = c.self.invariant.open_are;
    }

-- what is fed has no part in the record either
pub returns-clause-state : goal.returns-clause-state
returns-clause-state g c feed =
    let p : PumpState g.row.P.Denot g.row.P-Tag.Denot =
    pump_of c.self.inside.policy c.self.inside.core (g.T.TagTable.state c.self.inside.tags) (g.C.RuleStore.state c.self.inside.store) c.self.inside.turns c.self.inside.sweeps c.self.inside.halt (g.H.WordLog.past c.self.inside.log) in
    let remembered = c.remember_step.ensures
    ∙ ap (pushed p.past) (next_unused c.args.look.now.group p.core None (first_fed feed.left) c.args.h c.args.look.now c.requires.plain) in
    (λ j. pump_of p.policy (c.step.ensures.core feed j) p.table p.store (c.count_up.ensures j) p.sweeps p.halt (remembered j))
    ∙ ap (λ (q : PumpState g.row.P.Denot g.row.P-Tag.Denot). after_effect q feed c.args.h c.args.look.now c.args.outs) c.self.view_is
