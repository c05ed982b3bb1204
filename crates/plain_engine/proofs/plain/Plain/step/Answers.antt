use Rattle.std.proofs.Common.{◌<◌, [], length, refl, sym, subst}
use Rattle.tag_memory.specs.Ram.{ram_bytes}
use Rattle.turn_steps.specs.Effects.{IsSound}
use Rattle.turn_steps.specs.Feeds.{tape_of}
use Rattle.engine_trait.proofs.MachineLemmas.{effected_stays}
use Rattle.engine_trait.specs.Machine.{CoreState, IsMachine, Machine}
use Rattle.engine_trait.specs.Standing.{Standing}
use Rattle.plain_engine.proofs.plain.Plain.step.Goals as goal

pub invariant_of-self : goal.invariant_of-self
invariant_of-self g c =
    let s : Machine g.row.P.Denot g.row.P-Tag.Denot = record { policy = c.self.inside.policy; core = c.self.inside.core } in
    let there = subst (λ (e : Standing g.row.P.Denot g.row.P-Tag.Denot). c.args.h < length e.machine.core.harts) (sym c.self.view_is) c.requires.hart in
    let sound = subst (λ (e : Standing g.row.P.Denot g.row.P-Tag.Denot). IsSound (ram_bytes e.machine.core.ram) c.args.look.now.effect) (sym c.self.view_is) c.requires.sound in
    record {
      machine = subst (λ (core : CoreState g.row.P-Tag.Denot). IsMachine g.P.Policy.model (record { policy = c.self.inside.policy; core = core })) (sym (c.step.ensures.core (tape_of [])))
          (effected_stays g.P.Policy.model s c.self.invariant.machine (tape_of []) c.args.h c.args.look.now c.args.outs there sound).machine;
      account = record { ways = refl; table = refl; sets = refl };
      past = refl;
      words = c.self.invariant.words;
    }
