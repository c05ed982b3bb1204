use Rattle.std.proofs.Common.{◌≡◌, ◌<◌, length, refl, sym, subst, rules}
use Rattle.policy_trait.specs.Model.{IsGiven}
use Rattle.engine_trait.proofs.MachineLemmas.{served_stays}
use Rattle.engine_trait.specs.Machine.{CoreState, IsMachine, Machine}
use Rattle.engine_trait.specs.Standing.{Standing}
use Rattle.engine_trait.specs.Turn.{core_served}
use Rattle.plain_engine.proofs.plain.Plain.carry_out.Goals as goal

pub invariant_of-self-2 : goal.invariant_of-self-2
invariant_of-self-2 g c =
    let s : Machine g.row.P.Denot g.row.P-Tag.Denot = record { policy = c.self.inside.policy; core = c.self.inside.core } in
    let there = subst (λ (e : Standing g.row.P.Denot g.row.P-Tag.Denot). c.args.h < length e.machine.core.harts) (sym c.self.view_is) c.requires.hart in
    let given = subst (λ (e : Standing g.row.P.Denot g.row.P-Tag.Denot). IsGiven g.P.Policy.model e.machine.policy c.args.job.now.plan) (sym c.self.view_is) c.requires.given in
    let noted : c.commit.new.self ≡ g.P.Policy.model.commit c.self.inside.policy c.args.job.now.plan = search rules in
    let served : c.serve.new.self ≡ core_served c.self.inside.core c.args.h c.args.job.now.words.items c.args.job.now.plan.answer c.args.look.now.effect.next c.args.outs.pc = search rules in
    record {
      machine = subst (λ (policy : g.row.P.Denot). IsMachine g.P.Policy.model (record { policy = policy; core = c.serve.new.self })) (sym noted)
          (subst (λ (core : CoreState g.row.P-Tag.Denot). IsMachine g.P.Policy.model (record { policy = g.P.Policy.model.commit c.self.inside.policy c.args.job.now.plan; core = core })) (sym served)
          (served_stays g.P.Policy.model s c.self.invariant.machine g.P.Policy.holds g.met.P.Policy.lawful c.args.h c.args.job.now.plan c.args.job.now.words.items
          c.args.job.now.plan.answer c.args.look.now.effect.next c.args.outs.pc there c.requires.aligned given).machine);
      account = record { ways = refl; table = refl; sets = refl };
      past = refl;
      words = c.self.invariant.words;
    }
