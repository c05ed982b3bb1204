use Rattle.std.proofs.Common.{subst, sym}
use Rattle.engine_trait.specs.Back.{IsPastOf}
use Rattle.engine_trait.proofs.PastLemmas.{past_none}
use Rattle.plain_engine.proofs.remembering.RememberingPlain.new.Goals as goal

-- there is no record, and the machine is sound
pub invariant_of-result : goal.invariant_of-result
invariant_of-result g c =
    let m = g.P.Policy.model in
    let valid = subst g.P.Policy.holds c.policy.ensures c.plain-plain.ensures.valid in
    subst (IsPastOf m g.P.Policy.holds c.args.plain.machine) (sym c.requires)
    (past_none m g.P.Policy.holds g.met.P.Policy.lawful c.args.plain.machine c.harts-harts.ensures.sound valid)
