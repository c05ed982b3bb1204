use Rattle.std.proofs.Common.{rules}
use Rattle.policy_product.specs.MaybeLaws.{on_committed}
use Rattle.policy_product.proofs.maybe.MaybePolicy.uncommit.Goals as goal

pub uncommit-requires : goal.uncommit-requires
uncommit-requires g c =
    let committed = on_committed g.P.Policy.model g.P.Policy.holds g.met.P.Policy.lawful c.args.self.now c.in-Some.part c.args.plan.now c.in-Some.is c.requires in
    search rules
