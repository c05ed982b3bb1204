use Rattle.std.proofs.Common.{rules}
use Rattle.policy_product.specs.MaybeLaws.{on_given_at}
use Rattle.policy_product.proofs.maybe.MaybePolicy.commit.Goals as goal

pub commit-requires : goal.commit-requires
commit-requires g c =
    let given = on_given_at g.P.Policy.model g.P.Policy.holds g.met.P.Policy.lawful c.args.self.now c.in-Some.part c.args.plan.now c.in-Some.is c.requires in
    search rules
