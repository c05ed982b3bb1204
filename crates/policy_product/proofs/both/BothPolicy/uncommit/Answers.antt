use Rattle.std.proofs.Common.{sym, ap, ◌∙◌}
use Rattle.policy_trait.specs.UseLaws.{taken_back_knows}
use Rattle.policy_product.specs.BothLaws.{left_committed, right_committed}
use Rattle.policy_product.proofs.both.BothPolicy.uncommit.Goals as goal

pub uncommit-requires : goal.uncommit-requires
uncommit-requires g c =
    left_committed g.P.Policy.model g.Q.Policy.model g.P.Policy.holds g.Q.Policy.holds g.met.P.Policy.lawful g.met.Q.Policy.lawful
    c.args.self.now c.self.inside.left c.self.inside.right c.self.view_is c.args.plan.now c.map.result c.requires (sym c.knows.ensures ∙ c.if-knows.true) c.map.ensures

pub uncommit-requires-else-knows : goal.uncommit-requires-else-knows
uncommit-requires-else-knows g c =
    right_committed g.P.Policy.model g.Q.Policy.model g.P.Policy.holds g.Q.Policy.holds g.met.P.Policy.lawful g.met.Q.Policy.lawful
    c.args.self.now c.self.inside.left c.self.inside.right c.self.view_is c.args.plan.now c.map-else-knows.result c.requires (sym c.knows.ensures ∙ c.if-knows.false) c.map-else-knows.ensures

pub invariant_of-self : goal.invariant_of-self
invariant_of-self g c =
    let committed =
    left_committed g.P.Policy.model g.Q.Policy.model g.P.Policy.holds g.Q.Policy.holds g.met.P.Policy.lawful g.met.Q.Policy.lawful
    c.args.self.now c.self.inside.left c.self.inside.right c.self.view_is c.args.plan.now c.map.result c.requires (sym c.knows.ensures ∙ c.if-knows.true) c.map.ensures in
    let same = taken_back_knows g.P.Policy.model g.P.Policy.holds g.met.P.Policy.lawful c.self.inside.left c.map.result committed in
    λ k known. c.self.invariant k (sym (ap (λ s. g.P.Policy.model.knows s k) c.uncommit.ensures ∙ same k) ∙ known)

pub invariant_of-self-else-knows : goal.invariant_of-self-else-knows
invariant_of-self-else-knows g c =
    let committed =
    right_committed g.P.Policy.model g.Q.Policy.model g.P.Policy.holds g.Q.Policy.holds g.met.P.Policy.lawful g.met.Q.Policy.lawful
    c.args.self.now c.self.inside.left c.self.inside.right c.self.view_is c.args.plan.now c.map-else-knows.result c.requires (sym c.knows.ensures ∙ c.if-knows.false) c.map-else-knows.ensures in
    let same = taken_back_knows g.Q.Policy.model g.Q.Policy.holds g.met.Q.Policy.lawful c.self.inside.right c.map-else-knows.result committed in
    λ k known. ap (λ s. g.Q.Policy.model.knows s k) c.uncommit-else-knows.ensures ∙ same k ∙ c.self.invariant k known
