use Rattle.std.proofs.Common.{sym, ◌∙◌}
use Rattle.policy_product.specs.BothLaws.{knows_same, left_part, right_part}
use Rattle.policy_product.proofs.both.BothPolicy.commit.Goals as goal

pub commit-requires : goal.commit-requires
commit-requires g c =
    left_part g.P.Policy.model g.Q.Policy.model g.P.Policy.holds g.Q.Policy.holds g.met.P.Policy.lawful g.met.Q.Policy.lawful
    c.args.self.now c.self.inside.left c.self.inside.right c.self.view_is c.args.plan.now c.map.result c.requires (sym c.knows.ensures ∙ c.if-knows.true) c.map.ensures

pub commit-requires-else-knows : goal.commit-requires-else-knows
commit-requires-else-knows g c =
    right_part g.P.Policy.model g.Q.Policy.model g.P.Policy.holds g.Q.Policy.holds g.met.P.Policy.lawful g.met.Q.Policy.lawful
    c.args.self.now c.self.inside.left c.self.inside.right c.self.view_is c.args.plan.now c.map-else-knows.result c.requires (sym c.knows.ensures ∙ c.if-knows.false) c.map-else-knows.ensures

pub invariant_of-self : goal.invariant_of-self
invariant_of-self g c =
    let given =
    left_part g.P.Policy.model g.Q.Policy.model g.P.Policy.holds g.Q.Policy.holds g.met.P.Policy.lawful g.met.Q.Policy.lawful
    c.args.self.now c.self.inside.left c.self.inside.right c.self.view_is c.args.plan.now c.map.result c.requires (sym c.knows.ensures ∙ c.if-knows.true) c.map.ensures in
    let same =
    knows_same g.P.Policy.model c.self.inside.left c.commit.new.self (g.P.Policy.model.commit c.self.inside.left c.map.result) c.commit.result c.commit.ensures.ok c.commit.ensures.err
    (g.met.P.Policy.lawful.keeps c.self.inside.left c.map.result given).knows in
    λ k known. c.self.invariant k (sym (same k) ∙ known)

pub invariant_of-self-else-knows : goal.invariant_of-self-else-knows
invariant_of-self-else-knows g c =
    let given =
    right_part g.P.Policy.model g.Q.Policy.model g.P.Policy.holds g.Q.Policy.holds g.met.P.Policy.lawful g.met.Q.Policy.lawful
    c.args.self.now c.self.inside.left c.self.inside.right c.self.view_is c.args.plan.now c.map-else-knows.result c.requires (sym c.knows.ensures ∙ c.if-knows.false) c.map-else-knows.ensures in
    let same =
    knows_same g.Q.Policy.model c.self.inside.right c.commit-else-knows.new.self (g.Q.Policy.model.commit c.self.inside.right c.map-else-knows.result) c.commit-else-knows.result
    c.commit-else-knows.ensures.ok c.commit-else-knows.ensures.err (g.met.Q.Policy.lawful.keeps c.self.inside.right c.map-else-knows.result given).knows in
    λ k known. same k ∙ c.self.invariant k known
