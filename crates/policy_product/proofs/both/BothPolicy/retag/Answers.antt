use Rattle.std.proofs.Common.{sym, ◌∙◌}
use Rattle.policy_product.specs.BothLaws.{left_part, right_part}
use Rattle.policy_product.proofs.both.BothPolicy.retag.Goals as goal

pub retag-requires : goal.retag-requires
retag-requires g c =
    left_part g.P.Policy.model g.Q.Policy.model g.P.Policy.holds g.Q.Policy.holds g.met.P.Policy.lawful g.met.Q.Policy.lawful
    c.args.self.now c.self.inside.left c.self.inside.right c.self.view_is c.args.plan.now c.map.result c.requires (sym c.knows.ensures ∙ c.if-knows.true) c.map.ensures

pub retag-requires-2 : goal.retag-requires-2
retag-requires-2 g c =
    right_part g.P.Policy.model g.Q.Policy.model g.P.Policy.holds g.Q.Policy.holds g.met.P.Policy.lawful g.met.Q.Policy.lawful
    c.args.self.now c.self.inside.left c.self.inside.right c.self.view_is c.args.plan.now c.map-2.result c.requires (sym c.knows.ensures ∙ c.if-knows.false) c.map-2.ensures
