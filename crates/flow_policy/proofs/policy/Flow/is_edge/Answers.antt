-- What the set of the edges in order has, the list of the edges has.
use Rattle.std.proofs.Common.{ap, ◌∙◌}
use Rattle.flow_policy.specs.Flow.{is_edge}
use Rattle.flow_policy.proofs.EdgeLemmas.{sorted_has}
use Rattle.flow_policy.proofs.policy.Flow.is_edge.Goals as goal

pub returns : goal.returns
returns c =
    c.contains.ensures ∙ sorted_has c.args.source c.args.target c.self.inside.edges.items c.self.inside.sorted c.self.invariant
    ∙ ap (λ edges. is_edge edges c.args.source c.args.target) c.self.view_is
