use Rattle.std.proofs.Common.{sym, ◌∙◌}
use Rattle.policy_choice.proofs.PartLemmas.{comp_committed, flow_committed, heap_committed, seal_committed}
use Rattle.policy_choice.proofs.all.TogetherAllTagPolicy.uncommit.Goals as goal

pub uncommit-requires : goal.uncommit-requires
uncommit-requires c =
    let parts = c.self.inside in
    seal_committed c.args.self.now parts.seal parts.comp parts.flow parts.heap c.self.view_is c.args.plan.now c.requires
    c.seal_plan.result c.seal_plan.ensures (sym c.knows.ensures ∙ c.if-knows.true)

pub uncommit-requires-then-knows-2 : goal.uncommit-requires-then-knows-2
uncommit-requires-then-knows-2 c =
    let parts = c.self.inside in
    comp_committed c.args.self.now parts.seal parts.comp parts.flow parts.heap c.self.view_is c.args.plan.now c.requires
    c.comp_plan.result c.comp_plan.ensures (sym c.knows.ensures ∙ c.if-knows.false) (sym c.knows-else-knows.ensures ∙ c.if-knows-2.true)

pub uncommit-requires-then-knows-3 : goal.uncommit-requires-then-knows-3
uncommit-requires-then-knows-3 c =
    let parts = c.self.inside in
    flow_committed c.args.self.now parts.seal parts.comp parts.flow parts.heap c.self.view_is c.args.plan.now c.requires
    c.flow_plan.result (sym c.knows-else-knows-2.ensures ∙ c.if-knows-3.true)

pub uncommit-requires-else-knows-3 : goal.uncommit-requires-else-knows-3
uncommit-requires-else-knows-3 c =
    let parts = c.self.inside in
    heap_committed c.args.self.now parts.seal parts.comp parts.flow parts.heap c.self.view_is c.args.plan.now c.requires
    c.heap_plan.result c.heap_plan.ensures
    (sym c.knows.ensures ∙ c.if-knows.false) (sym c.knows-else-knows.ensures ∙ c.if-knows-2.false) (sym c.knows-else-knows-2.ensures ∙ c.if-knows-3.false)
