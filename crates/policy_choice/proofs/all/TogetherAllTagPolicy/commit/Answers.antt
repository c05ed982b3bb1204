use Rattle.std.proofs.Common.{sym, ◌∙◌}
use Rattle.policy_choice.proofs.PartLemmas.{comp_given, heap_given, heap_owns, seal_given}
use Rattle.policy_choice.proofs.all.TogetherAllTagPolicy.commit.Goals as goal

pub commit-requires : goal.commit-requires
commit-requires c =
    let parts = c.self.inside in
    seal_given c.args.self.now parts.seal parts.comp parts.flow parts.heap c.self.view_is c.args.plan.now c.requires
    c.seal_plan.result c.seal_plan.ensures (sym c.knows.ensures ∙ c.if-knows.true)

pub commit-requires-then-knows-2 : goal.commit-requires-then-knows-2
commit-requires-then-knows-2 c =
    let parts = c.self.inside in
    comp_given c.args.self.now parts.seal parts.comp parts.flow parts.heap c.self.view_is c.args.plan.now c.requires
    c.comp_plan.result c.comp_plan.ensures (sym c.knows-else-knows.ensures ∙ c.if-knows-2.true)

pub commit-requires-else-knows-3 : goal.commit-requires-else-knows-3
commit-requires-else-knows-3 c =
    let parts = c.self.inside in
    let owns =
    heap_owns c.args.self.now parts.seal parts.comp parts.flow parts.heap c.self.view_is c.args.plan.now c.requires
    (sym c.knows.ensures ∙ c.if-knows.false) (sym c.knows-else-knows.ensures ∙ c.if-knows-2.false) (sym c.knows-else-knows-2.ensures ∙ c.if-knows-3.false) in
    heap_given c.args.self.now parts.seal parts.comp parts.flow parts.heap c.self.view_is c.args.plan.now c.requires
    c.heap_plan.result c.heap_plan.ensures owns
