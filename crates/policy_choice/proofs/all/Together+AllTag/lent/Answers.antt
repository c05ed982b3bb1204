use Rattle.std.proofs.Common.{ap, ◌∙◌}
use Rattle.sealing_policy.specs.Sealing.{sealing}
use Rattle.compartment_policy.specs.Compartments.{compartments}
use Rattle.flow_policy.specs.Flow.{flow}
use Rattle.heap_policy.specs.Heap.{heap}
use Rattle.policy_product.specs.Maybe.{maybe}
use Rattle.policy_choice.specs.Flat.{lent_to_others}
use Rattle.policy_choice.proofs.PartLemmas.{lent_last, lent_told}
use Rattle.policy_choice.proofs.all.Together+AllTag.lent.Goals as goal

pub returns : goal.returns
returns c =
    let parts = c.self.inside in
    let number = c.args.number in
    let uses = c.uses-uses.result in
    lent_told c.args.self.now parts.seal parts.comp parts.flow parts.heap c.self.view_is number uses c.args.arguments.now c.uses-uses.ensures.value
    c.lend_to_others.result c.lend_to_others-2.result c.lend_to_others-3.result c.lend_to_others-4.result
    (c.lend_to_others.ensures ∙ ap (lent_to_others (maybe sealing) parts.seal number uses) c.map.ensures)
    (c.lend_to_others-2.ensures ∙ ap (lent_to_others (maybe compartments) parts.comp number uses) c.map-2.ensures)
    (c.lend_to_others-3.ensures ∙ ap (lent_to_others (maybe flow) parts.flow number uses) c.map-3.ensures)
    (c.lend_to_others-4.ensures ∙ ap (lent_to_others (maybe heap) parts.heap number uses) c.map-4.ensures)
    c.lend_to_others-4.result
    (lent_last _ _ _ _ _ _ _ c.in_ok-lend_to_others.was c.in_ok-lend_to_others-2.was c.in_ok-lend_to_others-3.was)
