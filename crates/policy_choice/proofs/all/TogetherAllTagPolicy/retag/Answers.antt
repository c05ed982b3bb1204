use Rattle.std.proofs.Common.{rules, ◌≡◌, true, Option, Err, refl, sym, ap, subst, ◌∙◌}
use Rattle.sealing_policy.specs.Sealing.{sealing}
use Rattle.sealing_policy.specs.declared.tag.SealTag.{SealTag}
use Rattle.compartment_policy.specs.Compartments.{compartments}
use Rattle.compartment_policy.specs.declared.tag.CompartmentTag.{CompartmentTag}
use Rattle.flow_policy.specs.Flow.{flow}
use Rattle.heap_policy.specs.Heap.{heap}
use Rattle.heap_policy.specs.declared.tag.HeapTag.{HeapTag}
use Rattle.policy_trait.specs.Maps.{ok_by, plan_by}
use Rattle.policy_trait.specs.declared.services.Plan.{Plan}
use Rattle.policy_product.specs.Maybe.{maybe}
use Rattle.policy_parts.specs.Part.{word_tag}
use Rattle.policy_choice.specs.All.{AllTag}
use Rattle.policy_choice.specs.Flat.{parts_of}
use Rattle.policy_choice.proofs.FlatLemmas.{in_a_row}
use Rattle.policy_choice.proofs.PartLemmas.{comp_given, heap_given, retag_told, seal_given}
use Rattle.policy_choice.proofs.all.TogetherAllTagPolicy.retag.Goals as goal

pub word_tag-requires : goal.word_tag-requires
word_tag-requires c owns =
    let parts = c.self.inside in
    seal_given c.args.self.now parts.seal parts.comp parts.flow parts.heap c.self.view_is c.args.plan.now c.requires c.seal_plan.result c.seal_plan.ensures
    (subst (λ (q : Plan (Option SealTag)). (maybe sealing).knows parts.seal q.service ≡ true) c.seal_plan.ensures owns)

pub word_tag-requires-2 : goal.word_tag-requires-2
word_tag-requires-2 c owns =
    let parts = c.self.inside in
    comp_given c.args.self.now parts.seal parts.comp parts.flow parts.heap c.self.view_is c.args.plan.now c.requires c.comp_plan.result c.comp_plan.ensures
    (subst (λ (q : Plan (Option CompartmentTag)). (maybe compartments).knows parts.comp q.service ≡ true) c.comp_plan.ensures owns)

pub word_tag-requires-4 : goal.word_tag-requires-4
word_tag-requires-4 c owns =
    let parts = c.self.inside in
    heap_given c.args.self.now parts.seal parts.comp parts.flow parts.heap c.self.view_is c.args.plan.now c.requires c.heap_plan.result c.heap_plan.ensures
    (subst (λ (q : Plan (Option HeapTag)). (maybe heap).knows parts.heap q.service ≡ true) c.heap_plan.ensures owns)

pub returns-in_err-comp : goal.returns-in_err-comp
returns-in_err-comp c =
    let parts = c.self.inside in
    let flow_tag = word_tag (maybe flow) parts.flow (plan_by (λ (t : AllTag). t.1.1.0) c.args.plan.now) c.args.old.1.1.0 in
    let heap_tag = word_tag (maybe heap) parts.heap (plan_by (λ (t : AllTag). t.1.1.1) c.args.plan.now) c.args.old.1.1.1 in
    let refused : c.from_residual-in_err-comp.result ≡ Err c.in_err-comp.field-0.0 = search rules in
    retag_told c.args.self.now parts.seal parts.comp parts.flow parts.heap c.self.view_is c.args.plan.now c.args.old c.requires
    c.word_tag.result c.word_tag-2.result flow_tag heap_tag
    (c.word_tag.ensures ∙ (λ i. word_tag (maybe sealing) parts.seal (c.seal_plan.ensures i) (c.old.view_is i).0))
    (c.word_tag-2.ensures ∙ (λ i. word_tag (maybe compartments) parts.comp (c.comp_plan.ensures i) (c.old.view_is i).1.0))
    refl refl c.from_residual-in_err-comp.result
    (ap (ok_by parts_of) refused ∙ (λ i. in_a_row (sym c.in_ok-seal.was i) (sym c.in_err-comp.was i) flow_tag heap_tag))

pub returns-in_err-flow : goal.returns-in_err-flow
returns-in_err-flow c =
    let parts = c.self.inside in
    let heap_tag = word_tag (maybe heap) parts.heap (plan_by (λ (t : AllTag). t.1.1.1) c.args.plan.now) c.args.old.1.1.1 in
    let refused : c.from_residual-in_err-flow.result ≡ Err c.in_err-flow.field-0.0 = search rules in
    retag_told c.args.self.now parts.seal parts.comp parts.flow parts.heap c.self.view_is c.args.plan.now c.args.old c.requires
    c.word_tag.result c.word_tag-2.result c.word_tag-3.result heap_tag
    (c.word_tag.ensures ∙ (λ i. word_tag (maybe sealing) parts.seal (c.seal_plan.ensures i) (c.old.view_is i).0))
    (c.word_tag-2.ensures ∙ (λ i. word_tag (maybe compartments) parts.comp (c.comp_plan.ensures i) (c.old.view_is i).1.0))
    (c.word_tag-3.ensures ∙ (λ i. word_tag (maybe flow) parts.flow (c.flow_plan.ensures i) (c.old.view_is i).1.1.0))
    refl c.from_residual-in_err-flow.result
    (ap (ok_by parts_of) refused ∙ (λ i. in_a_row (sym c.in_ok-seal.was i) (sym c.in_ok-comp.was i) (sym c.in_err-flow.was i) heap_tag))

pub returns-in_err-heap : goal.returns-in_err-heap
returns-in_err-heap c =
    let parts = c.self.inside in
    let refused : c.from_residual-in_err-heap.result ≡ Err c.in_err-heap.field-0.0 = search rules in
    retag_told c.args.self.now parts.seal parts.comp parts.flow parts.heap c.self.view_is c.args.plan.now c.args.old c.requires
    c.word_tag.result c.word_tag-2.result c.word_tag-3.result c.word_tag-4.result
    (c.word_tag.ensures ∙ (λ i. word_tag (maybe sealing) parts.seal (c.seal_plan.ensures i) (c.old.view_is i).0))
    (c.word_tag-2.ensures ∙ (λ i. word_tag (maybe compartments) parts.comp (c.comp_plan.ensures i) (c.old.view_is i).1.0))
    (c.word_tag-3.ensures ∙ (λ i. word_tag (maybe flow) parts.flow (c.flow_plan.ensures i) (c.old.view_is i).1.1.0))
    (c.word_tag-4.ensures ∙ (λ i. word_tag (maybe heap) parts.heap (c.heap_plan.ensures i) (c.old.view_is i).1.1.1))
    c.from_residual-in_err-heap.result
    (ap (ok_by parts_of) refused ∙ (λ i. in_a_row (sym c.in_ok-seal.was i) (sym c.in_ok-comp.was i) (sym c.in_ok-flow.was i) (sym c.in_err-heap.was i)))

pub returns : goal.returns
returns c =
    let parts = c.self.inside in
    retag_told c.args.self.now parts.seal parts.comp parts.flow parts.heap c.self.view_is c.args.plan.now c.args.old c.requires
    c.word_tag.result c.word_tag-2.result c.word_tag-3.result c.word_tag-4.result
    (c.word_tag.ensures ∙ (λ i. word_tag (maybe sealing) parts.seal (c.seal_plan.ensures i) (c.old.view_is i).0))
    (c.word_tag-2.ensures ∙ (λ i. word_tag (maybe compartments) parts.comp (c.comp_plan.ensures i) (c.old.view_is i).1.0))
    (c.word_tag-3.ensures ∙ (λ i. word_tag (maybe flow) parts.flow (c.flow_plan.ensures i) (c.old.view_is i).1.1.0))
    (c.word_tag-4.ensures ∙ (λ i. word_tag (maybe heap) parts.heap (c.heap_plan.ensures i) (c.old.view_is i).1.1.1))
    _
    (λ i. in_a_row (sym c.in_ok-seal.was i) (sym c.in_ok-comp.was i) (sym c.in_ok-flow.was i) (sym c.in_ok-heap.was i))
