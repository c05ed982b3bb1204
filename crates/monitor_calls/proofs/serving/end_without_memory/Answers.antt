use Rattle.std.proofs.Common.{◌≡◌, ap, sym, ◌∙◌, arith}
use Rattle.monitor_calls.specs.declared.serving.ServeEnd.TheVariants as serve_end
use Rattle.monitor_calls.proofs.StepLemmas.{ends_on, none_left, refused_here}
use Rattle.monitor_calls.proofs.serving.end_without_memory.Goals as goal

pub returns-in-Err : goal.returns-in-Err
returns-in-Err g c =
    c.loop-place.invariant (serve_end.Refused c.in-Err.refused)
    (refused_here g.P.Policy.model c.args.policy.now (g.W.View.word_at c.args.view.now) (g.W.View.tag_at c.args.view.now) c.args.plan.now c.args.range.base c.args.range.count c.loop-place.place c.in-Err.refused c.loop-place-test.true
    (ap (g.P.Policy.model.retag c.args.policy.now c.args.plan.now) (sym c.tag.ensures) ∙ sym c.retag.ensures ∙ c.in-Err.is))

pub returns : goal.returns
returns g c =
    let all : c.loop-place.place ≡ c.args.range.count = omega (arith, c.loop-place.auto.place-end c.requires.first) in
    c.loop-place.invariant serve_end.Memory
    (none_left g.P.Policy.model c.args.policy.now (g.W.View.word_at c.args.view.now) (g.W.View.tag_at c.args.view.now) c.args.plan.now c.args.range.base c.args.range.count c.loop-place.place all)

pub loop-place-preserved : goal.loop-place-preserved
loop-place-preserved g c = λ e ends.
    c.loop-place.invariant e
    (ends_on g.P.Policy.model c.args.policy.now (g.W.View.word_at c.args.view.now) (g.W.View.tag_at c.args.view.now) c.args.plan.now e c.args.range.base c.args.range.count c.loop-place.place c.in_default.field-0 c.loop-place-test.true
    (ap (g.P.Policy.model.retag c.args.policy.now c.args.plan.now) (sym c.tag.ensures) ∙ sym c.retag.ensures ∙ c.in_default.is) ends)
