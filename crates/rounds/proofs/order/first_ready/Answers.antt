use Rattle.std.proofs.Common.{◌≡◌, ◌+◌, ◌-◌, ◌<◌, length, ap, sym, ◌∙◌, arith}
use Rattle.rounds.specs.Course.{first_ready}
use Rattle.rounds.proofs.ReadinessLemmas.{is_first, none_left, not_first}
use Rattle.rounds.proofs.order.first_ready.Goals as goal

pub loop-h-preserved : goal.loop-h-preserved
loop-h-preserved g c =
    let core = (g.E.Engine.standing c.args.engine.now).machine.core in
    let below : 0 < length core.harts - c.loop-h.h = omega (arith, c.harts-h-end.ensures.harts) in
    ap (first_ready core (c.loop-h.h + 1)) (let e : length core.harts - (c.loop-h.h + 1) ≡ length core.harts - c.loop-h.h - 1 = omega arith in e)
    ∙ not_first core c.loop-h.h (length core.harts - c.loop-h.h) c.in_default.field-0 below (sym c.stop.ensures ∙ c.in_default.is)
    ∙ c.loop-h.invariant

pub returns-clause-first : goal.returns-clause-first
returns-clause-first g c =
    let core = (g.E.Engine.standing c.args.engine.now).machine.core in
    sym (none_left core c.loop-h.h (length core.harts - c.loop-h.h) (omega (arith, c.harts-h-end.ensures.harts)))
    ∙ c.loop-h.invariant

pub returns-in-loop-h-clause-first : goal.returns-in-loop-h-clause-first
returns-in-loop-h-clause-first g c =
    let core = (g.E.Engine.standing c.args.engine.now).machine.core in
    let below : 0 < length core.harts - c.loop-h.h = omega (arith, c.harts-h-end.ensures.harts) in
    let there : c.loop-h.h < length core.harts = omega (arith, c.harts-h-end.ensures.harts) in
    sym (is_first core c.loop-h.h (length core.harts - c.loop-h.h) below there (sym c.stop.ensures ∙ c.in-None.is))
    ∙ c.loop-h.invariant
