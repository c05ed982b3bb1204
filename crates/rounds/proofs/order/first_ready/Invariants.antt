use Rattle.std.proofs.Common.{◌≡◌, ◌-◌, length}
use Rattle.rounds.specs.Course.{first_ready}
use Rattle.rounds.proofs.order.first_ready.Given as goal

abbrev pub invariant-loop-h : goal.invariant-loop-h
invariant-loop-h g l =
    let core = (g.E.Engine.standing l.engine).machine.core in
    first_ready core l.h (length core.harts - l.h) ≡ first_ready core l.from (length core.harts - l.from)
