use Rattle.std.proofs.Common.{◌≡◌, ◌+◌, map}
use Rattle.std.specs.List.{range_with_len}
use Rattle.arrayvec.specs.ArrayVec.{array_vec_len}
use Rattle.rounds.specs.Course.{next_hart}
use Rattle.rounds.proofs.order.order_of.Given as goal

abbrev pub invariant-loop-h : goal.invariant-loop-h
invariant-loop-h g l = record {
  order : l.order.items ≡ map (λ h. next_hart (g.E.Engine.standing l.engine).machine.core (h + 1)) (range_with_len 0 l.h);
  size : array_vec_len l.order ≡ l.h;
}
