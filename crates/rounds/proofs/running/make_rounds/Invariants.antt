use Rattle.std.proofs.Common.{◌≡◌, ℕ, ◌-◌}
use Rattle.rounds.specs.Course.{next_turn, order_in, rounds}
use Rattle.rounds.proofs.TurnLemmas.{IsLeft}
use Rattle.rounds.proofs.running.make_rounds.Given as goal

abbrev pub invariant-loop : goal.invariant-loop
invariant-loop g l = record {
  -- the next turn is the first from a place on
  from : ℕ;
  next : l.next ≡ next_turn (g.E.Engine.standing l.engine) from;
  order : l.order.items ≡ order_in (g.E.Engine.standing l.engine).machine.core;
  rest :
      IsLeft (rounds g.E.P.Tag.PartialEq.eq g.E.P.Policy.model (l.limit - l.counter) from (g.E.Engine.standing l.engine) l.feed)
      (rounds g.E.P.Tag.PartialEq.eq g.E.P.Policy.model l.limit 0 (g.E.Engine.standing l.fn.engine) l.fn.feed)
      (record { out = g.K.Sink.taken l.fn.out; err = g.L.Sink.taken l.fn.err })
      (record { out = g.K.Sink.taken l.out; err = g.L.Sink.taken l.err });
  out_faults : g.K.Sink.faults l.out ≡ g.K.Sink.faults l.fn.out;
  err_faults : g.L.Sink.faults l.err ≡ g.L.Sink.faults l.fn.err;
}
