use Rattle.std.proofs.Common.{◌≡◌, ℕ, ◌≤◌, List, length}
use Rattle.host_io.specs.Pieces.{Piece}
use Rattle.shell_turns.specs.Cuts.{PutsOut}
use Rattle.shell_turns.specs.Order.{AreHarts, order_of}
use Rattle.shell_turns.proofs.PutLemmas.{done}
use Rattle.shell_turns.proofs.TurnLemmas.{Way}
use Rattle.shell_turns.proofs.turning.make_turns.Given as goal

abbrev pub invariant-loop : goal.invariant-loop
invariant-loop g l = record {
  -- what the turns told that were made, and the harts of those that were counted
  pieces : List Piece;
  harts : List ℕ;
  way :
      Way g.E.P.Tag.PartialEq.eq g.E.P.Policy.model l.breaks (order_of l.fn.order) (g.E.Engine.standing l.fn.engine) l.fn.feed
      l.counter pieces harts (order_of l.order) (g.E.Engine.standing l.engine) l.feed;
  named : AreHarts (length (g.E.Engine.standing l.engine).machine.core.harts) (order_of l.order);
  count : l.count ≡ length harts;
  few : l.count ≤ l.counter;
  stay : length (g.E.Engine.standing l.engine).machine.core.harts ≡ length (g.E.Engine.standing l.fn.engine).machine.core.harts;
  puts : PutsOut (g.K.Sink.taken l.fn.out) (g.K.Sink.taken l.out) pieces done;
  faults : g.K.Sink.faults l.out ≡ g.K.Sink.faults l.fn.out;
}
