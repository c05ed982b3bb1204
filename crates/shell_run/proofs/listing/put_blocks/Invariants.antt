use Rattle.std.proofs.Common.{◌≡◌, List}
use Rattle.host_io.specs.Pieces.{Piece}
use Rattle.shell_turns.specs.Cuts.{PutsOut}
use Rattle.shell_turns.proofs.PutLemmas.{done}
use Rattle.shell_run.proofs.ListingLemmas.{BlockWay}
use Rattle.shell_run.proofs.listing.put_blocks.Given as goal

abbrev pub invariant-loop-place : goal.invariant-loop-place
invariant-loop-place g l = record {
  -- what was told of the blocks before
  pieces : List Piece;
  way : BlockWay g.E.P.Policy.model (g.E.Engine.standing l.engine).machine l.place pieces;
  puts : PutsOut (g.K.Sink.taken l.fn.out) (g.K.Sink.taken l.out) pieces done;
  faults : g.K.Sink.faults l.out ≡ g.K.Sink.faults l.fn.out;
}
