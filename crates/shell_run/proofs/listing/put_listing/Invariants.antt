use Rattle.std.proofs.Common.{◌≡◌}
use Rattle.shell_turns.specs.Cuts.{PutsOut}
use Rattle.shell_turns.proofs.PutLemmas.{done}
use Rattle.shell_run.specs.Listings.{line_of}
use Rattle.shell_run.specs.Shown.{lines_from}
use Rattle.shell_run.proofs.listing.put_listing.Given as goal

abbrev pub invariant-loop-k : goal.invariant-loop-k
invariant-loop-k g l = record {
  puts : PutsOut (g.K.Sink.taken l.fn.out) (g.K.Sink.taken l.out) (lines_from (line_of g.E.P.Policy.model (g.E.Engine.standing l.engine).machine l.listing) 0 l.k) done;
  faults : g.K.Sink.faults l.out ≡ g.K.Sink.faults l.fn.out;
}
