use Rattle.std.proofs.Common.{◌≡◌, drop}
use Rattle.std.specs.List.{list_all}
use Rattle.beside_pump.specs.Runs.{has_exited}
use Rattle.beside_pump.proofs.run.have_exited.Given as goal

abbrev pub invariant-loop-stop : goal.invariant-loop-stop
invariant-loop-stop l = list_all has_exited (drop l.stop-index l.stops) ≡ list_all has_exited l.stops
