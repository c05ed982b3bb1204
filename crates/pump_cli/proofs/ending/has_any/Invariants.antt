use Rattle.std.proofs.Common.{◌≡◌, drop}
use Rattle.std.specs.List.{list_any}
use Rattle.pump_cli.specs.Endings.{is_of}
use Rattle.pump_cli.proofs.ending.has_any.Given as goal

abbrev pub invariant-loop-stop : goal.invariant-loop-stop
invariant-loop-stop l = list_any (is_of l.kind) (drop l.stop-index l.stops) ≡ list_any (is_of l.kind) l.stops
