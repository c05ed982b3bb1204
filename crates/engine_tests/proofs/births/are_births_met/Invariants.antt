use Rattle.std.proofs.Common.{◌≡◌}
use Rattle.engine_tests.proofs.births.are_births_met.Given as goal

abbrev pub invariant-loop-row : goal.invariant-loop-row
invariant-loop-row l = l.births.ram ≡ l.ram
