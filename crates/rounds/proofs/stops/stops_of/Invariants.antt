use Rattle.std.proofs.Common.{◌≡◌, map}
use Rattle.std.specs.List.{range_with_len}
use Rattle.arrayvec.specs.ArrayVec.{array_vec_len}
use Rattle.engine_trait.specs.Machine.{stop_at}
use Rattle.rounds.proofs.stops.stops_of.Given as goal

abbrev pub invariant-loop-h : goal.invariant-loop-h
invariant-loop-h g l = record {
  stops : l.stops.items ≡ map (stop_at (g.E.Engine.standing l.engine).machine.core) (range_with_len 0 l.h);
  size : array_vec_len l.stops ≡ l.h;
}
