-- Which answers of rounds raise the counts of the two sinks.
use Rattle.std.specs.Prelude.{◌≡◌, Result, Ok, Err}
use Rattle.host_io.specs.TwoSinks.{OneRose, PutFaults}
use Rattle.host_io.specs.declared.traits.sink.PutEnd.TheVariants as put_end
use Rattle.rounds.specs.declared.running.RoundsEnd.{RoundsEnd}
use Rattle.rounds.specs.declared.running.RoundsEnd.TheVariants.{Engine, Put}

-- one of the counts rises where a put failed, and every other answer leaves both
abbrev pub RoundsCause : {A : Type 0} → PutFaults → PutFaults → Result A RoundsEnd → Type 0
RoundsCause before now (Ok _) = now ≡ before
RoundsCause before now (Err (Put put_end.Failed)) = OneRose before now
RoundsCause before now (Err (Put put_end.Memory)) = now ≡ before
RoundsCause before now (Err Engine) = now ≡ before
