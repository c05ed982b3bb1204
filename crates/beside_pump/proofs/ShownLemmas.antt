-- What is shown of a run that comes to no end.
use Rattle.std.proofs.Common.{Err, None, [], refl}
use Rattle.host_io.specs.Pieces.{PutsPrefix, Taken}
use Rattle.rounds.specs.Course.{Course}
use Rattle.rounds.specs.Shown.{pieces_of}
use Rattle.beside_pump.specs.Runs.{ShowsRun}

module _ {S T E : Type 0} (course : Course S T) (end : E) where
  -- the telling was cut short
  pub cut_short : (before now : Taken) → PutsPrefix before now (pieces_of course.events) → ShowsRun before now course (Err end)
  cut_short before now put = record { shown = put; ended = tt }

  -- nothing was put
  pub untold : (taken : Taken) → ShowsRun taken taken course (Err end)
  untold taken = cut_short taken taken (record { whole = []; begun = None; rest = pieces_of course.events; due = refl; prefix = tt; taken = refl })
