-- What `pump` guarantees: a record of named facts over the environment before and after the call.
use Rattle.std.specs.Prelude.{◌≡◌, ◌≢◌, Option, Some, None, IfSome}
use Rattle.host_io.specs.Environment.{Environment}
use Rattle.host_io.specs.Pieces.{PutsPrefix}
use Rattle.pump_line.specs.Task.{Task}
use Rattle.pump_cli.specs.Calls.{CallsMade, FaultBy, HeldAfter}
use Rattle.pump_cli.specs.Codes.{IsFinal, IsOfRefusal, IsSilent}
use Rattle.pump_cli.specs.Endings.{Outcome}
use Rattle.pump_cli.specs.Facts.{AllStayed, Finishes, TaskFacts}
use Rattle.pump_cli.specs.Program.{outcome_of_task}
use Rattle.pump_cli.specs.declared.status.Status.{Status}
use Rattle.pump_cli.specs.declared.status.Status.TheVariants.{BadWords, Memory}

-- `due` is what the definition of the program says, where the content that it rests on is told; `task` is what the words ask
-- for.
pub record Headline {I : Type 0} (due : Option Outcome) (task : Option Task) (status : Status) (before after : Environment I) : Type 0 where
  -- No fault, and memory did not run out: all the pieces that are due, in their order, and the status that is.
  pub exact : IsFinal status → IfSome due (λ outcome. Finishes outcome before.taken after.taken status)
  -- In any case a prefix of these pieces: the first ones as a whole, of the next one at most a prefix, and nothing more.
  pub prefix : IfSome due (λ outcome. PutsPrefix before.taken after.taken outcome.pieces)
  -- Where no count of faults rose, nothing but running out of memory stands in the way of that.
  pub complete : AllStayed before.faults after.faults → status ≢ Memory → IsFinal status
  -- Of the calls on files that the task makes a prefix was made, and no other call.
  pub calls : CallsMade task status before after
  -- Where a count rose the status is that count's: no fault is passed over, and none is made up.
  pub faults : FaultBy calls.broken status before.faults after.faults
  -- Words are refused for themselves alone.
  pub bad_words : status ≡ BadWords → task ≡ None
  -- Nothing is put where the load or the save failed, or where a read of the input failed that comes before anything else, and
  -- nothing on standard output where something was refused then.
  pub silent : IsSilent task status → after.taken ≡ before.taken
  pub no_out : IsOfRefusal task status → after.taken.out ≡ before.taken.out
  -- Each name holds what these calls left there, and nothing is saved where memory ran out.
  pub held : HeldAfter calls.done calls.broken status before after
  pub unsaved : status ≡ Memory → after.held ≡ before.held
  -- Why the task is refused, what is done to the input, and what a session replied where a read of it failed.
  pub asked : TaskFacts task status before after

-- of a task that the words ask for: what is due is what the task comes to, as files and input stand before the call
abbrev pub HeadlineOf : {I : Type 0} → Task → Status → Environment I → Environment I → Type 0
HeadlineOf task status before after = Headline (outcome_of_task task before.held before.left) (Some task) status before after
