-- The calls on files that a task makes, in their order, and what they leave behind.
use Rattle.std.specs.Prelude.{◌≡◌, ℕ, ◌⊎◌, Bool, List, [], ◌∷◌, ◌++◌, Option, Some, None, Result, Ok, Err, IfSome, if◌then◌else◌}
use Rattle.std.specs.Bool.{then_some}
use Rattle.std.specs.Str.{bytes_eq}
use Rattle.shared_terms.specs.Counts.{next_count}
use Rattle.host_io.specs.Environment.{Faults, InputFault, NoFault, Environment, PutFault, ReadFault, WriteFault}
use Rattle.image_format.specs.Picture.{Picture}
use Rattle.image_format.specs.Spelling.{spelling}
use Rattle.policy_choice.specs.declared.choice.Choice.{Choice}
use Rattle.pump_line.specs.Task.{Task, disassemble, elf, load, run, save, shell}
use Rattle.pump_cli.specs.Codes.{status_of_refusal}
use Rattle.pump_cli.specs.Reading.{content_of, content_read}
use Rattle.pump_cli.specs.declared.refusal.Refusal.{Refusal}
use Rattle.pump_cli.specs.declared.refusal.Refusal.TheVariants.{BadWords}
use Rattle.pump_cli.specs.declared.status.Status.{Status}
use Rattle.pump_cli.specs.declared.status.Status.TheVariants.{Done, InputFailed, Memory, PutFailed, ReadFailed, WriteFailed}

-- the file of a name is loaded, or is given these bytes
pub data FileCall : Type 0 where
  Load : List ℕ → FileCall
  Save : List ℕ → List ℕ → FileCall

-- ---- the calls of a task

-- the load of the secret file that a task names, where secrecy is chosen
abbrev pub secret_calls : Choice → Option (List ℕ) → List FileCall
secret_calls choice None = []
secret_calls choice (Some name) = if choice.secret then Load name ∷ [] else []

-- by what the content is read as: `run` and `shell` load the secret file once the image is taken; `asm`, `migrate` and `elf`
-- save the file of the image that they make of it, and a refused one saves nothing
abbrev pub calls_of_task : Task → Result Picture Refusal → List FileCall
calls_of_task (run task) (Ok picture) = Load task.image ∷ secret_calls task.choice task.secret
calls_of_task (run task) (Err refusal) = Load task.image ∷ []
calls_of_task (shell task) (Ok picture) = Load task.image ∷ secret_calls task.choice task.secret
calls_of_task (shell task) (Err refusal) = Load task.image ∷ []
calls_of_task (save task) (Ok picture) = Load task.source ∷ Save task.image (spelling picture) ∷ []
calls_of_task (save task) (Err refusal) = Load task.source ∷ []
calls_of_task (elf task) (Ok picture) = Load task.elf ∷ Load task.tags ∷ Save task.image (spelling picture) ∷ []
calls_of_task (elf task) (Err refusal) = Load task.elf ∷ Load task.tags ∷ []
calls_of_task (disassemble task) read = Load task.image ∷ []
calls_of_task (load task) read = []

-- bad words make none
abbrev pub calls_of : Option Task → Result Picture Refusal → List FileCall
calls_of None read = []
calls_of (Some task) read = calls_of_task task read

-- the content is read as that, where it is told; bad words are refused whatever it is
abbrev pub IsReadAs : Option Task → (List ℕ → Option (List ℕ)) → Result Picture Refusal → Type 0
IsReadAs None held read = read ≡ Err BadWords
IsReadAs (Some task) held read = IfSome (content_of task held) (λ content. read ≡ content_read task content)

-- ---- which of them were made

-- the status of a call that makes all its calls on files: none of them failed, and memory did not run out
abbrev pub MakesAll : Status → Type 0
MakesAll ReadFailed = ⊥
MakesAll WriteFailed = ⊥
MakesAll Memory = ⊥
MakesAll _ = Unit {0}

-- such a status, where the content was taken: a task that saved is done
abbrev pub EndsTaken : Option Task → Status → Type 0
EndsTaken (Some (save task)) status = status ≡ Done
EndsTaken (Some (elf task)) status = status ≡ Done
EndsTaken _ status = Unit {0}

-- such a status, by what the content was read as: a refusal's own, unless it could not be told
abbrev pub EndsAs : Option Task → Result Picture Refusal → Status → Type 0
EndsAs task (Ok picture) status = EndsTaken task status
EndsAs task (Err refusal) status = (status ≡ status_of_refusal refusal) ⊎ (status ≡ PutFailed)

-- a call, if there is one, before others
abbrev pub with_call : Option FileCall → List FileCall → List FileCall
with_call None calls = calls
with_call (Some call) calls = call ∷ calls

-- a count after these calls
abbrev pub counted_by : List FileCall → ℕ → ℕ
counted_by [] count = count
counted_by (call ∷ calls) count = counted_by calls (next_count count)

-- A prefix of the task's calls was made, and counted. Each call that was made was carried out, but perhaps the last one: it failed, or
-- memory ran out in it.
pub record CallsMade {I : Type 0} (task : Option Task) (status : Status) (before after : Environment I) : Type 0 where
  -- what the content is read as
  pub read : Result Picture Refusal
  pub is_read : IsReadAs task before.held read
  pub ends : MakesAll status → EndsAs task read status
  -- the calls that were carried out, the one that was made and was not, and those that were not made
  pub done : List FileCall
  pub broken : Option FileCall
  pub rest : List FileCall
  pub parts : done ++ with_call broken rest ≡ calls_of task read
  pub counted : after.calls ≡ counted_by (with_call broken []) (counted_by done before.calls)
  -- all of them, unless one failed or memory ran out
  pub all : MakesAll status → done ≡ calls_of task read

-- ---- counts of faults

-- the call that was not carried out is a load, and that of its file failed
abbrev pub LoadFault : Option FileCall → Faults → Faults → Type 0
LoadFault (Some (Load name)) before now = ReadFault name before now
LoadFault _ before now = ⊥

-- it is a save, and that to its file failed
abbrev pub SaveFault : Option FileCall → Faults → Faults → Type 0
SaveFault (Some (Save name bytes)) before now = WriteFault name before now
SaveFault _ before now = ⊥

-- Which counts of faults rose in a call with this status: where one rose, the status is that count's. A kind of fault is a
-- row.
abbrev pub FaultBy : Option FileCall → Status → Faults → Faults → Type 0
FaultBy broken ReadFailed before now = LoadFault broken before now
FaultBy broken WriteFailed before now = SaveFault broken before now
FaultBy broken InputFailed before now = InputFault before now
FaultBy broken PutFailed before now = PutFault before now
FaultBy broken _ before now = NoFault before now

-- ---- what files hold

-- what the names hold once one was given these bytes, where the content of a saved file is told
abbrev pub held_with : Bool → List ℕ → List ℕ → (List ℕ → Option (List ℕ)) → List ℕ → Option (List ℕ)
held_with tells saved bytes held name = if bytes_eq name saved then then_some tells bytes else held name

-- what they hold after calls that were carried out
abbrev pub held_after : Bool → List FileCall → (List ℕ → Option (List ℕ)) → List ℕ → Option (List ℕ)
held_after tells [] held = held
held_after tells (Load name ∷ calls) held = held_after tells calls held
held_after tells (Save name bytes ∷ calls) held = held_after tells calls (held_with tells name bytes held)

-- the save to this name failed
abbrev pub IsFailedSave : Status → Option FileCall → List ℕ → Type 0
IsFailedSave WriteFailed (Some (Save saved bytes)) name = name ≡ saved
IsFailedSave _ _ name = ⊥

-- Each name holds what the calls that were carried out left there: the saved bytes, or what it held before. Nothing is said of the
-- name whose save failed.
abbrev pub HeldAfter : {I : Type 0} → List FileCall → Option FileCall → Status → Environment I → Environment I → Type 0
HeldAfter done broken status before after =
    (name : List ℕ) → (IsFailedSave status broken name → ⊥) → after.held name ≡ held_after before.tells done before.held name
