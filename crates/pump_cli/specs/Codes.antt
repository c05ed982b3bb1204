-- The number of each status, and kinds of statuses.
use Rattle.std.specs.Prelude.{ℕ, Option, Some, None}
use Rattle.pump_line.specs.Task.{Task, disassemble, elf, load, run, save, shell}
use Rattle.pump_cli.specs.declared.cut.Cut.{Cut}
use Rattle.pump_cli.specs.declared.cut.Cut.TheVariants as cut
use Rattle.pump_cli.specs.declared.refusal.Refusal.{Refusal}
use Rattle.pump_cli.specs.declared.refusal.Refusal.TheVariants as refusal
use Rattle.pump_cli.specs.declared.status.Status.{Status}
use Rattle.pump_cli.specs.declared.status.Status.TheVariants.{Done, ExitedNonzero, BadWords, BadImage, BadSource, BadTags, BadElf, Violated, Faulted, TurnsSpent, TagsOut, ReadFailed, InputFailed, PutFailed, Memory, WriteFailed, TooLong}

-- the number that the process ends with
abbrev pub code_of : Status → ℕ
code_of Done = 0
code_of ExitedNonzero = 1
code_of BadWords = 2
code_of BadImage = 3
code_of BadSource = 3
code_of BadTags = 3
code_of BadElf = 3
code_of Violated = 4
code_of Faulted = 5
code_of TurnsSpent = 6
code_of TagsOut = 7
code_of ReadFailed = 8
code_of InputFailed = 9
code_of PutFailed = 10
code_of Memory = 11
code_of WriteFailed = 12
code_of TooLong = 13

abbrev pub status_of_refusal : Refusal → Status
status_of_refusal refusal.BadWords = BadWords
status_of_refusal (refusal.BadImage error) = BadImage
status_of_refusal (refusal.BadSource error) = BadSource
status_of_refusal (refusal.BadTags error) = BadTags
status_of_refusal (refusal.BadElf error) = BadElf
status_of_refusal refusal.TooLong = TooLong

abbrev pub status_of_cut : Cut → Status
status_of_cut cut.ReadFailed = ReadFailed
status_of_cut cut.WriteFailed = WriteFailed
status_of_cut cut.InputFailed = InputFailed
status_of_cut cut.PutFailed = PutFailed
status_of_cut cut.Memory = Memory

-- the status of a run that came to its end
abbrev pub IsOfRun : Status → Type 0
IsOfRun Done = Unit {0}
IsOfRun ExitedNonzero = Unit {0}
IsOfRun Violated = Unit {0}
IsOfRun Faulted = Unit {0}
IsOfRun TurnsSpent = Unit {0}
IsOfRun TagsOut = Unit {0}
IsOfRun _ = ⊥

-- the status of a session that came to its end
abbrev pub IsOfSession : Status → Type 0
IsOfSession Done = Unit {0}
IsOfSession TagsOut = Unit {0}
IsOfSession TooLong = Unit {0}
IsOfSession _ = ⊥

-- of such a task nothing is put before all that it reads is read, where a session replies to the input's lines as they come
abbrev pub ReadsFirst : Option Task → Type 0
ReadsFirst None = Unit {0}
ReadsFirst (Some (run task)) = Unit {0}
ReadsFirst (Some (shell task)) = ⊥
ReadsFirst (Some (save task)) = Unit {0}
ReadsFirst (Some (elf task)) = Unit {0}
ReadsFirst (Some (disassemble task)) = Unit {0}
ReadsFirst (Some (load task)) = Unit {0}

-- the status of a refusal that is told before anything else is: one line on standard error
abbrev pub IsOfRefusal : Option Task → Status → Type 0
IsOfRefusal task BadWords = Unit {0}
IsOfRefusal task BadImage = Unit {0}
IsOfRefusal task BadSource = Unit {0}
IsOfRefusal task BadTags = Unit {0}
IsOfRefusal task BadElf = Unit {0}
IsOfRefusal task TooLong = ReadsFirst task
IsOfRefusal task _ = ⊥

-- the status of a call that nothing cut short: neither a fault of the environment nor running out of memory
abbrev pub IsFinal : Status → Type 0
IsFinal ReadFailed = ⊥
IsFinal WriteFailed = ⊥
IsFinal InputFailed = ⊥
IsFinal PutFailed = ⊥
IsFinal Memory = ⊥
IsFinal _ = Unit {0}

-- the status of a call that ended before anything was due on the sinks: a load, a save or a read of the input failed
abbrev pub IsSilent : Option Task → Status → Type 0
IsSilent task ReadFailed = Unit {0}
IsSilent task WriteFailed = Unit {0}
IsSilent task InputFailed = ReadsFirst task
IsSilent task _ = ⊥

-- the start is made once the input is read, where a session reads it from its start on
abbrev pub StartsFirst : Task → Type 0
StartsFirst (run task) = ⊥
StartsFirst (shell task) = Unit {0}
StartsFirst (save task) = ⊥
StartsFirst (elf task) = ⊥
StartsFirst (disassemble task) = ⊥
StartsFirst (load task) = ⊥

-- the status of a call that ended before the input was asked for: any, where an image is made and saved, an image listed or a workload
-- run
abbrev pub IsBeforeInput : Task → Status → Type 0
IsBeforeInput (save task) status = Unit {0}
IsBeforeInput (elf task) status = Unit {0}
IsBeforeInput (disassemble task) status = Unit {0}
IsBeforeInput (load task) status = Unit {0}
IsBeforeInput task BadWords = Unit {0}
IsBeforeInput task BadImage = Unit {0}
IsBeforeInput task ReadFailed = Unit {0}
IsBeforeInput task TagsOut = StartsFirst task
IsBeforeInput task _ = ⊥

-- the status of a call that read the input to its end
abbrev pub ReadsAll : Task → Status → Type 0
ReadsAll (run task) status = IsOfRun status
ReadsAll (shell task) status = ⊥
ReadsAll (save task) status = ⊥
ReadsAll (elf task) status = ⊥
ReadsAll (disassemble task) status = ⊥
ReadsAll (load task) status = ⊥
