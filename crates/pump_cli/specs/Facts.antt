-- What a call did to the environment, by its status.
use Rattle.std.specs.Prelude.{◌≡◌, ℕ, zero, suc, ◌+◌, ◌-◌, ◌^◌, ◌<◌, ◌≤◌, ◌⊎◌, true, false, List, length, Option, Some, None, Result, Ok, Err, IfOk, IfSome, IsErr, IsTrue}
use Rattle.std.specs.Io.KnownBytes.{prepend_known}
use Rattle.shared_terms.specs.Counts.{next_count}
use Rattle.host_io.specs.Prefixes.{LosesPrefix}
use Rattle.host_io.specs.Environment.{Faults, Environment}
use Rattle.host_io.specs.Pieces.{Puts, PutsAll, Taken}
use Rattle.host_io.specs.TwoSinks.{OneRose, PutFaults}
use Rattle.image_format.specs.Picture.{Picture}
use Rattle.image_format.specs.Reading.{image_of}
use Rattle.asm_emit.specs.Assembled.{image_of_source}
use Rattle.elf_image.specs.Loaded.{image_of_elf}
use Rattle.elf_image.specs.Tags.{tags_of}
use Rattle.shell_script.specs.Shell.{lines_in}
use Rattle.pump_shell.specs.Told.{told_of}
use Rattle.pump_shell.specs.declared.ends.SessionEnd.TheVariants.{InputEnd}
use Rattle.pump_line.specs.Task.{ShellTask, Task, disassemble, elf, load, run, save, shell}
use Rattle.pump_cli.specs.Codes.{IsBeforeInput, ReadsAll, status_of_cut}
use Rattle.pump_cli.specs.Endings.{Outcome}
use Rattle.pump_cli.specs.Program.{is_over_at_start, setup_of}
use Rattle.pump_cli.specs.Reading.{ContentOf, ElfFiles, StartFiles, content_of, content_read, file_limit, image_read, input_limit, secret_read}
use Rattle.pump_cli.specs.Runs.{whole_of_shell}
use Rattle.pump_cli.specs.Sessions.{session_after}
use Rattle.pump_loader.specs.Wholes.{Whole}
use Rattle.pump_cli.specs.declared.refusal.Refusal.{Refusal}
use Rattle.pump_cli.specs.declared.cut.Cut.{Cut}
use Rattle.pump_cli.specs.declared.cut.Cut.TheVariants as cut
use Rattle.pump_cli.specs.declared.status.Status.{Status}
use Rattle.pump_cli.specs.declared.status.Status.TheVariants.{BadElf, BadImage, BadSource, BadTags, Done, InputFailed, TagsOut, TooLong}

-- all that the outcome says was put, and the status is its
pub record Finishes (outcome : Outcome) (before after : Taken) (status : Status) : Type 0 where
  pub puts : PutsAll before after outcome.pieces
  pub ends : status ≡ outcome.status

-- ---- counts of faults

-- a count that could rise and did not
pub record Stayed (before now : ℕ) : Type 0 where
  pub below : before < 2 ^ 64 - 1
  pub same : now ≡ before

-- every count of the environment could rise, and none did
pub record AllStayed (before now : Faults) : Type 0 where
  pub read : (name : List ℕ) → Stayed (before.read name) (now.read name)
  pub write : (name : List ℕ) → Stayed (before.write name) (now.write name)
  pub input : Stayed before.input now.input
  pub out : Stayed before.puts.out now.puts.out
  pub err : Stayed before.puts.err now.puts.err

-- ---- files and input

-- a count after at most so many calls
abbrev pub AtMost : ℕ → ℕ → ℕ → Type 0
AtMost zero before now = now ≡ before
AtMost (suc calls) before now = (now ≡ before) ⊎ AtMost calls (next_count before) now

-- the file, or the source of a workload, is longer than its limit
abbrev pub IsLongFile : List ℕ → Type 0
IsLongFile bytes = file_limit < length bytes

-- the input is longer than its limit
abbrev pub IsLongInput : List ℕ → Type 0
IsLongInput bytes = input_limit < length bytes

-- the image's file is longer than its limit, or the secret file, or the input, where these are told
abbrev pub IsLongStart : StartFiles → Option (List ℕ) → Type 0
IsLongStart files left = IfSome files.secret (λ secret. IfSome left (λ input. IsLongFile files.image ⊎ (IsLongFile secret ⊎ IsLongInput input)))

-- a file is longer than its limit, or the input, where it is told and the task reads it
abbrev pub IsTooLong : (task : Task) → ContentOf task → Option (List ℕ) → Type 0
IsTooLong (run task) files left = IsLongStart files left
IsTooLong (shell task) files left = IsLongStart files left
IsTooLong (save task) bytes left = IsLongFile bytes
IsTooLong (elf task) files left = IsLongFile files.tags ⊎ IsLongFile files.elf
IsTooLong (disassemble task) bytes left = IsLongFile bytes
IsTooLong (load task) bytes left = IsLongFile bytes

-- the task takes an image, and its file is none
abbrev pub HasNoImage : (task : Task) → ContentOf task → Type 0
HasNoImage (run task) files = IsErr (image_of files.image)
HasNoImage (shell task) files = IsErr (image_of files.image)
HasNoImage (save task) bytes = IsErr (image_of bytes)
HasNoImage (elf task) files = ⊥
HasNoImage (disassemble task) bytes = IsErr (image_of bytes)
HasNoImage (load task) bytes = ⊥

-- the task takes a source, and its file is none
abbrev pub HasNoSource : (task : Task) → ContentOf task → Type 0
HasNoSource (run task) bytes = ⊥
HasNoSource (shell task) bytes = ⊥
HasNoSource (save task) bytes = IsErr (image_of_source bytes)
HasNoSource (elf task) files = ⊥
HasNoSource (disassemble task) bytes = ⊥
HasNoSource (load task) bytes = IsErr (image_of_source bytes)

-- the task takes a tag file, and its file is none
abbrev pub HasNoTags : (task : Task) → ContentOf task → Type 0
HasNoTags (run task) bytes = ⊥
HasNoTags (shell task) bytes = ⊥
HasNoTags (save task) bytes = ⊥
HasNoTags (elf task) files = IsErr (tags_of files.tags)
HasNoTags (disassemble task) bytes = ⊥
HasNoTags (load task) bytes = ⊥

-- a tag file, and an ELF file that is not loaded under it
pub record IsUnloaded (files : ElfFiles) : Type 0 where
  pub tags : Picture
  pub is_tags : tags_of files.tags ≡ Ok tags
  pub is_bad : IsErr (image_of_elf files.elf tags)

-- the task takes an ELF file, and its file is none that is loaded
abbrev pub HasNoElf : (task : Task) → ContentOf task → Type 0
HasNoElf (run task) bytes = ⊥
HasNoElf (shell task) bytes = ⊥
HasNoElf (save task) bytes = ⊥
HasNoElf (elf task) files = IsUnloaded files
HasNoElf (disassemble task) bytes = ⊥
HasNoElf (load task) bytes = ⊥

-- A read of the input failed behind these bytes of it: each line that a newline ends among them was replied to as a whole, none of
-- these lines was `quit`, and nothing else was put on either sink.
pub record RepliedBefore (w : Whole) (task : ShellTask) (picture : Picture) (left left_now : Option (List ℕ)) (before after : Taken) : Type 0 where
  pub read : List ℕ
  pub moved : left ≡ prepend_known read left_now
  pub within : length read ≤ input_limit
  pub goes_on : (session_after w task picture (lines_in read)).quits ≡ false
  pub replies : PutsAll before after (session_after w task picture (lines_in read)).pieces

-- what a session did, by what the definition says of its start, of its lines and of its end
pub record Executed {I : Type 0} (task : ShellTask) (secret : List ℕ) (picture : Picture) (status : Status) (before after : Environment I) : Type 0 where
  -- status 7 comes of a start that is out of tag numbers, which leaves the input alone, however that is told
  pub tags_out : status ≡ TagsOut → is_over_at_start task secret picture ≡ true
  pub unread : is_over_at_start task secret picture ≡ true → after.input ≡ before.input
  -- one that ended with its input, and not with `quit`, has read it to its end
  pub whole : status ≡ Done → IfSome before.left (λ input. (told_of (setup_of task) secret picture input_limit input).end ≡ InputEnd → IsTrue after.closed)
  -- a read of the input failed: each line that had ended before it was replied to, and nothing else was put
  pub replied : status ≡ InputFailed → RepliedBefore (whole_of_shell task secret picture) task picture before.left after.left before.taken after.taken

-- where the secret bytes are refused there is no session
abbrev pub ExecutedWith : {I : Type 0} → ShellTask → Picture → Result (List ℕ) Refusal → Status → Environment I → Environment I → Type 0
ExecutedWith task picture (Ok secret) status before after = Executed task secret picture status before after
ExecutedWith task picture (Err refusal) status before after = Unit {0}

-- nor where the image is
abbrev pub ExecutedIn : {I : Type 0} → ShellTask → List ℕ → Result Picture Refusal → Status → Environment I → Environment I → Type 0
ExecutedIn task bytes (Ok picture) status before after = ExecutedWith task picture (secret_read bytes) status before after
ExecutedIn task bytes (Err refusal) status before after = Unit {0}

-- nothing is said of it where the content of the image's file is not told, and nothing of the other tasks
abbrev pub SessionFacts : {I : Type 0} → Task → Status → Environment I → Environment I → Type 0
SessionFacts (run task) status before after = Unit {0}
SessionFacts (shell task) status before after =
    IfSome (content_of (shell task) before.held) (λ files. IfSome files.secret (λ bytes. ExecutedIn task bytes (image_read files.image) status before after))
SessionFacts (save task) status before after = Unit {0}
SessionFacts (elf task) status before after = Unit {0}
SessionFacts (disassemble task) status before after = Unit {0}
SessionFacts (load task) status before after = Unit {0}

-- why something is refused, where the content is told
pub record Causes {I : Type 0} (task : Task) (status : Status) (before : Environment I) : Type 0 where
  pub bad_image : status ≡ BadImage → IfSome (content_of task before.held) (HasNoImage task)
  pub bad_source : status ≡ BadSource → IfSome (content_of task before.held) (HasNoSource task)
  pub bad_tags : status ≡ BadTags → IfSome (content_of task before.held) (HasNoTags task)
  pub bad_elf : status ≡ BadElf → IfSome (content_of task before.held) (HasNoElf task)
  pub too_long : status ≡ TooLong → IfSome (content_of task before.held) (λ content. IsTooLong task content before.left)

-- Why something is refused, and what is done to the input, which is read only once the file is taken.
pub record FileFacts {I : Type 0} (task : Task) (status : Status) (before after : Environment I) : Type 0 where
  pub causes : Causes task status before
  -- the input is left alone where a file fails or is refused, where a session can't start, and by `asm`, `migrate`, `elf`, `dis` and `load`; a
  -- run that came to its end has read it to its end, and at most 4,096 bytes past its limit are taken
  pub unread : IsBeforeInput task status → after.input ≡ before.input
  pub unasked : IfSome (content_of task before.held) (λ content. IsErr (content_read task content) → after.input ≡ before.input)
  pub whole : ReadsAll task status → IsTrue after.closed
  pub session : SessionFacts task status before after
  pub moved : LosesPrefix before.left after.left (input_limit + 4096)

-- why the task is refused, and what is done to the input, which bad words leave alone
abbrev pub TaskFacts : {I : Type 0} → Option Task → Status → Environment I → Environment I → Type 0
TaskFacts None status before after = after.input ≡ before.input
TaskFacts (Some task) status before after = FileFacts task status before after

-- ---- results on the way

-- the status that a result comes to
abbrev pub status_in : Result Status Cut → Status
status_in (Ok status) = status
status_in (Err cut) = status_of_cut cut

-- the pieces of the outcome were put, or, where the call was cut short, a prefix of them; the status is the outcome's
pub record Does (outcome : Outcome) (before after : Taken) (result : Result Status Cut) : Type 0 where
  pub puts : Puts before after outcome.pieces result
  pub ends : IfOk result (λ status. status ≡ outcome.status)

-- of a call that only puts: one of the counts of puts rises where a put failed, and every other answer leaves both
abbrev pub PutsFaultBy : {A : Type 0} → PutFaults → PutFaults → Result A Cut → Type 0
PutsFaultBy before now (Ok _) = now ≡ before
PutsFaultBy before now (Err cut.ReadFailed) = ⊥
PutsFaultBy before now (Err cut.WriteFailed) = ⊥
PutsFaultBy before now (Err cut.InputFailed) = ⊥
PutsFaultBy before now (Err cut.PutFailed) = OneRose before now
PutsFaultBy before now (Err cut.Memory) = now ≡ before
