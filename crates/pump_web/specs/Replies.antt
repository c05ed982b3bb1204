-- What is due of a line over one file and an input, and what a reply tells of it.
use Rattle.std.specs.Prelude.{◌≡◌, ℕ, true, List, [], ◌∷◌, codes, Option, Some, None, unwrap_or}
use Rattle.host_io.specs.Bytes.{told_bytes}
use Rattle.host_io.specs.Held.{sure_bytes}
use Rattle.host_io.specs.Pieces.{PutsPrefix, Taken, errs_of, outs_of}
use Rattle.pump_line.specs.Task.{Task, disassemble, elf, load, run, save, shell, task_of}
use Rattle.pump_cli.specs.Calls.{FileCall, calls_of_task, held_after}
use Rattle.pump_cli.specs.Endings.{Outcome}
use Rattle.pump_cli.specs.Program.{program}
use Rattle.pump_cli.specs.Reading.{ContentOf, content_of, content_read}
use Rattle.pump_cli.specs.declared.status.Status.{Status}
use Rattle.pump_web.specs.Lines.{words_in}

-- ---- the environment

-- the one file that is there has the name `file`
abbrev pub only_file : List ℕ → List (List ℕ × List ℕ)
only_file bytes = (codes "file", bytes) ∷ []

-- what each name holds, which is nothing where there is no file of it
abbrev pub held_in : List (List ℕ × List ℕ) → List ℕ → Option (List ℕ)
held_in files = λ name. Some (sure_bytes files name)

-- the same as the files in memory tell it: of bytes, and of no other numbers
abbrev pub told_in : List (List ℕ × List ℕ) → List ℕ → Option (List ℕ)
told_in files = λ name. told_bytes (sure_bytes files name)

-- what the two sinks have taken
abbrev pub taken_of : List ℕ → List ℕ → Taken
taken_of out err = record { out = Some out; err = Some err }

-- ---- the reply

-- what the program has due where it is called with the words of this line
abbrev pub due_of : List ℕ → List ℕ → List ℕ → Option Outcome
due_of line file input = program (words_in line) (held_in (only_file file)) (Some input)

-- all that is due was told: the bytes on each sink, and the status
pub record TellsAll (outcome : Outcome) (out err : List ℕ) (status : Status) : Type 0 where
  pub out_is : out ≡ outs_of outcome.pieces
  pub err_is : err ≡ errs_of outcome.pieces
  pub status_is : status ≡ outcome.status

-- the first of what is due was told, in its order, and nothing else
abbrev pub TellsFirst : Outcome → List ℕ → List ℕ → Type 0
TellsFirst outcome out err = PutsPrefix (taken_of [] []) (taken_of out err) outcome.pieces

-- ---- the image

-- the content of files without bytes
abbrev pub no_content : (task : Task) → ContentOf task
no_content (run task) = record { image = []; secret = Some [] }
no_content (shell task) = record { image = []; secret = Some [] }
no_content (save task) = []
no_content (elf task) = record { elf = []; tags = [] }
no_content (disassemble task) = []
no_content (load task) = []

-- what a task's image is made from
abbrev pub content_in : (task : Task) → (List ℕ → Option (List ℕ)) → ContentOf task
content_in task held = unwrap_or (content_of task held) (no_content task)

-- the calls on files that are due: what is asked for, by what that is read as
abbrev pub calls_due : Option Task → (List ℕ → Option (List ℕ)) → List FileCall
calls_due None held = []
calls_due (Some task) held = calls_of_task task (content_read task (content_in task held))

-- what the file `image` holds behind these calls
abbrev pub image_after : Option Task → (List ℕ → Option (List ℕ)) → Option (List ℕ)
image_after task held = held_after true (calls_due task held) held (codes "image")

-- what is to be saved in the file `image`, if something is, where the program is called with the words of this line
abbrev pub saved_image : List ℕ → List ℕ → Option (List ℕ)
saved_image line file =
    held_after true (calls_due (task_of (words_in line)) (held_in (only_file file))) (λ name. None) (codes "image")
