-- What is due of a call whose files and input are told: something, and the calls on files by what its content is read as.
use Rattle.std.proofs.Common.{◌≡◌, ℕ, Bool, true, false, List, [], Option, Some, None, Ok, Err, IfSome, IsSome, if◌then◌else◌, refl, ap, subst}
use Rattle.host_io.specs.Environment.{Environment}
use Rattle.policy_choice.specs.declared.choice.Choice.{Choice}
use Rattle.pump_line.specs.Task.{Task, disassemble, elf, load, run, save, shell, task_of}
use Rattle.pump_cli.specs.Calls.{CallsMade, calls_of, calls_of_task}
use Rattle.pump_cli.specs.Endings.{Outcome}
use Rattle.pump_cli.specs.Program.{after_secret, outcome_of_image, outcome_of_input, outcome_of_session, outcome_of_words, program, with_secret}
use Rattle.pump_cli.specs.Reading.{ContentOf, content_of, content_read, secret_held, secret_read}
use Rattle.pump_cli.specs.declared.status.Status.{Status}
use Rattle.pump_web.specs.Replies.{calls_due, content_in}

module _ (held : List ℕ → List ℕ) where
  -- what each name holds is told
  abbrev known : List ℕ → Option (List ℕ)
  known = λ name. Some (held name)

  content_known : (task : Task) → content_of task known ≡ Some (content_in task known)
  content_known (run task) = refl
  content_known (shell task) = refl
  content_known (save task) = refl
  content_known (elf task) = refl
  content_known (disassemble task) = refl
  content_known (load task) = refl

  -- something is due whatever the secret bytes are
  read_due : (go : List ℕ → Option Outcome) → ((secret : List ℕ) → IsSome (go secret)) → (bytes : List ℕ) → IsSome (after_secret go (Some bytes))
  read_due go goes bytes =
      elim (secret_read bytes) as (λ read. IsSome (with_secret go read)) [
        | Ok secret ↦ goes secret
        | Err refusal ↦ refl
      ]

  start_due : (go : List ℕ → Option Outcome) → ((secret : List ℕ) → IsSome (go secret)) → (choice : Choice) (name : Option (List ℕ))
      → IsSome (after_secret go (secret_held choice name known))
  start_due go goes choice None = read_due go goes []
  start_due go goes choice (Some name) = by choice.secret
    where
      by : (chosen : Bool) → IsSome (after_secret go (if chosen then known name else Some []))
      by true = read_due go goes (held name)
      by false = read_due go goes []

  task_due : (input : List ℕ) (task : Task) → IsSome (outcome_of_image task (content_in task known) (content_read task (content_in task known)) (Some input))
  task_due input (run task) =
      elim (content_read (run task) (content_in (run task) known)) as (λ read. IsSome (outcome_of_image (run task) (content_in (run task) known) read (Some input))) [
        | Ok picture ↦ start_due (λ secret. outcome_of_input task secret picture (Some input)) (λ secret. refl) task.choice task.secret
        | Err refusal ↦ refl
      ]
  task_due input (shell task) =
      elim (content_read (shell task) (content_in (shell task) known)) as (λ read. IsSome (outcome_of_image (shell task) (content_in (shell task) known) read (Some input))) [
        | Ok picture ↦ start_due (λ secret. outcome_of_session task secret picture (Some input)) (λ secret. refl) task.choice task.secret
        | Err refusal ↦ refl
      ]
  task_due input (save task) =
      elim (content_read (save task) (content_in (save task) known)) as (λ read. IsSome (outcome_of_image (save task) (content_in (save task) known) read (Some input))) [
        | Ok picture ↦ refl
        | Err refusal ↦ refl
      ]
  task_due input (elf task) =
      elim (content_read (elf task) (content_in (elf task) known)) as (λ read. IsSome (outcome_of_image (elf task) (content_in (elf task) known) read (Some input))) [
        | Ok picture ↦ refl
        | Err refusal ↦ refl
      ]
  task_due input (disassemble task) =
      elim (content_read (disassemble task) (content_in (disassemble task) known)) as (λ read. IsSome (outcome_of_image (disassemble task) (content_in (disassemble task) known) read (Some input))) [
        | Ok picture ↦ refl
        | Err refusal ↦ refl
      ]
  task_due input (load task) =
      elim (content_read (load task) (content_in (load task) known)) as (λ read. IsSome (outcome_of_image (load task) (content_in (load task) known) read (Some input))) [
        | Ok picture ↦ refl
        | Err refusal ↦ refl
      ]

  words_due : (input : List ℕ) (task : Option Task) → IsSome (outcome_of_words task known (Some input))
  words_due input None = refl
  words_due input (Some (run task)) = task_due input (run task)
  words_due input (Some (shell task)) = task_due input (shell task)
  words_due input (Some (save task)) = task_due input (save task)
  words_due input (Some (elf task)) = task_due input (elf task)
  words_due input (Some (disassemble task)) = task_due input (disassemble task)
  words_due input (Some (load task)) = task_due input (load task)

  pub program_due : (input : List ℕ) (words : List (List ℕ)) → IsSome (program words known (Some input))
  unfolding program
  program_due input words = words_due input (task_of words)

  -- the calls of a call are those that are due
  pub calls_are : {I : Type 0} (task : Option Task) (status : Status) (before after : Environment I) → before.held ≡ known
      → (made : CallsMade task status before after) → calls_of task made.read ≡ calls_due task known
  calls_are None status before after told made = refl
  calls_are (Some task) status before after told made =
      let read : IfSome (content_of task known) (λ content. made.read ≡ content_read task content) =
      subst (λ (names : List ℕ → Option (List ℕ)). IfSome (content_of task names) (λ content. made.read ≡ content_read task content)) told made.is_read in
      ap (calls_of_task task)
      (subst (λ (told : Option (ContentOf task)). IfSome told (λ content. made.read ≡ content_read task content)) (content_known task) read)
