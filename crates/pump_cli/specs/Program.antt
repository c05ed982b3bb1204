-- The program: what it writes and its status, from the words, what the files hold and what the input gives.
use Rattle.std.specs.Prelude.{ℕ, ◌+◌, ◌*◌, Bool, true, false, List, [], ◌∷◌, ◌++◌, Option, Some, None, Result, Ok, Err, if◌then◌else◌}
use Rattle.image_format.specs.Picture.{Picture}
use Rattle.host_io.specs.Pieces.{err, out}
use Rattle.tag_text.specs.Texts.{line}
use Rattle.turn_steps.specs.Feeds.{tape_of}
use Rattle.policy_trait.specs.Model.{PolicyModel}
use Rattle.engine_trait.specs.Accounts.{Account, counts_of, is_over, plain_account}
use Rattle.engine_trait.specs.Standing.{Standing}
use Rattle.engine_trait.specs.declared.ends.Counts.{Counts}
use Rattle.engine_trait.specs.declared.ends.Halt.TheVariants as halt
use Rattle.policy_choice.specs.declared.basis.Basis.{Basis}
use Rattle.policy_choice.specs.declared.choice.Choice.{Choice}
use Rattle.rounds.specs.Course.{Course, hart_stops, rounds}
use Rattle.pump_loader.specs.Wholes.{Whole, whole_of}
use Rattle.cache_size.specs.Sizes.{keeps_no_rule}
use Rattle.tag_loader.specs.Start.{start_machine}
use Rattle.word_loader.specs.CachedStart.{cached_account}
use Rattle.pump_shell.specs.Told.{Told, is_over_of, out_at_start as none_executed, told_of}
use Rattle.pump_shell.specs.declared.ends.SessionEnd.{SessionEnd}
use Rattle.pump_shell.specs.declared.ends.SessionEnd.TheVariants as session_end
use Rattle.pump_shell.specs.declared.setup.Setup.{Setup}
use Rattle.image_listing.specs.Listing.{listing}
use Rattle.pump_line.specs.Task.{LoadTask, RunTask, ShellTask, Task, disassemble, elf, load, run, save, shell, task_of}
use Rattle.pump_cli.specs.Endings.{Outcome, out_at_start, outcome_of_course, status_of}
use Rattle.pump_cli.specs.Codes.{code_of, status_of_refusal}
use Rattle.pump_cli.specs.Reading.{ContentOf, content_of, content_read, input_limit, input_read, secret_read}
use Rattle.pump_cli.specs.Texts.{refusal_text, workload_line}
use Rattle.pump_cli.specs.declared.refusal.Refusal.{Refusal}
use Rattle.pump_cli.specs.declared.refusal.Refusal.TheVariants.{BadWords, TooLong}
use Rattle.pump_cli.specs.declared.status.Status.{Status}
use Rattle.pump_cli.specs.declared.status.Status.TheVariants.{Done}

-- one line on standard error, and nothing else
abbrev pub refusal_outcome : Refusal → Outcome
refusal_outcome refusal = record { pieces = err (line (refusal_text refusal)) ∷ []; status = status_of_refusal refusal }

-- ---- starts

-- what the start of a task rests on beside the image: the policies that it chooses
abbrev pub basis_of : Choice → Basis
basis_of choice = record { choice = choice }

-- ---- `run`

-- an account that is over its limit at the start is out of tag numbers from the start
abbrev pub started_account : {T : Type 0} → Account T → Account T
started_account account = if is_over account then record account { halt = Some halt.TagNumbers } else account

-- an engine whose start needs more words than there may be is out of them from the start
abbrev pub standing_at_start : {S T : Type 0} → Standing S T → Standing S T
standing_at_start e = record { machine = e.machine; account = started_account e.account }

-- under a policy that is this at the start of an image
module _ {S T : Type 0} (eq : T → T → Bool) (m : PolicyModel T S) (policy : S) (task : RunTask) (picture : Picture) where
  -- where no rules are kept, no tag has a word
  abbrev pub account_by : Account T
  account_by =
      started_account (if keeps_no_rule task.cache then plain_account else cached_account eq m policy picture task.cache.sets task.cache.ways task.tags)

  -- the image's start, whatever is kept
  abbrev pub start_by : Standing S T
  start_by = record { machine = start_machine m policy picture; account = account_by }

  -- one round robin from there, on a feed of these bytes
  abbrev pub course_by : List ℕ → Course S T
  course_by fed = rounds eq m task.turns 0 start_by (tape_of fed)

-- the same under policies as one
abbrev pub course_under : (w : Whole) → RunTask → Picture → List ℕ → Course w.State w.Tag
course_under w task picture fed = course_by w.eq w.model w.state task picture fed

-- the policies that the task chooses, with these secret bytes, at the start of the image
abbrev pub whole_of_run : RunTask → List ℕ → Picture → Whole
whole_of_run task secret picture = whole_of (basis_of task.choice) secret picture

-- what the course under them shows, the last line, and the status
unfoldable pub outcome_of_run : RunTask → List ℕ → Picture → List ℕ → Outcome
outcome_of_run task secret picture fed = outcome_of_course (course_under (whole_of_run task secret picture) task picture fed)

-- the input is fed as a whole
abbrev pub outcome_of_fed : RunTask → List ℕ → Picture → Result (List ℕ) Refusal → Outcome
outcome_of_fed task secret picture (Ok fed) = outcome_of_run task secret picture fed
outcome_of_fed task secret picture (Err refusal) = refusal_outcome refusal

-- an input whose bytes are not told leaves the outcome unsaid
abbrev pub outcome_of_input : RunTask → List ℕ → Picture → Option (List ℕ) → Option Outcome
outcome_of_input task secret picture None = None
outcome_of_input task secret picture (Some input) = Some (outcome_of_fed task secret picture (input_read input))

-- what goes on with the secret bytes, which may be too many
abbrev pub with_secret : (List ℕ → Option Outcome) → Result (List ℕ) Refusal → Option Outcome
with_secret go (Ok secret) = go secret
with_secret go (Err refusal) = Some (refusal_outcome refusal)

-- and secret bytes that are not told leave it unsaid, too
abbrev pub after_secret : (List ℕ → Option Outcome) → Option (List ℕ) → Option Outcome
after_secret go None = None
after_secret go (Some bytes) = with_secret go (secret_read bytes)

-- ---- `shell`

-- what a session starts with, beside its image
abbrev pub setup_of : ShellTask → Setup
setup_of task = record { basis = basis_of task.choice; cache = task.cache; tags = task.tags; history = task.history }

-- what is told after the replies, and the status: a session that ended with `quit` or with the input is done
abbrev pub outcome_of_end : SessionEnd → Outcome
outcome_of_end session_end.Quit = record { pieces = []; status = Done }
outcome_of_end session_end.InputEnd = record { pieces = []; status = Done }
outcome_of_end session_end.TooLong = refusal_outcome TooLong
outcome_of_end session_end.TagsOut = out_at_start

-- the replies, what is told after them, and the status of the end
abbrev pub outcome_of_told : Told → Outcome
outcome_of_told told = record { pieces = told.pieces ++ (outcome_of_end told.end).pieces; status = (outcome_of_end told.end).status }

-- a session that executes the lines of these bytes
unfoldable pub outcome_of_lines : ShellTask → List ℕ → Picture → List ℕ → Outcome
outcome_of_lines task secret picture input = outcome_of_told (told_of (setup_of task) secret picture input_limit input)

-- the start of a session needs more tag numbers than there may be
abbrev pub is_over_at_start : ShellTask → List ℕ → Picture → Bool
is_over_at_start task secret picture = is_over_of (setup_of task) secret picture

-- such a start ends the session whatever the input is
abbrev pub outcome_of_no_start : Outcome
outcome_of_no_start = outcome_of_told none_executed

-- else an input whose bytes are not told leaves the outcome unsaid too
abbrev pub outcome_of_session : ShellTask → List ℕ → Picture → Option (List ℕ) → Option Outcome
outcome_of_session task secret picture None = if is_over_at_start task secret picture then Some outcome_of_no_start else None
outcome_of_session task secret picture (Some input) = Some (outcome_of_lines task secret picture input)

-- ---- `asm`, `migrate`, `elf` and `dis`

-- the file of the image is saved, and nothing is told
abbrev pub outcome_of_saving : Outcome
outcome_of_saving = record { pieces = []; status = Done }

-- a line for each word of the image
unfoldable pub outcome_of_listing : Picture → Outcome
outcome_of_listing picture = record { pieces = listing picture; status = Done }

-- ---- `load`

abbrev pub every_policy : Choice
every_policy = record { seal = true; comp = true; flow = true; heap = true; secret = false }

-- a workload runs under every policy; its blocks make at most ten turns each, and its head and its end at most four
abbrev pub run_of_load : LoadTask → RunTask
run_of_load task =
    record { image = []; choice = every_policy; secret = None; cache = task.cache; tags = task.tags; turns = 10 * task.count + 4 }

-- the counts of an engine that made no turn
abbrev pub no_counts : Counts
no_counts = record { turns = 0; hits = 0; misses = 0; sweeps = 0 }

-- what its turns show goes nowhere: one line on standard output tells its counts and its status
abbrev pub outcome_of_counts : ℕ → Counts → Status → Outcome
outcome_of_counts count counts status =
    record { pieces = out (workload_line count counts (code_of status)) ∷ []; status = status }

-- by the course of a workload of so many blocks: its counts, and the status of a run that went so
abbrev pub outcome_of_work : {S T : Type 0} → ℕ → Course S T → Outcome
outcome_of_work count course =
    let account = course.standing.account in
    outcome_of_counts count (counts_of account) (status_of account.halt (hart_stops course.standing.machine.core))

-- no input is fed
unfoldable pub outcome_of_load : LoadTask → Picture → Outcome
outcome_of_load task picture = outcome_of_work task.count (course_under (whole_of_run (run_of_load task) [] picture) (run_of_load task) picture [])

-- ---- the whole

-- what is done with an image, the content that it is of, and the input's bytes, where these are told
abbrev pub outcome_of_picture : (task : Task) → ContentOf task → Picture → Option (List ℕ) → Option Outcome
outcome_of_picture (run task) files picture input = after_secret (λ secret. outcome_of_input task secret picture input) files.secret
outcome_of_picture (shell task) files picture input = after_secret (λ secret. outcome_of_session task secret picture input) files.secret
outcome_of_picture (save task) bytes picture input = Some outcome_of_saving
outcome_of_picture (elf task) files picture input = Some outcome_of_saving
outcome_of_picture (disassemble task) bytes picture input = Some (outcome_of_listing picture)
outcome_of_picture (load task) bytes picture input = Some (outcome_of_load task picture)

-- where the content is refused, neither a secret file nor the input is looked at
abbrev pub outcome_of_image : (task : Task) → ContentOf task → Result Picture Refusal → Option (List ℕ) → Option Outcome
outcome_of_image task content (Ok picture) input = outcome_of_picture task content picture input
outcome_of_image task content (Err refusal) input = Some (refusal_outcome refusal)

-- a content that is not told leaves the outcome unsaid too
abbrev pub outcome_of_content : (task : Task) → Option (ContentOf task) → Option (List ℕ) → Option Outcome
outcome_of_content task None input = None
outcome_of_content task (Some content) input = outcome_of_image task content (content_read task content) input

-- what the task comes to, by what the files hold and what the input gives, where these are told
abbrev pub outcome_of_task : Task → (List ℕ → Option (List ℕ)) → Option (List ℕ) → Option Outcome
outcome_of_task task held input = outcome_of_content task (content_of task held) input

-- words that ask for no task are refused, whatever files and input are
abbrev pub outcome_of_words : Option Task → (List ℕ → Option (List ℕ)) → Option (List ℕ) → Option Outcome
outcome_of_words None held input = Some (refusal_outcome BadWords)
outcome_of_words (Some task) held input = outcome_of_task task held input

-- the words, what the files hold by name where it is told, and the bytes of the input where they are
unfoldable pub program : List (List ℕ) → (List ℕ → Option (List ℕ)) → Option (List ℕ) → Option Outcome
program words held input = outcome_of_words (task_of words) held input
