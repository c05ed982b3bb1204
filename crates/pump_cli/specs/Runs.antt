-- The runs of the machine that the program's definition makes: that they are safe, and how they end.
use Rattle.std.specs.Prelude.{◌≡◌, ℕ, true, List, [], ◌++◌, length, map, Option, Some, None, Result, Ok, Err}
use Rattle.image_format.specs.Picture.{Picture}
use Rattle.engine_trait.specs.Events.{Event}
use Rattle.engine_trait.specs.Runs.{Item, Trace, run_along}
use Rattle.turn_steps.specs.Feeds.{tape_of}
use Rattle.part_turns.specs.Maps.{event_with}
use Rattle.tag_loader.specs.Start.{start_machine}
use Rattle.pump_loader.specs.Wholes.{Whole}
use Rattle.policy_choice.specs.All.{AllTag}
use Rattle.policy_choice.specs.declared.basis.Basis.{Basis}
use Rattle.rounds.specs.Course.{hart_stops}
use Rattle.run_props.specs.Safe.{IsSafe}
use Rattle.shell_lang.specs.Grammar.{Answer}
use Rattle.shell_run.specs.Session.{fresh}
use Rattle.shell_script.specs.Scripts.{items_along}
use Rattle.shell_script.specs.Shell.{lines_within}
use Rattle.pump_shell.specs.Told.{start_of_setup, whole_of_setup}
use Rattle.pump_line.specs.Task.{RunTask, ShellTask, Task, disassemble, elf, load, run, save, shell, task_of}
use Rattle.pump_cli.specs.Endings.{has_any, is_out}
use Rattle.pump_cli.specs.Program.{basis_of, course_under, run_of_load, setup_of, whole_of_run}
use Rattle.pump_cli.specs.Reading.{ContentOf, content_of, content_read, input_limit, input_read, secret_read}
use Rattle.pump_cli.specs.declared.ending.Kind.TheVariants.{Ready}
use Rattle.pump_cli.specs.declared.refusal.Refusal.{Refusal}

-- the image and what else the start rests on, and the events of the turns that were made
pub record Run : Type 0 where
  pub basis : Basis
  pub image : Picture
  pub events : List (Event AllTag)

-- in the run, each chosen policy's sentence holds
abbrev pub IsSafeRun : Run → Type 0
IsSafeRun made = IsSafe made.basis made.image made.events

-- ---- the runs

-- the events as the four policies see them
abbrev pub four_events : (w : Whole) → List (Event w.Tag) → List (Event AllTag)
four_events w events = map (event_with w.four) events

-- the run whose outcome is that of `run`, and, on an empty feed, that of `load`
abbrev pub run_of_fed : RunTask → List ℕ → Picture → List ℕ → Run
run_of_fed task secret picture fed =
    let w = whole_of_run task secret picture in
    record { basis = basis_of task.choice; image = picture; events = four_events w (course_under w task picture fed).events }

-- the lines of an input that a session executes, up to `quit`
abbrev pub lines_of : List ℕ → List Answer
lines_of input = lines_within input_limit input

-- the turns and the fed bytes after these lines, since the start or the last reset
abbrev pub items_after_lines : Whole → ShellTask → Picture → List Answer → List Item
items_after_lines w task picture lines = items_along w.eq w.model (fresh (start_of_setup w (setup_of task) picture)) [] lines

-- the machine's run by then, under a policy
abbrev pub trace_after_lines : (w : Whole) → ShellTask → Picture → List Answer → Trace w.State w.Tag
trace_after_lines w task picture lines = run_along w.model (start_machine w.model w.state picture) (tape_of []) (items_after_lines w task picture lines)

-- the policies that the task chooses, with these secret bytes, at the start of the image
abbrev pub whole_of_shell : ShellTask → List ℕ → Picture → Whole
whole_of_shell task secret picture = whole_of_setup (setup_of task) secret picture

-- the run that a session has made by then
abbrev pub run_after_lines : ShellTask → List ℕ → Picture → List Answer → Run
run_after_lines task secret picture lines =
    let w = whole_of_shell task secret picture in
    record { basis = basis_of task.choice; image = picture; events = four_events w (trace_after_lines w task picture lines).events }

-- ---- what holds of each of them, where what they rest on is told

-- with these secret bytes; where they are refused there is no run
abbrev pub WithSecret : (List ℕ → Type 0) → Result (List ℕ) Refusal → Type 0
WithSecret Goes (Ok secret) = Goes secret
WithSecret Goes (Err refusal) = Unit {0}

-- nothing is said where they are not told
abbrev pub AfterSecret : (List ℕ → Type 0) → Option (List ℕ) → Type 0
AfterSecret Goes None = Unit {0}
AfterSecret Goes (Some bytes) = WithSecret Goes (secret_read bytes)

-- what is to hold of a run with these secret bytes on the bytes that it is fed, and of a session with the same that executes an input
module _ (Ran : RunTask → List ℕ → Picture → List ℕ → Type 0) (Executed : ShellTask → List ℕ → Picture → List ℕ → Type 0) where
  -- of the run on these bytes; where the input is refused there is none
  abbrev pub AfterFed : RunTask → List ℕ → Picture → Result (List ℕ) Refusal → Type 0
  AfterFed task secret picture (Ok fed) = Ran task secret picture fed
  AfterFed task secret picture (Err refusal) = Unit {0}

  -- of the run on this input; nothing is said where it is not told
  abbrev pub AfterInput : RunTask → List ℕ → Picture → Option (List ℕ) → Type 0
  AfterInput task secret picture None = Unit {0}
  AfterInput task secret picture (Some input) = AfterFed task secret picture (input_read input)

  -- of the session over this input, with the same
  abbrev pub AfterLines : ShellTask → List ℕ → Picture → Option (List ℕ) → Type 0
  AfterLines task secret picture None = Unit {0}
  AfterLines task secret picture (Some input) = Executed task secret picture input

  -- a case for each subcommand; those that save an image, and `dis`, make no run
  abbrev pub AfterPicture : (task : Task) → ContentOf task → Picture → Option (List ℕ) → Type 0
  AfterPicture (run task) files picture input = AfterSecret (λ secret. AfterInput task secret picture input) files.secret
  AfterPicture (shell task) files picture input = AfterSecret (λ secret. AfterLines task secret picture input) files.secret
  AfterPicture (save task) bytes picture input = Unit {0}
  AfterPicture (elf task) files picture input = Unit {0}
  AfterPicture (disassemble task) bytes picture input = Unit {0}
  AfterPicture (load task) bytes picture input = Ran (run_of_load task) [] picture []

  -- where the content is refused no run is made
  abbrev pub AfterImage : (task : Task) → ContentOf task → Result Picture Refusal → Option (List ℕ) → Type 0
  AfterImage task content (Ok picture) input = AfterPicture task content picture input
  AfterImage task content (Err refusal) input = Unit {0}

  -- nothing is said where the content is not told
  abbrev pub AfterContent : (task : Task) → Option (ContentOf task) → Option (List ℕ) → Type 0
  AfterContent task None input = Unit {0}
  AfterContent task (Some content) input = AfterImage task content (content_read task content) input

  -- words that ask for no task make no run
  abbrev pub AfterWords : Option Task → (List ℕ → Option (List ℕ)) → Option (List ℕ) → Type 0
  AfterWords None held input = Unit {0}
  AfterWords (Some task) held input = AfterContent task (content_of task held) input

module _ (Holds : Run → Type 0) where
  abbrev pub HoldsOfRun : RunTask → List ℕ → Picture → List ℕ → Type 0
  HoldsOfRun task secret picture fed = Holds (run_of_fed task secret picture fed)

  -- after each prefix of the lines
  abbrev pub HoldsOfLines : ShellTask → List ℕ → Picture → List ℕ → Type 0
  HoldsOfLines task secret picture input = (prefix rest : List Answer) → prefix ++ rest ≡ lines_of input → Holds (run_after_lines task secret picture prefix)

-- Of each run that the words ask for: of `run` and `load` the one, of `shell` those that a session has made after each of its
-- lines, each since the start or the last reset. The files' content by name, and the bytes of the input, are known where they are
-- told.
unfoldable pub EachRun : (Run → Type 0) → List (List ℕ) → (List ℕ → Option (List ℕ)) → Option (List ℕ) → Type 0
EachRun Holds words held input = AfterWords (HoldsOfRun Holds) (HoldsOfLines Holds) (task_of words) held input

-- ---- how a run ended

-- as many turns were made and counted as the task's limit says, and some hart has no stop
pub record IsSpent (task : RunTask) (secret : List ℕ) (picture : Picture) (fed : List ℕ) : Type 0 where
  pub turns : length (course_under (whole_of_run task secret picture) task picture fed).order ≡ task.turns
  pub ready : has_any Ready (hart_stops (course_under (whole_of_run task secret picture) task picture fed).standing.machine.core) ≡ true

-- the engine ran out of tag numbers, in a turn or at the start
abbrev pub IsOut : RunTask → List ℕ → Picture → List ℕ → Type 0
IsOut task secret picture fed = is_out (course_under (whole_of_run task secret picture) task picture fed).standing.account.halt ≡ true

-- nothing is said of a session
abbrev pub AnySession : ShellTask → List ℕ → Picture → List ℕ → Type 0
AnySession task secret picture input = Unit {0}

-- of the run that `run` or `load` asks for, where what it rests on is told
unfoldable pub TheRun : (RunTask → List ℕ → Picture → List ℕ → Type 0) → List (List ℕ) → (List ℕ → Option (List ℕ)) → Option (List ℕ) → Type 0
TheRun Ran words held input = AfterWords Ran AnySession (task_of words) held input
