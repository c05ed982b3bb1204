-- What a session tells, by the runs that it makes: those of which `EachRun` speaks.
use Rattle.std.specs.Prelude.{◌≡◌, ℕ, true, false, List, [], ◌∷◌, ◌++◌, Option}
use Rattle.image_format.specs.Picture.{Picture}
use Rattle.engine_trait.specs.Accounts.{is_over}
use Rattle.pump_loader.specs.Wholes.{Whole}
use Rattle.shell_lang.specs.Grammar.{Answer}
use Rattle.shell_run.specs.Gains.{StandsAfter}
use Rattle.shell_run.specs.Session.{SessionState, fresh}
use Rattle.shell_script.specs.Gains.{TellsNext}
use Rattle.shell_script.specs.Scripts.{Script, script}
use Rattle.pump_shell.specs.Told.{start_of_setup, told_under}
use Rattle.pump_line.specs.Task.{RunTask, ShellTask, task_of}
use Rattle.pump_cli.specs.Program.{setup_of}
use Rattle.pump_cli.specs.Reading.{input_limit}
use Rattle.pump_cli.specs.Runs.{AfterWords, lines_of, trace_after_lines, whole_of_shell}

-- a session over an image, under a policy: as it begins, and once it has executed these lines
abbrev pub session_over : (w : Whole) → ShellTask → Picture → SessionState w.State w.Tag
session_over w task picture = fresh (start_of_setup w (setup_of task) picture)

abbrev pub session_after : (w : Whole) → ShellTask → Picture → List Answer → Script w.State w.Tag
session_after w task picture lines = script w.eq w.model (session_over w task picture) lines

-- What is told of a session over an input is told of the runs that it makes.
pub record TellsRuns (w : Whole) (task : ShellTask) (picture : Picture) (input : List ℕ) : Type 0 where
  -- unless its start is out of tag numbers, it tells the replies to its lines
  pub told : is_over (start_of_setup w (setup_of task) picture).account ≡ false
      → (told_under w (setup_of task) picture input_limit input).pieces ≡ (session_after w task picture (lines_of input)).pieces
  -- after each prefix of them it stands where the run that it has made ends
  pub stands : (prefix rest : List Answer) → prefix ++ rest ≡ lines_of input
      → StandsAfter (trace_after_lines w task picture prefix) (session_after w task picture prefix).after
  -- the next line's reply comes behind the others, and tells the events that the run gains by it
  pub replies : (prefix : List Answer) (line : Answer) (rest : List Answer) → prefix ++ line ∷ rest ≡ lines_of input
      → (session_after w task picture prefix).quits ≡ false
      → TellsNext w.eq w.model (session_over w task picture) prefix line
      (trace_after_lines w task picture prefix).events (trace_after_lines w task picture (prefix ++ line ∷ [])).events
  -- behind `quit` the run stays
  pub closed : (prefix : List Answer) (line : Answer) (rest : List Answer) → prefix ++ line ∷ rest ≡ lines_of input
      → (session_after w task picture prefix).quits ≡ true
      → trace_after_lines w task picture (prefix ++ line ∷ []) ≡ trace_after_lines w task picture prefix

-- nothing is said of a run that is no session's
abbrev pub AnyRun : RunTask → List ℕ → Picture → List ℕ → Type 0
AnyRun task secret picture fed = Unit {0}

-- the session under the policies that its task chooses
abbrev pub SessionTellsRuns : ShellTask → List ℕ → Picture → List ℕ → Type 0
SessionTellsRuns task secret picture input = TellsRuns (whole_of_shell task secret picture) task picture input

-- of the session that `shell` asks for, where what it rests on is told
unfoldable pub TheSession : (ShellTask → List ℕ → Picture → List ℕ → Type 0) → List (List ℕ) → (List ℕ → Option (List ℕ)) → Option (List ℕ) → Type 0
TheSession Executed words held input = AfterWords AnyRun Executed (task_of words) held input
