-- A session over an input: its lines in their order.
use Rattle.std.specs.Prelude.{◌≡◌, ℕ, ◌≤◌, Bool, false, nat_lt, List, [], ◌++◌, length, map, take, Option, Result, Ok, Err, if◌then◌else◌}
use Rattle.std.specs.Io.KnownBytes.{prepend_known}
use Rattle.host_io.specs.Causes.{Rose}
use Rattle.host_io.specs.Pieces.{Piece}
use Rattle.policy_trait.specs.Model.{PolicyModel}
use Rattle.shell_lang.specs.Grammar.{Answer, line_answer}
use Rattle.shell_lang.specs.Stream.{end_answer, ended_lines, onto_answers, open_line}
use Rattle.shell_turns.specs.Cuts.{PutsOut, all_put}
use Rattle.shell_turns.specs.declared.ends.ObeyEnd.TheVariants as obey_end
use Rattle.shell_run.specs.Session.{SessionState}
use Rattle.shell_script.specs.Scripts.{Script, followed_by, script}
use Rattle.shell_script.specs.declared.reading.ShellCut.{ShellCut}
use Rattle.shell_script.specs.declared.reading.ShellCut.TheVariants.{Obey, ReadFailed}
use Rattle.shell_script.specs.declared.reading.ShellEnd.{ShellEnd}
use Rattle.shell_script.specs.declared.reading.ShellEnd.TheVariants.{InputEnd, Quit, TooLong}

-- after an input: the session, what it replied, and how it ended
pub record Shell (S T : Type 0) : Type 0 where
  pub after : SessionState S T
  pub pieces : List Piece
  pub end : ShellEnd

-- the lines that a newline ends, and the last line, which the input's end ends
abbrev pub lines_in : List ℕ → List Answer
lines_in bytes = map line_answer (ended_lines bytes)

abbrev pub last_in : List ℕ → List Answer
last_in bytes = onto_answers (end_answer (open_line bytes)) []

-- the lines of an input that are executed, up to `quit`: of a longer one those that end within the limit
abbrev pub lines_within : ℕ → List ℕ → List Answer
lines_within limit input = lines_in (take limit input) ++ (if nat_lt limit (length input) then [] else last_in input)

module _ {S T : Type 0} where
  -- a session that executed these lines and ended so
  abbrev pub ending_so : ShellEnd → Script S T → Shell S T
  ending_so end script = record { after = script.after; pieces = script.pieces; end = end }

  -- by `quit`, or else at the input's end
  abbrev pub at_the_end : Script S T → Shell S T
  at_the_end script = ending_so (if script.quits then Quit else InputEnd) script

-- Of a longer input the lines are executed that end within the limit. A `quit` among these ends the session before that.
unfoldable pub shell_of : {S T : Type 0} → (T → T → Bool) → PolicyModel T S → ℕ → SessionState S T → List ℕ → Shell S T
shell_of eq m limit s input =
    let lines = script eq m s (lines_in (take limit input)) in
    if lines.quits then ending_so Quit lines else
    if nat_lt limit (length input) then ending_so TooLong lines else
    at_the_end (followed_by lines (λ t. script eq m t (last_in input)))

-- the session and the end are those of the definition
pub record ShellEnds {S T : Type 0} (shell : Shell S T) (s : SessionState S T) (told : ShellEnd) : Type 0 where
  pub after : s ≡ shell.after
  pub end : told ≡ shell.end

-- A read of the input failed behind these bytes of it: each line that a newline ends among them was replied to as a whole, none of
-- these lines was `quit`, and nothing else was put.
pub record RepliesSoFar {S T : Type 0} (eq : T → T → Bool) (m : PolicyModel T S) (limit : ℕ) (s : SessionState S T) (left left_now old new : Option (List ℕ)) : Type 0 where
  pub read : List ℕ
  pub moved : left ≡ prepend_known read left_now
  pub within : length read ≤ limit
  pub goes_on : (script eq m s (lines_in read)).quits ≡ false
  pub replies : PutsOut old new (script eq m s (lines_in read)).pieces all_put

-- counts of faults of the input and of the sink
pub record ShellFaults : Type 0 where
  pub input : ℕ
  pub out : ℕ

-- which of the two rises: the input's where a read failed, the sink's where a put did, and neither where nothing failed
abbrev pub ShellCause : {A : Type 0} → ShellFaults → ShellFaults → Result A ShellCut → Type 0
ShellCause before now (Ok _) = now ≡ before
ShellCause before now (Err ReadFailed) = (Rose before.input now.input) × (now.out ≡ before.out)
ShellCause before now (Err (Obey obey_end.WriteFault)) = (now.input ≡ before.input) × (Rose before.out now.out)
ShellCause before now (Err (Obey obey_end.Memory)) = now ≡ before
