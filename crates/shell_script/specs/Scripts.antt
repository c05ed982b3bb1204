-- Lines that a session executes one after another.
use Rattle.std.specs.Prelude.{◌≡◌, Bool, false, List, [], ◌∷◌, ◌++◌, Ok, Err, if◌then◌else◌}
use Rattle.host_io.specs.Pieces.{Piece, out}
use Rattle.policy_trait.specs.Model.{PolicyModel}
use Rattle.engine_trait.specs.Runs.{Item}
use Rattle.shell_lang.specs.Grammar.{Answer}
use Rattle.shell_lang.specs.Refusals.{number_of}
use Rattle.shell_run.specs.Lines.{refusal_line}
use Rattle.shell_run.specs.Replies.{is_quit, reply_to}
use Rattle.shell_run.specs.Runs.{items_after}
use Rattle.shell_run.specs.Session.{SessionState}

-- after some lines: the session, what it replied, and whether it ended with `quit`
pub record Script (S T : Type 0) : Type 0 where
  pub after : SessionState S T
  pub pieces : List Piece
  pub quits : Bool

module _ {S T : Type 0} where
  -- no line was executed
  abbrev pub no_lines : SessionState S T → Script S T
  no_lines s = record { after = s; pieces = []; quits = false }

  -- lines after others that were replied to with these pieces
  abbrev pub behind : List Piece → Script S T → Script S T
  behind pieces script = record script { pieces = pieces ++ script.pieces }

  -- after `quit` no more is executed
  abbrev pub followed_by : Script S T → (SessionState S T → Script S T) → Script S T
  followed_by first others = if first.quits then first else behind first.pieces (others first.after)

  -- the session is the script's, and so is whether it ended with `quit`
  pub record Ends (script : Script S T) (s : SessionState S T) (ended : Bool) : Type 0 where
    pub after : s ≡ script.after
    pub quits : ended ≡ script.quits

module _ {S T : Type 0} (eq : T → T → Bool) (m : PolicyModel T S) where
  -- a line that is refused is told by its number
  abbrev pub script_of_answer : SessionState S T → Answer → Script S T
  script_of_answer s (Ok command) = record { after = (reply_to eq m s command).after; pieces = (reply_to eq m s command).pieces; quits = is_quit command }
  script_of_answer s (Err refusal) = record { after = s; pieces = out (refusal_line (number_of refusal)) ∷ []; quits = false }

  -- the lines, each by its answer, executed in their order up to `quit`
  unfoldable pub script : SessionState S T → List Answer → Script S T
  script s [] = no_lines s
  script s (answer ∷ answers) = followed_by (script_of_answer s answer) (λ t. script t answers)

  -- the turns and fed bytes since the start or the last reset, after some lines, where these came before
  abbrev pub items_of : SessionState S T → List Item → Answer → List Item
  items_of s items (Ok command) = items_after eq m s items command
  items_of s items (Err refusal) = items

  -- the same after all of the lines, up to `quit`
  abbrev pub items_along : SessionState S T → List Item → List Answer → List Item
  items_along s items [] = items
  items_along s items (answer ∷ answers) =
      if (script_of_answer s answer).quits then items_of s items answer else items_along (script_of_answer s answer).after (items_of s items answer) answers
