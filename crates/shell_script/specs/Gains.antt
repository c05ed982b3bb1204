-- What a line adds to the run of a session, and what its reply tells of that.
use Rattle.std.specs.Prelude.{◌≡◌, Bool, List, [], ◌∷◌, ◌++◌, Ok, Err}
use Rattle.policy_trait.specs.Model.{PolicyModel}
use Rattle.engine_trait.specs.Events.{Event}
use Rattle.shell_lang.specs.Grammar.{Answer}
use Rattle.shell_run.specs.Gains.{TellsGain}
use Rattle.shell_run.specs.Session.{SessionState}
use Rattle.shell_script.specs.Scripts.{script, script_of_answer}

module _ {S T : Type 0} (eq : T → T → Bool) (m : PolicyModel T S) where
  -- from the events of the run before a line to those after it: a line that is refused adds none
  abbrev pub TellsLine : SessionState S T → Answer → List (Event T) → List (Event T) → Type 0
  TellsLine s (Ok command) before after = TellsGain eq m s command before after
  TellsLine s (Err refusal) before after = after ≡ before

  -- a line behind others: its reply comes behind theirs, and tells what the run gains by the line
  pub record TellsNext (s : SessionState S T) (prefix : List Answer) (line : Answer) (before after : List (Event T)) : Type 0 where
    pub reply : (script eq m s (prefix ++ line ∷ [])).pieces
        ≡ (script eq m s prefix).pieces ++ (script_of_answer eq m (script eq m s prefix).after line).pieces
    pub gain : TellsLine (script eq m s prefix).after line before after
