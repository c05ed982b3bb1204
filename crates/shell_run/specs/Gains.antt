-- What a command adds to the run of a session, and what its reply tells of that.
use Rattle.std.specs.Prelude.{◌≡◌, ℕ, ◌-◌, Bool, List, [], ◌∷◌, ◌++◌, length, take, Option, Some, None}
use Rattle.host_io.specs.Pieces.{out}
use Rattle.policy_trait.specs.Model.{PolicyModel}
use Rattle.turn_steps.specs.Feeds.{tape_of}
use Rattle.engine_trait.specs.Events.{Event}
use Rattle.engine_trait.specs.Runs.{Item, Trace, run_along}
use Rattle.shell_lang.specs.declared.command.Command.{Command}
use Rattle.shell_lang.specs.declared.command.Command.TheVariants as command
use Rattle.shell_turns.specs.Events.{harts_of, told_of_events}
use Rattle.shell_turns.specs.Order.{Order}
use Rattle.shell_turns.specs.Turns.{turns}
use Rattle.shell_run.specs.Lines.{turns_line}
use Rattle.shell_run.specs.Replies.{Reply, reply_to, turns_asked}
use Rattle.shell_run.specs.Session.{SessionState, backed_count}

-- the session has the machine and the feed that the run leaves, so that what it shows is shown of them
pub record StandsAfter {S T : Type 0} (trace : Trace S T) (s : SessionState S T) : Type 0 where
  pub machine : s.standing.machine ≡ trace.machine
  pub feed : s.feed ≡ trace.feed

-- what is left of a run's events: those of turns that are taken back go, and a reset begins the run anew
abbrev pub kept_by : {S T : Type 0} → SessionState S T → Command → List (Event T) → List (Event T)
kept_by s (command.Back n) events = take (length events - backed_count s n) events
kept_by s command.Reset events = []
kept_by s _ events = events

module _ {S T : Type 0} (eq : T → T → Bool) (m : PolicyModel T S) (s : SessionState S T) where
  -- the events of the run from its start along these items
  abbrev pub events_along : List Item → List (Event T)
  events_along items = (run_along m s.start.machine (tape_of []) items).events

  -- These events are of the turns that are asked for, hart by hart. The reply tells each of them in its order, how they ended, and
  -- last how many there are.
  pub record TellsTurns (budget : ℕ) (order : Order) (gained : List (Event T)) (reply : Reply S T) : Type 0 where
    pub harts : harts_of gained ≡ (turns eq m s.breaks budget order s.standing s.feed).harts
    pub told : reply.pieces ≡ told_of_events s.breaks s.standing reply.after.standing gained ++ out (turns_line (length gained)) ∷ []

  -- a command that asks for no turns gains no event
  abbrev pub TellsAsked : Option (ℕ × Order) → List (Event T) → Reply S T → Type 0
  TellsAsked None gained reply = gained ≡ []
  TellsAsked (Some asked) gained reply = TellsTurns asked.0 asked.1 gained reply

  -- from the events of the run before a command to those after it: what it gains, and that the reply tells just this
  pub record TellsGain (command : Command) (before after : List (Event T)) : Type 0 where
    pub gained : List (Event T)
    pub run : after ≡ kept_by s command before ++ gained
    pub told : TellsAsked (turns_asked s command) gained (reply_to eq m s command)
