-- The run that a session makes from its start on.
use Rattle.std.specs.Prelude.{◌≡◌, ℕ, Bool, List, [], ◌++◌, length, map, if◌then◌else◌}
use Rattle.std.specs.List.{list_all}
use Rattle.policy_trait.specs.Model.{PolicyModel}
use Rattle.turn_steps.specs.Feeds.{tape_of}
use Rattle.undo_log.specs.Past.{Record}
use Rattle.engine_trait.specs.History.{AreMade, records_along, without_lasts}
use Rattle.engine_trait.specs.Machine.{IsMachine}
use Rattle.engine_trait.specs.Runs.{Item, fed, run_along, turn}
use Rattle.engine_trait.specs.Standing.{Standing}
use Rattle.shell_lang.specs.declared.command.Command.{Command}
use Rattle.shell_lang.specs.declared.command.Command.TheVariants as command
use Rattle.shell_turns.specs.Order.{Order, listed, only, rounds_from}
use Rattle.shell_turns.specs.Turns.{turns}
use Rattle.shell_run.specs.Session.{SessionState, backed_count, is_hart}

module _ {S T : Type 0} (eq : T → T → Bool) (m : PolicyModel T S) where
  module _ (s : SessionState S T) where
    -- the turns of a command that are counted
    abbrev pub counted_turns : ℕ → Order → List Item
    counted_turns budget order = map turn (turns eq m s.breaks budget order s.standing s.feed).harts

    -- those turns where `test` holds: a command that names a hart that isn't there makes none
    abbrev pub turned_if : Bool → ℕ → Order → List Item
    turned_if test budget order = if test then counted_turns budget order else []

    -- The turns and the fed bytes since the start, in their order, where these came before the command: without the turns that it takes
    -- back. A reset begins anew.
    abbrev pub items_after : List Item → Command → List Item
    items_after items (command.Step h n) = items ++ turned_if (is_hart s h) n (only h)
    items_after items (command.Run n) = items ++ counted_turns n (rounds_from 0)
    items_after items (command.Turns harts) = items ++ turned_if (list_all (is_hart s) harts) (length harts) (listed harts)
    items_after items (command.Back n) = without_lasts (backed_count s n) items
    items_after items (command.Feed bytes) = items ++ map fed bytes
    items_after items command.Reset = []
    items_after items _ = items

  -- The machine and the feed of the session are those of the run along these items, from its start with an empty feed. Each of its
  -- turns is that of a hart that was ready, and the last of them are remembered.
  pub record IsAlong (s : SessionState S T) (items : List Item) : Type 0 where
    pub machine : s.standing.machine ≡ (run_along m s.start.machine (tape_of []) items).machine
    pub feed : s.feed ≡ (run_along m s.start.machine (tape_of []) items).feed
    pub made : AreMade m s.start.machine (tape_of []) items
    -- the records of the turns before those
    pub dropped : List (Record T T)
    pub records : records_along m s.start.machine (tape_of []) items ≡ dropped ++ s.standing.account.past.kept

-- a start from which turns can be taken back: a sound machine whose policy is a valid one, and nothing is remembered yet
pub record IsStart {S T : Type 0} (m : PolicyModel T S) (holds : S → Type 0) (start : Standing S T) : Type 0 where
  pub machine : IsMachine m start.machine
  pub policy : holds start.machine.policy
  pub none : start.account.past.kept ≡ []
