-- Turns as a run of the machine.
use Rattle.std.specs.Prelude.{◌≡◌, List, ◌++◌, map}
use Rattle.policy_trait.specs.Model.{PolicyModel}
use Rattle.turn_steps.specs.Feeds.{Tape}
use Rattle.engine_trait.specs.History.{AreMade, records_along}
use Rattle.engine_trait.specs.Runs.{Trace, turn}
use Rattle.engine_trait.specs.Standing.{Standing}
use Rattle.shell_turns.specs.Turns.{Turns}

-- the run leaves the machine and the feed that the turns do
pub record EndsAs {S T : Type 0} (trace : Trace S T) (turns : Turns S T) : Type 0 where
  pub machine : turns.standing.machine ≡ trace.machine
  pub feed : turns.feed ≡ trace.feed

-- a list whose last items are the kept ones
pub record EndsIn {X : Type 0} (all kept : List X) : Type 0 where
  pub dropped : List X
  pub parts : all ≡ dropped ++ kept

-- Each counted turn is that of a hart that was ready, and the last of the records that were kept at first and of those turns are
-- kept after them.
pub record Remembers {S T : Type 0} (m : PolicyModel T S) (e : Standing S T) (feed : Tape) (turns : Turns S T) : Type 0 where
  pub made : AreMade m e.machine feed (map turn turns.harts)
  pub kept : EndsIn (e.account.past.kept ++ records_along m e.machine feed (map turn turns.harts)) turns.standing.account.past.kept
