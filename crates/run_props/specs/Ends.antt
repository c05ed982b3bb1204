-- How a turn that did not retire ended.
use Rattle.std.specs.Prelude.{◌≡◌}
use Rattle.turn_steps.specs.declared.stop.Stop.{Stop}
use Rattle.engine_trait.specs.Events.{Event}
use Rattle.engine_trait.specs.Standing.{IsFailure}
use Rattle.engine_trait.specs.declared.ends.TurnEnd.TheVariants as ends

-- in a stop that is no exit: a check, the policy or a spent service ended it, and it did nothing
pub record IsStopped {T : Type 0} (event : Event T) : Type 0 where
  pub why : Stop
  pub ended : event.ended ≡ ends.Stopped why
  pub failure : IsFailure why
