-- Two courses that show the same, whatever their tags are.
use Rattle.std.specs.Prelude.{◌≡◌}
use Rattle.rounds.specs.Course.{Course, hart_stops}
use Rattle.rounds.specs.Shown.{pieces_of}

-- the same pieces of the same turns, the same feed that is left, and the same ends of the harts and of the engine as a whole
pub record ShowsSame {S T V U : Type 0} (course : Course S T) (other : Course V U) : Type 0 where
  pub shown : pieces_of other.events ≡ pieces_of course.events
  pub order : other.order ≡ course.order
  pub feed : other.feed ≡ course.feed
  pub stops : hart_stops other.standing.machine.core ≡ hart_stops course.standing.machine.core
  pub halt : other.standing.account.halt ≡ course.standing.account.halt
