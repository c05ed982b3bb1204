-- Whose turn is next.
use Rattle.std.specs.Prelude.{ℕ, ◌+◌, ◌<◌, List, [], ◌∷◌, All, Option, Some, None, if◌then◌else◌}
use Rattle.engine_trait.specs.Standing.{Standing, is_ready}
use Rattle.rounds.specs.Course.{next_turn}
use Rattle.shell_turns.specs.declared.order.Order.{Order as CodeOrder}
use Rattle.shell_turns.specs.declared.order.Order.TheVariants as code

-- the turns of one hart, while it is ready; of all harts in rounds, from one on; of the harts in a list
pub data Order : Type 0 where
  only : ℕ → Order
  rounds_from : ℕ → Order
  listed : List ℕ → Order

-- the order that the code's stands for
abbrev pub order_of : CodeOrder → Order
order_of (code.Only h) = only h
order_of (code.RoundsFrom h) = rounds_from h
order_of (code.Listed harts) = listed harts.now

-- each hart that is named is one of so many
abbrev pub AreHarts : ℕ → Order → Type 0
AreHarts count (only h) = h < count
AreHarts count (rounds_from h) = Unit {0}
AreHarts count (listed harts) = All (λ h. h < count) harts

-- the hart of the next turn, and the order of those after it
abbrev pub Next : Type 0
Next = Option (ℕ × Order)

-- a turn of this hart, if there is one, and then the rounds from the place behind it on
abbrev pub in_rounds : Option ℕ → Next
in_rounds None = None
in_rounds (Some h) = Some (h, rounds_from (h + 1))

-- a hart of a list has its turn in any case
unfoldable pub next_of : {S T : Type 0} → Order → Standing S T → Next
next_of (only h) e = if is_ready e h then Some (h, only h) else None
next_of (rounds_from h) e = in_rounds (next_turn e h)
next_of (listed []) e = None
next_of (listed (h ∷ harts)) e = Some (h, listed harts)
