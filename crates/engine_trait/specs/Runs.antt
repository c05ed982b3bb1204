-- Runs of a machine: turns along any list of harts and fed bytes. Every interleaving is one.
use Rattle.std.specs.Prelude.{ℕ, List, [], ◌∷◌}
use Rattle.policy_trait.specs.Model.{PolicyModel}
use Rattle.turn_steps.specs.Feeds.{Tape, with_fed}
use Rattle.engine_trait.specs.Events.{Event, event_of}
use Rattle.engine_trait.specs.Machine.{Machine}
use Rattle.engine_trait.specs.Turn.{turn_of}

-- a turn of a hart, or a byte that is fed
pub data Item : Type 0 where
  turn : ℕ → Item
  fed : ℕ → Item

-- after a run: the machine, the feed, and the events in their order
pub record Trace (S T : Type 0) : Type 0 where
  pub machine : Machine S T
  pub feed : Tape
  pub events : List (Event T)

-- the same with one more event in front
abbrev pub with_event : {S T : Type 0} → Event T → Trace S T → Trace S T
with_event event trace = record trace { events = event ∷ trace.events }

module _ {S T : Type 0} (m : PolicyModel T S) where
  -- the turns of the list in their order, and each byte fed at its place in it
  abbrev pub run_along : Machine S T → Tape → List Item → Trace S T
  run_along s feed [] = record { machine = s; feed = feed; events = [] }
  run_along s feed (turn h ∷ items) =
      with_event (event_of m s feed h) (run_along (turn_of m s feed h).machine (turn_of m s feed h).feed items)
  run_along s feed (fed byte ∷ items) = run_along s (with_fed feed (byte ∷ [])) items
