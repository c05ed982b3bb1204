-- The edge walk of a run: for each hart, where its retired turns were.
use Rattle.std.specs.Prelude.{ℕ, List, map}
use Rattle.engine_trait.specs.Events.{Event}
use Rattle.part_turns.specs.Moments.{turns_of}

-- the address of a retired turn and its word
pub record Visit : Type 0 where
  pub address : ℕ
  pub word : ℕ

abbrev pub visit_of : {T : Type 0} → Event T → Visit
visit_of event = record { address = event.pc; word = event.word }

-- those of a hart, in their order
unfoldable pub walk_of : {T : Type 0} → ℕ → List (Event T) → List Visit
walk_of h events = map visit_of (turns_of h events)
