-- What the turns of a command tell, by the events of the run that they are.
use Rattle.std.specs.Prelude.{◌≡◌, ℕ, ◌&&◌, not, List, [], ◌∷◌, ◌++◌, map, Option, Some, None, if◌then◌else◌}
use Rattle.std.specs.List.{flat_map, last_or}
use Rattle.host_io.specs.Pieces.{Piece, out}
use Rattle.engine_trait.specs.Events.{Event}
use Rattle.engine_trait.specs.Machine.{Machine, hart_at}
use Rattle.engine_trait.specs.Standing.{Standing, is_running}
use Rattle.engine_trait.specs.declared.ends.Halt.{Halt}
use Rattle.shell_turns.specs.Told.{break_pieces, end_pieces, is_break, tags_out_line}
use Rattle.shell_turns.specs.Turns.{Turns}

-- the harts of events, in their order
abbrev pub harts_of : {T : Type 0} → List (Event T) → List ℕ
harts_of events = map (λ event. event.hart) events

-- the turn of an event: the byte that it put, or its hart's stop
abbrev pub event_pieces : {T : Type 0} → Event T → List Piece
event_pieces event = end_pieces event.hart event.ended

-- the last turn, if there was one, as a break, where it is one: its hart's pc is that of the machine that is left
abbrev pub last_break : {S T : Type 0} → List ℕ → Machine S T → Option (Event T) → List Piece
last_break breaks left None = []
last_break breaks left (Some event) =
    let pc = (hart_at left.core event.hart).pc in break_pieces (is_break breaks pc event.ended) event.hart pc

-- an engine that ran before and is stopped since then is out of tag numbers
abbrev pub out_since : Option Halt → Option Halt → List Piece
out_since before now = if is_running before && not (is_running now) then out tags_out_line ∷ [] else []

-- What turns with these events tell, from one standing to another: each turn in its order; then that the last of them is a break,
-- or that the engine ran out of tag numbers, where it is so.
unfoldable pub told_of_events : {S T : Type 0} → List ℕ → Standing S T → Standing S T → List (Event T) → List Piece
told_of_events breaks before now events =
    flat_map event_pieces events ++ last_break breaks now.machine (last_or None events) ++ out_since before.account.halt now.account.halt

-- the events are those of the turns that were counted, hart by hart, and of them is told what the turns tell
pub record TellsEvents {S T : Type 0} (breaks : List ℕ) (before : Standing S T) (events : List (Event T)) (turns : Turns S T) : Type 0 where
  pub harts : harts_of events ≡ turns.harts
  pub told : turns.pieces ≡ told_of_events breaks before turns.standing events
