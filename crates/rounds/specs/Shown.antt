-- What turns show to the environment.
use Rattle.std.specs.Prelude.{ℕ, List, [], ◌∷◌, Some, None}
use Rattle.std.specs.List.{flat_map}
use Rattle.host_io.specs.Pieces.{Piece, err, out}
use Rattle.engine_trait.specs.Events.{Event}
use Rattle.engine_trait.specs.declared.ends.TurnEnd.{TurnEnd}
use Rattle.engine_trait.specs.declared.ends.TurnEnd.TheVariants as ends
use Rattle.tag_text.specs.Texts.{stop_line}

-- a turn of hart h that ended so: the byte that it put out, or the line of its stop on standard error
abbrev pub shown_by : ℕ → TurnEnd → List Piece
shown_by h (ends.Ran (Some byte)) = out (byte ∷ []) ∷ []
shown_by h (ends.Ran None) = []
shown_by h ends.Break = []
shown_by h (ends.Stopped why) = err (stop_line h why) ∷ []
shown_by h ends.Idle = []
shown_by h ends.TagsOut = []
shown_by h ends.Memory = []

-- the same of a turn by its event
abbrev pub event_pieces : {T : Type 0} → Event T → List Piece
event_pieces event = shown_by event.hart event.ended

-- turns in a row
abbrev pub pieces_of : {T : Type 0} → List (Event T) → List Piece
pieces_of events = flat_map event_pieces events
