-- How a run ends: its last line and its status, from why the engine stopped and from the harts' stops.
use Rattle.std.specs.Prelude.{Bool, true, false, ◌==◌, not, List, [], ◌∷◌, ◌++◌, codes, Option, Some, None, if◌then◌else◌}
use Rattle.std.specs.List.{list_any}
use Rattle.host_io.specs.Pieces.{Piece, err}
use Rattle.turn_steps.specs.declared.stop.Stop.{Stop}
use Rattle.turn_steps.specs.declared.stop.Stop.TheVariants as stop
use Rattle.engine_trait.specs.declared.ends.Halt.{Halt}
use Rattle.engine_trait.specs.declared.ends.Halt.TheVariants as halt
use Rattle.rounds.specs.Course.{Course, hart_stops}
use Rattle.rounds.specs.Shown.{pieces_of}
use Rattle.tag_text.specs.Texts.{line}
use Rattle.pump_cli.specs.declared.ending.Kind.{Kind}
use Rattle.pump_cli.specs.declared.ending.Kind.TheVariants.{Violation, Fault, Ready, NonzeroExit}
use Rattle.pump_cli.specs.declared.status.Status.{Status}
use Rattle.pump_cli.specs.declared.status.Status.TheVariants.{Done, ExitedNonzero, Violated, Faulted, TurnsSpent, TagsOut}

-- the pieces on standard output and on standard error, in their order, and the status
pub record Outcome : Type 0 where
  pub pieces : List Piece
  pub status : Status

-- a violation; a fault; no stop; an exit with another code than 0
abbrev pub is_of : Kind → Option Stop → Bool
is_of Violation (Some (stop.Violation part why pc)) = true
is_of Fault (Some (stop.Fault fault)) = true
is_of Ready None = true
is_of NonzeroExit (Some (stop.Exit code)) = not (code == 0)
is_of _ _ = false

-- some hart's stop, or that it has none, is of the kind
abbrev pub has_any : Kind → List (Option Stop) → Bool
has_any kind stops = list_any (is_of kind) stops

-- the engine ran out of tag numbers
abbrev pub is_out : Option Halt → Bool
is_out (Some halt.TagNumbers) = true
is_out (Some halt.Memory) = false
is_out None = false

-- some hart has a violation, else a fault, else is ready, else exited with another code than 0
unfoldable pub status_of_stops : List (Option Stop) → Status
status_of_stops stops =
    if has_any Violation stops then Violated else
    if has_any Fault stops then Faulted else
    if has_any Ready stops then TurnsSpent else
    if has_any NonzeroExit stops then ExitedNonzero else
    Done

-- running out of tag numbers goes before the stops
abbrev pub status_of : Option Halt → List (Option Stop) → Status
status_of why stops = if is_out why then TagsOut else status_of_stops stops

-- the last line: the engine is out of tag numbers, or else the turns ran out with a hart ready
unfoldable pub last_pieces : Option Halt → List (Option Stop) → List Piece
last_pieces why stops =
    if is_out why then err (line (codes "tags out")) ∷ [] else
    if has_any Ready stops then err (line (codes "turns spent")) ∷ [] else
    []

-- what the turns show, the last line, and the status
abbrev pub outcome_of_course : {S T : Type 0} → Course S T → Outcome
outcome_of_course course =
    let halt = course.standing.account.halt in
    let stops = hart_stops course.standing.machine.core in
    record { pieces = pieces_of course.events ++ last_pieces halt stops; status = status_of halt stops }

-- a run whose start needs more words than there may be: no turn is made
abbrev pub out_at_start : Outcome
out_at_start = record { pieces = err (line (codes "tags out")) ∷ []; status = TagsOut }
