-- A run of an engine along any list of turns and fed bytes, and what its account would be if it never swept.
use Rattle.std.specs.Prelude.{◌≡◌, ℕ, Bool, false, List, [], ◌∷◌, take, if◌then◌else◌}
use Rattle.policy_trait.specs.Model.{PolicyModel}
use Rattle.turn_steps.specs.Feeds.{Tape, with_fed}
use Rattle.engine_trait.specs.Accounts.{Account, is_over, remembering}
use Rattle.engine_trait.specs.Events.{Event, event_of}
use Rattle.engine_trait.specs.History.{record_of}
use Rattle.engine_trait.specs.Machine.{Machine, is_ready_in}
use Rattle.engine_trait.specs.Runs.{Item, Trace, fed, turn, with_event}
use Rattle.engine_trait.specs.Standing.{Standing, step}
use Rattle.engine_trait.specs.Turn.{turn_of}
use Rattle.engine_trait.specs.Unswept.{unswept_after}

-- after a run of an engine: what its machine came to, and its account
pub record EngineTrace (S T : Type 0) : Type 0 where
  pub trace : Trace S T
  pub account : Account T

-- the same with one more event in front
abbrev pub led_by : {S T : Type 0} → Event T → EngineTrace S T → EngineTrace S T
led_by event run = record run { trace = with_event event run.trace }

module _ {S T : Type 0} (eq : T → T → Bool) (m : PolicyModel T S) where
  -- the event of a hart's turn, ended as the engine's step of it ended
  abbrev pub step_event : Standing S T → Tape → ℕ → Event T
  step_event e feed h = record (event_of m e.machine feed h) { ended = (step eq m e feed h).ended }

  -- the engine's steps along the list in their order, and each byte fed at its place in it
  abbrev pub engine_along : Standing S T → Tape → List Item → EngineTrace S T
  engine_along e feed [] = record { trace = record { machine = e.machine; feed = feed; events = [] }; account = e.account }
  engine_along e feed (turn h ∷ items) =
      led_by (step_event e feed h) (engine_along (step eq m e feed h).standing (step eq m e feed h).feed items)
  engine_along e feed (fed byte ∷ items) = engine_along e (with_fed feed (byte ∷ [])) items

  -- what a hart's turn leaves of the account of an engine that never sweeps; an idle one changes nothing
  abbrev pub turn_unswept : Machine S T → Tape → ℕ → Account T → Account T
  turn_unswept s feed h account = if is_ready_in s.core h then remembering (record_of m s feed h) (unswept_after eq m s h account) else account

  -- the account along the list of an engine that never sweeps, beside the machine's run
  abbrev pub unswept_along : Machine S T → Tape → List Item → Account T → Account T
  unswept_along s feed [] account = account
  unswept_along s feed (turn h ∷ items) account =
      unswept_along (turn_of m s feed h).machine (turn_of m s feed h).feed items (turn_unswept s feed h account)
  unswept_along s feed (fed byte ∷ items) account = unswept_along s (with_fed feed (byte ∷ [])) items account

  -- an engine that never sweeps does not run out of tag numbers: after no part of the list would more tags have words than may
  abbrev pub IsNeverOver : Standing S T → Tape → List Item → Type 0
  IsNeverOver e feed items = (count : ℕ) → is_over (unswept_along e.machine feed (take count items) e.account) ≡ false
