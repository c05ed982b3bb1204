-- Rounds of turns: over all harts of an engine, round after round, passing over those that have stopped.
use Rattle.std.specs.Prelude.{ℕ, zero, suc, ◌+◌, ◌-◌, Bool, true, false, List, [], ◌∷◌, length, map, Option, Some, None, if◌then◌else◌}
use Rattle.std.specs.List.{range_with_len}
use Rattle.policy_trait.specs.Model.{PolicyModel}
use Rattle.turn_steps.specs.Feeds.{Tape}
use Rattle.turn_steps.specs.declared.stop.Stop.{Stop}
use Rattle.engine_trait.specs.Events.{Event, event_of}
use Rattle.engine_trait.specs.EngineLaws.{is_made}
use Rattle.engine_trait.specs.Machine.{CoreState, is_ready_in, stop_at}
use Rattle.engine_trait.specs.Runs.{Trace}
use Rattle.engine_trait.specs.declared.ends.Halt.{Halt}
use Rattle.engine_trait.specs.declared.ends.TurnEnd.{TurnEnd}
use Rattle.engine_trait.specs.declared.ends.TurnEnd.TheVariants as ends
use Rattle.engine_trait.specs.Standing.{Standing, is_running, step}

-- why each hart stopped, if it did
abbrev pub hart_stops : {T : Type 0} → CoreState T → List (Option Stop)
hart_stops core = map (stop_at core) (range_with_len 0 (length core.harts))

-- the first ready one of so many harts, from one on
unfoldable pub first_ready : {T : Type 0} → CoreState T → ℕ → ℕ → Option ℕ
first_ready core from zero = None
first_ready core from (suc more) = if is_ready_in core from then Some from else first_ready core (from + 1) more

-- the hart that was found in this round, else the first one of the next
abbrev pub found_or_first : Option ℕ → Option ℕ → Option ℕ
found_or_first (Some h) first = Some h
found_or_first None first = first

-- the first ready hart of the round from a place on, else the first ready one of the next round
unfoldable pub next_hart : {T : Type 0} → CoreState T → ℕ → Option ℕ
next_hart core from = found_or_first (first_ready core from (length core.harts - from)) (first_ready core 0 (length core.harts))

-- of each hart: whose turn comes after its own, while none stops
abbrev pub order_in : {T : Type 0} → CoreState T → List (Option ℕ)
order_in core = map (λ h. next_hart core (h + 1)) (range_with_len 0 (length core.harts))

-- none where the engine as a whole is stopped
abbrev pub unless_stopped : Option Halt → Option ℕ → Option ℕ
unless_stopped halt next = if is_running halt then next else None

-- the hart whose turn is next, from one on
unfoldable pub next_turn : {S T : Type 0} → Standing S T → ℕ → Option ℕ
next_turn e from = unless_stopped e.account.halt (next_hart e.machine.core from)

-- after some rounds: the standing and the feed, and of the turns that were counted the events and the harts, in their order
pub record Course (S T : Type 0) : Type 0 where
  pub standing : Standing S T
  pub feed : Tape
  pub events : List (Event T)
  pub order : List ℕ

-- the same as a run of a machine
abbrev pub trace_of : {S T : Type 0} → Course S T → Trace S T
trace_of course = record { machine = course.standing.machine; feed = course.feed; events = course.events }

-- the turn stopped its hart
abbrev pub is_stop : TurnEnd → Bool
is_stop (ends.Stopped why) = true
is_stop (ends.Ran byte) = false
is_stop ends.Break = false
is_stop ends.Idle = false
is_stop ends.TagsOut = false
is_stop ends.Memory = false

-- no turn
abbrev pub stays : {S T : Type 0} → Standing S T → Tape → Course S T
stays e feed = record { standing = e; feed = feed; events = []; order = [] }

-- a turn of that hart, with its event, and then the others; a turn that is not counted leaves neither
abbrev pub after_turn : {S T : Type 0} → Bool → ℕ → Event T → Course S T → Course S T
after_turn counted h event course = if counted then record course { events = event ∷ course.events; order = h ∷ course.order } else course

-- `stay` where no hart is next, else what the turn of the next hart comes to
abbrev pub taking : {S T : Type 0} → Option ℕ → Course S T → (ℕ → Course S T) → Course S T
taking None stay go = stay
taking (Some h) stay go = go h

module _ {S T : Type 0} (eq : T → T → Bool) (m : PolicyModel T S) where
  -- At most so many turns, round after round from a place on. They end early where no hart is ready, and where the engine
  -- runs out of tag numbers: that turn is not counted, and none follows.
  unfoldable pub rounds : ℕ → ℕ → Standing S T → Tape → Course S T
  rounds zero from e feed = stays e feed
  rounds (suc n) from e feed =
      taking (next_turn e from) (stays e feed) (λ h.
      after_turn (is_made (step eq m e feed h).ended) h (event_of m e.machine feed h)
      (rounds n (h + 1) (step eq m e feed h).standing (step eq m e feed h).feed))
