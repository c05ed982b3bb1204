-- How the author of a policy proves something of every run in which the policy is chosen, whatever is chosen with it: a invariant
-- that each turn keeps, and what each turn does in a state that the invariant speaks of.
use Rattle.std.specs.Prelude.{ℕ, List, [], ◌∷◌, ◌++◌, map}
use Rattle.policy_trait.specs.Model.{PolicyModel}
use Rattle.engine_trait.specs.Events.{Event}
use Rattle.engine_trait.specs.Machine.{HasWords, IsMachine, Machine}
use Rattle.engine_trait.specs.Runs.{Trace}
use Rattle.policy_parts.specs.Lens.{Lens}
use Rattle.part_turns.specs.Maps.{event_with, seen_by}
use Rattle.part_turns.specs.Moments.{Moment}
use Rattle.part_turns.specs.Turns.{Turns}

-- where every value was a word, every value is one
abbrev pub StayWords : {U V : Type 0} → Machine V U → Machine V U → Type 0
StayWords s t = HasWords s.core → HasWords t.core

-- where the invariant holds of the events so far and the machine, each turn that leaves words where there were words keeps it, and
-- its event is as guaranteed
pub record Keeps {U V : Type 0} (m : PolicyModel U V) (invariant : List (Event U) → Machine V U → Type 0)
    (guarantee : List (Event U) → Event U → Type 0) : Type 0 where
  pub turn : (before : List (Event U)) (s : Machine V U) (h : ℕ) (e : Event U) (t : Machine V U) → IsMachine m s → invariant before s → Turns m s h e t
      → StayWords s t → guarantee before e × invariant (before ++ e ∷ []) t

-- what a run keeps, as the part sees it
pub record RunKeeps {T S U V : Type 0} (l : Lens T S U V) (invariant : List (Event U) → Machine V U → Type 0)
    (guarantee : List (Event U) → Event U → Type 0) (trace : Trace S T) : Type 0 where
  pub guarantees : (x : Moment (map (event_with l.tag) trace.events)) → guarantee x.before x.event
  pub kept : invariant (map (event_with l.tag) trace.events) (seen_by l trace.machine)
