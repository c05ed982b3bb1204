-- A state of which a policy's invariant speaks.
use Rattle.std.specs.Prelude.{◌≡◌, true, List}
use Rattle.engine_trait.specs.Events.{Event}
use Rattle.engine_trait.specs.Machine.{IsMachine, Machine}
use Rattle.policy_choice.specs.All.{AllState, AllTag, all}
use Rattle.policy_parts.specs.Lens.{Lens}
use Rattle.part_turns.specs.Maps.{seen_by}
use Rattle.policy_choice.specs.AllLaws.{AllHold}

-- a sound machine where the policy is on, and its invariant holds after these events
pub record MeetsInvariant {U V : Type 0} (l : Lens AllTag AllState U V) (invariant : List (Event U) → Machine V U → Type 0) (events : List (Event U))
    (s : Machine AllState AllTag) : Type 0 where
  pub sound : IsMachine all s
  pub valid : AllHold s.policy
  pub on : l.is_on s.policy ≡ true
  pub held : invariant events (seen_by l s)
