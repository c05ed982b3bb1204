-- Taint on a run: what a turn goes by is clean.
use Rattle.std.specs.Prelude.{◌≡◌, true, List, Some}
use Rattle.engine_trait.specs.Events.{Asked, Event, Touch, is_retirement}
use Rattle.engine_trait.specs.Machine.{Machine}
use Rattle.part_turns.specs.Moments.{is_jalr}
use Rattle.taint_policy.specs.declared.policy.Taint.{Taint}
use Rattle.taint_policy.specs.declared.tag.TaintTag.{TaintTag}
use Rattle.taint_policy.specs.declared.tag.TaintTag.TheVariants.{Clean}

-- what the rule was asked with: the instruction's own word is clean, and so is the first operand, which is the register of the
-- address, of a JALR and of every store
pub record GoesByClean (event : Event TaintTag) : Type 0 where
  pub asked : Asked TaintTag
  pub is_asked : event.asked ≡ Some asked
  pub instruction : asked.inputs.ci ≡ Clean
  pub jump : is_jalr event.word ≡ true → asked.inputs.t1 ≡ Clean
  pub store : (touch : Touch) → event.access ≡ Some touch → touch.stores ≡ true → asked.inputs.t1 ≡ Clean

-- the guarantee: a turn that retires, whatever the turns before it, goes by what is clean
abbrev pub TaintTurn : List (Event TaintTag) → Event TaintTag → Type 0
TaintTurn before event = is_retirement event ≡ true → GoesByClean event

-- the invariant: a turn's rule alone decides, so nothing has to be known of the state
abbrev pub NoInvariant : List (Event TaintTag) → Machine Taint TaintTag → Type 0
NoInvariant events s = Unit {0}
