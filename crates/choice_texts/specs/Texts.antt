-- The states and the tags that all policies together have where some are chosen.
use Rattle.std.specs.Prelude.{◌≡◌, ◌^◌, ◌<◌, Bool, Option}
use Rattle.std.specs.Option.{ForSome, is_some}
use Rattle.sealing_policy.specs.declared.tag.SealTag.{SealTag}
use Rattle.sealing_policy.specs.declared.tag.SealTag.TheVariants.{Data, Key, Sealed}
use Rattle.compartment_policy.specs.Compartments.{HasFittingNumbers}
use Rattle.flow_policy.specs.TextLaws.{HasSmallLabels}
use Rattle.heap_policy.specs.TextLaws.{HasSmallBlocks}
use Rattle.policy_product.specs.declared.maybe.Maybe.{Maybe}
use Rattle.policy_choice.specs.All.{AllState, AllTag}
use Rattle.policy_choice.specs.declared.choice.Choice.{Choice}

-- a part is on exactly where it is chosen
abbrev pub IsOnIf : {S : Type 0} → Bool → Maybe S → Type 0
IsOnIf chosen state = is_some state.part ≡ chosen

-- each part is on exactly where it is chosen
pub record IsStateOf (choice : Choice) (state : AllState) : Type 0 where
  pub seal : IsOnIf choice.seal state.0
  pub comp : IsOnIf choice.comp state.1.0
  pub flow : IsOnIf choice.flow state.1.1.0
  pub heap : IsOnIf choice.heap state.1.1.1

-- the number of a key in the tag is one of 32 bits
abbrev pub HasSmallKey : SealTag → Type 0
HasSmallKey Data = Unit {0}
HasSmallKey (Key number) = number < 2 ^ 32
HasSmallKey (Sealed number) = number < 2 ^ 32

-- a component is there exactly where its part is chosen, and has small numbers where it is there
pub record IsComponentOf {T : Type 0} (HasSmallNumbers : T → Type 0) (chosen : Bool) (component : Option T) : Type 0 where
  pub there : is_some component ≡ chosen
  pub small : ForSome component HasSmallNumbers

-- each component is there exactly where its part is chosen; each number is one of 32 bits, and each set has 128
pub record IsTagOf (choice : Choice) (tag : AllTag) : Type 0 where
  pub seal : IsComponentOf HasSmallKey choice.seal tag.0
  pub comp : IsComponentOf HasFittingNumbers choice.comp tag.1.0
  pub flow : IsComponentOf HasSmallLabels choice.flow tag.1.1.0
  pub heap : IsComponentOf HasSmallBlocks choice.heap tag.1.1.1
