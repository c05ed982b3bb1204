-- Values that are words: whole numbers below 2 ^ 32.
use Rattle.std.specs.Prelude.{ℕ, ◌^◌, ◌<◌}
use Rattle.std.specs.List.{All}
use Rattle.std.specs.Option.{ForSome}
use Rattle.rv_step.specs.declared.accesses.Access.{Access}
use Rattle.rv_step.specs.declared.accesses.Access.TheVariants as access
use Rattle.rv_step.specs.declared.effects.Effect.{Effect}
use Rattle.tag_memory.specs.Hart.{HartState}
use Rattle.tag_memory.specs.Ram.{RamState}
use Rattle.turn_steps.specs.Effects.{Carried}

abbrev pub IsWord : ℕ → Type 0
IsWord value = value < 2 ^ 32

-- each register has one; x0 is 0
abbrev pub HartHasWords : {T : Type 0} → HartState T → Type 0
HartHasWords hart = All IsWord hart.values

-- each place of memory has one
abbrev pub RamHasWords : {T : Type 0} → RamState T → Type 0
RamHasWords ram = All IsWord ram.words

-- what a store stores is one
abbrev pub StoresWord : Access → Type 0
StoresWord access.None = Unit {0}
StoresWord (access.Load addr width signed) = Unit {0}
StoresWord (access.Store addr width value) = IsWord value

-- an effect whose value, if it has one, and whose stored one are words
pub record GivesWords (effect : Effect) : Type 0 where
  pub value : ForSome effect.value IsWord
  pub stored : StoresWord effect.access

-- the hart and memory that an instruction leaves have words
pub record LeavesWords {T : Type 0} (carried : Carried T) : Type 0 where
  pub hart : HartHasWords carried.hart
  pub ram : RamHasWords carried.ram
