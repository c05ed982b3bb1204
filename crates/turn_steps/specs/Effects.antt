-- What an allowed instruction does to its hart, to memory and to the feed.
use Rattle.std.specs.Prelude.{◌≡◌, ℕ, ◌%◌, ◌^◌, Option, Some, None}
use Rattle.std.specs.Option.{unwrap_or}
use Rattle.rv_decode.specs.Groups.{a0}
use Rattle.rv_decode.specs.declared.groups.Group.{Group}
use Rattle.rv_decode.specs.declared.groups.Group.TheVariants as group
use Rattle.rv_decode.specs.declared.places.Slot.{Slot}
use Rattle.rv_decode.specs.declared.places.Slot.TheVariants as slot
use Rattle.rv_step.specs.Accesses.{EndsWithin, loaded_from, stored_in}
use Rattle.rv_step.specs.declared.accesses.Access.{Access}
use Rattle.rv_step.specs.declared.accesses.Access.TheVariants as access
use Rattle.rv_step.specs.declared.effects.Effect.{Effect}
use Rattle.policy_trait.specs.declared.rules.Outs.{Outs}
use Rattle.tag_memory.specs.Hart.{HartState, IsHartOf, moved_to, reg_value, with_reg, with_reg_tag}
use Rattle.tag_memory.specs.Ram.{IsRamOf, RamState, ram_bytes, ram_word, with_ram_tag, with_ram_word}
use Rattle.turn_steps.specs.Feeds.{Tape, fed_after, fed_value}
use Rattle.turn_steps.specs.declared.effects.Done.{Done}
use Rattle.turn_steps.specs.declared.effects.Done.TheVariants.{Broke, Exited, Stepped}
use Rattle.turn_steps.specs.declared.look.Look.{Look}

-- the access is in memory, and the next pc is that of a word
pub record IsSound (bytes : ℕ) (effect : Effect) : Type 0 where
  pub in_memory : EndsWithin bytes effect.access
  pub to_word : effect.next % 4 ≡ 0

-- after the effect: the hart, memory, the feed, and how the instruction ended
pub record Carried (T : Type 0) : Type 0 where
  pub hart : HartState T
  pub ram : RamState T
  pub feed : Tape
  pub done : Done

-- the hart and memory are those of a machine with that plain tag, and memory has so many bytes
pub record IsCarriedOf {T : Type 0} (tag : T) (size : ℕ) (carried : Carried T) : Type 0 where
  pub hart : IsHartOf tag carried.hart
  pub ram : IsRamOf tag carried.ram
  pub bytes : ram_bytes carried.ram ≡ size

-- what goes into the result's register
abbrev pub result_value : {T : Type 0} → RamState T → Option ℕ → Access → ℕ
result_value ram value access.None = unwrap_or value 0
result_value ram value (access.Load addr width signed) = loaded_from (ram_word ram addr) addr width signed
result_value ram value (access.Store addr width stored) = unwrap_or value 0

-- a register with its tag; a write to x0 is dropped
abbrev pub with_tagged : {T : Type 0} → HartState T → ℕ → ℕ → T → HartState T
with_tagged hart r value tag = with_reg_tag (with_reg hart r value) r tag

-- the same for the place of a result, which may be no register
abbrev pub with_result : {T : Type 0} → HartState T → Slot → ℕ → T → HartState T
with_result hart slot.Nothing value tag = hart
with_result hart (slot.Reg r) value tag = with_tagged hart r value tag
with_result hart slot.Word value tag = hart

-- memory after the access: a store writes the word that holds it, with the result's tag
abbrev pub with_store : {T : Type 0} → RamState T → Access → T → RamState T
with_store ram access.None tag = ram
with_store ram (access.Load addr width signed) tag = ram
with_store ram (access.Store addr width value) tag =
    with_ram_tag (with_ram_word ram addr (stored_in (ram_word ram addr) addr width value)) addr tag

-- the instruction's own result, and the next pc
abbrev pub hart_after : {T : Type 0} → HartState T → RamState T → Look → Outs T → HartState T
hart_after hart ram look outs =
    moved_to (with_tagged hart look.places.result (result_value ram look.effect.value look.effect.access) outs.result) look.effect.next outs.pc

-- a0 takes the next byte of the feed, with the result's tag
abbrev pub fed_hart : {T : Type 0} → HartState T → Tape → T → HartState T
fed_hart hart feed tag = with_reg_tag (with_reg hart a0 (fed_value feed.left)) a0 tag

-- exit stops the hart where it stands, put gives the low byte of a0, get takes the next byte of the feed into a0, a break
-- is told, and any other instruction steps and stores
abbrev pub carried_by : {T : Type 0} → Group → HartState T → RamState T → Tape → Look → Outs T → Carried T
carried_by group.Exit hart ram feed look outs =
    record { hart = hart; ram = ram; feed = feed; done = Exited (reg_value hart a0) }
carried_by group.Put hart ram feed look outs =
    record { hart = moved_to hart look.effect.next outs.pc; ram = ram; feed = feed; done = Stepped (Some (reg_value hart a0 % 2 ^ 8)) }
carried_by group.Get hart ram feed look outs =
    record { hart = moved_to (fed_hart hart feed outs.result) look.effect.next outs.pc; ram = ram; feed = fed_after feed; done = Stepped None }
carried_by group.Break hart ram feed look outs =
    record { hart = hart_after hart ram look outs; ram = ram; feed = feed; done = Broke }
carried_by _ hart ram feed look outs =
    record { hart = hart_after hart ram look outs; ram = with_store ram look.effect.access outs.result; feed = feed; done = Stepped None }

-- what stands after the effect of a look
unfoldable pub effect_result : {T : Type 0} → HartState T → RamState T → Tape → Look → Outs T → Carried T
effect_result hart ram feed look outs = carried_by look.group hart ram feed look outs
