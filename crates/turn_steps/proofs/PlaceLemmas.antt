-- x0 stands for an operand, or a register of the result, that there is not: it is 0 and plain, and drops what is written.
use Rattle.std.proofs.Common.{◌≡◌, ℕ, Option, Some, None, refl, ap, ◌∙◌}
use Rattle.rv_decode.specs.Groups.{places_of, reads_of, register_or_zero, result_register}
use Rattle.rv_decode.specs.declared.instructions.Instr.{Instr}
use Rattle.rv_decode.specs.declared.places.Places.{Places}
use Rattle.rv_decode.specs.declared.places.Slot.{Slot}
use Rattle.rv_decode.specs.declared.places.Slot.TheVariants as slot
use Rattle.rv_step.specs.Effects.{effect_of}
use Rattle.rv_step.specs.declared.effects.Effect.{Effect}
use Rattle.policy_trait.specs.declared.rules.Ins.{Ins}
use Rattle.tag_memory.specs.Hart.{HartState, reg_tag, reg_value}
use Rattle.tag_memory.specs.Ram.{RamState, ram_tag}
use Rattle.turn_steps.specs.Effects.{with_result, with_tagged}
use Rattle.turn_steps.specs.Looks.{access_tag, effect_at, effect_on, inputs_at, inputs_on, operand, operand_tag}

value_is : {T : Type 0} (hart : HartState T) (register : Option ℕ) → reg_value hart (register_or_zero register) ≡ operand hart register
value_is hart None = refl
value_is hart (Some r) = refl

pub tag_is : {T : Type 0} (hart : HartState T) (register : Option ℕ) → reg_tag hart (register_or_zero register) ≡ operand_tag hart register
tag_is hart None = refl
tag_is hart (Some r) = refl

pub effect_is : {T : Type 0} (hart : HartState T) (instr : Instr) (places : Places) (service : ℕ) → places ≡ places_of instr service → effect_on hart instr places ≡ effect_at hart instr
effect_is hart instr places service placed =
    ap (effect_on hart instr) placed
    ∙ ap (λ (a : ℕ). effect_of instr hart.pc a (reg_value hart (register_or_zero (reads_of instr).t2))) (value_is hart (reads_of instr).t1)
    ∙ ap (effect_of instr hart.pc (operand hart (reads_of instr).t1)) (value_is hart (reads_of instr).t2)

pub inputs_are : {T : Type 0} (hart : HartState T) (ram : RamState T) (instr : Instr) (places : Places) (service : ℕ) (effect : Effect) → places ≡ places_of instr service
    → inputs_on hart ram places effect.access ≡ inputs_at hart ram instr effect
inputs_are {T} hart ram instr places service effect placed =
    let asked : T → T → Ins T = λ t1 t2. record { pc = hart.pc_tag; ci = ram_tag ram hart.pc; t1 = t1; t2 = t2; tm = access_tag ram hart.plain effect.access } in
    ap (λ p. inputs_on hart ram p effect.access) placed
    ∙ ap (λ (t : T). asked t (reg_tag hart (register_or_zero (reads_of instr).t2))) (tag_is hart (reads_of instr).t1)
    ∙ ap (asked (operand_tag hart (reads_of instr).t1)) (tag_is hart (reads_of instr).t2)

-- the register of a result takes what its place takes
pub result_is : {T : Type 0} (hart : HartState T) (place : Slot) (value : ℕ) (tag : T) → with_tagged hart (result_register place) value tag ≡ with_result hart place value tag
result_is hart slot.Nothing value tag = refl
result_is hart (slot.Reg r) value tag = refl
result_is hart slot.Word value tag = refl
