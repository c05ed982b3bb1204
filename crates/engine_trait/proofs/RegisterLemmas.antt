-- The register that a turn writes is one of x0 to x31, and x0 where the turn stores.
use Rattle.std.proofs.Common.{◌≡◌, ℕ, ◌<◌, ◌==◌, Option, Some, None, Result, Ok, IfSome, cond, eqb, if◌then◌else◌, refl, subst, arith}
use Rattle.std.proofs.lemmas.Bool.{cond_both}
use Rattle.shared_terms.proofs.StepLemmas.{on_ok}
use Rattle.rv_decode.specs.Decoding.{branch_of, instr_of_word, load_of, product_or_quotient_of, shift_down_of, shift_up_of, store_of, system_of, with_immediate_of, with_registers_of}
use Rattle.rv_decode.specs.Fields.{f3_of, f7_of, opcode_of, rd_of}
use Rattle.rv_decode.specs.Groups.{a0, a7, get_service, places_of, reads_of, result_register, writes_of}
use Rattle.rv_decode.specs.declared.instructions.Instr.{Instr}
use Rattle.rv_decode.specs.declared.places.Slot.{Slot}
use Rattle.rv_decode.specs.declared.places.Slot.TheVariants as slot
use Rattle.rv_decode.specs.declared.instructions.Instr.TheVariants.{Sb, Sh, Sw}
use Rattle.rv_step.specs.Checks.{first_fault}
use Rattle.rv_step.specs.Effects.{effect_of}
use Rattle.rv_step.specs.declared.accesses.Access.{Access}
use Rattle.rv_step.specs.declared.accesses.Access.TheVariants as access
use Rattle.rv_step.specs.declared.effects.Effect.{Effect}
use Rattle.rv_step.specs.declared.faults.Fault.{Fault}
use Rattle.rv_step.specs.declared.faults.Fault.TheVariants.{Illegal}
use Rattle.tag_memory.specs.Hart.{HartState, reg_value}
use Rattle.tag_memory.specs.Ram.{RamState, ram_bytes}
use Rattle.turn_steps.specs.Looks.{effect_at, effect_or_fault, fetch_result, found_or, look_at, look_result, operand, read_instr}
use Rattle.turn_steps.specs.declared.look.Look.{Look}

abbrev WritesSmall : Instr → Type 0
WritesSmall instr = (service : ℕ) → result_register (writes_of instr service) < 32

abbrev Small : Option Instr → Type 0
Small found = IfSome found WritesSmall

either : (a b : ℕ) (x y : Option Instr) → Small x → Small y → Small (cond (eqb a b) x y)
either a b x y taken passed = cond_both (eqb a b) x y Small (λ _. taken) (λ _. passed)

rd_small : (w service : ℕ) → rd_of w < 32
rd_small w service = omega arith

none_small : (service : ℕ) → 0 < 32
none_small service = omega arith

-- ---- each definition of the decoder

branch_small : (w : ℕ) → Small (branch_of w)
branch_small w =
    either (f3_of w) 0 _ _ none_small
    (either (f3_of w) 1 _ _ none_small
    (either (f3_of w) 4 _ _ none_small
    (either (f3_of w) 5 _ _ none_small
    (either (f3_of w) 6 _ _ none_small
    (either (f3_of w) 7 _ _ none_small tt)))))

load_small : (w : ℕ) → Small (load_of w)
load_small w =
    let small = rd_small w in
    either (f3_of w) 0 _ _ small
    (either (f3_of w) 1 _ _ small
    (either (f3_of w) 2 _ _ small
    (either (f3_of w) 4 _ _ small
    (either (f3_of w) 5 _ _ small tt))))

store_small : (w : ℕ) → Small (store_of w)
store_small w =
    either (f3_of w) 0 _ _ none_small (either (f3_of w) 1 _ _ none_small (either (f3_of w) 2 _ _ none_small tt))

shift_up_small : (w : ℕ) → Small (shift_up_of w)
shift_up_small w = either (f7_of w) 0x00 _ _ (rd_small w) tt

shift_down_small : (w : ℕ) → Small (shift_down_of w)
shift_down_small w = either (f7_of w) 0x00 _ _ (rd_small w) (either (f7_of w) 0x20 _ _ (rd_small w) tt)

with_immediate_small : (w : ℕ) → Small (with_immediate_of w)
with_immediate_small w =
    let small = rd_small w in
    either (f3_of w) 0 _ _ small
    (either (f3_of w) 1 _ _ (shift_up_small w)
    (either (f3_of w) 2 _ _ small
    (either (f3_of w) 3 _ _ small
    (either (f3_of w) 4 _ _ small
    (either (f3_of w) 5 _ _ (shift_down_small w)
    (either (f3_of w) 6 _ _ small
    (either (f3_of w) 7 _ _ small tt)))))))

product_or_quotient_small : (w : ℕ) → Small (product_or_quotient_of w)
product_or_quotient_small w =
    let small = rd_small w in
    either (f3_of w) 0 _ _ small
    (either (f3_of w) 1 _ _ small
    (either (f3_of w) 2 _ _ small
    (either (f3_of w) 3 _ _ small
    (either (f3_of w) 4 _ _ small
    (either (f3_of w) 5 _ _ small
    (either (f3_of w) 6 _ _ small
    (either (f3_of w) 7 _ _ small tt)))))))

with_registers_small : (w : ℕ) → Small (with_registers_of w)
with_registers_small w =
    let small = rd_small w in
    either (f7_of w) 0x00 _ _
    (either (f3_of w) 0 _ _ small
    (either (f3_of w) 1 _ _ small
    (either (f3_of w) 2 _ _ small
    (either (f3_of w) 3 _ _ small
    (either (f3_of w) 4 _ _ small
    (either (f3_of w) 5 _ _ small
    (either (f3_of w) 6 _ _ small
    (either (f3_of w) 7 _ _ small tt))))))))
    (either (f7_of w) 0x01 _ _ (product_or_quotient_small w)
    (either (f7_of w) 0x20 _ _ (either (f3_of w) 0 _ _ small (either (f3_of w) 5 _ _ small tt)) tt))

call_small : (service : ℕ) → result_register (if service == get_service then slot.Reg a0 else slot.Nothing) < 32
call_small service =
    cond_both (service == get_service) (slot.Reg a0) slot.Nothing (λ (place : Slot). result_register place < 32) (λ _. omega arith) (λ _. omega arith)

system_small : (w : ℕ) → Small (system_of w)
system_small w = either w 0x00000073 _ _ call_small (either w 0x00100073 _ _ none_small tt)

decoded_small : (w : ℕ) → Small (instr_of_word w)
unfolding instr_of_word
decoded_small w =
    let small = rd_small w in
    either (opcode_of w) 0x37 _ _ small
    (either (opcode_of w) 0x17 _ _ small
    (either (opcode_of w) 0x6F _ _ small
    (either (opcode_of w) 0x67 _ _ (either (f3_of w) 0 _ _ small tt)
    (either (opcode_of w) 0x63 _ _ (branch_small w)
    (either (opcode_of w) 0x03 _ _ (load_small w)
    (either (opcode_of w) 0x23 _ _ (store_small w)
    (either (opcode_of w) 0x13 _ _ (with_immediate_small w)
    (either (opcode_of w) 0x33 _ _ (with_registers_small w)
    (either (opcode_of w) 0x0F _ _ (either (f3_of w) 0 _ _ none_small tt)
    (either (opcode_of w) 0x73 _ _ (system_small w) tt))))))))))

-- ---- what is looked at

abbrev done : Look → Result Look Fault
done look = Ok look

look_is : (look given : Look) → done look ≡ done given → look ≡ given
look_is look given e = cc

same_instr : (fault : Fault) (x instr : Instr) → found_or fault (Some x) ≡ Ok instr → x ≡ instr
same_instr fault x instr e = cc

found_small : (fault : Fault) (found : Option Instr) (instr : Instr) → Small found → found_or fault found ≡ Ok instr → WritesSmall instr
found_small fault None instr small e = absurd cc
found_small fault (Some x) instr small e = subst WritesSmall (same_instr fault x instr e) small

pub looked_small : {T : Type 0} (hart : HartState T) (ram : RamState T) (look : Look) → look_result hart ram ≡ Ok look → look.places.result < 32
unfolding look_result
looked_small hart ram look e =
    on_ok (fetch_result hart ram) _ look e λ word word-is e1.
    on_ok (read_instr word) _ look e1 λ instr instr-is e2.
    on_ok (effect_or_fault (effect_at hart instr) (first_fault (effect_at hart instr) (ram_bytes ram))) _ look e2 λ effect effect-is e3.
    subst (λ (l : Look). l.places.result < 32) (look_is (look_at hart word instr effect) look e3)
    (found_small (Illegal word) (instr_of_word word) instr (decoded_small word) instr-is (reg_value hart a7))

-- ---- a store

-- a turn whose access is this writes this register: a store writes none but x0
abbrev pub StoresAlone : Access → ℕ → Type 0
StoresAlone (access.Store addr width value) r = r ≡ 0
StoresAlone _ r = Unit {0}

instr_stores : (instr : Instr) (pc a b service : ℕ) → StoresAlone (effect_of instr pc a b).access (result_register (writes_of instr service))
instr_stores (Sb rs1 rs2 imm) pc a b service = refl
instr_stores (Sh rs1 rs2 imm) pc a b service = refl
instr_stores (Sw rs1 rs2 imm) pc a b service = refl
instr_stores _ pc a b service = tt

same_effect : (computed effect : Effect) (fault : Option Fault) → effect_or_fault computed fault ≡ Ok effect → computed ≡ effect
same_effect computed effect None e = cc
same_effect computed effect (Some fault) e = absurd cc

pub looked_stores : {T : Type 0} (hart : HartState T) (ram : RamState T) (look : Look) → look_result hart ram ≡ Ok look → StoresAlone look.effect.access look.places.result
unfolding look_result
looked_stores hart ram look e =
    on_ok (fetch_result hart ram) _ look e λ word word-is e1.
    on_ok (read_instr word) _ look e1 λ instr instr-is e2.
    on_ok (effect_or_fault (effect_at hart instr) (first_fault (effect_at hart instr) (ram_bytes ram))) _ look e2 λ effect effect-is e3.
    subst (λ (l : Look). StoresAlone l.effect.access l.places.result) (look_is (look_at hart word instr effect) look e3)
    (subst (λ (found : Effect). StoresAlone found.access (places_of instr (reg_value hart a7)).result)
    (same_effect (effect_at hart instr) effect (first_fault (effect_at hart instr) (ram_bytes ram)) effect-is)
    (instr_stores instr hart.pc (operand hart (reads_of instr).t1) (operand hart (reads_of instr).t2) (reg_value hart a7)))
