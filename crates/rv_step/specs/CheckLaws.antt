-- What follows where an effect has no fault, for proofs over the definitions.
use Rattle.std.specs.Prelude.{◌≡◌, ℕ, ◌+◌, ◌%◌, nat_lt, ◌==◌, ◌&&◌, not, Bool, true, false, IsTrue, IsFalse, Option, Some, None}
use Rattle.std.proofs.Common.{refl, cond, rules, arith}
use Rattle.std.proofs.lemmas.Bool.{eqb-true, ltb-false}
use Rattle.rv_decode.specs.declared.instructions.Instr.{Instr}
use Rattle.rv_decode.specs.declared.instructions.Instr.TheVariants.{Jal, Jalr, Beq, Bne, Blt, Bge, Bltu, Bgeu}
use Rattle.rv_step.specs.Accesses.{bytes_of, IsAligned, EndsWithin}
use Rattle.rv_step.specs.Checks.{access_fault, jump_fault, first_of, first_fault, GoesOnToWord, IsSafe}
use Rattle.rv_step.specs.Effects.{effect_of, branches, is_less_signed, plus}
use Rattle.rv_step.specs.declared.accesses.Access.{Access}
use Rattle.rv_step.specs.declared.accesses.Access.TheVariants as access
use Rattle.rv_step.specs.declared.effects.Effect.{Effect}
use Rattle.rv_step.specs.declared.faults.Fault.{Fault}
use Rattle.rv_step.specs.declared.faults.Fault.TheVariants.{LoadAlign, StoreAlign, LoadRange, StoreRange, JumpAlign}

first_none : (x y : Option Fault) → first_of x y ≡ None → (x ≡ None) × (y ≡ None)
first_none None y none = search rules
first_none (Some fault) y none = cc

-- two tests that found no fault
none_found : (fits within : Bool) (first second : Fault) → cond (not fits) (Some first) (cond within (Some second) None) ≡ None
    → (fits ≡ true) × (within ≡ false)
none_found true false first second none = (refl, refl)
none_found true true first second none = cc
none_found false within first second none = cc

access_safe : (access : Access) (ram : ℕ) → access_fault access ram ≡ None → IsAligned access × EndsWithin ram access
access_safe access.None ram none = (tt, tt)
access_safe (access.Load addr width signed) ram none =
    let tests = none_found (addr % bytes_of width == 0) (nat_lt ram (addr + bytes_of width)) (LoadAlign addr) (LoadRange addr) none in
    (eqb-true _ _ tests.0, omega (arith, ltb-false _ _ tests.1))
access_safe (access.Store addr width value) ram none =
    let tests = none_found (addr % bytes_of width == 0) (nat_lt ram (addr + bytes_of width)) (StoreAlign addr) (StoreRange addr) none in
    (eqb-true _ _ tests.0, omega (arith, ltb-false _ _ tests.1))

no_jump_fault : (taken fits : Bool) (fault : Fault) → cond (taken && not fits) (Some fault) None ≡ None → IsTrue taken → fits ≡ true
no_jump_fault true true fault none taken = refl
no_jump_fault true false fault none taken = cc
no_jump_fault false fits fault none taken = cc

jump_safe : (effect : Effect) → jump_fault effect ≡ None → IsTrue effect.taken → effect.next % 4 ≡ 0
jump_safe effect none taken =
    eqb-true _ _ (no_jump_fault effect.taken (effect.next % 4 == 0) (JumpAlign effect.next) none taken)

-- such an effect is safe
pub safe_if_none : (effect : Effect) (ram : ℕ) → first_fault effect ram ≡ None → IsSafe ram effect
safe_if_none effect ram none =
    let parts = first_none (access_fault effect.access ram) (jump_fault effect) none in
    let access = access_safe effect.access ram parts.0 in
    record { aligned = access.0; in_memory = access.1; to_word = jump_safe effect parts.1 }

either : (b : Bool) (P : Type 0) → (IsFalse b → P) → (IsTrue b → P) → P
either false P at_false at_true = at_false refl
either true P at_false at_true = at_true refl

after_four : (pc : ℕ) → pc % 4 ≡ 0 → plus pc 4 % 4 ≡ 0
after_four pc aligned = omega arith

branch_onward : (pc offset : ℕ) (taken : Bool) → pc % 4 ≡ 0 → GoesOnToWord (branches pc offset taken)
branch_onward pc offset false aligned straight = after_four pc aligned
branch_onward pc offset true aligned straight = cc

-- an instruction that doesn't jump keeps the pc a multiple of 4
pub onward : (i : Instr) (pc a b : ℕ) → pc % 4 ≡ 0 → GoesOnToWord (effect_of i pc a b)
onward (Jal rd imm) pc a b aligned straight = cc
onward (Jalr rd rs1 imm) pc a b aligned straight = cc
onward (Beq rs1 rs2 imm) pc a b aligned straight = branch_onward pc imm (a == b) aligned straight
onward (Bne rs1 rs2 imm) pc a b aligned straight = branch_onward pc imm (not (a == b)) aligned straight
onward (Blt rs1 rs2 imm) pc a b aligned straight = branch_onward pc imm (is_less_signed a b) aligned straight
onward (Bge rs1 rs2 imm) pc a b aligned straight = branch_onward pc imm (not (is_less_signed a b)) aligned straight
onward (Bltu rs1 rs2 imm) pc a b aligned straight = branch_onward pc imm (nat_lt a b) aligned straight
onward (Bgeu rs1 rs2 imm) pc a b aligned straight = branch_onward pc imm (not (nat_lt a b)) aligned straight
onward _ pc a b aligned straight = after_four pc aligned

-- so where it has no fault, whether it jumps or not
pub next_aligned : (i : Instr) (pc a b ram : ℕ) → pc % 4 ≡ 0 → first_fault (effect_of i pc a b) ram ≡ None → (effect_of i pc a b).next % 4 ≡ 0
next_aligned i pc a b ram aligned none =
    either (effect_of i pc a b).taken _ (onward i pc a b aligned) (safe_if_none (effect_of i pc a b) ram none).to_word
