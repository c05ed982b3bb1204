-- What an instruction does, over whole numbers modulo 2 ^ 32, as the RISC-V unprivileged ISA has it: one line an instruction.
-- pc is the place of the instruction, and a and b are the values of the registers rs1 and rs2, before rd is written.
use Rattle.std.specs.Prelude.{ℕ, ◌+◌, ◌-◌, ◌*◌, ◌/◌, ◌%◌, ◌^◌, ◌==◌, nat_lt, int_lt, Bool, true, false, not, if◌then◌else◌, Some, None, bit_and, bit_or, bit_xor}
use Rattle.pump_words.specs.Words.{signed, unsigned, shifted_down}
use Rattle.rv_decode.specs.declared.instructions.Instr.{Instr}
use Rattle.rv_decode.specs.declared.instructions.Instr.TheVariants.{Lui, Auipc, Jal, Jalr, Beq, Bne, Blt, Bge, Bltu, Bgeu, Lb, Lh, Lw, Lbu, Lhu, Sb, Sh, Sw, Addi, Slti, Sltiu, Xori, Ori, Andi, Slli, Srli, Srai, Add, Sub, Sll, Slt, Sltu, Xor, Srl, Sra, Or, And, Mul, Mulh, Mulhsu, Mulhu, Div, Divu, Rem, Remu, Fence, Ecall, Ebreak}
use Rattle.rv_products.specs.Products.{low_product, high_product, high_product_mixed, high_product_unsigned}
use Rattle.rv_products.specs.Quotients.{quotient, quotient_unsigned, remainder, remainder_unsigned}
use Rattle.rv_step.specs.declared.accesses.Access.TheVariants as access
use Rattle.rv_step.specs.declared.accesses.Width.{Width}
use Rattle.rv_step.specs.declared.accesses.Width.TheVariants.{Byte, Half, Full}
use Rattle.rv_step.specs.declared.effects.Effect.{Effect}

abbrev pub plus : ℕ → ℕ → ℕ
plus a b = (a + b) % 2 ^ 32

abbrev pub minus : ℕ → ℕ → ℕ
minus a b = (a + (2 ^ 32 - b)) % 2 ^ 32

abbrev pub shifted_up : ℕ → ℕ → ℕ
shifted_up a n = a * 2 ^ n % 2 ^ 32

-- a shifted down, with copies of its sign
abbrev pub shifted_down_signed : ℕ → ℕ → ℕ
shifted_down_signed a n = unsigned (shifted_down (signed a) n)

abbrev pub is_less_signed : ℕ → ℕ → Bool
is_less_signed a b = int_lt (signed a) (signed b)

-- 1 for true, 0 for false
abbrev pub flag : Bool → ℕ
flag b = if b then 1 else 0

-- the six kinds of effect

-- goes on, and does nothing else
abbrev pub passes : ℕ → Effect
passes pc = record { next = plus pc 4; value = None; access = access.None; taken = false }

-- goes on, with this value for rd
abbrev pub computes : ℕ → ℕ → Effect
computes pc value = record { next = plus pc 4; value = Some value; access = access.None; taken = false }

-- goes to the target, with the place after the jump for rd
abbrev pub jumps : ℕ → ℕ → Effect
jumps pc target = record { next = target; value = Some (plus pc 4); access = access.None; taken = true }

-- goes to pc + offset if the branch is taken, else on
abbrev pub branches : ℕ → ℕ → Bool → Effect
branches pc offset taken =
    record { next = (if taken then plus pc offset else plus pc 4); value = None; access = access.None; taken = taken }

-- goes on, and loads from an address
abbrev pub loads : ℕ → ℕ → Width → Bool → Effect
loads pc addr width signed =
    record { next = plus pc 4; value = None; access = access.Load addr width signed; taken = false }

-- goes on, and stores to an address
abbrev pub stores : ℕ → ℕ → Width → ℕ → Effect
stores pc addr width value =
    record { next = plus pc 4; value = None; access = access.Store addr width value; taken = false }

abbrev pub effect_of : Instr → ℕ → ℕ → ℕ → Effect
effect_of (Lui _ imm) pc _ _ = computes pc imm
effect_of (Auipc _ imm) pc _ _ = computes pc (plus pc imm)
effect_of (Jal _ imm) pc _ _ = jumps pc (plus pc imm)
effect_of (Jalr _ _ imm) pc a _ = jumps pc (plus a imm / 2 * 2)
effect_of (Beq _ _ imm) pc a b = branches pc imm (a == b)
effect_of (Bne _ _ imm) pc a b = branches pc imm (not (a == b))
effect_of (Blt _ _ imm) pc a b = branches pc imm (is_less_signed a b)
effect_of (Bge _ _ imm) pc a b = branches pc imm (not (is_less_signed a b))
effect_of (Bltu _ _ imm) pc a b = branches pc imm (nat_lt a b)
effect_of (Bgeu _ _ imm) pc a b = branches pc imm (not (nat_lt a b))
effect_of (Lb _ _ imm) pc a _ = loads pc (plus a imm) Byte true
effect_of (Lh _ _ imm) pc a _ = loads pc (plus a imm) Half true
effect_of (Lw _ _ imm) pc a _ = loads pc (plus a imm) Full false
effect_of (Lbu _ _ imm) pc a _ = loads pc (plus a imm) Byte false
effect_of (Lhu _ _ imm) pc a _ = loads pc (plus a imm) Half false
effect_of (Sb _ _ imm) pc a b = stores pc (plus a imm) Byte b
effect_of (Sh _ _ imm) pc a b = stores pc (plus a imm) Half b
effect_of (Sw _ _ imm) pc a b = stores pc (plus a imm) Full b
effect_of (Addi _ _ imm) pc a _ = computes pc (plus a imm)
effect_of (Slti _ _ imm) pc a _ = computes pc (flag (is_less_signed a imm))
effect_of (Sltiu _ _ imm) pc a _ = computes pc (flag (nat_lt a imm))
effect_of (Xori _ _ imm) pc a _ = computes pc (bit_xor a imm)
effect_of (Ori _ _ imm) pc a _ = computes pc (bit_or a imm)
effect_of (Andi _ _ imm) pc a _ = computes pc (bit_and a imm)
effect_of (Slli _ _ amount) pc a _ = computes pc (shifted_up a amount)
effect_of (Srli _ _ amount) pc a _ = computes pc (a / 2 ^ amount)
effect_of (Srai _ _ amount) pc a _ = computes pc (shifted_down_signed a amount)
effect_of (Add _ _ _) pc a b = computes pc (plus a b)
effect_of (Sub _ _ _) pc a b = computes pc (minus a b)
effect_of (Sll _ _ _) pc a b = computes pc (shifted_up a (b % 32))
effect_of (Slt _ _ _) pc a b = computes pc (flag (is_less_signed a b))
effect_of (Sltu _ _ _) pc a b = computes pc (flag (nat_lt a b))
effect_of (Xor _ _ _) pc a b = computes pc (bit_xor a b)
effect_of (Srl _ _ _) pc a b = computes pc (a / 2 ^ (b % 32))
effect_of (Sra _ _ _) pc a b = computes pc (shifted_down_signed a (b % 32))
effect_of (Or _ _ _) pc a b = computes pc (bit_or a b)
effect_of (And _ _ _) pc a b = computes pc (bit_and a b)
effect_of (Mul _ _ _) pc a b = computes pc (low_product a b)
effect_of (Mulh _ _ _) pc a b = computes pc (high_product a b)
effect_of (Mulhsu _ _ _) pc a b = computes pc (high_product_mixed a b)
effect_of (Mulhu _ _ _) pc a b = computes pc (high_product_unsigned a b)
effect_of (Div _ _ _) pc a b = computes pc (quotient a b)
effect_of (Divu _ _ _) pc a b = computes pc (quotient_unsigned a b)
effect_of (Rem _ _ _) pc a b = computes pc (remainder a b)
effect_of (Remu _ _ _) pc a b = computes pc (remainder_unsigned a b)
effect_of (Fence _) pc _ _ = passes pc
effect_of Ecall pc _ _ = passes pc
effect_of Ebreak pc _ _ = passes pc
