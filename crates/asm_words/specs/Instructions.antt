-- The instruction of an operation and its operands.
use Rattle.std.specs.Prelude.{ℕ}
use Rattle.rv_decode.specs.declared.instructions.Instr.{Instr}
use Rattle.rv_decode.specs.declared.instructions.Instr.TheVariants.{Lui, Auipc, Beq, Bne, Blt, Bge, Bltu, Bgeu, Lb, Lh, Lw, Lbu, Lhu, Sb, Sh, Sw, Addi, Slti, Sltiu, Xori, Ori, Andi, Slli, Srli, Srai, Add, Sub, Sll, Slt, Sltu, Xor, Srl, Sra, Or, And, Mul, Mulh, Mulhsu, Mulhu, Div, Divu, Rem, Remu}
use Rattle.asm_table.specs.declared.forms.RegisterOperation.{RegisterOperation}
use Rattle.asm_table.specs.declared.forms.RegisterOperation.TheVariants as registers
use Rattle.asm_table.specs.declared.forms.ImmediateOperation.{ImmediateOperation}
use Rattle.asm_table.specs.declared.forms.ImmediateOperation.TheVariants as immediates
use Rattle.asm_table.specs.declared.forms.ShiftOperation.{ShiftOperation}
use Rattle.asm_table.specs.declared.forms.ShiftOperation.TheVariants as shifts
use Rattle.asm_table.specs.declared.forms.UpperOperation.{UpperOperation}
use Rattle.asm_table.specs.declared.forms.UpperOperation.TheVariants as uppers
use Rattle.asm_table.specs.declared.forms.LoadOperation.{LoadOperation}
use Rattle.asm_table.specs.declared.forms.LoadOperation.TheVariants as loads
use Rattle.asm_table.specs.declared.forms.StoreOperation.{StoreOperation}
use Rattle.asm_table.specs.declared.forms.StoreOperation.TheVariants as stores
use Rattle.asm_table.specs.declared.forms.BranchOperation.{BranchOperation}
use Rattle.asm_table.specs.declared.forms.BranchOperation.TheVariants as branches

-- of rd, rs1 and rs2, each a register's number
abbrev pub with_registers : RegisterOperation → ℕ → ℕ → ℕ → Instr
with_registers registers.Add rd rs1 rs2 = Add rd rs1 rs2
with_registers registers.Sub rd rs1 rs2 = Sub rd rs1 rs2
with_registers registers.Sll rd rs1 rs2 = Sll rd rs1 rs2
with_registers registers.Slt rd rs1 rs2 = Slt rd rs1 rs2
with_registers registers.Sltu rd rs1 rs2 = Sltu rd rs1 rs2
with_registers registers.Xor rd rs1 rs2 = Xor rd rs1 rs2
with_registers registers.Srl rd rs1 rs2 = Srl rd rs1 rs2
with_registers registers.Sra rd rs1 rs2 = Sra rd rs1 rs2
with_registers registers.Or rd rs1 rs2 = Or rd rs1 rs2
with_registers registers.And rd rs1 rs2 = And rd rs1 rs2
with_registers registers.Mul rd rs1 rs2 = Mul rd rs1 rs2
with_registers registers.Mulh rd rs1 rs2 = Mulh rd rs1 rs2
with_registers registers.Mulhsu rd rs1 rs2 = Mulhsu rd rs1 rs2
with_registers registers.Mulhu rd rs1 rs2 = Mulhu rd rs1 rs2
with_registers registers.Div rd rs1 rs2 = Div rd rs1 rs2
with_registers registers.Divu rd rs1 rs2 = Divu rd rs1 rs2
with_registers registers.Rem rd rs1 rs2 = Rem rd rs1 rs2
with_registers registers.Remu rd rs1 rs2 = Remu rd rs1 rs2

-- of rd, rs1 and an immediate, the sign-extended word
abbrev pub with_immediate : ImmediateOperation → ℕ → ℕ → ℕ → Instr
with_immediate immediates.Addi rd rs1 imm = Addi rd rs1 imm
with_immediate immediates.Slti rd rs1 imm = Slti rd rs1 imm
with_immediate immediates.Sltiu rd rs1 imm = Sltiu rd rs1 imm
with_immediate immediates.Xori rd rs1 imm = Xori rd rs1 imm
with_immediate immediates.Ori rd rs1 imm = Ori rd rs1 imm
with_immediate immediates.Andi rd rs1 imm = Andi rd rs1 imm

-- of rd, rs1 and the amount of the shift
abbrev pub with_amount : ShiftOperation → ℕ → ℕ → ℕ → Instr
with_amount shifts.Slli rd rs1 amount = Slli rd rs1 amount
with_amount shifts.Srli rd rs1 amount = Srli rd rs1 amount
with_amount shifts.Srai rd rs1 amount = Srai rd rs1 amount

-- of rd and the word whose upper 20 bits are the immediate
abbrev pub with_upper : UpperOperation → ℕ → ℕ → Instr
with_upper uppers.Lui rd imm = Lui rd imm
with_upper uppers.Auipc rd imm = Auipc rd imm

-- of rd, the base rs1 and an offset, the sign-extended word
abbrev pub load_of : LoadOperation → ℕ → ℕ → ℕ → Instr
load_of loads.Lb rd rs1 imm = Lb rd rs1 imm
load_of loads.Lh rd rs1 imm = Lh rd rs1 imm
load_of loads.Lw rd rs1 imm = Lw rd rs1 imm
load_of loads.Lbu rd rs1 imm = Lbu rd rs1 imm
load_of loads.Lhu rd rs1 imm = Lhu rd rs1 imm

-- of the base rs1, the stored rs2 and an offset, the sign-extended word
abbrev pub store_of : StoreOperation → ℕ → ℕ → ℕ → Instr
store_of stores.Sb rs1 rs2 imm = Sb rs1 rs2 imm
store_of stores.Sh rs1 rs2 imm = Sh rs1 rs2 imm
store_of stores.Sw rs1 rs2 imm = Sw rs1 rs2 imm

-- of rs1 and rs2, which are compared, and an offset, the sign-extended word
abbrev pub branch_of : BranchOperation → ℕ → ℕ → ℕ → Instr
branch_of branches.Beq rs1 rs2 imm = Beq rs1 rs2 imm
branch_of branches.Bne rs1 rs2 imm = Bne rs1 rs2 imm
branch_of branches.Blt rs1 rs2 imm = Blt rs1 rs2 imm
branch_of branches.Bge rs1 rs2 imm = Bge rs1 rs2 imm
branch_of branches.Bltu rs1 rs2 imm = Bltu rs1 rs2 imm
branch_of branches.Bgeu rs1 rs2 imm = Bgeu rs1 rs2 imm
