-- The operation group of an instruction, and where it has its operands and its result: the table of groups of this project's profile, one line an instruction.
-- A group of ECALL is told by a7, the number of the service that is called.
use Rattle.std.specs.Prelude.{ℕ, ◌==◌, if◌then◌else◌, Option, Some, None, true, false}
use Rattle.rv_decode.specs.declared.groups.Group.{Group}
use Rattle.rv_decode.specs.declared.groups.Group.TheVariants as group
use Rattle.rv_decode.specs.declared.places.Places.{Places}
use Rattle.rv_decode.specs.declared.places.Reads.{Reads}
use Rattle.rv_decode.specs.declared.places.Slot.{Slot}
use Rattle.rv_decode.specs.declared.places.Slot.TheVariants.{Nothing, Reg, Word}
use Rattle.rv_decode.specs.declared.instructions.Instr.{Instr}
use Rattle.rv_decode.specs.declared.instructions.Instr.TheVariants.{Lui, Auipc, Jal, Jalr, Beq, Bne, Blt, Bge, Bltu, Bgeu, Lb, Lh, Lw, Lbu, Lhu, Sb, Sh, Sw, Addi, Slti, Sltiu, Xori, Ori, Andi, Slli, Srli, Srai, Add, Sub, Sll, Slt, Sltu, Xor, Srl, Sra, Or, And, Mul, Mulh, Mulhsu, Mulhu, Div, Divu, Rem, Remu, Fence, Ecall, Ebreak}

-- the registers of a service's first argument and answer, of its other arguments, and of its number
abbrev pub a0 : ℕ
a0 = 10

abbrev pub a1 : ℕ
a1 = 11

abbrev pub a2 : ℕ
a2 = 12

abbrev pub a7 : ℕ
a7 = 17

-- the numbers of the machine's own services
abbrev pub exit_service : ℕ
exit_service = 0

abbrev pub put_service : ℕ
put_service = 1

abbrev pub get_service : ℕ
get_service = 2

-- the group of an ECALL that finds this number in a7
abbrev pub service_group : ℕ → Group
service_group service =
    if service == exit_service then group.Exit else
    if service == put_service then group.Put else
    if service == get_service then group.Get else
    group.Call

-- ADDI with immediate 0 is a move
abbrev pub addi_group : ℕ → Group
addi_group immediate = if immediate == 0 then group.Move else group.AddImm

abbrev pub group_of : Instr → ℕ → Group
group_of (Lui _ _) _ = group.Const
group_of (Auipc _ _) _ = group.Here
group_of (Jal _ _) _ = group.Jal
group_of (Jalr _ _ _) _ = group.Jalr
group_of (Beq _ _ _) _ = group.Branch
group_of (Bne _ _ _) _ = group.Branch
group_of (Blt _ _ _) _ = group.Branch
group_of (Bge _ _ _) _ = group.Branch
group_of (Bltu _ _ _) _ = group.Branch
group_of (Bgeu _ _ _) _ = group.Branch
group_of (Lb _ _ _) _ = group.LoadPart
group_of (Lh _ _ _) _ = group.LoadPart
group_of (Lw _ _ _) _ = group.LoadWord
group_of (Lbu _ _ _) _ = group.LoadPart
group_of (Lhu _ _ _) _ = group.LoadPart
group_of (Sb _ _ _) _ = group.StorePart
group_of (Sh _ _ _) _ = group.StorePart
group_of (Sw _ _ _) _ = group.StoreWord
group_of (Addi _ _ imm) _ = addi_group imm
group_of (Slti _ _ _) _ = group.AluImm
group_of (Sltiu _ _ _) _ = group.AluImm
group_of (Xori _ _ _) _ = group.AluImm
group_of (Ori _ _ _) _ = group.AluImm
group_of (Andi _ _ _) _ = group.AluImm
group_of (Slli _ _ _) _ = group.AluImm
group_of (Srli _ _ _) _ = group.AluImm
group_of (Srai _ _ _) _ = group.AluImm
group_of (Add _ _ _) _ = group.Add
group_of (Sub _ _ _) _ = group.Sub
group_of (Sll _ _ _) _ = group.Alu
group_of (Slt _ _ _) _ = group.Alu
group_of (Sltu _ _ _) _ = group.Alu
group_of (Xor _ _ _) _ = group.Alu
group_of (Srl _ _ _) _ = group.Alu
group_of (Sra _ _ _) _ = group.Alu
group_of (Or _ _ _) _ = group.Alu
group_of (And _ _ _) _ = group.Alu
group_of (Mul _ _ _) _ = group.Alu
group_of (Mulh _ _ _) _ = group.Alu
group_of (Mulhsu _ _ _) _ = group.Alu
group_of (Mulhu _ _ _) _ = group.Alu
group_of (Div _ _ _) _ = group.Alu
group_of (Divu _ _ _) _ = group.Alu
group_of (Rem _ _ _) _ = group.Alu
group_of (Remu _ _ _) _ = group.Alu
group_of (Fence _) _ = group.Fence
group_of Ecall service = service_group service
group_of Ebreak _ = group.Break

-- operands: none, one register, two, and those of a load and a store, which have the memory word too

abbrev pub no_operand : Reads
no_operand = record { t1 = None; t2 = None; word = false }

abbrev pub one_register : ℕ → Reads
one_register rs1 = record { t1 = Some rs1; t2 = None; word = false }

abbrev pub two_registers : ℕ → ℕ → Reads
two_registers rs1 rs2 = record { t1 = Some rs1; t2 = Some rs2; word = false }

abbrev pub register_and_word : ℕ → Reads
register_and_word rs1 = record { t1 = Some rs1; t2 = None; word = true }

abbrev pub two_registers_and_word : ℕ → ℕ → Reads
two_registers_and_word rs1 rs2 = record { t1 = Some rs1; t2 = Some rs2; word = true }

abbrev pub reads_of : Instr → Reads
reads_of (Lui _ _) = no_operand
reads_of (Auipc _ _) = no_operand
reads_of (Jal _ _) = no_operand
reads_of (Jalr _ rs1 _) = one_register rs1
reads_of (Beq rs1 rs2 _) = two_registers rs1 rs2
reads_of (Bne rs1 rs2 _) = two_registers rs1 rs2
reads_of (Blt rs1 rs2 _) = two_registers rs1 rs2
reads_of (Bge rs1 rs2 _) = two_registers rs1 rs2
reads_of (Bltu rs1 rs2 _) = two_registers rs1 rs2
reads_of (Bgeu rs1 rs2 _) = two_registers rs1 rs2
reads_of (Lb _ rs1 _) = register_and_word rs1
reads_of (Lh _ rs1 _) = register_and_word rs1
reads_of (Lw _ rs1 _) = register_and_word rs1
reads_of (Lbu _ rs1 _) = register_and_word rs1
reads_of (Lhu _ rs1 _) = register_and_word rs1
reads_of (Sb rs1 rs2 _) = two_registers_and_word rs1 rs2
reads_of (Sh rs1 rs2 _) = two_registers_and_word rs1 rs2
reads_of (Sw rs1 rs2 _) = two_registers_and_word rs1 rs2
reads_of (Addi _ rs1 _) = one_register rs1
reads_of (Slti _ rs1 _) = one_register rs1
reads_of (Sltiu _ rs1 _) = one_register rs1
reads_of (Xori _ rs1 _) = one_register rs1
reads_of (Ori _ rs1 _) = one_register rs1
reads_of (Andi _ rs1 _) = one_register rs1
reads_of (Slli _ rs1 _) = one_register rs1
reads_of (Srli _ rs1 _) = one_register rs1
reads_of (Srai _ rs1 _) = one_register rs1
reads_of (Add _ rs1 rs2) = two_registers rs1 rs2
reads_of (Sub _ rs1 rs2) = two_registers rs1 rs2
reads_of (Sll _ rs1 rs2) = two_registers rs1 rs2
reads_of (Slt _ rs1 rs2) = two_registers rs1 rs2
reads_of (Sltu _ rs1 rs2) = two_registers rs1 rs2
reads_of (Xor _ rs1 rs2) = two_registers rs1 rs2
reads_of (Srl _ rs1 rs2) = two_registers rs1 rs2
reads_of (Sra _ rs1 rs2) = two_registers rs1 rs2
reads_of (Or _ rs1 rs2) = two_registers rs1 rs2
reads_of (And _ rs1 rs2) = two_registers rs1 rs2
reads_of (Mul _ rs1 rs2) = two_registers rs1 rs2
reads_of (Mulh _ rs1 rs2) = two_registers rs1 rs2
reads_of (Mulhsu _ rs1 rs2) = two_registers rs1 rs2
reads_of (Mulhu _ rs1 rs2) = two_registers rs1 rs2
reads_of (Div _ rs1 rs2) = two_registers rs1 rs2
reads_of (Divu _ rs1 rs2) = two_registers rs1 rs2
reads_of (Rem _ rs1 rs2) = two_registers rs1 rs2
reads_of (Remu _ rs1 rs2) = two_registers rs1 rs2
reads_of (Fence _) = no_operand
reads_of Ecall = two_registers a0 a7
reads_of Ebreak = no_operand

-- the place of the result; of an ECALL only the service that gets a byte has one
abbrev pub writes_of : Instr → ℕ → Slot
writes_of (Lui rd _) _ = Reg rd
writes_of (Auipc rd _) _ = Reg rd
writes_of (Jal rd _) _ = Reg rd
writes_of (Jalr rd _ _) _ = Reg rd
writes_of (Beq _ _ _) _ = Nothing
writes_of (Bne _ _ _) _ = Nothing
writes_of (Blt _ _ _) _ = Nothing
writes_of (Bge _ _ _) _ = Nothing
writes_of (Bltu _ _ _) _ = Nothing
writes_of (Bgeu _ _ _) _ = Nothing
writes_of (Lb rd _ _) _ = Reg rd
writes_of (Lh rd _ _) _ = Reg rd
writes_of (Lw rd _ _) _ = Reg rd
writes_of (Lbu rd _ _) _ = Reg rd
writes_of (Lhu rd _ _) _ = Reg rd
writes_of (Sb _ _ _) _ = Word
writes_of (Sh _ _ _) _ = Word
writes_of (Sw _ _ _) _ = Word
writes_of (Addi rd _ _) _ = Reg rd
writes_of (Slti rd _ _) _ = Reg rd
writes_of (Sltiu rd _ _) _ = Reg rd
writes_of (Xori rd _ _) _ = Reg rd
writes_of (Ori rd _ _) _ = Reg rd
writes_of (Andi rd _ _) _ = Reg rd
writes_of (Slli rd _ _) _ = Reg rd
writes_of (Srli rd _ _) _ = Reg rd
writes_of (Srai rd _ _) _ = Reg rd
writes_of (Add rd _ _) _ = Reg rd
writes_of (Sub rd _ _) _ = Reg rd
writes_of (Sll rd _ _) _ = Reg rd
writes_of (Slt rd _ _) _ = Reg rd
writes_of (Sltu rd _ _) _ = Reg rd
writes_of (Xor rd _ _) _ = Reg rd
writes_of (Srl rd _ _) _ = Reg rd
writes_of (Sra rd _ _) _ = Reg rd
writes_of (Or rd _ _) _ = Reg rd
writes_of (And rd _ _) _ = Reg rd
writes_of (Mul rd _ _) _ = Reg rd
writes_of (Mulh rd _ _) _ = Reg rd
writes_of (Mulhsu rd _ _) _ = Reg rd
writes_of (Mulhu rd _ _) _ = Reg rd
writes_of (Div rd _ _) _ = Reg rd
writes_of (Divu rd _ _) _ = Reg rd
writes_of (Rem rd _ _) _ = Reg rd
writes_of (Remu rd _ _) _ = Reg rd
writes_of (Fence _) _ = Nothing
writes_of Ecall service = if service == get_service then Reg a0 else Nothing
writes_of Ebreak _ = Nothing

-- the same as plain registers: x0, which is 0 and drops what is written, for an operand or a register of the result that there is not

abbrev pub register_or_zero : Option ℕ → ℕ
register_or_zero None = 0
register_or_zero (Some r) = r

abbrev pub result_register : Slot → ℕ
result_register Nothing = 0
result_register (Reg r) = r
result_register Word = 0

abbrev pub places_of : Instr → ℕ → Places
places_of instr service = record {
  first = register_or_zero (reads_of instr).t1;
  second = register_or_zero (reads_of instr).t2;
  result = result_register (writes_of instr service);
}
