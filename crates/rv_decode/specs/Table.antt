-- The forty-eight instructions of RV32IM and their words, one line an instruction: opcode, then f3 and f7 where the format has them.
-- A word that no line has is no instruction.
use Rattle.std.specs.Prelude.{◌≡◌, ℕ}
use Rattle.rv_decode.specs.Formats.{IsRegisterWord, IsShiftWord, IsImmediateWord, IsStoreWord, IsBranchWord, IsUpperWord, IsJumpWord, IsFenceWord}
use Rattle.rv_decode.specs.declared.instructions.Instr.{Instr}
use Rattle.rv_decode.specs.declared.instructions.Instr.TheVariants.{Lui, Auipc, Jal, Jalr, Beq, Bne, Blt, Bge, Bltu, Bgeu, Lb, Lh, Lw, Lbu, Lhu, Sb, Sh, Sw, Addi, Slti, Sltiu, Xori, Ori, Andi, Slli, Srli, Srai, Add, Sub, Sll, Slt, Sltu, Xor, Srl, Sra, Or, And, Mul, Mulh, Mulhsu, Mulhu, Div, Divu, Rem, Remu, Fence, Ecall, Ebreak}

-- w is the word of the instruction
abbrev pub Table : ℕ → Instr → Type 0
Table w (Lui rd imm) = IsUpperWord w 0x37 rd imm
Table w (Auipc rd imm) = IsUpperWord w 0x17 rd imm
Table w (Jal rd imm) = IsJumpWord w 0x6F rd imm
Table w (Jalr rd rs1 imm) = IsImmediateWord w 0x67 0 rd rs1 imm
Table w (Beq rs1 rs2 imm) = IsBranchWord w 0x63 0 rs1 rs2 imm
Table w (Bne rs1 rs2 imm) = IsBranchWord w 0x63 1 rs1 rs2 imm
Table w (Blt rs1 rs2 imm) = IsBranchWord w 0x63 4 rs1 rs2 imm
Table w (Bge rs1 rs2 imm) = IsBranchWord w 0x63 5 rs1 rs2 imm
Table w (Bltu rs1 rs2 imm) = IsBranchWord w 0x63 6 rs1 rs2 imm
Table w (Bgeu rs1 rs2 imm) = IsBranchWord w 0x63 7 rs1 rs2 imm
Table w (Lb rd rs1 imm) = IsImmediateWord w 0x03 0 rd rs1 imm
Table w (Lh rd rs1 imm) = IsImmediateWord w 0x03 1 rd rs1 imm
Table w (Lw rd rs1 imm) = IsImmediateWord w 0x03 2 rd rs1 imm
Table w (Lbu rd rs1 imm) = IsImmediateWord w 0x03 4 rd rs1 imm
Table w (Lhu rd rs1 imm) = IsImmediateWord w 0x03 5 rd rs1 imm
Table w (Sb rs1 rs2 imm) = IsStoreWord w 0x23 0 rs1 rs2 imm
Table w (Sh rs1 rs2 imm) = IsStoreWord w 0x23 1 rs1 rs2 imm
Table w (Sw rs1 rs2 imm) = IsStoreWord w 0x23 2 rs1 rs2 imm
Table w (Addi rd rs1 imm) = IsImmediateWord w 0x13 0 rd rs1 imm
Table w (Slti rd rs1 imm) = IsImmediateWord w 0x13 2 rd rs1 imm
Table w (Sltiu rd rs1 imm) = IsImmediateWord w 0x13 3 rd rs1 imm
Table w (Xori rd rs1 imm) = IsImmediateWord w 0x13 4 rd rs1 imm
Table w (Ori rd rs1 imm) = IsImmediateWord w 0x13 6 rd rs1 imm
Table w (Andi rd rs1 imm) = IsImmediateWord w 0x13 7 rd rs1 imm
Table w (Slli rd rs1 amount) = IsShiftWord w 0x13 1 0x00 rd rs1 amount
Table w (Srli rd rs1 amount) = IsShiftWord w 0x13 5 0x00 rd rs1 amount
Table w (Srai rd rs1 amount) = IsShiftWord w 0x13 5 0x20 rd rs1 amount
Table w (Add rd rs1 rs2) = IsRegisterWord w 0x33 0 0x00 rd rs1 rs2
Table w (Sub rd rs1 rs2) = IsRegisterWord w 0x33 0 0x20 rd rs1 rs2
Table w (Sll rd rs1 rs2) = IsRegisterWord w 0x33 1 0x00 rd rs1 rs2
Table w (Slt rd rs1 rs2) = IsRegisterWord w 0x33 2 0x00 rd rs1 rs2
Table w (Sltu rd rs1 rs2) = IsRegisterWord w 0x33 3 0x00 rd rs1 rs2
Table w (Xor rd rs1 rs2) = IsRegisterWord w 0x33 4 0x00 rd rs1 rs2
Table w (Srl rd rs1 rs2) = IsRegisterWord w 0x33 5 0x00 rd rs1 rs2
Table w (Sra rd rs1 rs2) = IsRegisterWord w 0x33 5 0x20 rd rs1 rs2
Table w (Or rd rs1 rs2) = IsRegisterWord w 0x33 6 0x00 rd rs1 rs2
Table w (And rd rs1 rs2) = IsRegisterWord w 0x33 7 0x00 rd rs1 rs2
Table w (Mul rd rs1 rs2) = IsRegisterWord w 0x33 0 0x01 rd rs1 rs2
Table w (Mulh rd rs1 rs2) = IsRegisterWord w 0x33 1 0x01 rd rs1 rs2
Table w (Mulhsu rd rs1 rs2) = IsRegisterWord w 0x33 2 0x01 rd rs1 rs2
Table w (Mulhu rd rs1 rs2) = IsRegisterWord w 0x33 3 0x01 rd rs1 rs2
Table w (Div rd rs1 rs2) = IsRegisterWord w 0x33 4 0x01 rd rs1 rs2
Table w (Divu rd rs1 rs2) = IsRegisterWord w 0x33 5 0x01 rd rs1 rs2
Table w (Rem rd rs1 rs2) = IsRegisterWord w 0x33 6 0x01 rd rs1 rs2
Table w (Remu rd rs1 rs2) = IsRegisterWord w 0x33 7 0x01 rd rs1 rs2
Table w (Fence kept) = IsFenceWord w 0x0F 0 kept
Table w Ecall = w ≡ 0x00000073
Table w Ebreak = w ≡ 0x00100073
