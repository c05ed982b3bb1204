-- The word of an instruction as a function, by putting its fields at their places.
-- It guarantees nothing by itself: that it is the word of the instruction's line in the table is what `encoding_law` ensures.
use Rattle.std.specs.Prelude.{ℕ, ◌+◌, ◌*◌, ◌^◌}
use Rattle.rv_decode.specs.Fields.{bits_of}
use Rattle.rv_decode.specs.declared.instructions.Instr.{Instr}
use Rattle.rv_decode.specs.declared.instructions.Instr.TheVariants.{Lui, Auipc, Jal, Jalr, Beq, Bne, Blt, Bge, Bltu, Bgeu, Lb, Lh, Lw, Lbu, Lhu, Sb, Sh, Sw, Addi, Slti, Sltiu, Xori, Ori, Andi, Slli, Srli, Srai, Add, Sub, Sll, Slt, Sltu, Xor, Srl, Sra, Or, And, Mul, Mulh, Mulhsu, Mulhu, Div, Divu, Rem, Remu, Fence, Ecall, Ebreak}

-- ---- the formats: opcode, then f3 and f7 where the format has them

-- R-type: f7, rs2, rs1, f3, rd, opcode, highest bits first; all six formats are those of the RISC-V unprivileged ISA
abbrev pub register_word : ℕ → ℕ → ℕ → ℕ → ℕ → ℕ → ℕ
register_word opcode f3 f7 rd rs1 rs2 = opcode + rd * 2 ^ 7 + f3 * 2 ^ 12 + rs1 * 2 ^ 15 + rs2 * 2 ^ 20 + f7 * 2 ^ 25

-- I-type: imm[11:0], rs1, f3, rd, opcode
abbrev pub immediate_word : ℕ → ℕ → ℕ → ℕ → ℕ → ℕ
immediate_word opcode f3 rd rs1 imm = opcode + rd * 2 ^ 7 + f3 * 2 ^ 12 + rs1 * 2 ^ 15 + bits_of imm 0 12 * 2 ^ 20

-- S-type: imm[11:5], rs2, rs1, f3, imm[4:0], opcode
abbrev pub store_word : ℕ → ℕ → ℕ → ℕ → ℕ → ℕ
store_word opcode f3 rs1 rs2 imm =
    opcode + bits_of imm 0 5 * 2 ^ 7 + f3 * 2 ^ 12 + rs1 * 2 ^ 15 + rs2 * 2 ^ 20 + bits_of imm 5 7 * 2 ^ 25

-- B-type: imm[12], imm[10:5], rs2, rs1, f3, imm[4:1], imm[11], opcode
abbrev pub branch_word : ℕ → ℕ → ℕ → ℕ → ℕ → ℕ
branch_word opcode f3 rs1 rs2 imm =
    opcode + bits_of imm 11 1 * 2 ^ 7 + bits_of imm 1 4 * 2 ^ 8 + f3 * 2 ^ 12 + rs1 * 2 ^ 15 + rs2 * 2 ^ 20
    + bits_of imm 5 6 * 2 ^ 25 + bits_of imm 12 1 * 2 ^ 31

-- U-type: imm[31:12], rd, opcode
abbrev pub upper_word : ℕ → ℕ → ℕ → ℕ
upper_word opcode rd imm = opcode + rd * 2 ^ 7 + bits_of imm 12 20 * 2 ^ 12

-- J-type: imm[20], imm[10:1], imm[11], imm[19:12], rd, opcode
abbrev pub jump_word : ℕ → ℕ → ℕ → ℕ
jump_word opcode rd imm =
    opcode + rd * 2 ^ 7 + bits_of imm 12 8 * 2 ^ 12 + bits_of imm 11 1 * 2 ^ 20 + bits_of imm 1 10 * 2 ^ 21
    + bits_of imm 20 1 * 2 ^ 31

-- ---- the instructions

-- the opcodes, f3 and f7 are those of RV32IM in the RISC-V unprivileged ISA; a FENCE keeps its word
unfoldable pub word_of_instr : Instr → ℕ
word_of_instr (Lui rd imm) = upper_word 0x37 rd imm
word_of_instr (Auipc rd imm) = upper_word 0x17 rd imm
word_of_instr (Jal rd imm) = jump_word 0x6F rd imm
word_of_instr (Jalr rd rs1 imm) = immediate_word 0x67 0 rd rs1 imm
word_of_instr (Beq rs1 rs2 imm) = branch_word 0x63 0 rs1 rs2 imm
word_of_instr (Bne rs1 rs2 imm) = branch_word 0x63 1 rs1 rs2 imm
word_of_instr (Blt rs1 rs2 imm) = branch_word 0x63 4 rs1 rs2 imm
word_of_instr (Bge rs1 rs2 imm) = branch_word 0x63 5 rs1 rs2 imm
word_of_instr (Bltu rs1 rs2 imm) = branch_word 0x63 6 rs1 rs2 imm
word_of_instr (Bgeu rs1 rs2 imm) = branch_word 0x63 7 rs1 rs2 imm
word_of_instr (Lb rd rs1 imm) = immediate_word 0x03 0 rd rs1 imm
word_of_instr (Lh rd rs1 imm) = immediate_word 0x03 1 rd rs1 imm
word_of_instr (Lw rd rs1 imm) = immediate_word 0x03 2 rd rs1 imm
word_of_instr (Lbu rd rs1 imm) = immediate_word 0x03 4 rd rs1 imm
word_of_instr (Lhu rd rs1 imm) = immediate_word 0x03 5 rd rs1 imm
word_of_instr (Sb rs1 rs2 imm) = store_word 0x23 0 rs1 rs2 imm
word_of_instr (Sh rs1 rs2 imm) = store_word 0x23 1 rs1 rs2 imm
word_of_instr (Sw rs1 rs2 imm) = store_word 0x23 2 rs1 rs2 imm
word_of_instr (Addi rd rs1 imm) = immediate_word 0x13 0 rd rs1 imm
word_of_instr (Slti rd rs1 imm) = immediate_word 0x13 2 rd rs1 imm
word_of_instr (Sltiu rd rs1 imm) = immediate_word 0x13 3 rd rs1 imm
word_of_instr (Xori rd rs1 imm) = immediate_word 0x13 4 rd rs1 imm
word_of_instr (Ori rd rs1 imm) = immediate_word 0x13 6 rd rs1 imm
word_of_instr (Andi rd rs1 imm) = immediate_word 0x13 7 rd rs1 imm
word_of_instr (Slli rd rs1 amount) = register_word 0x13 1 0x00 rd rs1 amount
word_of_instr (Srli rd rs1 amount) = register_word 0x13 5 0x00 rd rs1 amount
word_of_instr (Srai rd rs1 amount) = register_word 0x13 5 0x20 rd rs1 amount
word_of_instr (Add rd rs1 rs2) = register_word 0x33 0 0x00 rd rs1 rs2
word_of_instr (Sub rd rs1 rs2) = register_word 0x33 0 0x20 rd rs1 rs2
word_of_instr (Sll rd rs1 rs2) = register_word 0x33 1 0x00 rd rs1 rs2
word_of_instr (Slt rd rs1 rs2) = register_word 0x33 2 0x00 rd rs1 rs2
word_of_instr (Sltu rd rs1 rs2) = register_word 0x33 3 0x00 rd rs1 rs2
word_of_instr (Xor rd rs1 rs2) = register_word 0x33 4 0x00 rd rs1 rs2
word_of_instr (Srl rd rs1 rs2) = register_word 0x33 5 0x00 rd rs1 rs2
word_of_instr (Sra rd rs1 rs2) = register_word 0x33 5 0x20 rd rs1 rs2
word_of_instr (Or rd rs1 rs2) = register_word 0x33 6 0x00 rd rs1 rs2
word_of_instr (And rd rs1 rs2) = register_word 0x33 7 0x00 rd rs1 rs2
word_of_instr (Mul rd rs1 rs2) = register_word 0x33 0 0x01 rd rs1 rs2
word_of_instr (Mulh rd rs1 rs2) = register_word 0x33 1 0x01 rd rs1 rs2
word_of_instr (Mulhsu rd rs1 rs2) = register_word 0x33 2 0x01 rd rs1 rs2
word_of_instr (Mulhu rd rs1 rs2) = register_word 0x33 3 0x01 rd rs1 rs2
word_of_instr (Div rd rs1 rs2) = register_word 0x33 4 0x01 rd rs1 rs2
word_of_instr (Divu rd rs1 rs2) = register_word 0x33 5 0x01 rd rs1 rs2
word_of_instr (Rem rd rs1 rs2) = register_word 0x33 6 0x01 rd rs1 rs2
word_of_instr (Remu rd rs1 rs2) = register_word 0x33 7 0x01 rd rs1 rs2
word_of_instr (Fence kept) = kept
word_of_instr Ecall = 0x00000073
word_of_instr Ebreak = 0x00100073
