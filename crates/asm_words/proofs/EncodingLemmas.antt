-- The word of a line of the table is the one whose fields are put at their places.
use Rattle.std.proofs.Common.{◌≡◌, ℕ, ◌+◌, ◌*◌, ◌%◌, ◌^◌, sym, ap, ◌∙◌, arith}
use Rattle.rv_decode.specs.Formats.{IsRegisterWord, IsImmediateWord, IsStoreWord, IsBranchWord, IsUpperWord, IsJumpWord}
use Rattle.rv_decode.specs.Table.{Table}
use Rattle.rv_decode.specs.declared.instructions.Instr.{Instr}
use Rattle.rv_decode.specs.declared.instructions.Instr.TheVariants.{Lui, Auipc, Jal, Jalr, Beq, Bne, Blt, Bge, Bltu, Bgeu, Lb, Lh, Lw, Lbu, Lhu, Sb, Sh, Sw, Addi, Slti, Sltiu, Xori, Ori, Andi, Slli, Srli, Srai, Add, Sub, Sll, Slt, Sltu, Xor, Srl, Sra, Or, And, Mul, Mulh, Mulhsu, Mulhu, Div, Divu, Rem, Remu, Fence, Ecall, Ebreak}
use Rattle.rv_decode.proofs.FormatLemmas.{low12, low13, low21}
use Rattle.asm_words.specs.Encoding.{word_of_instr, register_word, immediate_word, store_word, branch_word, upper_word, jump_word}

-- ---- the formats

is_register : (w opcode f3 f7 rd rs1 rs2 : ℕ) → IsRegisterWord w opcode f3 f7 rd rs1 rs2 → w ≡ register_word opcode f3 f7 rd rs1 rs2
is_register w opcode f3 f7 rd rs1 rs2 is = is.word

is_immediate : (w opcode f3 rd rs1 imm : ℕ) → IsImmediateWord w opcode f3 rd rs1 imm → w ≡ immediate_word opcode f3 rd rs1 imm
is_immediate w opcode f3 rd rs1 imm is =
    let low : imm % 2 ^ 12 ≡ is.bits11_0 = ap (λ m. m % 2 ^ 12) is.extended ∙ low12 is.bits11_0 is.bits11_0_fits in
    omega (arith, low)

is_store : (w opcode f3 rs1 rs2 imm : ℕ) → IsStoreWord w opcode f3 rs1 rs2 imm → w ≡ store_word opcode f3 rs1 rs2 imm
is_store w opcode f3 rs1 rs2 imm is =
    let bits : ℕ = is.bits4_0 + is.bits11_5 * 2 ^ 5 in
    let low : imm % 2 ^ 12 ≡ bits = ap (λ m. m % 2 ^ 12) is.extended ∙ low12 bits (omega arith) in
    omega (arith, low)

is_branch : (w opcode f3 rs1 rs2 imm : ℕ) → IsBranchWord w opcode f3 rs1 rs2 imm → w ≡ branch_word opcode f3 rs1 rs2 imm
is_branch w opcode f3 rs1 rs2 imm is =
    let bits : ℕ = is.bits4_1 * 2 + is.bits10_5 * 2 ^ 5 + is.bit11 * 2 ^ 11 + is.bit12 * 2 ^ 12 in
    let low : imm % 2 ^ 13 ≡ bits = ap (λ m. m % 2 ^ 13) is.extended ∙ low13 bits (omega arith) in
    omega (arith, low)

is_upper : (w opcode rd imm : ℕ) → IsUpperWord w opcode rd imm → w ≡ upper_word opcode rd imm
is_upper w opcode rd imm is = omega arith

is_jump : (w opcode rd imm : ℕ) → IsJumpWord w opcode rd imm → w ≡ jump_word opcode rd imm
is_jump w opcode rd imm is =
    let bits : ℕ = is.bits10_1 * 2 + is.bit11 * 2 ^ 11 + is.bits19_12 * 2 ^ 12 + is.bit20 * 2 ^ 20 in
    let low : imm % 2 ^ 21 ≡ bits = ap (λ m. m % 2 ^ 21) is.extended ∙ low21 bits (omega arith) in
    omega (arith, low)

-- ---- the table

pub table_encoded : (w : ℕ) (instr : Instr) → Table w instr → w ≡ word_of_instr instr
unfolding word_of_instr
table_encoded w (Lui rd imm) row = is_upper w 0x37 rd imm row
table_encoded w (Auipc rd imm) row = is_upper w 0x17 rd imm row
table_encoded w (Jal rd imm) row = is_jump w 0x6F rd imm row
table_encoded w (Jalr rd rs1 imm) row = is_immediate w 0x67 0 rd rs1 imm row
table_encoded w (Beq rs1 rs2 imm) row = is_branch w 0x63 0 rs1 rs2 imm row
table_encoded w (Bne rs1 rs2 imm) row = is_branch w 0x63 1 rs1 rs2 imm row
table_encoded w (Blt rs1 rs2 imm) row = is_branch w 0x63 4 rs1 rs2 imm row
table_encoded w (Bge rs1 rs2 imm) row = is_branch w 0x63 5 rs1 rs2 imm row
table_encoded w (Bltu rs1 rs2 imm) row = is_branch w 0x63 6 rs1 rs2 imm row
table_encoded w (Bgeu rs1 rs2 imm) row = is_branch w 0x63 7 rs1 rs2 imm row
table_encoded w (Lb rd rs1 imm) row = is_immediate w 0x03 0 rd rs1 imm row
table_encoded w (Lh rd rs1 imm) row = is_immediate w 0x03 1 rd rs1 imm row
table_encoded w (Lw rd rs1 imm) row = is_immediate w 0x03 2 rd rs1 imm row
table_encoded w (Lbu rd rs1 imm) row = is_immediate w 0x03 4 rd rs1 imm row
table_encoded w (Lhu rd rs1 imm) row = is_immediate w 0x03 5 rd rs1 imm row
table_encoded w (Sb rs1 rs2 imm) row = is_store w 0x23 0 rs1 rs2 imm row
table_encoded w (Sh rs1 rs2 imm) row = is_store w 0x23 1 rs1 rs2 imm row
table_encoded w (Sw rs1 rs2 imm) row = is_store w 0x23 2 rs1 rs2 imm row
table_encoded w (Addi rd rs1 imm) row = is_immediate w 0x13 0 rd rs1 imm row
table_encoded w (Slti rd rs1 imm) row = is_immediate w 0x13 2 rd rs1 imm row
table_encoded w (Sltiu rd rs1 imm) row = is_immediate w 0x13 3 rd rs1 imm row
table_encoded w (Xori rd rs1 imm) row = is_immediate w 0x13 4 rd rs1 imm row
table_encoded w (Ori rd rs1 imm) row = is_immediate w 0x13 6 rd rs1 imm row
table_encoded w (Andi rd rs1 imm) row = is_immediate w 0x13 7 rd rs1 imm row
table_encoded w (Slli rd rs1 amount) row = is_register w 0x13 1 0x00 rd rs1 amount row
table_encoded w (Srli rd rs1 amount) row = is_register w 0x13 5 0x00 rd rs1 amount row
table_encoded w (Srai rd rs1 amount) row = is_register w 0x13 5 0x20 rd rs1 amount row
table_encoded w (Add rd rs1 rs2) row = is_register w 0x33 0 0x00 rd rs1 rs2 row
table_encoded w (Sub rd rs1 rs2) row = is_register w 0x33 0 0x20 rd rs1 rs2 row
table_encoded w (Sll rd rs1 rs2) row = is_register w 0x33 1 0x00 rd rs1 rs2 row
table_encoded w (Slt rd rs1 rs2) row = is_register w 0x33 2 0x00 rd rs1 rs2 row
table_encoded w (Sltu rd rs1 rs2) row = is_register w 0x33 3 0x00 rd rs1 rs2 row
table_encoded w (Xor rd rs1 rs2) row = is_register w 0x33 4 0x00 rd rs1 rs2 row
table_encoded w (Srl rd rs1 rs2) row = is_register w 0x33 5 0x00 rd rs1 rs2 row
table_encoded w (Sra rd rs1 rs2) row = is_register w 0x33 5 0x20 rd rs1 rs2 row
table_encoded w (Or rd rs1 rs2) row = is_register w 0x33 6 0x00 rd rs1 rs2 row
table_encoded w (And rd rs1 rs2) row = is_register w 0x33 7 0x00 rd rs1 rs2 row
table_encoded w (Mul rd rs1 rs2) row = is_register w 0x33 0 0x01 rd rs1 rs2 row
table_encoded w (Mulh rd rs1 rs2) row = is_register w 0x33 1 0x01 rd rs1 rs2 row
table_encoded w (Mulhsu rd rs1 rs2) row = is_register w 0x33 2 0x01 rd rs1 rs2 row
table_encoded w (Mulhu rd rs1 rs2) row = is_register w 0x33 3 0x01 rd rs1 rs2 row
table_encoded w (Div rd rs1 rs2) row = is_register w 0x33 4 0x01 rd rs1 rs2 row
table_encoded w (Divu rd rs1 rs2) row = is_register w 0x33 5 0x01 rd rs1 rs2 row
table_encoded w (Rem rd rs1 rs2) row = is_register w 0x33 6 0x01 rd rs1 rs2 row
table_encoded w (Remu rd rs1 rs2) row = is_register w 0x33 7 0x01 rd rs1 rs2 row
table_encoded w (Fence kept) row = sym row.same
table_encoded w Ecall row = row
table_encoded w Ebreak row = row
