-- The instruction of a word as a function, by taking the fields out of the word.
-- It guarantees nothing by itself: that it finds the rows of the table, all and only those, is what `decode` and `table_law` ensure.
use Rattle.std.specs.Prelude.{ℕ, ◌==◌, if◌then◌else◌, Option, Some, None}
use Rattle.rv_decode.specs.Fields.{opcode_of, rd_of, f3_of, rs1_of, rs2_of, f7_of, immediate_of, store_offset_of, branch_offset_of, upper_immediate_of, jump_offset_of}
use Rattle.rv_decode.specs.declared.instructions.Instr.{Instr}
use Rattle.rv_decode.specs.declared.instructions.Instr.TheVariants.{Lui, Auipc, Jal, Jalr, Beq, Bne, Blt, Bge, Bltu, Bgeu, Lb, Lh, Lw, Lbu, Lhu, Sb, Sh, Sw, Addi, Slti, Sltiu, Xori, Ori, Andi, Slli, Srli, Srai, Add, Sub, Sll, Slt, Sltu, Xor, Srl, Sra, Or, And, Mul, Mulh, Mulhsu, Mulhu, Div, Divu, Rem, Remu, Fence, Ecall, Ebreak}

-- one definition for each opcode that f3 or f7 divides further

abbrev pub jump_to_register_of : ℕ → Option Instr
jump_to_register_of w = if f3_of w == 0 then Some (Jalr (rd_of w) (rs1_of w) (immediate_of w)) else None

abbrev pub branch_of : ℕ → Option Instr
branch_of w =
    let rs1 = rs1_of w in
    let rs2 = rs2_of w in
    let imm = branch_offset_of w in
    if f3_of w == 0 then Some (Beq rs1 rs2 imm) else
    if f3_of w == 1 then Some (Bne rs1 rs2 imm) else
    if f3_of w == 4 then Some (Blt rs1 rs2 imm) else
    if f3_of w == 5 then Some (Bge rs1 rs2 imm) else
    if f3_of w == 6 then Some (Bltu rs1 rs2 imm) else
    if f3_of w == 7 then Some (Bgeu rs1 rs2 imm) else
    None

abbrev pub load_of : ℕ → Option Instr
load_of w =
    let rd = rd_of w in
    let rs1 = rs1_of w in
    let imm = immediate_of w in
    if f3_of w == 0 then Some (Lb rd rs1 imm) else
    if f3_of w == 1 then Some (Lh rd rs1 imm) else
    if f3_of w == 2 then Some (Lw rd rs1 imm) else
    if f3_of w == 4 then Some (Lbu rd rs1 imm) else
    if f3_of w == 5 then Some (Lhu rd rs1 imm) else
    None

abbrev pub store_of : ℕ → Option Instr
store_of w =
    let rs1 = rs1_of w in
    let rs2 = rs2_of w in
    let imm = store_offset_of w in
    if f3_of w == 0 then Some (Sb rs1 rs2 imm) else
    if f3_of w == 1 then Some (Sh rs1 rs2 imm) else
    if f3_of w == 2 then Some (Sw rs1 rs2 imm) else
    None

abbrev pub shift_up_of : ℕ → Option Instr
shift_up_of w = if f7_of w == 0x00 then Some (Slli (rd_of w) (rs1_of w) (rs2_of w)) else None

abbrev pub shift_down_of : ℕ → Option Instr
shift_down_of w =
    if f7_of w == 0x00 then Some (Srli (rd_of w) (rs1_of w) (rs2_of w)) else
    if f7_of w == 0x20 then Some (Srai (rd_of w) (rs1_of w) (rs2_of w)) else
    None

abbrev pub with_immediate_of : ℕ → Option Instr
with_immediate_of w =
    let rd = rd_of w in
    let rs1 = rs1_of w in
    let imm = immediate_of w in
    if f3_of w == 0 then Some (Addi rd rs1 imm) else
    if f3_of w == 1 then shift_up_of w else
    if f3_of w == 2 then Some (Slti rd rs1 imm) else
    if f3_of w == 3 then Some (Sltiu rd rs1 imm) else
    if f3_of w == 4 then Some (Xori rd rs1 imm) else
    if f3_of w == 5 then shift_down_of w else
    if f3_of w == 6 then Some (Ori rd rs1 imm) else
    if f3_of w == 7 then Some (Andi rd rs1 imm) else
    None

abbrev pub product_or_quotient_of : ℕ → Option Instr
product_or_quotient_of w =
    let rd = rd_of w in
    let rs1 = rs1_of w in
    let rs2 = rs2_of w in
    if f3_of w == 0 then Some (Mul rd rs1 rs2) else
    if f3_of w == 1 then Some (Mulh rd rs1 rs2) else
    if f3_of w == 2 then Some (Mulhsu rd rs1 rs2) else
    if f3_of w == 3 then Some (Mulhu rd rs1 rs2) else
    if f3_of w == 4 then Some (Div rd rs1 rs2) else
    if f3_of w == 5 then Some (Divu rd rs1 rs2) else
    if f3_of w == 6 then Some (Rem rd rs1 rs2) else
    if f3_of w == 7 then Some (Remu rd rs1 rs2) else
    None

abbrev pub with_registers_of : ℕ → Option Instr
with_registers_of w =
    let rd = rd_of w in
    let rs1 = rs1_of w in
    let rs2 = rs2_of w in
    if f7_of w == 0x00 then
    (if f3_of w == 0 then Some (Add rd rs1 rs2) else
    if f3_of w == 1 then Some (Sll rd rs1 rs2) else
    if f3_of w == 2 then Some (Slt rd rs1 rs2) else
    if f3_of w == 3 then Some (Sltu rd rs1 rs2) else
    if f3_of w == 4 then Some (Xor rd rs1 rs2) else
    if f3_of w == 5 then Some (Srl rd rs1 rs2) else
    if f3_of w == 6 then Some (Or rd rs1 rs2) else
    if f3_of w == 7 then Some (And rd rs1 rs2) else
    None) else
    if f7_of w == 0x01 then product_or_quotient_of w else
    if f7_of w == 0x20 then
    (if f3_of w == 0 then Some (Sub rd rs1 rs2) else
    if f3_of w == 5 then Some (Sra rd rs1 rs2) else
    None) else
    None

abbrev pub fence_of : ℕ → Option Instr
fence_of w = if f3_of w == 0 then Some (Fence w) else None

-- the words that stand alone
abbrev pub system_of : ℕ → Option Instr
system_of w =
    if w == 0x00000073 then Some Ecall else
    if w == 0x00100073 then Some Ebreak else
    None

-- the instruction of a word, if it is the word of one
unfoldable pub instr_of_word : ℕ → Option Instr
instr_of_word w =
    if opcode_of w == 0x37 then Some (Lui (rd_of w) (upper_immediate_of w)) else
    if opcode_of w == 0x17 then Some (Auipc (rd_of w) (upper_immediate_of w)) else
    if opcode_of w == 0x6F then Some (Jal (rd_of w) (jump_offset_of w)) else
    if opcode_of w == 0x67 then jump_to_register_of w else
    if opcode_of w == 0x63 then branch_of w else
    if opcode_of w == 0x03 then load_of w else
    if opcode_of w == 0x23 then store_of w else
    if opcode_of w == 0x13 then with_immediate_of w else
    if opcode_of w == 0x33 then with_registers_of w else
    if opcode_of w == 0x0F then fence_of w else
    if opcode_of w == 0x73 then system_of w else
    None
