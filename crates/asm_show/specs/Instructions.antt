-- The text of a word at its address: the statement of assembler source that stands for it, one line an instruction.
use Rattle.std.specs.Prelude.{ℕ, ◌==◌, codes, Option, Some, None, if◌then◌else◌}
use Rattle.rv_decode.specs.declared.instructions.Instr.{Instr}
use Rattle.rv_decode.specs.declared.instructions.Instr.TheVariants.{Lui, Auipc, Jal, Jalr, Beq, Bne, Blt, Bge, Bltu, Bgeu, Lb, Lh, Lw, Lbu, Lhu, Sb, Sh, Sw, Addi, Slti, Sltiu, Xori, Ori, Andi, Slli, Srli, Srai, Add, Sub, Sll, Slt, Sltu, Xor, Srl, Sra, Or, And, Mul, Mulh, Mulhsu, Mulhu, Div, Divu, Rem, Remu, Fence, Ecall, Ebreak}
use Rattle.asm_show.specs.Operands.{Text}
use Rattle.asm_show.specs.Statements.{with_registers, with_immediate, with_amount, with_upper, with_place, branch, jump, plain_word}

-- the FENCE of all reads and writes, and of all input and output, against all of them, which is `fence` with no operand
abbrev pub full_fence : ℕ
full_fence = 0x0FF0000F

-- any other word of a FENCE is written as a number
abbrev pub fence_text : ℕ → Text
fence_text word = if word == full_fence then codes "fence" else plain_word word

-- the text of the instruction at the address pc
abbrev pub instr_text : ℕ → Instr → Text
instr_text pc (Lui rd imm) = with_upper (codes "lui") rd imm
instr_text pc (Auipc rd imm) = with_upper (codes "auipc") rd imm
instr_text pc (Jal rd imm) = jump (codes "jal") pc rd imm
instr_text pc (Jalr rd rs1 imm) = with_place (codes "jalr") rd rs1 imm
instr_text pc (Beq rs1 rs2 imm) = branch (codes "beq") pc rs1 rs2 imm
instr_text pc (Bne rs1 rs2 imm) = branch (codes "bne") pc rs1 rs2 imm
instr_text pc (Blt rs1 rs2 imm) = branch (codes "blt") pc rs1 rs2 imm
instr_text pc (Bge rs1 rs2 imm) = branch (codes "bge") pc rs1 rs2 imm
instr_text pc (Bltu rs1 rs2 imm) = branch (codes "bltu") pc rs1 rs2 imm
instr_text pc (Bgeu rs1 rs2 imm) = branch (codes "bgeu") pc rs1 rs2 imm
instr_text pc (Lb rd rs1 imm) = with_place (codes "lb") rd rs1 imm
instr_text pc (Lh rd rs1 imm) = with_place (codes "lh") rd rs1 imm
instr_text pc (Lw rd rs1 imm) = with_place (codes "lw") rd rs1 imm
instr_text pc (Lbu rd rs1 imm) = with_place (codes "lbu") rd rs1 imm
instr_text pc (Lhu rd rs1 imm) = with_place (codes "lhu") rd rs1 imm
instr_text pc (Sb rs1 rs2 imm) = with_place (codes "sb") rs2 rs1 imm
instr_text pc (Sh rs1 rs2 imm) = with_place (codes "sh") rs2 rs1 imm
instr_text pc (Sw rs1 rs2 imm) = with_place (codes "sw") rs2 rs1 imm
instr_text pc (Addi rd rs1 imm) = with_immediate (codes "addi") rd rs1 imm
instr_text pc (Slti rd rs1 imm) = with_immediate (codes "slti") rd rs1 imm
instr_text pc (Sltiu rd rs1 imm) = with_immediate (codes "sltiu") rd rs1 imm
instr_text pc (Xori rd rs1 imm) = with_immediate (codes "xori") rd rs1 imm
instr_text pc (Ori rd rs1 imm) = with_immediate (codes "ori") rd rs1 imm
instr_text pc (Andi rd rs1 imm) = with_immediate (codes "andi") rd rs1 imm
instr_text pc (Slli rd rs1 imm) = with_amount (codes "slli") rd rs1 imm
instr_text pc (Srli rd rs1 imm) = with_amount (codes "srli") rd rs1 imm
instr_text pc (Srai rd rs1 imm) = with_amount (codes "srai") rd rs1 imm
instr_text pc (Add rd rs1 rs2) = with_registers (codes "add") rd rs1 rs2
instr_text pc (Sub rd rs1 rs2) = with_registers (codes "sub") rd rs1 rs2
instr_text pc (Sll rd rs1 rs2) = with_registers (codes "sll") rd rs1 rs2
instr_text pc (Slt rd rs1 rs2) = with_registers (codes "slt") rd rs1 rs2
instr_text pc (Sltu rd rs1 rs2) = with_registers (codes "sltu") rd rs1 rs2
instr_text pc (Xor rd rs1 rs2) = with_registers (codes "xor") rd rs1 rs2
instr_text pc (Srl rd rs1 rs2) = with_registers (codes "srl") rd rs1 rs2
instr_text pc (Sra rd rs1 rs2) = with_registers (codes "sra") rd rs1 rs2
instr_text pc (Or rd rs1 rs2) = with_registers (codes "or") rd rs1 rs2
instr_text pc (And rd rs1 rs2) = with_registers (codes "and") rd rs1 rs2
instr_text pc (Mul rd rs1 rs2) = with_registers (codes "mul") rd rs1 rs2
instr_text pc (Mulh rd rs1 rs2) = with_registers (codes "mulh") rd rs1 rs2
instr_text pc (Mulhsu rd rs1 rs2) = with_registers (codes "mulhsu") rd rs1 rs2
instr_text pc (Mulhu rd rs1 rs2) = with_registers (codes "mulhu") rd rs1 rs2
instr_text pc (Div rd rs1 rs2) = with_registers (codes "div") rd rs1 rs2
instr_text pc (Divu rd rs1 rs2) = with_registers (codes "divu") rd rs1 rs2
instr_text pc (Rem rd rs1 rs2) = with_registers (codes "rem") rd rs1 rs2
instr_text pc (Remu rd rs1 rs2) = with_registers (codes "remu") rd rs1 rs2
instr_text pc (Fence word) = fence_text word
instr_text pc Ecall = codes "ecall"
instr_text pc Ebreak = codes "ebreak"

-- the text of a word at the address pc, where it is the word of this instruction or of none
unfoldable pub text_at : ℕ → ℕ → Option Instr → Text
text_at pc word None = plain_word word
text_at pc word (Some instr) = instr_text pc instr
