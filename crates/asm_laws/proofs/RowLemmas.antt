-- The text of each instruction assembles to its word, one line an instruction, and so does the text of every word.
use Rattle.std.proofs.Common.{◌≡◌, ℕ, ◌+◌, ◌*◌, ◌%◌, ◌^◌, ◌<◌, ◌↔◌, Bool, true, false, refl, sym, subst, ap, ◌∙◌, arith}
use Rattle.std.specs.Prelude.{◌==◌, codes, Option, Some, None, Ok, if◌then◌else◌}
use Rattle.std.proofs.lemmas.Bool.{eqb-true}
use Rattle.rv_decode.specs.Decoding.{instr_of_word}
use Rattle.rv_decode.specs.Formats.{IsBranchWord, IsImmediateWord, IsJumpWord, IsStoreWord, IsUpperWord}
use Rattle.rv_decode.specs.Table.{Table}
use Rattle.rv_decode.specs.declared.instructions.Instr.{Instr}
use Rattle.rv_decode.specs.declared.instructions.Instr.TheVariants.{Lui, Auipc, Jal, Jalr, Beq, Bne, Blt, Bge, Bltu, Bgeu, Lb, Lh, Lw, Lbu, Lhu, Sb, Sh, Sw, Addi, Slti, Sltiu, Xori, Ori, Andi, Slli, Srli, Srai, Add, Sub, Sll, Slt, Sltu, Xor, Srl, Sra, Or, And, Mul, Mulh, Mulhsu, Mulhu, Div, Divu, Rem, Remu, Fence, Ecall, Ebreak}
use Rattle.asm_show.specs.Instructions.{instr_text, text_at}
use Rattle.asm_show.specs.Statements.{plain_word}
use Rattle.asm_table.specs.declared.forms.Form.TheVariants as forms
use Rattle.asm_table.specs.declared.forms.RegisterOperation.TheVariants as registers
use Rattle.asm_table.specs.declared.forms.ImmediateOperation.TheVariants as immediates
use Rattle.asm_table.specs.declared.forms.ShiftOperation.TheVariants as shifts
use Rattle.asm_table.specs.declared.forms.UpperOperation.TheVariants as uppers
use Rattle.asm_table.specs.declared.forms.LoadOperation.TheVariants as loads
use Rattle.asm_table.specs.declared.forms.StoreOperation.TheVariants as stores
use Rattle.asm_table.specs.declared.forms.BranchOperation.TheVariants as branches
use Rattle.asm_table.specs.Words.{arithmetic_named, branch_named, form_named, immediate_named, instruction_named, load_named, other_named, registers_named, shift_named, store_named, upper_named}
use Rattle.asm_words.specs.Encoding.{word_of_instr}
use Rattle.asm_words.specs.Ranges.{branch_offset, jump_offset}
use Rattle.asm_laws.specs.Reassembly.{Assembles}
use Rattle.asm_laws.proofs.OperandLemmas.{Named}
use Rattle.asm_laws.proofs.ShapeLemmas.{branch_assemble, ebreak_assembles, ecall_assembles, fence_assembles, immediate_assemble, jump_assemble, jump_register_assemble, load_assemble, plain_assembles, registers_assemble, shift_assemble, store_assemble, upper_assemble}
use Rattle.asm_laws.proofs.TargetLemmas as read

-- ---- the names

named_lui : Named (codes "lui") (forms.Upper uppers.Lui)
unfolding form_named instruction_named arithmetic_named registers_named immediate_named shift_named upper_named load_named store_named branch_named other_named
named_lui = record { piece = record { filled = refl; solid = refl }; found = refl }

named_auipc : Named (codes "auipc") (forms.Upper uppers.Auipc)
unfolding form_named instruction_named arithmetic_named registers_named immediate_named shift_named upper_named load_named store_named branch_named other_named
named_auipc = record { piece = record { filled = refl; solid = refl }; found = refl }

named_jal : Named (codes "jal") forms.Jump
unfolding form_named instruction_named arithmetic_named registers_named immediate_named shift_named upper_named load_named store_named branch_named other_named
named_jal = record { piece = record { filled = refl; solid = refl }; found = refl }

named_jalr : Named (codes "jalr") forms.JumpRegister
unfolding form_named instruction_named arithmetic_named registers_named immediate_named shift_named upper_named load_named store_named branch_named other_named
named_jalr = record { piece = record { filled = refl; solid = refl }; found = refl }

named_beq : Named (codes "beq") (forms.Branch branches.Beq)
unfolding form_named instruction_named arithmetic_named registers_named immediate_named shift_named upper_named load_named store_named branch_named other_named
named_beq = record { piece = record { filled = refl; solid = refl }; found = refl }

named_bne : Named (codes "bne") (forms.Branch branches.Bne)
unfolding form_named instruction_named arithmetic_named registers_named immediate_named shift_named upper_named load_named store_named branch_named other_named
named_bne = record { piece = record { filled = refl; solid = refl }; found = refl }

named_blt : Named (codes "blt") (forms.Branch branches.Blt)
unfolding form_named instruction_named arithmetic_named registers_named immediate_named shift_named upper_named load_named store_named branch_named other_named
named_blt = record { piece = record { filled = refl; solid = refl }; found = refl }

named_bge : Named (codes "bge") (forms.Branch branches.Bge)
unfolding form_named instruction_named arithmetic_named registers_named immediate_named shift_named upper_named load_named store_named branch_named other_named
named_bge = record { piece = record { filled = refl; solid = refl }; found = refl }

named_bltu : Named (codes "bltu") (forms.Branch branches.Bltu)
unfolding form_named instruction_named arithmetic_named registers_named immediate_named shift_named upper_named load_named store_named branch_named other_named
named_bltu = record { piece = record { filled = refl; solid = refl }; found = refl }

named_bgeu : Named (codes "bgeu") (forms.Branch branches.Bgeu)
unfolding form_named instruction_named arithmetic_named registers_named immediate_named shift_named upper_named load_named store_named branch_named other_named
named_bgeu = record { piece = record { filled = refl; solid = refl }; found = refl }

named_lb : Named (codes "lb") (forms.Load loads.Lb)
unfolding form_named instruction_named arithmetic_named registers_named immediate_named shift_named upper_named load_named store_named branch_named other_named
named_lb = record { piece = record { filled = refl; solid = refl }; found = refl }

named_lh : Named (codes "lh") (forms.Load loads.Lh)
unfolding form_named instruction_named arithmetic_named registers_named immediate_named shift_named upper_named load_named store_named branch_named other_named
named_lh = record { piece = record { filled = refl; solid = refl }; found = refl }

named_lw : Named (codes "lw") (forms.Load loads.Lw)
unfolding form_named instruction_named arithmetic_named registers_named immediate_named shift_named upper_named load_named store_named branch_named other_named
named_lw = record { piece = record { filled = refl; solid = refl }; found = refl }

named_lbu : Named (codes "lbu") (forms.Load loads.Lbu)
unfolding form_named instruction_named arithmetic_named registers_named immediate_named shift_named upper_named load_named store_named branch_named other_named
named_lbu = record { piece = record { filled = refl; solid = refl }; found = refl }

named_lhu : Named (codes "lhu") (forms.Load loads.Lhu)
unfolding form_named instruction_named arithmetic_named registers_named immediate_named shift_named upper_named load_named store_named branch_named other_named
named_lhu = record { piece = record { filled = refl; solid = refl }; found = refl }

named_sb : Named (codes "sb") (forms.Store stores.Sb)
unfolding form_named instruction_named arithmetic_named registers_named immediate_named shift_named upper_named load_named store_named branch_named other_named
named_sb = record { piece = record { filled = refl; solid = refl }; found = refl }

named_sh : Named (codes "sh") (forms.Store stores.Sh)
unfolding form_named instruction_named arithmetic_named registers_named immediate_named shift_named upper_named load_named store_named branch_named other_named
named_sh = record { piece = record { filled = refl; solid = refl }; found = refl }

named_sw : Named (codes "sw") (forms.Store stores.Sw)
unfolding form_named instruction_named arithmetic_named registers_named immediate_named shift_named upper_named load_named store_named branch_named other_named
named_sw = record { piece = record { filled = refl; solid = refl }; found = refl }

named_addi : Named (codes "addi") (forms.Immediate immediates.Addi)
unfolding form_named instruction_named arithmetic_named registers_named immediate_named shift_named upper_named load_named store_named branch_named other_named
named_addi = record { piece = record { filled = refl; solid = refl }; found = refl }

named_slti : Named (codes "slti") (forms.Immediate immediates.Slti)
unfolding form_named instruction_named arithmetic_named registers_named immediate_named shift_named upper_named load_named store_named branch_named other_named
named_slti = record { piece = record { filled = refl; solid = refl }; found = refl }

named_sltiu : Named (codes "sltiu") (forms.Immediate immediates.Sltiu)
unfolding form_named instruction_named arithmetic_named registers_named immediate_named shift_named upper_named load_named store_named branch_named other_named
named_sltiu = record { piece = record { filled = refl; solid = refl }; found = refl }

named_xori : Named (codes "xori") (forms.Immediate immediates.Xori)
unfolding form_named instruction_named arithmetic_named registers_named immediate_named shift_named upper_named load_named store_named branch_named other_named
named_xori = record { piece = record { filled = refl; solid = refl }; found = refl }

named_ori : Named (codes "ori") (forms.Immediate immediates.Ori)
unfolding form_named instruction_named arithmetic_named registers_named immediate_named shift_named upper_named load_named store_named branch_named other_named
named_ori = record { piece = record { filled = refl; solid = refl }; found = refl }

named_andi : Named (codes "andi") (forms.Immediate immediates.Andi)
unfolding form_named instruction_named arithmetic_named registers_named immediate_named shift_named upper_named load_named store_named branch_named other_named
named_andi = record { piece = record { filled = refl; solid = refl }; found = refl }

named_slli : Named (codes "slli") (forms.Shift shifts.Slli)
unfolding form_named instruction_named arithmetic_named registers_named immediate_named shift_named upper_named load_named store_named branch_named other_named
named_slli = record { piece = record { filled = refl; solid = refl }; found = refl }

named_srli : Named (codes "srli") (forms.Shift shifts.Srli)
unfolding form_named instruction_named arithmetic_named registers_named immediate_named shift_named upper_named load_named store_named branch_named other_named
named_srli = record { piece = record { filled = refl; solid = refl }; found = refl }

named_srai : Named (codes "srai") (forms.Shift shifts.Srai)
unfolding form_named instruction_named arithmetic_named registers_named immediate_named shift_named upper_named load_named store_named branch_named other_named
named_srai = record { piece = record { filled = refl; solid = refl }; found = refl }

named_add : Named (codes "add") (forms.Registers registers.Add)
unfolding form_named instruction_named arithmetic_named registers_named immediate_named shift_named upper_named load_named store_named branch_named other_named
named_add = record { piece = record { filled = refl; solid = refl }; found = refl }

named_sub : Named (codes "sub") (forms.Registers registers.Sub)
unfolding form_named instruction_named arithmetic_named registers_named immediate_named shift_named upper_named load_named store_named branch_named other_named
named_sub = record { piece = record { filled = refl; solid = refl }; found = refl }

named_sll : Named (codes "sll") (forms.Registers registers.Sll)
unfolding form_named instruction_named arithmetic_named registers_named immediate_named shift_named upper_named load_named store_named branch_named other_named
named_sll = record { piece = record { filled = refl; solid = refl }; found = refl }

named_slt : Named (codes "slt") (forms.Registers registers.Slt)
unfolding form_named instruction_named arithmetic_named registers_named immediate_named shift_named upper_named load_named store_named branch_named other_named
named_slt = record { piece = record { filled = refl; solid = refl }; found = refl }

named_sltu : Named (codes "sltu") (forms.Registers registers.Sltu)
unfolding form_named instruction_named arithmetic_named registers_named immediate_named shift_named upper_named load_named store_named branch_named other_named
named_sltu = record { piece = record { filled = refl; solid = refl }; found = refl }

named_xor : Named (codes "xor") (forms.Registers registers.Xor)
unfolding form_named instruction_named arithmetic_named registers_named immediate_named shift_named upper_named load_named store_named branch_named other_named
named_xor = record { piece = record { filled = refl; solid = refl }; found = refl }

named_srl : Named (codes "srl") (forms.Registers registers.Srl)
unfolding form_named instruction_named arithmetic_named registers_named immediate_named shift_named upper_named load_named store_named branch_named other_named
named_srl = record { piece = record { filled = refl; solid = refl }; found = refl }

named_sra : Named (codes "sra") (forms.Registers registers.Sra)
unfolding form_named instruction_named arithmetic_named registers_named immediate_named shift_named upper_named load_named store_named branch_named other_named
named_sra = record { piece = record { filled = refl; solid = refl }; found = refl }

named_or : Named (codes "or") (forms.Registers registers.Or)
unfolding form_named instruction_named arithmetic_named registers_named immediate_named shift_named upper_named load_named store_named branch_named other_named
named_or = record { piece = record { filled = refl; solid = refl }; found = refl }

named_and : Named (codes "and") (forms.Registers registers.And)
unfolding form_named instruction_named arithmetic_named registers_named immediate_named shift_named upper_named load_named store_named branch_named other_named
named_and = record { piece = record { filled = refl; solid = refl }; found = refl }

named_mul : Named (codes "mul") (forms.Registers registers.Mul)
unfolding form_named instruction_named arithmetic_named registers_named immediate_named shift_named upper_named load_named store_named branch_named other_named
named_mul = record { piece = record { filled = refl; solid = refl }; found = refl }

named_mulh : Named (codes "mulh") (forms.Registers registers.Mulh)
unfolding form_named instruction_named arithmetic_named registers_named immediate_named shift_named upper_named load_named store_named branch_named other_named
named_mulh = record { piece = record { filled = refl; solid = refl }; found = refl }

named_mulhsu : Named (codes "mulhsu") (forms.Registers registers.Mulhsu)
unfolding form_named instruction_named arithmetic_named registers_named immediate_named shift_named upper_named load_named store_named branch_named other_named
named_mulhsu = record { piece = record { filled = refl; solid = refl }; found = refl }

named_mulhu : Named (codes "mulhu") (forms.Registers registers.Mulhu)
unfolding form_named instruction_named arithmetic_named registers_named immediate_named shift_named upper_named load_named store_named branch_named other_named
named_mulhu = record { piece = record { filled = refl; solid = refl }; found = refl }

named_div : Named (codes "div") (forms.Registers registers.Div)
unfolding form_named instruction_named arithmetic_named registers_named immediate_named shift_named upper_named load_named store_named branch_named other_named
named_div = record { piece = record { filled = refl; solid = refl }; found = refl }

named_divu : Named (codes "divu") (forms.Registers registers.Divu)
unfolding form_named instruction_named arithmetic_named registers_named immediate_named shift_named upper_named load_named store_named branch_named other_named
named_divu = record { piece = record { filled = refl; solid = refl }; found = refl }

named_rem : Named (codes "rem") (forms.Registers registers.Rem)
unfolding form_named instruction_named arithmetic_named registers_named immediate_named shift_named upper_named load_named store_named branch_named other_named
named_rem = record { piece = record { filled = refl; solid = refl }; found = refl }

named_remu : Named (codes "remu") (forms.Registers registers.Remu)
unfolding form_named instruction_named arithmetic_named registers_named immediate_named shift_named upper_named load_named store_named branch_named other_named
named_remu = record { piece = record { filled = refl; solid = refl }; found = refl }

-- ---- the fields

immediate_of : (w opcode f3 rd rs1 imm : ℕ) → IsImmediateWord w opcode f3 rd rs1 imm → read.Immediate imm
immediate_of w opcode f3 rd rs1 imm row = read.immediate imm row.bits11_0 row.bits11_0_fits row.extended

store_offset_of : (w opcode f3 rs1 rs2 imm : ℕ) → IsStoreWord w opcode f3 rs1 rs2 imm → read.Immediate imm
store_offset_of w opcode f3 rs1 rs2 imm row = read.immediate imm (row.bits4_0 + row.bits11_5 * 2 ^ 5) (omega arith) row.extended

branch_offset_of : (pc w opcode f3 rs1 rs2 imm : ℕ) → pc < 2 ^ 32 → IsBranchWord w opcode f3 rs1 rs2 imm → branch_offset pc ((pc + imm) % 2 ^ 32) ≡ Ok imm
branch_offset_of pc w opcode f3 rs1 rs2 imm pc_fits row =
    read.branch_back pc imm (row.bits4_1 * 2 + row.bits10_5 * 2 ^ 5 + row.bit11 * 2 ^ 11 + row.bit12 * 2 ^ 12) pc_fits (omega arith) (omega arith) row.extended

upper_of : (w opcode rd imm : ℕ) → IsUpperWord w opcode rd imm → read.Upper imm
upper_of w opcode rd imm row = read.upper imm row.bits31_12 row.bits31_12_fits row.shifted

jump_offset_of : (pc w opcode rd imm : ℕ) → pc < 2 ^ 32 → IsJumpWord w opcode rd imm → jump_offset pc ((pc + imm) % 2 ^ 32) ≡ Ok imm
jump_offset_of pc w opcode rd imm pc_fits row =
    read.jump_back pc imm (row.bits10_1 * 2 + row.bit11 * 2 ^ 11 + row.bits19_12 * 2 ^ 12 + row.bit20 * 2 ^ 20) pc_fits (omega arith) (omega arith) row.extended

-- ---- the rows

-- the full FENCE has its name, and every other is written as a number
fence_row : (number pc w kept : ℕ) → w < 2 ^ 32 → kept ≡ w → word_of_instr (Fence kept) ≡ w → Assembles number pc w (instr_text pc (Fence kept))
fence_row number pc w kept fits same is = go (kept == 0x0FF0000F) refl
  where
    go : (full : Bool) → (kept == 0x0FF0000F) ≡ full → Assembles number pc w (if full then codes "fence" else plain_word kept)
    go true e = let full : kept ≡ 0x0FF0000F = eqb-true kept 0x0FF0000F e in fence_assembles number pc w (ap (λ (k : ℕ). word_of_instr (Fence k)) (sym full) ∙ is)
    go false e = let P : ℕ → Type 0 = λ v. Assembles number pc w (plain_word v) in subst P (sym same) (plain_assembles number pc w fits)

instr_assembles : (number pc w : ℕ) → pc < 2 ^ 32 → w < 2 ^ 32 → (instr : Instr) → Table w instr → word_of_instr instr ≡ w → Assembles number pc w (instr_text pc instr)
instr_assembles number pc w pc_fits fits (Lui rd imm) row is = upper_assemble number pc w (codes "lui") uppers.Lui named_lui rd imm row.rd_fits (upper_of w 0x37 rd imm row) is
instr_assembles number pc w pc_fits fits (Auipc rd imm) row is = upper_assemble number pc w (codes "auipc") uppers.Auipc named_auipc rd imm row.rd_fits (upper_of w 0x17 rd imm row) is
instr_assembles number pc w pc_fits fits (Jal rd imm) row is = jump_assemble number pc w (codes "jal") named_jal rd imm row.rd_fits (jump_offset_of pc w 0x6F rd imm pc_fits row) is
instr_assembles number pc w pc_fits fits (Jalr rd rs1 imm) row is = jump_register_assemble number pc w (codes "jalr") named_jalr rd rs1 imm row.rd_fits row.rs1_fits (immediate_of w 0x67 0 rd rs1 imm row) is
instr_assembles number pc w pc_fits fits (Beq rs1 rs2 imm) row is = branch_assemble number pc w (codes "beq") branches.Beq named_beq rs1 rs2 imm row.rs1_fits row.rs2_fits (branch_offset_of pc w 0x63 0 rs1 rs2 imm pc_fits row) is
instr_assembles number pc w pc_fits fits (Bne rs1 rs2 imm) row is = branch_assemble number pc w (codes "bne") branches.Bne named_bne rs1 rs2 imm row.rs1_fits row.rs2_fits (branch_offset_of pc w 0x63 1 rs1 rs2 imm pc_fits row) is
instr_assembles number pc w pc_fits fits (Blt rs1 rs2 imm) row is = branch_assemble number pc w (codes "blt") branches.Blt named_blt rs1 rs2 imm row.rs1_fits row.rs2_fits (branch_offset_of pc w 0x63 4 rs1 rs2 imm pc_fits row) is
instr_assembles number pc w pc_fits fits (Bge rs1 rs2 imm) row is = branch_assemble number pc w (codes "bge") branches.Bge named_bge rs1 rs2 imm row.rs1_fits row.rs2_fits (branch_offset_of pc w 0x63 5 rs1 rs2 imm pc_fits row) is
instr_assembles number pc w pc_fits fits (Bltu rs1 rs2 imm) row is = branch_assemble number pc w (codes "bltu") branches.Bltu named_bltu rs1 rs2 imm row.rs1_fits row.rs2_fits (branch_offset_of pc w 0x63 6 rs1 rs2 imm pc_fits row) is
instr_assembles number pc w pc_fits fits (Bgeu rs1 rs2 imm) row is = branch_assemble number pc w (codes "bgeu") branches.Bgeu named_bgeu rs1 rs2 imm row.rs1_fits row.rs2_fits (branch_offset_of pc w 0x63 7 rs1 rs2 imm pc_fits row) is
instr_assembles number pc w pc_fits fits (Lb rd rs1 imm) row is = load_assemble number pc w (codes "lb") loads.Lb named_lb rd rs1 imm row.rd_fits row.rs1_fits (immediate_of w 0x03 0 rd rs1 imm row) is
instr_assembles number pc w pc_fits fits (Lh rd rs1 imm) row is = load_assemble number pc w (codes "lh") loads.Lh named_lh rd rs1 imm row.rd_fits row.rs1_fits (immediate_of w 0x03 1 rd rs1 imm row) is
instr_assembles number pc w pc_fits fits (Lw rd rs1 imm) row is = load_assemble number pc w (codes "lw") loads.Lw named_lw rd rs1 imm row.rd_fits row.rs1_fits (immediate_of w 0x03 2 rd rs1 imm row) is
instr_assembles number pc w pc_fits fits (Lbu rd rs1 imm) row is = load_assemble number pc w (codes "lbu") loads.Lbu named_lbu rd rs1 imm row.rd_fits row.rs1_fits (immediate_of w 0x03 4 rd rs1 imm row) is
instr_assembles number pc w pc_fits fits (Lhu rd rs1 imm) row is = load_assemble number pc w (codes "lhu") loads.Lhu named_lhu rd rs1 imm row.rd_fits row.rs1_fits (immediate_of w 0x03 5 rd rs1 imm row) is
instr_assembles number pc w pc_fits fits (Sb rs1 rs2 imm) row is = store_assemble number pc w (codes "sb") stores.Sb named_sb rs2 rs1 imm row.rs2_fits row.rs1_fits (store_offset_of w 0x23 0 rs1 rs2 imm row) is
instr_assembles number pc w pc_fits fits (Sh rs1 rs2 imm) row is = store_assemble number pc w (codes "sh") stores.Sh named_sh rs2 rs1 imm row.rs2_fits row.rs1_fits (store_offset_of w 0x23 1 rs1 rs2 imm row) is
instr_assembles number pc w pc_fits fits (Sw rs1 rs2 imm) row is = store_assemble number pc w (codes "sw") stores.Sw named_sw rs2 rs1 imm row.rs2_fits row.rs1_fits (store_offset_of w 0x23 2 rs1 rs2 imm row) is
instr_assembles number pc w pc_fits fits (Addi rd rs1 imm) row is = immediate_assemble number pc w (codes "addi") immediates.Addi named_addi rd rs1 imm row.rd_fits row.rs1_fits (immediate_of w 0x13 0 rd rs1 imm row) is
instr_assembles number pc w pc_fits fits (Slti rd rs1 imm) row is = immediate_assemble number pc w (codes "slti") immediates.Slti named_slti rd rs1 imm row.rd_fits row.rs1_fits (immediate_of w 0x13 2 rd rs1 imm row) is
instr_assembles number pc w pc_fits fits (Sltiu rd rs1 imm) row is = immediate_assemble number pc w (codes "sltiu") immediates.Sltiu named_sltiu rd rs1 imm row.rd_fits row.rs1_fits (immediate_of w 0x13 3 rd rs1 imm row) is
instr_assembles number pc w pc_fits fits (Xori rd rs1 imm) row is = immediate_assemble number pc w (codes "xori") immediates.Xori named_xori rd rs1 imm row.rd_fits row.rs1_fits (immediate_of w 0x13 4 rd rs1 imm row) is
instr_assembles number pc w pc_fits fits (Ori rd rs1 imm) row is = immediate_assemble number pc w (codes "ori") immediates.Ori named_ori rd rs1 imm row.rd_fits row.rs1_fits (immediate_of w 0x13 6 rd rs1 imm row) is
instr_assembles number pc w pc_fits fits (Andi rd rs1 imm) row is = immediate_assemble number pc w (codes "andi") immediates.Andi named_andi rd rs1 imm row.rd_fits row.rs1_fits (immediate_of w 0x13 7 rd rs1 imm row) is
instr_assembles number pc w pc_fits fits (Slli rd rs1 amount) row is = shift_assemble number pc w (codes "slli") shifts.Slli named_slli rd rs1 amount row.rd_fits row.rs1_fits (read.amount amount row.rs2_fits) is
instr_assembles number pc w pc_fits fits (Srli rd rs1 amount) row is = shift_assemble number pc w (codes "srli") shifts.Srli named_srli rd rs1 amount row.rd_fits row.rs1_fits (read.amount amount row.rs2_fits) is
instr_assembles number pc w pc_fits fits (Srai rd rs1 amount) row is = shift_assemble number pc w (codes "srai") shifts.Srai named_srai rd rs1 amount row.rd_fits row.rs1_fits (read.amount amount row.rs2_fits) is
instr_assembles number pc w pc_fits fits (Add rd rs1 rs2) row is = registers_assemble number pc w (codes "add") registers.Add named_add rd rs1 rs2 row.rd_fits row.rs1_fits row.rs2_fits is
instr_assembles number pc w pc_fits fits (Sub rd rs1 rs2) row is = registers_assemble number pc w (codes "sub") registers.Sub named_sub rd rs1 rs2 row.rd_fits row.rs1_fits row.rs2_fits is
instr_assembles number pc w pc_fits fits (Sll rd rs1 rs2) row is = registers_assemble number pc w (codes "sll") registers.Sll named_sll rd rs1 rs2 row.rd_fits row.rs1_fits row.rs2_fits is
instr_assembles number pc w pc_fits fits (Slt rd rs1 rs2) row is = registers_assemble number pc w (codes "slt") registers.Slt named_slt rd rs1 rs2 row.rd_fits row.rs1_fits row.rs2_fits is
instr_assembles number pc w pc_fits fits (Sltu rd rs1 rs2) row is = registers_assemble number pc w (codes "sltu") registers.Sltu named_sltu rd rs1 rs2 row.rd_fits row.rs1_fits row.rs2_fits is
instr_assembles number pc w pc_fits fits (Xor rd rs1 rs2) row is = registers_assemble number pc w (codes "xor") registers.Xor named_xor rd rs1 rs2 row.rd_fits row.rs1_fits row.rs2_fits is
instr_assembles number pc w pc_fits fits (Srl rd rs1 rs2) row is = registers_assemble number pc w (codes "srl") registers.Srl named_srl rd rs1 rs2 row.rd_fits row.rs1_fits row.rs2_fits is
instr_assembles number pc w pc_fits fits (Sra rd rs1 rs2) row is = registers_assemble number pc w (codes "sra") registers.Sra named_sra rd rs1 rs2 row.rd_fits row.rs1_fits row.rs2_fits is
instr_assembles number pc w pc_fits fits (Or rd rs1 rs2) row is = registers_assemble number pc w (codes "or") registers.Or named_or rd rs1 rs2 row.rd_fits row.rs1_fits row.rs2_fits is
instr_assembles number pc w pc_fits fits (And rd rs1 rs2) row is = registers_assemble number pc w (codes "and") registers.And named_and rd rs1 rs2 row.rd_fits row.rs1_fits row.rs2_fits is
instr_assembles number pc w pc_fits fits (Mul rd rs1 rs2) row is = registers_assemble number pc w (codes "mul") registers.Mul named_mul rd rs1 rs2 row.rd_fits row.rs1_fits row.rs2_fits is
instr_assembles number pc w pc_fits fits (Mulh rd rs1 rs2) row is = registers_assemble number pc w (codes "mulh") registers.Mulh named_mulh rd rs1 rs2 row.rd_fits row.rs1_fits row.rs2_fits is
instr_assembles number pc w pc_fits fits (Mulhsu rd rs1 rs2) row is = registers_assemble number pc w (codes "mulhsu") registers.Mulhsu named_mulhsu rd rs1 rs2 row.rd_fits row.rs1_fits row.rs2_fits is
instr_assembles number pc w pc_fits fits (Mulhu rd rs1 rs2) row is = registers_assemble number pc w (codes "mulhu") registers.Mulhu named_mulhu rd rs1 rs2 row.rd_fits row.rs1_fits row.rs2_fits is
instr_assembles number pc w pc_fits fits (Div rd rs1 rs2) row is = registers_assemble number pc w (codes "div") registers.Div named_div rd rs1 rs2 row.rd_fits row.rs1_fits row.rs2_fits is
instr_assembles number pc w pc_fits fits (Divu rd rs1 rs2) row is = registers_assemble number pc w (codes "divu") registers.Divu named_divu rd rs1 rs2 row.rd_fits row.rs1_fits row.rs2_fits is
instr_assembles number pc w pc_fits fits (Rem rd rs1 rs2) row is = registers_assemble number pc w (codes "rem") registers.Rem named_rem rd rs1 rs2 row.rd_fits row.rs1_fits row.rs2_fits is
instr_assembles number pc w pc_fits fits (Remu rd rs1 rs2) row is = registers_assemble number pc w (codes "remu") registers.Remu named_remu rd rs1 rs2 row.rd_fits row.rs1_fits row.rs2_fits is
instr_assembles number pc w pc_fits fits (Fence kept) row is = fence_row number pc w kept fits row.same is
instr_assembles number pc w pc_fits fits Ecall row is = ecall_assembles number pc w is
instr_assembles number pc w pc_fits fits Ebreak row is = ebreak_assembles number pc w is

-- ---- every word

by_row : (number pc w : ℕ) → pc < 2 ^ 32 → w < 2 ^ 32 → ((instr : Instr) → (instr_of_word w ≡ Some instr) ↔ Table w instr) → ((v : ℕ) (instr : Instr) → Table v instr → v ≡ word_of_instr instr)
    → (found : Option Instr) → instr_of_word w ≡ found → Assembles number pc w (text_at pc w found)
unfolding text_at
by_row number pc w pc_fits fits table word None is = plain_assembles number pc w fits
by_row number pc w pc_fits fits table word (Some instr) is =
    let here : Table w instr = (table instr).0 is in
    instr_assembles number pc w pc_fits fits instr here (sym (word w instr here))

pub reassembles : ((w : ℕ) → w < 2 ^ 32 → (instr : Instr) → (instr_of_word w ≡ Some instr) ↔ Table w instr) → ((w : ℕ) (instr : Instr) → Table w instr → w ≡ word_of_instr instr)
    → (number pc w : ℕ) → pc < 2 ^ 32 → w < 2 ^ 32 → Assembles number pc w (text_at pc w (instr_of_word w))
reassembles table word number pc w pc_fits fits = by_row number pc w pc_fits fits (table w fits) word (instr_of_word w) refl
