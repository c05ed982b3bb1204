-- The table, read by taking the fields out of a word: it finds each row, and finds nothing else.
use Rattle.std.proofs.Common.{◌≡◌, ℕ, ◌<◌, ◌^◌, ◌↔◌, Option, Some, IfSome, cond, eqb, refl, sym, ◌∙◌, lit<}
use Rattle.std.proofs.lemmas.Bool.{cond_both, eqb-true}
use Rattle.rv_decode.proofs.FormatLemmas.{register_fields, register_here, immediate_fields, immediate_here, store_fields, store_here, branch_fields, branch_here, upper_fields, upper_here, jump_fields, jump_here, fence_fields, fence_here, register_word, immediate_word, store_word, branch_word, upper_word, jump_word}
use Rattle.rv_decode.specs.Decoding.{instr_of_word, jump_to_register_of, branch_of, load_of, store_of, shift_up_of, shift_down_of, with_immediate_of, product_or_quotient_of, with_registers_of, fence_of, system_of}
use Rattle.rv_decode.specs.Fields.{opcode_of, f3_of, f7_of}
use Rattle.rv_decode.specs.Table.{Table}
use Rattle.rv_decode.specs.declared.instructions.Instr.{Instr}
use Rattle.rv_decode.specs.declared.instructions.Instr.TheVariants.{Lui, Auipc, Jal, Jalr, Beq, Bne, Blt, Bge, Bltu, Bgeu, Lb, Lh, Lw, Lbu, Lhu, Sb, Sh, Sw, Addi, Slti, Sltiu, Xori, Ori, Andi, Slli, Srli, Srai, Add, Sub, Sll, Slt, Sltu, Xor, Srl, Sra, Or, And, Mul, Mulh, Mulhsu, Mulhu, Div, Divu, Rem, Remu, Fence, Ecall, Ebreak}

-- a word of the table is decoded to its row
pub decoded_row : (w : ℕ) (i : Instr) → Table w i → instr_of_word w ≡ Some i
unfolding instr_of_word
decoded_row w (Lui rd imm) row = let h = upper_fields w 0x37 rd imm (lit< tt) row in rw (h.opcode_is, h.rd_is, h.imm_is) refl
decoded_row w (Auipc rd imm) row = let h = upper_fields w 0x17 rd imm (lit< tt) row in rw (h.opcode_is, h.rd_is, h.imm_is) refl
decoded_row w (Jal rd imm) row = let h = jump_fields w 0x6F rd imm (lit< tt) row in rw (h.opcode_is, h.rd_is, h.imm_is) refl
decoded_row w (Jalr rd rs1 imm) row = let h = immediate_fields w 0x67 0 rd rs1 imm (lit< tt) (lit< tt) row in rw (h.opcode_is, h.f3_is, h.rd_is, h.rs1_is, h.imm_is) refl
decoded_row w (Beq rs1 rs2 imm) row = let h = branch_fields w 0x63 0 rs1 rs2 imm (lit< tt) (lit< tt) row in rw (h.opcode_is, h.f3_is, h.rs1_is, h.rs2_is, h.imm_is) refl
decoded_row w (Bne rs1 rs2 imm) row = let h = branch_fields w 0x63 1 rs1 rs2 imm (lit< tt) (lit< tt) row in rw (h.opcode_is, h.f3_is, h.rs1_is, h.rs2_is, h.imm_is) refl
decoded_row w (Blt rs1 rs2 imm) row = let h = branch_fields w 0x63 4 rs1 rs2 imm (lit< tt) (lit< tt) row in rw (h.opcode_is, h.f3_is, h.rs1_is, h.rs2_is, h.imm_is) refl
decoded_row w (Bge rs1 rs2 imm) row = let h = branch_fields w 0x63 5 rs1 rs2 imm (lit< tt) (lit< tt) row in rw (h.opcode_is, h.f3_is, h.rs1_is, h.rs2_is, h.imm_is) refl
decoded_row w (Bltu rs1 rs2 imm) row = let h = branch_fields w 0x63 6 rs1 rs2 imm (lit< tt) (lit< tt) row in rw (h.opcode_is, h.f3_is, h.rs1_is, h.rs2_is, h.imm_is) refl
decoded_row w (Bgeu rs1 rs2 imm) row = let h = branch_fields w 0x63 7 rs1 rs2 imm (lit< tt) (lit< tt) row in rw (h.opcode_is, h.f3_is, h.rs1_is, h.rs2_is, h.imm_is) refl
decoded_row w (Lb rd rs1 imm) row = let h = immediate_fields w 0x03 0 rd rs1 imm (lit< tt) (lit< tt) row in rw (h.opcode_is, h.f3_is, h.rd_is, h.rs1_is, h.imm_is) refl
decoded_row w (Lh rd rs1 imm) row = let h = immediate_fields w 0x03 1 rd rs1 imm (lit< tt) (lit< tt) row in rw (h.opcode_is, h.f3_is, h.rd_is, h.rs1_is, h.imm_is) refl
decoded_row w (Lw rd rs1 imm) row = let h = immediate_fields w 0x03 2 rd rs1 imm (lit< tt) (lit< tt) row in rw (h.opcode_is, h.f3_is, h.rd_is, h.rs1_is, h.imm_is) refl
decoded_row w (Lbu rd rs1 imm) row = let h = immediate_fields w 0x03 4 rd rs1 imm (lit< tt) (lit< tt) row in rw (h.opcode_is, h.f3_is, h.rd_is, h.rs1_is, h.imm_is) refl
decoded_row w (Lhu rd rs1 imm) row = let h = immediate_fields w 0x03 5 rd rs1 imm (lit< tt) (lit< tt) row in rw (h.opcode_is, h.f3_is, h.rd_is, h.rs1_is, h.imm_is) refl
decoded_row w (Sb rs1 rs2 imm) row = let h = store_fields w 0x23 0 rs1 rs2 imm (lit< tt) (lit< tt) row in rw (h.opcode_is, h.f3_is, h.rs1_is, h.rs2_is, h.imm_is) refl
decoded_row w (Sh rs1 rs2 imm) row = let h = store_fields w 0x23 1 rs1 rs2 imm (lit< tt) (lit< tt) row in rw (h.opcode_is, h.f3_is, h.rs1_is, h.rs2_is, h.imm_is) refl
decoded_row w (Sw rs1 rs2 imm) row = let h = store_fields w 0x23 2 rs1 rs2 imm (lit< tt) (lit< tt) row in rw (h.opcode_is, h.f3_is, h.rs1_is, h.rs2_is, h.imm_is) refl
decoded_row w (Addi rd rs1 imm) row = let h = immediate_fields w 0x13 0 rd rs1 imm (lit< tt) (lit< tt) row in rw (h.opcode_is, h.f3_is, h.rd_is, h.rs1_is, h.imm_is) refl
decoded_row w (Slti rd rs1 imm) row = let h = immediate_fields w 0x13 2 rd rs1 imm (lit< tt) (lit< tt) row in rw (h.opcode_is, h.f3_is, h.rd_is, h.rs1_is, h.imm_is) refl
decoded_row w (Sltiu rd rs1 imm) row = let h = immediate_fields w 0x13 3 rd rs1 imm (lit< tt) (lit< tt) row in rw (h.opcode_is, h.f3_is, h.rd_is, h.rs1_is, h.imm_is) refl
decoded_row w (Xori rd rs1 imm) row = let h = immediate_fields w 0x13 4 rd rs1 imm (lit< tt) (lit< tt) row in rw (h.opcode_is, h.f3_is, h.rd_is, h.rs1_is, h.imm_is) refl
decoded_row w (Ori rd rs1 imm) row = let h = immediate_fields w 0x13 6 rd rs1 imm (lit< tt) (lit< tt) row in rw (h.opcode_is, h.f3_is, h.rd_is, h.rs1_is, h.imm_is) refl
decoded_row w (Andi rd rs1 imm) row = let h = immediate_fields w 0x13 7 rd rs1 imm (lit< tt) (lit< tt) row in rw (h.opcode_is, h.f3_is, h.rd_is, h.rs1_is, h.imm_is) refl
decoded_row w (Slli rd rs1 imm) row = let h = register_fields w 0x13 1 0x00 rd rs1 imm (lit< tt) (lit< tt) (lit< tt) row in rw (h.opcode_is, h.f3_is, h.f7_is, h.rd_is, h.rs1_is, h.rs2_is) refl
decoded_row w (Srli rd rs1 imm) row = let h = register_fields w 0x13 5 0x00 rd rs1 imm (lit< tt) (lit< tt) (lit< tt) row in rw (h.opcode_is, h.f3_is, h.f7_is, h.rd_is, h.rs1_is, h.rs2_is) refl
decoded_row w (Srai rd rs1 imm) row = let h = register_fields w 0x13 5 0x20 rd rs1 imm (lit< tt) (lit< tt) (lit< tt) row in rw (h.opcode_is, h.f3_is, h.f7_is, h.rd_is, h.rs1_is, h.rs2_is) refl
decoded_row w (Add rd rs1 rs2) row = let h = register_fields w 0x33 0 0x00 rd rs1 rs2 (lit< tt) (lit< tt) (lit< tt) row in rw (h.opcode_is, h.f3_is, h.f7_is, h.rd_is, h.rs1_is, h.rs2_is) refl
decoded_row w (Sub rd rs1 rs2) row = let h = register_fields w 0x33 0 0x20 rd rs1 rs2 (lit< tt) (lit< tt) (lit< tt) row in rw (h.opcode_is, h.f3_is, h.f7_is, h.rd_is, h.rs1_is, h.rs2_is) refl
decoded_row w (Sll rd rs1 rs2) row = let h = register_fields w 0x33 1 0x00 rd rs1 rs2 (lit< tt) (lit< tt) (lit< tt) row in rw (h.opcode_is, h.f3_is, h.f7_is, h.rd_is, h.rs1_is, h.rs2_is) refl
decoded_row w (Slt rd rs1 rs2) row = let h = register_fields w 0x33 2 0x00 rd rs1 rs2 (lit< tt) (lit< tt) (lit< tt) row in rw (h.opcode_is, h.f3_is, h.f7_is, h.rd_is, h.rs1_is, h.rs2_is) refl
decoded_row w (Sltu rd rs1 rs2) row = let h = register_fields w 0x33 3 0x00 rd rs1 rs2 (lit< tt) (lit< tt) (lit< tt) row in rw (h.opcode_is, h.f3_is, h.f7_is, h.rd_is, h.rs1_is, h.rs2_is) refl
decoded_row w (Xor rd rs1 rs2) row = let h = register_fields w 0x33 4 0x00 rd rs1 rs2 (lit< tt) (lit< tt) (lit< tt) row in rw (h.opcode_is, h.f3_is, h.f7_is, h.rd_is, h.rs1_is, h.rs2_is) refl
decoded_row w (Srl rd rs1 rs2) row = let h = register_fields w 0x33 5 0x00 rd rs1 rs2 (lit< tt) (lit< tt) (lit< tt) row in rw (h.opcode_is, h.f3_is, h.f7_is, h.rd_is, h.rs1_is, h.rs2_is) refl
decoded_row w (Sra rd rs1 rs2) row = let h = register_fields w 0x33 5 0x20 rd rs1 rs2 (lit< tt) (lit< tt) (lit< tt) row in rw (h.opcode_is, h.f3_is, h.f7_is, h.rd_is, h.rs1_is, h.rs2_is) refl
decoded_row w (Or rd rs1 rs2) row = let h = register_fields w 0x33 6 0x00 rd rs1 rs2 (lit< tt) (lit< tt) (lit< tt) row in rw (h.opcode_is, h.f3_is, h.f7_is, h.rd_is, h.rs1_is, h.rs2_is) refl
decoded_row w (And rd rs1 rs2) row = let h = register_fields w 0x33 7 0x00 rd rs1 rs2 (lit< tt) (lit< tt) (lit< tt) row in rw (h.opcode_is, h.f3_is, h.f7_is, h.rd_is, h.rs1_is, h.rs2_is) refl
decoded_row w (Mul rd rs1 rs2) row = let h = register_fields w 0x33 0 0x01 rd rs1 rs2 (lit< tt) (lit< tt) (lit< tt) row in rw (h.opcode_is, h.f3_is, h.f7_is, h.rd_is, h.rs1_is, h.rs2_is) refl
decoded_row w (Mulh rd rs1 rs2) row = let h = register_fields w 0x33 1 0x01 rd rs1 rs2 (lit< tt) (lit< tt) (lit< tt) row in rw (h.opcode_is, h.f3_is, h.f7_is, h.rd_is, h.rs1_is, h.rs2_is) refl
decoded_row w (Mulhsu rd rs1 rs2) row = let h = register_fields w 0x33 2 0x01 rd rs1 rs2 (lit< tt) (lit< tt) (lit< tt) row in rw (h.opcode_is, h.f3_is, h.f7_is, h.rd_is, h.rs1_is, h.rs2_is) refl
decoded_row w (Mulhu rd rs1 rs2) row = let h = register_fields w 0x33 3 0x01 rd rs1 rs2 (lit< tt) (lit< tt) (lit< tt) row in rw (h.opcode_is, h.f3_is, h.f7_is, h.rd_is, h.rs1_is, h.rs2_is) refl
decoded_row w (Div rd rs1 rs2) row = let h = register_fields w 0x33 4 0x01 rd rs1 rs2 (lit< tt) (lit< tt) (lit< tt) row in rw (h.opcode_is, h.f3_is, h.f7_is, h.rd_is, h.rs1_is, h.rs2_is) refl
decoded_row w (Divu rd rs1 rs2) row = let h = register_fields w 0x33 5 0x01 rd rs1 rs2 (lit< tt) (lit< tt) (lit< tt) row in rw (h.opcode_is, h.f3_is, h.f7_is, h.rd_is, h.rs1_is, h.rs2_is) refl
decoded_row w (Rem rd rs1 rs2) row = let h = register_fields w 0x33 6 0x01 rd rs1 rs2 (lit< tt) (lit< tt) (lit< tt) row in rw (h.opcode_is, h.f3_is, h.f7_is, h.rd_is, h.rs1_is, h.rs2_is) refl
decoded_row w (Remu rd rs1 rs2) row = let h = register_fields w 0x33 7 0x01 rd rs1 rs2 (lit< tt) (lit< tt) (lit< tt) row in rw (h.opcode_is, h.f3_is, h.f7_is, h.rd_is, h.rs1_is, h.rs2_is) refl
decoded_row w (Fence kept) row = let h = fence_fields w 0x0F 0 kept (lit< tt) (lit< tt) row in rw (h.opcode_is, h.f3_is, h.kept_is) refl
decoded_row w Ecall row = rw row refl
decoded_row w Ebreak row = rw row refl

-- the cases of one test in a chain of them
tested : (a b : ℕ) (x y : Option Instr) (P : Instr → Type 0) → (a ≡ b → IfSome x P) → IfSome y P → IfSome (cond (eqb a b) x y) P
tested a b x y P taken passed = cond_both (eqb a b) x y (λ o. IfSome o P) (λ e. taken (eqb-true a b e)) (λ _. passed)

-- each definition of the decoder finds rows of the table alone

jump_to_register_is : (w : ℕ) → w < 2 ^ 32 → opcode_of w ≡ 0x67 → IfSome (jump_to_register_of w) (Table w)
jump_to_register_is w fits op = tested (f3_of w) 0 _ _ (Table w) (λ f3. immediate_here w 0x67 0 fits op f3) tt

branch_is : (w : ℕ) → w < 2 ^ 32 → opcode_of w ≡ 0x63 → IfSome (branch_of w) (Table w)
branch_is w fits op =
    tested (f3_of w) 0 _ _ (Table w) (λ f3. branch_here w 0x63 0 fits op f3)
    (tested (f3_of w) 1 _ _ (Table w) (λ f3. branch_here w 0x63 1 fits op f3)
    (tested (f3_of w) 4 _ _ (Table w) (λ f3. branch_here w 0x63 4 fits op f3)
    (tested (f3_of w) 5 _ _ (Table w) (λ f3. branch_here w 0x63 5 fits op f3)
    (tested (f3_of w) 6 _ _ (Table w) (λ f3. branch_here w 0x63 6 fits op f3)
    (tested (f3_of w) 7 _ _ (Table w) (λ f3. branch_here w 0x63 7 fits op f3) tt)))))

load_is : (w : ℕ) → w < 2 ^ 32 → opcode_of w ≡ 0x03 → IfSome (load_of w) (Table w)
load_is w fits op =
    tested (f3_of w) 0 _ _ (Table w) (λ f3. immediate_here w 0x03 0 fits op f3)
    (tested (f3_of w) 1 _ _ (Table w) (λ f3. immediate_here w 0x03 1 fits op f3)
    (tested (f3_of w) 2 _ _ (Table w) (λ f3. immediate_here w 0x03 2 fits op f3)
    (tested (f3_of w) 4 _ _ (Table w) (λ f3. immediate_here w 0x03 4 fits op f3)
    (tested (f3_of w) 5 _ _ (Table w) (λ f3. immediate_here w 0x03 5 fits op f3) tt))))

store_is : (w : ℕ) → w < 2 ^ 32 → opcode_of w ≡ 0x23 → IfSome (store_of w) (Table w)
store_is w fits op =
    tested (f3_of w) 0 _ _ (Table w) (λ f3. store_here w 0x23 0 fits op f3)
    (tested (f3_of w) 1 _ _ (Table w) (λ f3. store_here w 0x23 1 fits op f3)
    (tested (f3_of w) 2 _ _ (Table w) (λ f3. store_here w 0x23 2 fits op f3) tt))

shift_up_is : (w : ℕ) → w < 2 ^ 32 → opcode_of w ≡ 0x13 → f3_of w ≡ 1 → IfSome (shift_up_of w) (Table w)
shift_up_is w fits op f3 = tested (f7_of w) 0x00 _ _ (Table w) (λ f7. register_here w 0x13 1 0x00 fits op f3 f7) tt

shift_down_is : (w : ℕ) → w < 2 ^ 32 → opcode_of w ≡ 0x13 → f3_of w ≡ 5 → IfSome (shift_down_of w) (Table w)
shift_down_is w fits op f3 =
    tested (f7_of w) 0x00 _ _ (Table w) (λ f7. register_here w 0x13 5 0x00 fits op f3 f7)
    (tested (f7_of w) 0x20 _ _ (Table w) (λ f7. register_here w 0x13 5 0x20 fits op f3 f7) tt)

with_immediate_is : (w : ℕ) → w < 2 ^ 32 → opcode_of w ≡ 0x13 → IfSome (with_immediate_of w) (Table w)
with_immediate_is w fits op =
    tested (f3_of w) 0 _ _ (Table w) (λ f3. immediate_here w 0x13 0 fits op f3)
    (tested (f3_of w) 1 _ _ (Table w) (λ f3. shift_up_is w fits op f3)
    (tested (f3_of w) 2 _ _ (Table w) (λ f3. immediate_here w 0x13 2 fits op f3)
    (tested (f3_of w) 3 _ _ (Table w) (λ f3. immediate_here w 0x13 3 fits op f3)
    (tested (f3_of w) 4 _ _ (Table w) (λ f3. immediate_here w 0x13 4 fits op f3)
    (tested (f3_of w) 5 _ _ (Table w) (λ f3. shift_down_is w fits op f3)
    (tested (f3_of w) 6 _ _ (Table w) (λ f3. immediate_here w 0x13 6 fits op f3)
    (tested (f3_of w) 7 _ _ (Table w) (λ f3. immediate_here w 0x13 7 fits op f3) tt)))))))

product_or_quotient_is : (w : ℕ) → w < 2 ^ 32 → opcode_of w ≡ 0x33 → f7_of w ≡ 0x01 → IfSome (product_or_quotient_of w) (Table w)
product_or_quotient_is w fits op f7 =
    tested (f3_of w) 0 _ _ (Table w) (λ f3. register_here w 0x33 0 0x01 fits op f3 f7)
    (tested (f3_of w) 1 _ _ (Table w) (λ f3. register_here w 0x33 1 0x01 fits op f3 f7)
    (tested (f3_of w) 2 _ _ (Table w) (λ f3. register_here w 0x33 2 0x01 fits op f3 f7)
    (tested (f3_of w) 3 _ _ (Table w) (λ f3. register_here w 0x33 3 0x01 fits op f3 f7)
    (tested (f3_of w) 4 _ _ (Table w) (λ f3. register_here w 0x33 4 0x01 fits op f3 f7)
    (tested (f3_of w) 5 _ _ (Table w) (λ f3. register_here w 0x33 5 0x01 fits op f3 f7)
    (tested (f3_of w) 6 _ _ (Table w) (λ f3. register_here w 0x33 6 0x01 fits op f3 f7)
    (tested (f3_of w) 7 _ _ (Table w) (λ f3. register_here w 0x33 7 0x01 fits op f3 f7) tt)))))))

with_registers_is : (w : ℕ) → w < 2 ^ 32 → opcode_of w ≡ 0x33 → IfSome (with_registers_of w) (Table w)
with_registers_is w fits op =
    tested (f7_of w) 0x00 _ _ (Table w)
    (λ f7.
    tested (f3_of w) 0 _ _ (Table w) (λ f3. register_here w 0x33 0 0x00 fits op f3 f7)
    (tested (f3_of w) 1 _ _ (Table w) (λ f3. register_here w 0x33 1 0x00 fits op f3 f7)
    (tested (f3_of w) 2 _ _ (Table w) (λ f3. register_here w 0x33 2 0x00 fits op f3 f7)
    (tested (f3_of w) 3 _ _ (Table w) (λ f3. register_here w 0x33 3 0x00 fits op f3 f7)
    (tested (f3_of w) 4 _ _ (Table w) (λ f3. register_here w 0x33 4 0x00 fits op f3 f7)
    (tested (f3_of w) 5 _ _ (Table w) (λ f3. register_here w 0x33 5 0x00 fits op f3 f7)
    (tested (f3_of w) 6 _ _ (Table w) (λ f3. register_here w 0x33 6 0x00 fits op f3 f7)
    (tested (f3_of w) 7 _ _ (Table w) (λ f3. register_here w 0x33 7 0x00 fits op f3 f7) tt))))))))
    (tested (f7_of w) 0x01 _ _ (Table w) (λ f7. product_or_quotient_is w fits op f7)
    (tested (f7_of w) 0x20 _ _ (Table w)
    (λ f7.
    tested (f3_of w) 0 _ _ (Table w) (λ f3. register_here w 0x33 0 0x20 fits op f3 f7)
    (tested (f3_of w) 5 _ _ (Table w) (λ f3. register_here w 0x33 5 0x20 fits op f3 f7) tt))
    tt))

fence_is : (w : ℕ) → w < 2 ^ 32 → opcode_of w ≡ 0x0F → IfSome (fence_of w) (Table w)
fence_is w fits op = tested (f3_of w) 0 _ _ (Table w) (λ f3. fence_here w 0x0F 0 fits op f3) tt

system_is : (w : ℕ) → IfSome (system_of w) (Table w)
system_is w =
    tested w 0x00000073 _ _ (Table w) (λ e. e)
    (tested w 0x00100073 _ _ (Table w) (λ e. e) tt)

-- what is decoded is a row of the table
decoded_is : (w : ℕ) → w < 2 ^ 32 → IfSome (instr_of_word w) (Table w)
unfolding instr_of_word
decoded_is w fits =
    tested (opcode_of w) 0x37 _ _ (Table w) (λ op. upper_here w 0x37 fits op)
    (tested (opcode_of w) 0x17 _ _ (Table w) (λ op. upper_here w 0x17 fits op)
    (tested (opcode_of w) 0x6F _ _ (Table w) (λ op. jump_here w 0x6F fits op)
    (tested (opcode_of w) 0x67 _ _ (Table w) (λ op. jump_to_register_is w fits op)
    (tested (opcode_of w) 0x63 _ _ (Table w) (λ op. branch_is w fits op)
    (tested (opcode_of w) 0x03 _ _ (Table w) (λ op. load_is w fits op)
    (tested (opcode_of w) 0x23 _ _ (Table w) (λ op. store_is w fits op)
    (tested (opcode_of w) 0x13 _ _ (Table w) (λ op. with_immediate_is w fits op)
    (tested (opcode_of w) 0x33 _ _ (Table w) (λ op. with_registers_is w fits op)
    (tested (opcode_of w) 0x0F _ _ (Table w) (λ op. fence_is w fits op)
    (tested (opcode_of w) 0x73 _ _ (Table w) (λ _. system_is w) tt))))))))))

-- the fact at a value that is there
at_some : (o : Option Instr) (i : Instr) (P : Instr → Type 0) → IfSome o P → o ≡ Some i → P i
at_some o i P h e = rw e at h

-- a word is decoded to an instruction exactly where the table has the two
pub decoded_is_row : (w : ℕ) → w < 2 ^ 32 → (i : Instr) → (instr_of_word w ≡ Some i) ↔ Table w i
decoded_is_row w fits i = (λ e. at_some (instr_of_word w) i (Table w) (decoded_is w fits) e, λ row. decoded_row w i row)

-- no instruction has two words
pub one_word : (v w : ℕ) (i : Instr) → Table v i → Table w i → v ≡ w
one_word v w (Lui rd imm) here there = upper_word v w 0x37 rd imm here there
one_word v w (Auipc rd imm) here there = upper_word v w 0x17 rd imm here there
one_word v w (Jal rd imm) here there = jump_word v w 0x6F rd imm here there
one_word v w (Jalr rd rs1 imm) here there = immediate_word v w 0x67 0 rd rs1 imm here there
one_word v w (Beq rs1 rs2 imm) here there = branch_word v w 0x63 0 rs1 rs2 imm here there
one_word v w (Bne rs1 rs2 imm) here there = branch_word v w 0x63 1 rs1 rs2 imm here there
one_word v w (Blt rs1 rs2 imm) here there = branch_word v w 0x63 4 rs1 rs2 imm here there
one_word v w (Bge rs1 rs2 imm) here there = branch_word v w 0x63 5 rs1 rs2 imm here there
one_word v w (Bltu rs1 rs2 imm) here there = branch_word v w 0x63 6 rs1 rs2 imm here there
one_word v w (Bgeu rs1 rs2 imm) here there = branch_word v w 0x63 7 rs1 rs2 imm here there
one_word v w (Lb rd rs1 imm) here there = immediate_word v w 0x03 0 rd rs1 imm here there
one_word v w (Lh rd rs1 imm) here there = immediate_word v w 0x03 1 rd rs1 imm here there
one_word v w (Lw rd rs1 imm) here there = immediate_word v w 0x03 2 rd rs1 imm here there
one_word v w (Lbu rd rs1 imm) here there = immediate_word v w 0x03 4 rd rs1 imm here there
one_word v w (Lhu rd rs1 imm) here there = immediate_word v w 0x03 5 rd rs1 imm here there
one_word v w (Sb rs1 rs2 imm) here there = store_word v w 0x23 0 rs1 rs2 imm here there
one_word v w (Sh rs1 rs2 imm) here there = store_word v w 0x23 1 rs1 rs2 imm here there
one_word v w (Sw rs1 rs2 imm) here there = store_word v w 0x23 2 rs1 rs2 imm here there
one_word v w (Addi rd rs1 imm) here there = immediate_word v w 0x13 0 rd rs1 imm here there
one_word v w (Slti rd rs1 imm) here there = immediate_word v w 0x13 2 rd rs1 imm here there
one_word v w (Sltiu rd rs1 imm) here there = immediate_word v w 0x13 3 rd rs1 imm here there
one_word v w (Xori rd rs1 imm) here there = immediate_word v w 0x13 4 rd rs1 imm here there
one_word v w (Ori rd rs1 imm) here there = immediate_word v w 0x13 6 rd rs1 imm here there
one_word v w (Andi rd rs1 imm) here there = immediate_word v w 0x13 7 rd rs1 imm here there
one_word v w (Slli rd rs1 imm) here there = register_word v w 0x13 1 0x00 rd rs1 imm here there
one_word v w (Srli rd rs1 imm) here there = register_word v w 0x13 5 0x00 rd rs1 imm here there
one_word v w (Srai rd rs1 imm) here there = register_word v w 0x13 5 0x20 rd rs1 imm here there
one_word v w (Add rd rs1 rs2) here there = register_word v w 0x33 0 0x00 rd rs1 rs2 here there
one_word v w (Sub rd rs1 rs2) here there = register_word v w 0x33 0 0x20 rd rs1 rs2 here there
one_word v w (Sll rd rs1 rs2) here there = register_word v w 0x33 1 0x00 rd rs1 rs2 here there
one_word v w (Slt rd rs1 rs2) here there = register_word v w 0x33 2 0x00 rd rs1 rs2 here there
one_word v w (Sltu rd rs1 rs2) here there = register_word v w 0x33 3 0x00 rd rs1 rs2 here there
one_word v w (Xor rd rs1 rs2) here there = register_word v w 0x33 4 0x00 rd rs1 rs2 here there
one_word v w (Srl rd rs1 rs2) here there = register_word v w 0x33 5 0x00 rd rs1 rs2 here there
one_word v w (Sra rd rs1 rs2) here there = register_word v w 0x33 5 0x20 rd rs1 rs2 here there
one_word v w (Or rd rs1 rs2) here there = register_word v w 0x33 6 0x00 rd rs1 rs2 here there
one_word v w (And rd rs1 rs2) here there = register_word v w 0x33 7 0x00 rd rs1 rs2 here there
one_word v w (Mul rd rs1 rs2) here there = register_word v w 0x33 0 0x01 rd rs1 rs2 here there
one_word v w (Mulh rd rs1 rs2) here there = register_word v w 0x33 1 0x01 rd rs1 rs2 here there
one_word v w (Mulhsu rd rs1 rs2) here there = register_word v w 0x33 2 0x01 rd rs1 rs2 here there
one_word v w (Mulhu rd rs1 rs2) here there = register_word v w 0x33 3 0x01 rd rs1 rs2 here there
one_word v w (Div rd rs1 rs2) here there = register_word v w 0x33 4 0x01 rd rs1 rs2 here there
one_word v w (Divu rd rs1 rs2) here there = register_word v w 0x33 5 0x01 rd rs1 rs2 here there
one_word v w (Rem rd rs1 rs2) here there = register_word v w 0x33 6 0x01 rd rs1 rs2 here there
one_word v w (Remu rd rs1 rs2) here there = register_word v w 0x33 7 0x01 rd rs1 rs2 here there
one_word v w (Fence kept) here there = sym here.same ∙ there.same
one_word v w Ecall here there = here ∙ sym there
one_word v w Ebreak here there = here ∙ sym there

-- no word has two instructions
pub one_instruction : (w : ℕ) (i j : Instr) → Table w i → Table w j → i ≡ j
one_instruction w i j here there =
    let same : Some i ≡ Some j = sym (decoded_row w i here) ∙ decoded_row w j there in
    cc
