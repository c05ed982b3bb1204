-- Words and fields: the fields of a word that is the sum of a format are the summands, and every word is the sum of its own fields.
use Rattle.std.proofs.Common.{◌≡◌, ℕ, ◌+◌, ◌-◌, ◌*◌, ◌/◌, ◌%◌, ◌^◌, ◌<◌, ◌↔◌, refl, sym, subst, ap, ◌∙◌, arith}
use Rattle.std.proofs.Common.{ltb}
use Rattle.std.proofs.lemmas.Bool.{cond_both}
use Rattle.pump_words.specs.Words.{sign_extended}
use Rattle.rv_decode.specs.Fields.{opcode_of, rd_of, f3_of, rs1_of, rs2_of, f7_of, immediate_of, store_offset_of, branch_offset_of, upper_immediate_of, jump_offset_of}
use Rattle.rv_decode.specs.Formats.{IsRegisterWord, IsImmediateWord, IsStoreWord, IsBranchWord, IsUpperWord, IsJumpWord, IsFenceWord}

-- what the fields of such a word are
pub record RegisterFields (w opcode f3 f7 rd rs1 rs2 : ℕ) : Type 0 where
  pub opcode_is : opcode_of w ≡ opcode
  pub f3_is : f3_of w ≡ f3
  pub f7_is : f7_of w ≡ f7
  pub rd_is : rd_of w ≡ rd
  pub rs1_is : rs1_of w ≡ rs1
  pub rs2_is : rs2_of w ≡ rs2

pub register_fields : (w opcode f3 f7 rd rs1 rs2 : ℕ) → opcode < 2 ^ 7 → f3 < 2 ^ 3 → f7 < 2 ^ 7 → IsRegisterWord w opcode f3 f7 rd rs1 rs2 → RegisterFields w opcode f3 f7 rd rs1 rs2
register_fields w opcode f3 f7 rd rs1 rs2 opcode_fits f3_fits f7_fits is = record {
  opcode_is = omega arith;
  f3_is = omega arith;
  f7_is = omega arith;
  rd_is = omega arith;
  rs1_is = omega arith;
  rs2_is = omega arith;
}

pub register_here : (w opcode f3 f7 : ℕ) → w < 2 ^ 32 → opcode_of w ≡ opcode → f3_of w ≡ f3 → f7_of w ≡ f7 → IsRegisterWord w opcode f3 f7 (rd_of w) (rs1_of w) (rs2_of w)
register_here w opcode f3 f7 fits opcode_is f3_is f7_is = record {
  rd_fits = omega arith;
  rs1_fits = omega arith;
  rs2_fits = omega arith;
  word = omega arith;
}

-- what the fields of such a word are
pub record ImmediateFields (w opcode f3 rd rs1 imm : ℕ) : Type 0 where
  pub opcode_is : opcode_of w ≡ opcode
  pub f3_is : f3_of w ≡ f3
  pub rd_is : rd_of w ≡ rd
  pub rs1_is : rs1_of w ≡ rs1
  pub imm_is : immediate_of w ≡ imm

pub immediate_fields : (w opcode f3 rd rs1 imm : ℕ) → opcode < 2 ^ 7 → f3 < 2 ^ 3 → IsImmediateWord w opcode f3 rd rs1 imm → ImmediateFields w opcode f3 rd rs1 imm
immediate_fields w opcode f3 rd rs1 imm opcode_fits f3_fits is = record {
  opcode_is = omega arith;
  f3_is = omega arith;
  rd_is = omega arith;
  rs1_is = omega arith;
  imm_is = ap (sign_extended 12) (omega arith) ∙ sym is.extended;
}

pub immediate_here : (w opcode f3 : ℕ) → w < 2 ^ 32 → opcode_of w ≡ opcode → f3_of w ≡ f3 → IsImmediateWord w opcode f3 (rd_of w) (rs1_of w) (immediate_of w)
immediate_here w opcode f3 fits opcode_is f3_is = record {
  bits11_0 = w / 2 ^ 20 % 2 ^ 12;
  bits11_0_fits = omega arith;
  rd_fits = omega arith;
  rs1_fits = omega arith;
  extended = refl;
  word = omega arith;
}

-- what the fields of such a word are
pub record StoreFields (w opcode f3 rs1 rs2 imm : ℕ) : Type 0 where
  pub opcode_is : opcode_of w ≡ opcode
  pub f3_is : f3_of w ≡ f3
  pub rs1_is : rs1_of w ≡ rs1
  pub rs2_is : rs2_of w ≡ rs2
  pub imm_is : store_offset_of w ≡ imm

pub store_fields : (w opcode f3 rs1 rs2 imm : ℕ) → opcode < 2 ^ 7 → f3 < 2 ^ 3 → IsStoreWord w opcode f3 rs1 rs2 imm → StoreFields w opcode f3 rs1 rs2 imm
store_fields w opcode f3 rs1 rs2 imm opcode_fits f3_fits is = record {
  opcode_is = omega arith;
  f3_is = omega arith;
  rs1_is = omega arith;
  rs2_is = omega arith;
  imm_is = ap (sign_extended 12) (omega arith) ∙ sym is.extended;
}

pub store_here : (w opcode f3 : ℕ) → w < 2 ^ 32 → opcode_of w ≡ opcode → f3_of w ≡ f3 → IsStoreWord w opcode f3 (rs1_of w) (rs2_of w) (store_offset_of w)
store_here w opcode f3 fits opcode_is f3_is = record {
  bits11_5 = w / 2 ^ 25 % 2 ^ 7;
  bits4_0 = w / 2 ^ 7 % 2 ^ 5;
  bits11_5_fits = omega arith;
  bits4_0_fits = omega arith;
  rs1_fits = omega arith;
  rs2_fits = omega arith;
  extended = refl;
  word = omega arith;
}

-- what the fields of such a word are
pub record BranchFields (w opcode f3 rs1 rs2 imm : ℕ) : Type 0 where
  pub opcode_is : opcode_of w ≡ opcode
  pub f3_is : f3_of w ≡ f3
  pub rs1_is : rs1_of w ≡ rs1
  pub rs2_is : rs2_of w ≡ rs2
  pub imm_is : branch_offset_of w ≡ imm

pub branch_fields : (w opcode f3 rs1 rs2 imm : ℕ) → opcode < 2 ^ 7 → f3 < 2 ^ 3 → IsBranchWord w opcode f3 rs1 rs2 imm → BranchFields w opcode f3 rs1 rs2 imm
branch_fields w opcode f3 rs1 rs2 imm opcode_fits f3_fits is = record {
  opcode_is = omega arith;
  f3_is = omega arith;
  rs1_is = omega arith;
  rs2_is = omega arith;
  imm_is = ap (sign_extended 13) (omega arith) ∙ sym is.extended;
}

pub branch_here : (w opcode f3 : ℕ) → w < 2 ^ 32 → opcode_of w ≡ opcode → f3_of w ≡ f3 → IsBranchWord w opcode f3 (rs1_of w) (rs2_of w) (branch_offset_of w)
branch_here w opcode f3 fits opcode_is f3_is = record {
  bit12 = w / 2 ^ 31 % 2;
  bits10_5 = w / 2 ^ 25 % 2 ^ 6;
  bits4_1 = w / 2 ^ 8 % 2 ^ 4;
  bit11 = w / 2 ^ 7 % 2;
  bit12_fits = omega arith;
  bits10_5_fits = omega arith;
  bits4_1_fits = omega arith;
  bit11_fits = omega arith;
  rs1_fits = omega arith;
  rs2_fits = omega arith;
  extended = refl;
  word = omega arith;
}

-- what the fields of such a word are
pub record UpperFields (w opcode rd imm : ℕ) : Type 0 where
  pub opcode_is : opcode_of w ≡ opcode
  pub rd_is : rd_of w ≡ rd
  pub imm_is : upper_immediate_of w ≡ imm

pub upper_fields : (w opcode rd imm : ℕ) → opcode < 2 ^ 7 → IsUpperWord w opcode rd imm → UpperFields w opcode rd imm
upper_fields w opcode rd imm opcode_fits is = record {
  opcode_is = omega arith;
  rd_is = omega arith;
  imm_is = omega arith;
}

pub upper_here : (w opcode : ℕ) → w < 2 ^ 32 → opcode_of w ≡ opcode → IsUpperWord w opcode (rd_of w) (upper_immediate_of w)
upper_here w opcode fits opcode_is = record {
  bits31_12 = w / 2 ^ 12 % 2 ^ 20;
  bits31_12_fits = omega arith;
  rd_fits = omega arith;
  shifted = refl;
  word = omega arith;
}

-- what the fields of such a word are
pub record JumpFields (w opcode rd imm : ℕ) : Type 0 where
  pub opcode_is : opcode_of w ≡ opcode
  pub rd_is : rd_of w ≡ rd
  pub imm_is : jump_offset_of w ≡ imm

pub jump_fields : (w opcode rd imm : ℕ) → opcode < 2 ^ 7 → IsJumpWord w opcode rd imm → JumpFields w opcode rd imm
jump_fields w opcode rd imm opcode_fits is = record {
  opcode_is = omega arith;
  rd_is = omega arith;
  imm_is = ap (sign_extended 21) (omega arith) ∙ sym is.extended;
}

pub jump_here : (w opcode : ℕ) → w < 2 ^ 32 → opcode_of w ≡ opcode → IsJumpWord w opcode (rd_of w) (jump_offset_of w)
jump_here w opcode fits opcode_is = record {
  bit20 = w / 2 ^ 31 % 2;
  bits10_1 = w / 2 ^ 21 % 2 ^ 10;
  bit11 = w / 2 ^ 20 % 2;
  bits19_12 = w / 2 ^ 12 % 2 ^ 8;
  bit20_fits = omega arith;
  bits10_1_fits = omega arith;
  bit11_fits = omega arith;
  bits19_12_fits = omega arith;
  rd_fits = omega arith;
  extended = refl;
  word = omega arith;
}

-- what the fields of a FENCE are
pub record FenceFields (w opcode f3 kept : ℕ) : Type 0 where
  pub opcode_is : opcode_of w ≡ opcode
  pub f3_is : f3_of w ≡ f3
  pub kept_is : w ≡ kept

pub fence_fields : (w opcode f3 kept : ℕ) → opcode < 2 ^ 7 → f3 < 2 ^ 3 → IsFenceWord w opcode f3 kept → FenceFields w opcode f3 kept
fence_fields w opcode f3 kept opcode_fits f3_fits is = record {
  opcode_is = omega arith;
  f3_is = omega arith;
  kept_is = sym is.same;
}

pub fence_here : (w opcode f3 : ℕ) → w < 2 ^ 32 → opcode_of w ≡ opcode → f3_of w ≡ f3 → IsFenceWord w opcode f3 w
fence_here w opcode f3 fits opcode_is f3_is = record {
  bits31_15 = w / 2 ^ 15 % 2 ^ 17;
  bits11_7 = w / 2 ^ 7 % 2 ^ 5;
  bits31_15_fits = omega arith;
  bits11_7_fits = omega arith;
  same = refl;
  word = omega arith;
}

-- a word that keeps to the format of FENCE is the one that keeps itself
pub fence_word_is : (kept : ℕ) → kept < 2 ^ 32 → opcode_of kept ≡ 0x0F → f3_of kept ≡ 0 → (w : ℕ) → (kept ≡ w) ↔ IsFenceWord w 0x0F 0 kept
fence_word_is kept fits opcode_is f3_is w =
    (λ e. let P : ℕ → Type 0 = λ v. IsFenceWord v 0x0F 0 kept in subst P e (fence_here kept 0x0F 0 fits opcode_is f3_is), λ is. is.same)

-- the low bits of a sign extension are those that were extended
pub low12 : (n : ℕ) → n < 2 ^ 12 → sign_extended 12 n % 2 ^ 12 ≡ n
low12 n fits =
    cond_both (ltb (n % 2 ^ 12) (2 ^ 11)) (n % 2 ^ 12) (2 ^ 32 - 2 ^ 12 + n % 2 ^ 12) (λ m. m % 2 ^ 12 ≡ n)
    (λ _. omega arith) (λ _. omega arith)

pub low13 : (n : ℕ) → n < 2 ^ 13 → sign_extended 13 n % 2 ^ 13 ≡ n
low13 n fits =
    cond_both (ltb (n % 2 ^ 13) (2 ^ 12)) (n % 2 ^ 13) (2 ^ 32 - 2 ^ 13 + n % 2 ^ 13) (λ m. m % 2 ^ 13 ≡ n)
    (λ _. omega arith) (λ _. omega arith)

pub low21 : (n : ℕ) → n < 2 ^ 21 → sign_extended 21 n % 2 ^ 21 ≡ n
low21 n fits =
    cond_both (ltb (n % 2 ^ 21) (2 ^ 20)) (n % 2 ^ 21) (2 ^ 32 - 2 ^ 21 + n % 2 ^ 21) (λ m. m % 2 ^ 21 ≡ n)
    (λ _. omega arith) (λ _. omega arith)

-- two words with the same fields are one
pub register_word : (v w opcode f3 f7 rd rs1 rs2 : ℕ) → IsRegisterWord v opcode f3 f7 rd rs1 rs2 → IsRegisterWord w opcode f3 f7 rd rs1 rs2 → v ≡ w
register_word v w opcode f3 f7 rd rs1 rs2 here there = omega arith

pub immediate_word : (v w opcode f3 rd rs1 imm : ℕ) → IsImmediateWord v opcode f3 rd rs1 imm → IsImmediateWord w opcode f3 rd rs1 imm → v ≡ w
immediate_word v w opcode f3 rd rs1 imm here there =
    let same = ap (λ m. m % 2 ^ 12) (sym here.extended ∙ there.extended) in
    omega (arith, same, low12 here.bits11_0 (omega arith), low12 there.bits11_0 (omega arith))

pub store_word : (v w opcode f3 rs1 rs2 imm : ℕ) → IsStoreWord v opcode f3 rs1 rs2 imm → IsStoreWord w opcode f3 rs1 rs2 imm → v ≡ w
store_word v w opcode f3 rs1 rs2 imm here there =
    let same = ap (λ m. m % 2 ^ 12) (sym here.extended ∙ there.extended) in
    omega (arith, same, low12 (here.bits4_0 + here.bits11_5 * 2 ^ 5) (omega arith), low12 (there.bits4_0 + there.bits11_5 * 2 ^ 5) (omega arith))

pub branch_word : (v w opcode f3 rs1 rs2 imm : ℕ) → IsBranchWord v opcode f3 rs1 rs2 imm → IsBranchWord w opcode f3 rs1 rs2 imm → v ≡ w
branch_word v w opcode f3 rs1 rs2 imm here there =
    let same = ap (λ m. m % 2 ^ 13) (sym here.extended ∙ there.extended) in
    omega (arith, same, low13 (here.bits4_1 * 2 + here.bits10_5 * 2 ^ 5 + here.bit11 * 2 ^ 11 + here.bit12 * 2 ^ 12) (omega arith), low13 (there.bits4_1 * 2 + there.bits10_5 * 2 ^ 5 + there.bit11 * 2 ^ 11 + there.bit12 * 2 ^ 12) (omega arith))

pub upper_word : (v w opcode rd imm : ℕ) → IsUpperWord v opcode rd imm → IsUpperWord w opcode rd imm → v ≡ w
upper_word v w opcode rd imm here there = omega arith

pub jump_word : (v w opcode rd imm : ℕ) → IsJumpWord v opcode rd imm → IsJumpWord w opcode rd imm → v ≡ w
jump_word v w opcode rd imm here there =
    let same = ap (λ m. m % 2 ^ 21) (sym here.extended ∙ there.extended) in
    omega (arith, same, low21 (here.bits10_1 * 2 + here.bit11 * 2 ^ 11 + here.bits19_12 * 2 ^ 12 + here.bit20 * 2 ^ 20) (omega arith), low21 (there.bits10_1 * 2 + there.bit11 * 2 ^ 11 + there.bits19_12 * 2 ^ 12 + there.bit20 * 2 ^ 20) (omega arith))
