-- The instruction formats of RV32IM: a word is the sum of its fields, each at its place and within its range.
-- A field is named by the bits that it holds of the immediate, highest first, as in the pictures of the RISC-V unprivileged ISA.
use Rattle.std.specs.Prelude.{◌≡◌, ℕ, ◌+◌, ◌*◌, ◌^◌, ◌<◌}
use Rattle.pump_words.specs.Words.{sign_extended}

-- R: f7, rs2, rs1, f3, rd, opcode
pub record IsRegisterWord (w opcode f3 f7 rd rs1 rs2 : ℕ) : Type 0 where
  pub rd_fits : rd < 2 ^ 5
  pub rs1_fits : rs1 < 2 ^ 5
  pub rs2_fits : rs2 < 2 ^ 5
  pub word : w ≡ opcode + rd * 2 ^ 7 + f3 * 2 ^ 12 + rs1 * 2 ^ 15 + rs2 * 2 ^ 20 + f7 * 2 ^ 25

-- the shifts by a constant: as R, with the amount in the place of rs2
abbrev pub IsShiftWord : ℕ → ℕ → ℕ → ℕ → ℕ → ℕ → ℕ → Type 0
IsShiftWord w opcode f3 f7 rd rs1 amount = IsRegisterWord w opcode f3 f7 rd rs1 amount

-- I: imm[11:0], rs1, f3, rd, opcode
pub record IsImmediateWord (w opcode f3 rd rs1 imm : ℕ) : Type 0 where
  pub bits11_0 : ℕ
  pub bits11_0_fits : bits11_0 < 2 ^ 12
  pub rd_fits : rd < 2 ^ 5
  pub rs1_fits : rs1 < 2 ^ 5
  pub extended : imm ≡ sign_extended 12 bits11_0
  pub word : w ≡ opcode + rd * 2 ^ 7 + f3 * 2 ^ 12 + rs1 * 2 ^ 15 + bits11_0 * 2 ^ 20

-- S: imm[11:5], rs2, rs1, f3, imm[4:0], opcode
pub record IsStoreWord (w opcode f3 rs1 rs2 imm : ℕ) : Type 0 where
  pub bits11_5 : ℕ
  pub bits4_0 : ℕ
  pub bits11_5_fits : bits11_5 < 2 ^ 7
  pub bits4_0_fits : bits4_0 < 2 ^ 5
  pub rs1_fits : rs1 < 2 ^ 5
  pub rs2_fits : rs2 < 2 ^ 5
  pub extended : imm ≡ sign_extended 12 (bits4_0 + bits11_5 * 2 ^ 5)
  pub word : w ≡ opcode + bits4_0 * 2 ^ 7 + f3 * 2 ^ 12 + rs1 * 2 ^ 15 + rs2 * 2 ^ 20 + bits11_5 * 2 ^ 25

-- B: imm[12], imm[10:5], rs2, rs1, f3, imm[4:1], imm[11], opcode
pub record IsBranchWord (w opcode f3 rs1 rs2 imm : ℕ) : Type 0 where
  pub bit12 : ℕ
  pub bits10_5 : ℕ
  pub bits4_1 : ℕ
  pub bit11 : ℕ
  pub bit12_fits : bit12 < 2
  pub bits10_5_fits : bits10_5 < 2 ^ 6
  pub bits4_1_fits : bits4_1 < 2 ^ 4
  pub bit11_fits : bit11 < 2
  pub rs1_fits : rs1 < 2 ^ 5
  pub rs2_fits : rs2 < 2 ^ 5
  pub extended : imm ≡ sign_extended 13 (bits4_1 * 2 + bits10_5 * 2 ^ 5 + bit11 * 2 ^ 11 + bit12 * 2 ^ 12)
  pub word :
      w ≡ opcode + bit11 * 2 ^ 7 + bits4_1 * 2 ^ 8 + f3 * 2 ^ 12 + rs1 * 2 ^ 15 + rs2 * 2 ^ 20 + bits10_5 * 2 ^ 25 + bit12 * 2 ^ 31

-- U: imm[31:12], rd, opcode
pub record IsUpperWord (w opcode rd imm : ℕ) : Type 0 where
  pub bits31_12 : ℕ
  pub bits31_12_fits : bits31_12 < 2 ^ 20
  pub rd_fits : rd < 2 ^ 5
  pub shifted : imm ≡ bits31_12 * 2 ^ 12
  pub word : w ≡ opcode + rd * 2 ^ 7 + bits31_12 * 2 ^ 12

-- J: imm[20], imm[10:1], imm[11], imm[19:12], rd, opcode
pub record IsJumpWord (w opcode rd imm : ℕ) : Type 0 where
  pub bit20 : ℕ
  pub bits10_1 : ℕ
  pub bit11 : ℕ
  pub bits19_12 : ℕ
  pub bit20_fits : bit20 < 2
  pub bits10_1_fits : bits10_1 < 2 ^ 10
  pub bit11_fits : bit11 < 2
  pub bits19_12_fits : bits19_12 < 2 ^ 8
  pub rd_fits : rd < 2 ^ 5
  pub extended : imm ≡ sign_extended 21 (bits10_1 * 2 + bit11 * 2 ^ 11 + bits19_12 * 2 ^ 12 + bit20 * 2 ^ 20)
  pub word : w ≡ opcode + rd * 2 ^ 7 + bits19_12 * 2 ^ 12 + bit11 * 2 ^ 20 + bits10_1 * 2 ^ 21 + bit20 * 2 ^ 31

-- FENCE keeps its word: opcode and f3 are given, and all other bits are free
pub record IsFenceWord (w opcode f3 kept : ℕ) : Type 0 where
  pub bits31_15 : ℕ
  pub bits11_7 : ℕ
  pub bits31_15_fits : bits31_15 < 2 ^ 17
  pub bits11_7_fits : bits11_7 < 2 ^ 5
  pub same : kept ≡ w
  pub word : w ≡ opcode + bits11_7 * 2 ^ 7 + f3 * 2 ^ 12 + bits31_15 * 2 ^ 15
