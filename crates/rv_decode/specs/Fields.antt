-- The fields of a word, taken out of it by the places of their bits.
use Rattle.std.specs.Prelude.{ℕ, ◌+◌, ◌*◌, ◌/◌, ◌%◌, ◌^◌}
use Rattle.pump_words.specs.Words.{sign_extended}

-- the `count` bits of w from bit `low` on
abbrev pub bits_of : ℕ → ℕ → ℕ → ℕ
bits_of w low count = w / 2 ^ low % 2 ^ count

abbrev pub opcode_of : ℕ → ℕ
opcode_of w = bits_of w 0 7

abbrev pub rd_of : ℕ → ℕ
rd_of w = bits_of w 7 5

abbrev pub f3_of : ℕ → ℕ
f3_of w = bits_of w 12 3

abbrev pub rs1_of : ℕ → ℕ
rs1_of w = bits_of w 15 5

abbrev pub rs2_of : ℕ → ℕ
rs2_of w = bits_of w 20 5

abbrev pub f7_of : ℕ → ℕ
f7_of w = bits_of w 25 7

abbrev pub immediate_of : ℕ → ℕ
immediate_of w = sign_extended 12 (bits_of w 20 12)

abbrev pub store_offset_of : ℕ → ℕ
store_offset_of w = sign_extended 12 (bits_of w 7 5 + bits_of w 25 7 * 2 ^ 5)

abbrev pub branch_offset_of : ℕ → ℕ
branch_offset_of w =
    sign_extended 13 (bits_of w 8 4 * 2 + bits_of w 25 6 * 2 ^ 5 + bits_of w 7 1 * 2 ^ 11 + bits_of w 31 1 * 2 ^ 12)

abbrev pub upper_immediate_of : ℕ → ℕ
upper_immediate_of w = bits_of w 12 20 * 2 ^ 12

abbrev pub jump_offset_of : ℕ → ℕ
jump_offset_of w =
    sign_extended 21 (bits_of w 21 10 * 2 + bits_of w 20 1 * 2 ^ 11 + bits_of w 12 8 * 2 ^ 12 + bits_of w 31 1 * 2 ^ 20)
