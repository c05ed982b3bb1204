-- A word is a whole number below 2 ^ 32. These are its readings as a signed number, and its bytes and halves.
use Rattle.std.specs.Prelude.{ℕ, ◌+◌, ◌-◌, ◌*◌, ◌/◌, ◌%◌, ◌^◌, ℤ, pos, negsuc, nat_lt, if◌then◌else◌}
use Rattle.std.specs.Int.{w32, cast_signed, cast_unsigned}

-- a word as a number from -2 ^ 31 to 2 ^ 31 - 1, in two's complement
abbrev pub signed : ℕ → ℤ
signed w = cast_signed w32 w

-- the word that is read as z, in two's complement
abbrev pub unsigned : ℤ → ℕ
unsigned z = cast_unsigned w32 z

-- z over 2 ^ n, rounded down
abbrev pub shifted_down : ℤ → ℕ → ℤ
shifted_down (pos m) n = pos (m / 2 ^ n)
shifted_down (negsuc m) n = negsuc (m / 2 ^ n)

-- the word whose low `count` bits are those of n, and whose other bits are copies of bit `count - 1`
abbrev pub sign_extended : ℕ → ℕ → ℕ
sign_extended count n =
    let low = n % 2 ^ count in
    if nat_lt low (2 ^ (count - 1)) then low else (2 ^ 32 - 2 ^ count + low)

-- byte k of a word, where k counts from the low end modulo 4
abbrev pub byte_at : ℕ → ℕ → ℕ
byte_at w k = w / 2 ^ (8 * (k % 4)) % 2 ^ 8

-- half k of a word, where k counts from the low end modulo 2
abbrev pub half_at : ℕ → ℕ → ℕ
half_at w k = w / 2 ^ (16 * (k % 2)) % 2 ^ 16

-- w with the `count` bits from bit `place` on replaced by the low bits of n
abbrev pub with_part : ℕ → ℕ → ℕ → ℕ → ℕ
with_part w place count n =
    w / 2 ^ (place + count) * 2 ^ (place + count) + n % 2 ^ count * 2 ^ place + w % 2 ^ place

-- w with byte k replaced by the low byte of n
abbrev pub with_byte_at : ℕ → ℕ → ℕ → ℕ
with_byte_at w k n = with_part w (8 * (k % 4)) 8 n

-- w with half k replaced by the low half of n
abbrev pub with_half_at : ℕ → ℕ → ℕ → ℕ
with_half_at w k n = with_part w (16 * (k % 2)) 16 n
