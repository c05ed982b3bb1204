-- The texts that are written onto a line, as lists of ASCII codes.
use Rattle.std.specs.Prelude.{ℕ, ◌-◌, ◌*◌, ◌/◌, ◌%◌, ◌^◌, List, [], ◌∷◌, map, codes, slice_index}
use Rattle.std.specs.List.{range_with_len}

-- one hexadecimal digit, in upper case
abbrev pub hex_digit : ℕ → ℕ
hex_digit n = slice_index (codes "0123456789ABCDEF") n

-- a byte as two hexadecimal digits
abbrev pub hex2_text : ℕ → List ℕ
hex2_text byte = hex_digit (byte / 16) ∷ hex_digit (byte % 16) ∷ []

-- digit k of a word's eight hexadecimal digits, counted from the high end
abbrev pub hex_digit_of : ℕ → ℕ → ℕ
hex_digit_of word k = hex_digit (word / 2 ^ (28 - 4 * k) % 16)

-- the first so many of them
abbrev pub first_digits : ℕ → ℕ → List ℕ
first_digits word count = map (hex_digit_of word) (range_with_len 0 count)

-- the upper 20 bits of a word as five hexadecimal digits
abbrev pub hex5_text : ℕ → List ℕ
hex5_text word = first_digits word 5

-- a word as eight hexadecimal digits
abbrev pub hex8_text : ℕ → List ℕ
hex8_text word = first_digits word 8
