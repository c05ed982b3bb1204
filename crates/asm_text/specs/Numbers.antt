-- The numbers of the source: -2^31 to 2^32 - 1, and up to 2^128 - 1 where they may be wide, in decimal or hexadecimal.
use Rattle.std.specs.Prelude.{ℕ, ◌-◌, ◌^◌, ◌==◌, nat_le, ℤ, pos, neg_ℤ, Bool, ◌&&◌, List, [], ◌∷◌, length, Option, Some, None, if◌then◌else◌}
use Rattle.std.specs.Char.{is_digit}
use Rattle.std.specs.List.{list_all}
use Rattle.std.specs.Option.{option_map}
use Rattle.std.specs.Str.Parse.{digits_value}

-- one or more digits in the radix, of either case, and nothing else; zeros may lead
abbrev pub is_numeral : ℕ → List ℕ → Bool
is_numeral radix text = nat_le 1 (length text) && list_all (λ c. is_digit c radix) text

-- the number that digits write, where it is at most `most`
unfoldable pub numeral : ℕ → ℕ → List ℕ → Option ℕ
numeral radix most text =
    if is_numeral radix text && nat_le (digits_value radix text) most then Some (digits_value radix text) else None

-- hexadecimal behind `0x`, else decimal; up to `most`
unfoldable pub unsigned_of : ℕ → List ℕ → Option ℕ
unsigned_of most [] = None
unsigned_of most (first ∷ []) = numeral 10 most (first ∷ [])
unsigned_of most (first ∷ second ∷ more) = if first == 48 && second == 120 then numeral 16 most more else numeral 10 most (first ∷ second ∷ more)

-- behind a `-`: down to -2^31
abbrev pub negative : List ℕ → Option ℤ
negative text = option_map (λ n. neg_ℤ (pos n)) (numeral 10 (2 ^ 31) text)

-- up to 2^32 - 1
abbrev pub positive : List ℕ → Option ℤ
positive text = option_map pos (unsigned_of (2 ^ 32 - 1) text)

-- the number that a text writes: `-` or nothing and decimal digits, or `0x` and hexadecimal digits
unfoldable pub number_of : List ℕ → Option ℤ
number_of [] = None
number_of (first ∷ more) = if first == 45 then negative more else positive (first ∷ more)

-- a number that may be wide: up to 2^128 - 1, with no `-`
unfoldable pub wide_number_of : List ℕ → Option ℕ
wide_number_of text = unsigned_of (2 ^ 128 - 1) text
