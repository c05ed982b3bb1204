-- How long a number in decimal is.
use Rattle.std.proofs.Common.{◌≡◌, ℕ, ◌+◌, ◌/◌, ◌%◌, ◌^◌, ◌<◌, ◌≤◌, [], ◌∷◌, length, length-append, ap, arith, lit<}
use Rattle.std.proofs.lemmas.Grind.{common_steps}
use Rattle.std.proofs.lemmas.List.FromFn.{length-map-range_with_len, map-range_with_len_more}
use Rattle.std.proofs.lemmas.Fmt.{decimal_digit, decimal_step, length-decimal-le}
use Rattle.std.specs.Fmt.{decimal}

pub length_digit : (n : ℕ) → n < 10 → length (decimal n) ≡ 1
length_digit n small = ap length (decimal_digit n small)

pub length_step : (n : ℕ) → 10 ≤ n → n < 2 ^ 64 → length (decimal n) ≡ length (decimal (n / 10)) + 1
length_step n large fits =
    omega (arith, ap length (decimal_step n large fits), length-append (decimal (n / 10)) ((48 + n % 10) ∷ []))

pub length_short : (n : ℕ) → n < 2 ^ 64 → length (decimal n) ≤ 20
length_short n fits = length-decimal-le 20 n (lit< tt) (omega arith) fits

-- a number's decimal text and its length, by its last digit
pub ruleset decimals = (common_steps, decimal_digit, decimal_step, length_digit, length_step, length_short)

-- one more digit at the end of those so far
pub ruleset digits_so_far = (common_steps, length-map-range_with_len, map-range_with_len_more)
