-- How the numbers of instructions are written, and how long they are.
use Rattle.std.proofs.Common.{◌≡◌, ℕ, ◌-◌, ◌^◌, ◌<◌, ◌≤◌, ◌∷◌, length, suc, ap, ◌∙◌, pos, negsuc, arith, lit<}
use Rattle.std.proofs.lemmas.Fmt.{length-decimal-le}
use Rattle.std.proofs.lemmas.Grind.{common_steps}
use Rattle.std.proofs.lemmas.Int.{ints}
use Rattle.std.proofs.Math.Facts.{to_z-neg}
use Rattle.std.specs.Int.{w32}
use Rattle.std.specs.Fmt.{decimal, signed_decimal}
use Rattle.pump_words.specs.Words.{signed}

-- the number of a register and the amount of a shift
pub length_small : (n : ℕ) → n < 32 → length (decimal n) ≤ 2
length_small n small = length-decimal-le 2 n (lit< tt) (omega arith) (omega arith)

-- an immediate without its sign
pub length_immediate : (n : ℕ) → n ≤ 2048 → length (decimal n) ≤ 4
length_immediate n small = length-decimal-le 4 n (lit< tt) (omega arith) (omega arith)

-- an immediate that is not negative
pub immediate_low : (n : ℕ) → n < 2048 → signed_decimal (signed n) ≡ decimal n
immediate_low n low = let e : signed n ≡ pos n = omega (arith, ints) in ap signed_decimal e

-- a negative one
pub immediate_high : (n : ℕ) → 2 ^ 31 ≤ n → n < 2 ^ 32 → signed_decimal (signed n) ≡ 45 ∷ decimal (2 ^ 32 - n)
immediate_high n high fits =
    let below : ℕ = 2 ^ 32 - 1 - n in
    let bits : n ≡ 2 ^ 32 - suc below = omega arith in
    let is_negative : signed n ≡ negsuc below = ap signed bits ∙ to_z-neg w32 below (omega arith) in
    let size : suc below ≡ 2 ^ 32 - n = omega arith in
    ap signed_decimal is_negative ∙ ap (λ k. 45 ∷ decimal k) size

pub ruleset numbers = (common_steps, length_small, length_immediate, immediate_low, immediate_high)
