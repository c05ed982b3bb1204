-- The addresses of words that stand in a row.
use Rattle.std.proofs.Common.{◌≡◌, ℕ, suc, ◌+◌, ◌*◌, arith}

-- word k of the rest of a row is word k + 1 of the row
pub next_place : (base k : ℕ) → base + 4 * suc k ≡ base + 4 + 4 * k
next_place base k = omega arith
