-- Which compartments are in a set.
use Rattle.std.proofs.Common.{◌≡◌, ℕ, ◌*◌, ◌%◌, ◌^◌, ◌<◌, ◌≤◌, ◌==◌, Bool, true, false, ◌||◌, refl, sym, ap, ◌∙◌, arith, lit<}
use Rattle.std.specs.Int.{w128}
use Rattle.std.specs.Prelude.{bit_or}
use Rattle.std.proofs.Math.Bool.{or-false, or-true}
use Rattle.std.proofs.Math.Nat.{div-eq_of_lt, pow-le-pow_right}
use Rattle.std.proofs.lemmas.Bool.{eqb-false, eqb-true}
use Rattle.std.proofs.lemmas.Nat.Bits.{bit_at_set_other, bit_at_set_same}
use Rattle.policy_trait.specs.Sets.{has, set_of}

-- no number is in a set whose bits end below it
pub has_none : (bits n : ℕ) → bits < 2 ^ 128 → 128 ≤ n → has (set_of bits) n ≡ false
has_none bits n fits large =
    let bound : 2 ^ 128 ≤ 2 ^ n = pow-le-pow_right {n = 2} (lit< tt) {i = 128} {j = n} large in
    ap (λ q. q % 2 == 1) (div-eq_of_lt {n = bits} {m = 2 ^ n} (omega (arith, fits, bound)))

has_with_by : (same : Bool) (bits n other : ℕ) → n < 128 → (other == n) ≡ same
    → has (set_of (bit_or bits (1 * 2 ^ n % 2 ^ 128))) other ≡ (has (set_of bits) other || same)
has_with_by true bits n other within test =
    rw (eqb-true other n test) (ap (λ b. b == 1) (bit_at_set_same w128 bits n within) ∙ sym (or-true (has (set_of bits) n)))
has_with_by false bits n other within test =
    ap (λ b. b == 1) (bit_at_set_other w128 bits n within other (eqb-false other n test)) ∙ sym (or-false (has (set_of bits) other))

-- a set with one compartment more has that one and those that it had
pub has_with : (bits n other : ℕ) → n < 128 → has (set_of (bit_or bits (1 * 2 ^ n % 2 ^ 128))) other ≡ (has (set_of bits) other || (other == n))
has_with bits n other within = has_with_by (other == n) bits n other within refl
