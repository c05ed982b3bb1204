-- A quotient and a remainder are the only ones.
use Rattle.std.proofs.Common.{◌≡◌, ℕ, zero, suc, ◌+◌, ◌*◌, ◌/◌, ◌%◌, ◌<◌, ◌≤◌, inl, inr, refl, sym, ap, ◌∙◌, arith, ℤ, pos, negsuc, ◌+ℤ◌, ◌*ℤ◌, neg_ℤ}
use Rattle.std.proofs.lemmas.Int.{ints, quot-rem, rem_below}
use Rattle.std.proofs.lemmas.Nat.{div-mul-add, mod-mul-add}
use Rattle.std.specs.Prelude.{int_div, int_rem, unsigned_abs}
use Rattle.std.specs.Int.{is_negative}
use Rattle.rv_products.specs.Quotients.{IsQuotientAndRemainder, IsZeroOrHasSignOf}

-- the quotient and the remainder of natural numbers are the only ones
pub parts_are : (a b q r : ℕ) → q * b + r ≡ a → r < b → (q ≡ a / b) × (r ≡ a % b)
parts_are a b q r e small =
    (sym (div-mul-add q b r small) ∙ ap (λ n. n / b) e, sym (mod-mul-add q b r small) ∙ ap (λ n. n % b) e)

-- a multiple of n that is not 0 is n or more
at_least : (s n : ℕ) → n ≤ suc s * n
at_least s n = omega arith

-- the remainder of a number from 0 on is not below 0, and that of a number below 0 is not above 0
not_below : (k a : ℕ) → IsZeroOrHasSignOf (negsuc k) (pos a) → ⊥
not_below k a (inl e) = grind (arith, ints)
not_below k a (inr e) = grind arith

not_above : (k a : ℕ) → IsZeroOrHasSignOf (pos (suc k)) (negsuc a) → ⊥
not_above k a (inl e) = grind (arith, ints)
not_above k a (inr e) = grind arith

-- ---- by the signs of a and b: what is a quotient and a remainder is what the division gives

above_above : (a b k : ℕ) (q : ℤ) → q *ℤ pos b +ℤ pos k ≡ pos a → k < b → (q ≡ pos (a / b)) × (pos k ≡ pos (a % b))
above_above a b k (pos s) e small = let parts = parts_are a b s k (omega (arith, ints)) small in (ap pos parts.0, ap pos parts.1)
above_above a b k (negsuc s) e small = absurd (omega (arith, ints, at_least s b))

above_below : (a b k : ℕ) (q : ℤ) → q *ℤ negsuc b +ℤ pos k ≡ pos a → k < suc b → (q ≡ neg_ℤ (pos (a / suc b))) × (pos k ≡ pos (a % suc b))
above_below a b k (pos zero) e small =
    let parts = parts_are a (suc b) 0 k (omega (arith, ints)) small in
    (ap (λ n. neg_ℤ (pos n)) parts.0, ap pos parts.1)
above_below a b k (pos (suc s)) e small = absurd (omega (arith, ints, at_least s (suc b)))
above_below a b k (negsuc s) e small =
    let parts = parts_are a (suc b) (suc s) k (omega (arith, ints)) small in
    (ap (λ n. neg_ℤ (pos n)) parts.0, ap pos parts.1)

below_above : (a b k : ℕ) (q : ℤ) → q *ℤ pos b +ℤ neg_ℤ (pos k) ≡ negsuc a → k < b
    → (q ≡ neg_ℤ (pos (suc a / b))) × (neg_ℤ (pos k) ≡ neg_ℤ (pos (suc a % b)))
below_above a b k (pos zero) e small =
    let parts = parts_are (suc a) b 0 k (omega (arith, ints)) small in
    (ap (λ n. neg_ℤ (pos n)) parts.0, ap (λ n. neg_ℤ (pos n)) parts.1)
below_above a b k (pos (suc s)) e small = absurd (omega (arith, ints, at_least s b))
below_above a b k (negsuc s) e small =
    let parts = parts_are (suc a) b (suc s) k (omega (arith, ints)) small in
    (ap (λ n. neg_ℤ (pos n)) parts.0, ap (λ n. neg_ℤ (pos n)) parts.1)

below_below : (a b k : ℕ) (q : ℤ) → q *ℤ negsuc b +ℤ neg_ℤ (pos k) ≡ negsuc a → k < suc b
    → (q ≡ pos (suc a / suc b)) × (neg_ℤ (pos k) ≡ neg_ℤ (pos (suc a % suc b)))
below_below a b k (pos s) e small =
    let parts = parts_are (suc a) (suc b) s k (omega (arith, ints)) small in
    (ap pos parts.0, ap (λ n. neg_ℤ (pos n)) parts.1)
below_below a b k (negsuc s) e small = absurd (omega (arith, ints, at_least s (suc b)))

-- whatever is a quotient and a remainder is what the division gives
pub divided_alone : (a b q r : ℤ) → IsQuotientAndRemainder a b q r → (q ≡ int_div a b) × (r ≡ int_rem a b)
divided_alone (pos a) b q (negsuc k) is = absurd (not_below k a is.sign)
divided_alone (pos a) (pos b) q (pos k) is = above_above a b k q is.whole is.small
divided_alone (pos a) (negsuc b) q (pos k) is = above_below a b k q is.whole is.small
divided_alone (negsuc a) b q (pos (suc k)) is = absurd (not_above k a is.sign)
divided_alone (negsuc a) (pos b) q (pos zero) is = below_above a b 0 q is.whole is.small
divided_alone (negsuc a) (pos b) q (negsuc k) is = below_above a b (suc k) q is.whole is.small
divided_alone (negsuc a) (negsuc b) q (pos zero) is = below_below a b 0 q is.whole is.small
divided_alone (negsuc a) (negsuc b) q (negsuc k) is = below_below a b (suc k) q is.whole is.small

-- no number from 0 on is negative
same_above : (m n : ℕ) → is_negative (pos m) ≡ is_negative (pos n)
same_above m n = grind arith

-- what the division gives has the dividend's sign
sign_of : (a b : ℤ) → IsZeroOrHasSignOf (int_rem a b) a
sign_of (pos a) b = inr (same_above (a % unsigned_abs b) a)
sign_of (negsuc a) b = by (suc a % unsigned_abs b)
  where
    by : (k : ℕ) → IsZeroOrHasSignOf (neg_ℤ (pos k)) (negsuc a)
    by zero = inl refl
    by (suc k) = inr refl

-- what the division gives is a quotient and a remainder
pub divided : (a b : ℤ) → 0 < unsigned_abs b → IsQuotientAndRemainder a b (int_div a b) (int_rem a b)
divided a b some = record {
  whole = quot-rem a b;
  small = rem_below a b some;
  sign = sign_of a b;
}
