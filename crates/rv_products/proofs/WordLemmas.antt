-- The quotient and the remainder of two words, read as signed numbers.
use Rattle.std.proofs.Common.{◌≡◌, ◌≢◌, ℕ, zero, suc, ◌-◌, ◌/◌, ◌^◌, ◌<◌, refl, sym, ap, subst, ◌∙◌, arith, Bool, true, false, ℤ, pos, negsuc, neg_ℤ, FitsSigned, w32}
use Rattle.std.proofs.lemmas.Int.{ints, to_z-of_z, of_z-to_z}
use Rattle.std.proofs.Math.Nat.{div-le_self, div-lt_self, div-one}
use Rattle.std.specs.Prelude.{int_div, int_rem, unsigned_abs}
use Rattle.std.specs.Int.{int_wrapping_div}
use Rattle.std.specs.Int.Signed.{mag, mag_rem}
use Rattle.pump_words.specs.Words.{signed, unsigned}
use Rattle.rv_products.specs.Quotients.{IsQuotientAndRemainder, overflows, quotient, remainder}
use Rattle.rv_products.proofs.QuotientLemmas.{divided, divided_alone}

signed_fits : (a : ℕ) → a < 2 ^ 32 → FitsSigned w32 (signed a)
signed_fits a small = omega (arith, ints)

abs_some : (z : ℤ) → unsigned z ≢ 0 → 0 < unsigned_abs z
abs_some (pos n) some = omega arith
abs_some (negsuc n) some = omega arith

-- a word that is not zero is read as a number that is not
signed_some : (b : ℕ) → b < 2 ^ 32 → b ≢ 0 → 0 < unsigned_abs (signed b)
signed_some b small some = abs_some (signed b) (λ e. some (sym (of_z-to_z w32 b small) ∙ e))

-- the words are those of the overflow
overflow_is : (a b : ℕ) → overflows a b ≡ true → (a ≡ 2 ^ 31) × (b ≡ 2 ^ 32 - 1)
overflow_is a b e = grind arith

no_overflow : (a b : ℕ) → a < 2 ^ 32 → b < 2 ^ 32 → overflows a b ≡ false → unsigned (signed b) ≡ 2 ^ 32 - 1 → unsigned (signed a) ≡ 2 ^ 31 → ⊥
no_overflow a b a_small b_small e is_b is_a =
    let a_is = of_z-to_z w32 a a_small in
    let b_is = of_z-to_z w32 b b_small in
    grind arith

mag_neg : (n : ℕ) → mag (neg_ℤ (pos n)) ≡ n - 1
mag_neg zero = refl
mag_neg (suc n) = omega arith

-- a quotient is read from a word, but for the overflow
quotient_fits : (x y : ℤ) → FitsSigned w32 x → (unsigned y ≡ 2 ^ 32 - 1 → unsigned x ≡ 2 ^ 31 → ⊥) → FitsSigned w32 (int_div x y)
quotient_fits (pos a) (pos b) fits apart = record { sfits = omega (arith, fits.sfits, div-le_self a b) }
quotient_fits (pos a) (negsuc b) fits apart = record { sfits = omega (arith, fits.sfits, div-le_self a (suc b), mag_neg (a / suc b)) }
quotient_fits (negsuc a) (pos b) fits apart = record { sfits = omega (arith, fits.sfits, div-le_self (suc a) b, mag_neg (suc a / b)) }
quotient_fits (negsuc a) (negsuc zero) fits apart = let least = apart refl in record { sfits = omega (arith, fits.sfits, div-one (suc a)) }
quotient_fits (negsuc a) (negsuc (suc b)) fits apart =
    record { sfits = omega (arith, fits.sfits, div-lt_self {n = suc a} {k = suc (suc b)} (omega arith) (omega arith)) }

-- a remainder always is
remainder_fits : (x y : ℤ) → FitsSigned w32 x → FitsSigned w32 (int_rem x y)
remainder_fits x y fits = record { sfits = omega (arith, mag_rem x y, fits.sfits) }

-- what they are where the ISA sets no case apart
quotient_is : (a b : ℕ) → b ≢ 0 → overflows a b ≡ false → quotient a b ≡ unsigned (int_div (signed a) (signed b))
quotient_is a b some e = grind arith

remainder_is : (a b : ℕ) → b ≢ 0 → overflows a b ≡ false → remainder a b ≡ unsigned (int_rem (signed a) (signed b))
remainder_is a b some e = grind arith

-- read as signed numbers, they are what the division gives
quotient_read : (a b : ℕ) → a < 2 ^ 32 → b < 2 ^ 32 → b ≢ 0 → overflows a b ≡ false → signed (quotient a b) ≡ int_div (signed a) (signed b)
quotient_read a b a_small b_small some e =
    ap signed (quotient_is a b some e)
    ∙ to_z-of_z w32 (int_div (signed a) (signed b)) (quotient_fits (signed a) (signed b) (signed_fits a a_small) (no_overflow a b a_small b_small e))

remainder_read : (a b : ℕ) → a < 2 ^ 32 → b ≢ 0 → overflows a b ≡ false → signed (remainder a b) ≡ int_rem (signed a) (signed b)
remainder_read a b a_small some e =
    ap signed (remainder_is a b some e)
    ∙ to_z-of_z w32 (int_rem (signed a) (signed b)) (remainder_fits (signed a) (signed b) (signed_fits a a_small))

pub words_divided : (a b : ℕ) → a < 2 ^ 32 → b < 2 ^ 32 → b ≢ 0 → overflows a b ≡ false
    → IsQuotientAndRemainder (signed a) (signed b) (signed (quotient a b)) (signed (remainder a b))
words_divided a b a_small b_small some e =
    subst (λ q. IsQuotientAndRemainder (signed a) (signed b) q (signed (remainder a b))) (sym (quotient_read a b a_small b_small some e))
    (subst (IsQuotientAndRemainder (signed a) (signed b) (int_div (signed a) (signed b))) (sym (remainder_read a b a_small some e))
    (divided (signed a) (signed b) (signed_some b b_small some)))

pub words_divided_alone : (a b : ℕ) (q r : ℤ) → a < 2 ^ 32 → b < 2 ^ 32 → b ≢ 0 → overflows a b ≡ false
    → IsQuotientAndRemainder (signed a) (signed b) q r → (q ≡ signed (quotient a b)) × (r ≡ signed (remainder a b))
words_divided_alone a b q r a_small b_small some e is =
    let alone = divided_alone (signed a) (signed b) q r is in
    (alone.0 ∙ sym (quotient_read a b a_small b_small some e), alone.1 ∙ sym (remainder_read a b a_small some e))

-- the word of the quotient, also where that overflows
pub quotient_word : (a b : ℕ) → b ≢ 0 → unsigned (int_div (signed a) (signed b)) ≡ quotient a b
quotient_word a b some = by (overflows a b) refl
  where
    by : (t : Bool) → overflows a b ≡ t → unsigned (int_div (signed a) (signed b)) ≡ quotient a b
    by true e =
        let is = overflow_is a b e in
        subst (λ n. unsigned (int_div (signed n) (signed b)) ≡ quotient n b) (sym is.0)
        (subst (λ n. unsigned (int_div (signed (2 ^ 31)) (signed n)) ≡ quotient (2 ^ 31) n) (sym is.1) refl)
    by false e = sym (quotient_is a b some e)

-- the quotient is a word
quotient_small : (a b : ℕ) → a < 2 ^ 32 → b < 2 ^ 32 → b ≢ 0 → quotient a b < 2 ^ 32
quotient_small a b a_small b_small some = by (overflows a b) refl
  where
    by : (t : Bool) → overflows a b ≡ t → quotient a b < 2 ^ 32
    by true e = grind arith
    by false e =
        let fits = quotient_fits (signed a) (signed b) (signed_fits a a_small) (no_overflow a b a_small b_small e) in
        let is = quotient_is a b some e in
        omega (arith, ints)

-- what the code's division gives
pub quotient_wrapped : (a b : ℕ) (x y z : ℤ) (w : ℕ) → a < 2 ^ 32 → b < 2 ^ 32 → b ≢ 0 → x ≡ signed a → y ≡ signed b
    → z ≡ int_wrapping_div w32 (signed (unsigned x)) (signed (unsigned y)) → w ≡ unsigned (signed (unsigned z)) → w ≡ quotient a b
quotient_wrapped a b x y z w a_small b_small some x_is y_is z_is w_is =
    let a_read : signed (unsigned x) ≡ signed a = ap (λ n. signed (unsigned n)) x_is ∙ ap signed (of_z-to_z w32 a a_small) in
    let b_read : signed (unsigned y) ≡ signed b = ap (λ n. signed (unsigned n)) y_is ∙ ap signed (of_z-to_z w32 b b_small) in
    let word_read = of_z-to_z w32 (quotient a b) (quotient_small a b a_small b_small some) in
    let z_word : z ≡ signed (quotient a b) =
    z_is ∙ ap (λ n. int_wrapping_div w32 n (signed (unsigned y))) a_read ∙ ap (int_wrapping_div w32 (signed a)) b_read
    ∙ ap signed (quotient_word a b some) in
    w_is ∙ ap (λ n. unsigned (signed (unsigned n))) z_word ∙ ap (λ n. unsigned (signed n)) word_read ∙ word_read
