-- The product of two numbers of 32 bits has 64 bits: its high and its low word make it.
use Rattle.std.proofs.Common.{◌≡◌, ℕ, ◌+◌, ◌-◌, ◌*◌, ◌%◌, ◌^◌, ◌<◌, ◌≤◌, arith, sym, ap, ◌∙◌, lit<, ℤ, pos, negsuc, ◌+ℤ◌, ◌*ℤ◌, FitsSigned, w32, w64, to_z, of_z}
use Rattle.std.proofs.Math.Nat.{mod-eq_of_lt}
use Rattle.std.proofs.lemmas.Int.{ints, to_z-of_z, of_z-to_z, fits_signed_mul, int_wrap-mul_right, wrapping_mul-bits}
use Rattle.std.specs.Prelude.{unsigned_abs}
use Rattle.std.specs.Int.{int_rem_euclid, int_wrap}
use Rattle.pump_words.specs.Words.{shifted_down, signed, unsigned}
use Rattle.rv_products.specs.Products.{high_product, high_product_mixed, high_product_unsigned, high_word, low_product}

signed_abs : (a : ℕ) → a < 2 ^ 32 → unsigned_abs (signed a) ≤ 2 ^ 31
signed_abs a small = omega (arith, ints)

signed_fits : (a : ℕ) → a < 2 ^ 32 → FitsSigned w64 (signed a)
signed_fits a small = omega (arith, ints)

product_fits : (a b : ℕ) → a < 2 ^ 32 → b < 2 ^ 32 → FitsSigned w64 (signed a *ℤ signed b)
product_fits a b a_small b_small =
    fits_signed_mul w64 (signed a) (signed b) (2 ^ 31) (2 ^ 31) (signed_abs a a_small) (signed_abs b b_small) (lit< tt)

mixed_fits : (a b : ℕ) → a < 2 ^ 32 → b < 2 ^ 32 → FitsSigned w64 (signed a *ℤ pos b)
mixed_fits a b a_small b_small =
    fits_signed_mul w64 (signed a) (pos b) (2 ^ 31) (2 ^ 32 - 1) (signed_abs a a_small) (omega arith) (lit< tt)

-- what the code's cast to 64 bits gives
widened : (a : ℕ) (x y : ℤ) → a < 2 ^ 32 → x ≡ signed a → y ≡ signed (unsigned x) → to_z w64 (of_z w64 y) ≡ signed a
widened a x y small x_is y_is =
    ap (λ n. to_z w64 (of_z w64 n)) (y_is ∙ ap (λ n. signed (unsigned n)) x_is ∙ ap signed (of_z-to_z w32 a small))
    ∙ to_z-of_z w64 (signed a) (signed_fits a small)

-- and what its product gives
pub high_multiplied : (a b : ℕ) (x y s t : ℤ) (w : ℕ) → a < 2 ^ 32 → b < 2 ^ 32 → x ≡ signed a → s ≡ signed (unsigned x)
    → y ≡ signed b → t ≡ signed (unsigned y)
    → w ≡ high_word (to_z w64 (of_z w64 (to_z w64 (of_z w64 s) *ℤ to_z w64 (of_z w64 t)))) → w ≡ high_product a b
high_multiplied a b x y s t w a_small b_small x_is s_is y_is t_is w_is =
    w_is ∙ ap high_word
    (ap (λ n. to_z w64 (of_z w64 (n *ℤ to_z w64 (of_z w64 t)))) (widened a x s a_small x_is s_is)
    ∙ ap (λ n. to_z w64 (of_z w64 (signed a *ℤ n))) (widened b y t b_small y_is t_is)
    ∙ to_z-of_z w64 (signed a *ℤ signed b) (product_fits a b a_small b_small))

-- ---- the high and the low word

-- the low word of z
abbrev low_word : ℤ → ℕ
low_word z = unsigned_abs (int_rem_euclid z (pos (2 ^ 32)))

split : (z : ℤ) → shifted_down z 32 *ℤ pos (2 ^ 32) +ℤ pos (low_word z) ≡ z
split (pos m) = omega (arith, ints)
split (negsuc m) = omega (arith, ints)

shifted_fits : (z : ℤ) → FitsSigned w64 z → FitsSigned w32 (shifted_down z 32)
shifted_fits (pos m) fits = record { sfits = omega (arith, fits.sfits) }
shifted_fits (negsuc m) fits = record { sfits = omega (arith, fits.sfits) }

-- the words make a number of 64 bits
words_make : (z : ℤ) (low : ℕ) → FitsSigned w64 z → low ≡ low_word z → signed (high_word z) *ℤ pos (2 ^ 32) +ℤ pos low ≡ z
words_make z low fits low_is =
    ap (λ n. n *ℤ pos (2 ^ 32) +ℤ pos low) (to_z-of_z w32 (shifted_down z 32) (shifted_fits z fits))
    ∙ ap (λ n. shifted_down z 32 *ℤ pos (2 ^ 32) +ℤ pos n) low_is
    ∙ split z

low_word_small : (z : ℤ) → low_word z < 2 ^ 32
low_word_small (pos m) = omega arith
low_word_small (negsuc m) = omega arith

-- the low word, of what is left at 32 bits
low_of_wrapped : (z : ℤ) → unsigned (int_wrap w32 z) ≡ low_word z
unfolding int_wrap
low_of_wrapped z = of_z-to_z w32 (low_word z) (low_word_small z)

low_is_signed : (a b : ℕ) → a < 2 ^ 32 → b < 2 ^ 32 → low_product a b ≡ low_word (signed a *ℤ signed b)
low_is_signed a b a_small b_small =
    sym (of_z-to_z w32 (a * b % 2 ^ 32) (omega arith))
    ∙ ap unsigned (wrapping_mul-bits w32 a b a_small b_small)
    ∙ low_of_wrapped (signed a *ℤ signed b)

word_wrapped : (b : ℕ) → b < 2 ^ 32 → int_wrap w32 (pos b) ≡ signed b
unfolding int_wrap
word_wrapped b small = ap signed (mod-eq_of_lt small)

low_is_mixed : (a b : ℕ) → a < 2 ^ 32 → b < 2 ^ 32 → low_product a b ≡ low_word (signed a *ℤ pos b)
low_is_mixed a b a_small b_small =
    low_is_signed a b a_small b_small
    ∙ sym (low_of_wrapped (signed a *ℤ signed b))
    ∙ ap (λ n. unsigned (int_wrap w32 (signed a *ℤ n))) (sym (word_wrapped b b_small))
    ∙ ap unsigned (int_wrap-mul_right w32 (signed a) (pos b))
    ∙ low_of_wrapped (signed a *ℤ pos b)

pub signed_words : (a b : ℕ) → a < 2 ^ 32 → b < 2 ^ 32
    → signed (high_product a b) *ℤ pos (2 ^ 32) +ℤ pos (low_product a b) ≡ signed a *ℤ signed b
signed_words a b a_small b_small =
    words_make (signed a *ℤ signed b) (low_product a b) (product_fits a b a_small b_small) (low_is_signed a b a_small b_small)

pub mixed_words : (a b : ℕ) → a < 2 ^ 32 → b < 2 ^ 32
    → signed (high_product_mixed a b) *ℤ pos (2 ^ 32) +ℤ pos (low_product a b) ≡ signed a *ℤ pos b
mixed_words a b a_small b_small =
    words_make (signed a *ℤ pos b) (low_product a b) (mixed_fits a b a_small b_small) (low_is_mixed a b a_small b_small)

pub unsigned_words : (a b : ℕ) → high_product_unsigned a b * 2 ^ 32 + low_product a b ≡ a * b
unsigned_words a b = omega arith
