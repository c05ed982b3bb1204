-- Numbers as option values.
use Rattle.std.proofs.Common.{◌≡◌, ◌≤◌, ◌∙◌, ◌&&◌, ℕ, Bool, true, false, List, [], ◌∷◌, length, arith, ap, refl}
use Rattle.std.specs.Prelude.{Option, Some, None, SomeIff, nat_le, option_and_then, if◌then◌else◌}
use Rattle.std.specs.Str.{all_ascii_digits}
use Rattle.std.specs.Str.Parse.{AllDigits, digits_value}
use Rattle.std.proofs.lemmas.Bool.{and_parts}
use Rattle.std.proofs.lemmas.Bool.Decides.{nat_tests}
use Rattle.std.proofs.lemmas.Str.Parse.{IsDigitsTest, tells_all_ascii_digits, tells_digits}
use borrow.Author.Tests.{leb-true}
use Rattle.pump_words.specs.Numbers.{IsNumber}
use Rattle.pump_line.specs.Task.{is_number, number_of, number_within}

-- two tests for digits say the same
one_as_other : {P Q : List ℕ → Type 0} → IsDigitsTest P → IsDigitsTest Q → (text : List ℕ) → P text → Q text
one_as_other p q [] h = q.empty
one_as_other p q (c ∷ cs) h = let parts = p.parts c cs h in q.more c cs parts.0 (one_as_other p q cs parts.1)

is_number_true : (text : List ℕ) → is_number text ≡ true → IsNumber text
is_number_true text h =
    let ends = and_parts (nat_le 1 (length text) && nat_le (length text) 10) (all_ascii_digits text) h in
    let sizes = and_parts (nat_le 1 (length text)) (nat_le (length text) 10) ends.0 in
    let digits : AllDigits 10 text = one_as_other tells_all_ascii_digits tells_digits text ends.1 in
    ((omega (arith, leb-true), digits), omega (arith, leb-true))

number_is_true : (text : List ℕ) → IsNumber text → is_number text ≡ true
number_is_true text h =
    let digits : all_ascii_digits text ≡ true = one_as_other tells_digits tells_all_ascii_digits text h.0.1 in
    grind (arith, nat_tests)

-- the contract of `read_number` is `number_of`
pub read_is_number_of : (text : List ℕ) (r : Option ℕ) → SomeIff r (IsNumber text) (digits_value 10 text) → r ≡ number_of text
read_is_number_of text None h = go (is_number text) refl
  where
    go : (t : Bool) → is_number text ≡ t → None ≡ number_of text
    go true e = absurd (h (is_number_true text e))
    go false e = rw e refl
read_is_number_of text (Some n) h = rw (number_is_true text h.0, h.1) refl

abbrev pub within : ℕ → ℕ → Option ℕ → Option ℕ
within least most = option_and_then (λ n. if nat_le least n && nat_le n most then Some n else None)

-- a number that was read is judged by its limits
pub read_within : (least most : ℕ) (bytes text : List ℕ) (r : Option ℕ) → SomeIff r (IsNumber bytes) (digits_value 10 bytes)
    → bytes ≡ text → within least most r ≡ number_within least most text
read_within least most bytes text r h e = ap (within least most) (read_is_number_of bytes r h) ∙ ap (number_within least most) e

-- a number from the least to the most
pub some_within : (least most n : ℕ) → least ≤ n → n ≤ most → within least most (Some n) ≡ Some n
some_within least most n low high = grind (arith, nat_tests)
