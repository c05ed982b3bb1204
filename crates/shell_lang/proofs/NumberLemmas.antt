-- Digits that are tested and read one after another.
use Rattle.std.proofs.Common.{◌≡◌, ◌^◌, ◌<◌, ◌≤◌, ◌&&◌, ℕ, zero, suc, Bool, true, false, List, [], ◌∷◌, length, get_or, refl, arith, lit<}
use Rattle.std.specs.Prelude.{Option, Some, None, SomeIff, Ok, Err, nat_le, if◌then◌else◌}
use Rattle.std.specs.Char.{digit_value, is_digit}
use Rattle.std.specs.Option.{ok_or}
use Rattle.std.specs.Str.Parse.{AllDigits, IsNumeral, digits_value}
use Rattle.std.proofs.Math.Nat.{pow-le-pow_right}
use Rattle.std.proofs.lemmas.Bool.{and_parts}
use Rattle.std.proofs.lemmas.Bool.Decides.{nat_tests}
use Rattle.std.proofs.lemmas.Grind.{common_steps}
use Rattle.std.proofs.lemmas.Int.Digits.{digits_more, digits_value_more}
use borrow.Author.Tests.{leb-true}
use Rattle.shell_lang.specs.declared.bad_command.BadCommand.TheVariants.{Malformed}
use Rattle.shell_lang.specs.Operands.{are_digits, is_numeral}

-- the test for digits says what it asks
pub all_digits : (radix : ℕ) (text : List ℕ) → are_digits radix text ≡ true → AllDigits radix text
all_digits radix [] h = tt
all_digits radix (c ∷ cs) h =
    let parts = and_parts (is_digit c radix) (are_digits radix cs) h in
    (grind (arith, nat_tests, parts.0), all_digits radix cs parts.1)

pub are_digits_true : (radix : ℕ) (text : List ℕ) → AllDigits radix text → are_digits radix text ≡ true
are_digits_true radix [] h = refl
are_digits_true radix (c ∷ cs) h =
    let here : is_digit c radix ≡ true = grind (arith, nat_tests, h.0) in
    rw (here, are_digits_true radix cs h.1) refl

numeral_true : (radix most : ℕ) (text : List ℕ) → is_numeral radix most text ≡ true → IsNumeral radix text × (length text ≤ most)
numeral_true radix most text h =
    let ends = and_parts (nat_le 1 (length text) && nat_le (length text) most) (are_digits radix text) h in
    let sizes = and_parts (nat_le 1 (length text)) (nat_le (length text) most) ends.0 in
    ((omega (arith, leb-true), all_digits radix text ends.1), omega (arith, leb-true))

is_numeral_true : (radix most : ℕ) (text : List ℕ) → IsNumeral radix text × (length text ≤ most) → is_numeral radix most text ≡ true
is_numeral_true radix most text h =
    let digits : are_digits radix text ≡ true = are_digits_true radix text h.0.1 in
    grind (arith, nat_tests)

-- what is read where the text is a numeral is what the definition reads
pub read_is : (radix most : ℕ) (text : List ℕ) (r : Option ℕ) → SomeIff r (IsNumeral radix text × (length text ≤ most)) (digits_value radix text)
    → ok_or r Malformed ≡ (if is_numeral radix most text then Ok (digits_value radix text) else Err Malformed)
read_is radix most text None h = go (is_numeral radix most text) refl
  where
    go : (t : Bool) → is_numeral radix most text ≡ t → ok_or None Malformed ≡ (if is_numeral radix most text then Ok (digits_value radix text) else Err Malformed)
    go true e = absurd (h (numeral_true radix most text e))
    go false e = rw e refl
read_is radix most text (Some n) h = rw (is_numeral_true radix most text h.0, h.1) refl

-- each byte of a numeral is a digit
pub digit_below : (radix : ℕ) (ds : List ℕ) (i : ℕ) → AllDigits radix ds → i < length ds → digit_value (get_or ds i 0) < radix
digit_below radix [] i all here = absurd (omega arith)
digit_below radix (c ∷ cs) zero all here = all.0
digit_below radix (c ∷ cs) (suc i) all here = digit_below radix cs i all.1 (omega arith)

-- there is room for a digit more behind fewer than eight
pub power_below : (i : ℕ) → i < 8 → 16 ^ i ≤ 16 ^ 7
power_below i few = pow-le-pow_right {n = 16} (lit< tt) {i = i} {j = 7} (omega arith)

pub ruleset digits_read = (common_steps, digits_more, digits_value_more, digit_below, power_below, are_digits_true)
