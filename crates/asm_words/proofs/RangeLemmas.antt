-- Words within the ranges of their fields.
use Rattle.std.proofs.Common.{◌≡◌, ℕ, ◌+◌, ◌-◌, ◌%◌, ◌^◌, ◌<◌, ◌≤◌, suc, Bool, true, false, refl, arith}
use Rattle.std.proofs.Common.{leb, ltb}
use Rattle.std.specs.Prelude.{◌==◌, ◌&&◌, ℤ, pos, negsuc, neg_ℤ, Option, Some, None, SomeIff, Result, Ok, Err, if◌then◌else◌}
use Rattle.std.specs.Option.{ok_or}
use Rattle.std.proofs.lemmas.Bool.{cond_both, false_from_ne_true}
use Rattle.std.proofs.lemmas.Bool.Decides.{nat_tests}
use Rattle.pump_words.specs.Words.{sign_extended, signed}
use Rattle.asm_read.specs.declared.errors.AsmErrorKind.{AsmErrorKind}
use Rattle.asm_read.specs.declared.errors.AsmErrorKind.TheVariants as kinds
use Rattle.asm_words.specs.Ranges.{even_within, is_short, is_within, low_part, within, word_modulo}

-- ---- numbers as they are written

kept : {A : Type 0} (t : Bool) (x y : A) → ◌≡◌ {A = Result A AsmErrorKind} (if t then Ok x else Err kinds.Range) (Ok y) → (t ≡ true) × (x ≡ y)
kept true x y is = (refl, cc)
kept false x y is = absurd cc

-- an immediate of 12 bits is a sign extension
pub immediate_kept : (n : ℤ) (w : ℕ) → within (neg_ℤ (pos 2048)) (pos 2047) n ≡ Ok w → sign_extended 12 w ≡ w
unfolding within
immediate_kept (pos m) w is =
    let both : (is_within (neg_ℤ (pos 2048)) (pos 2047) (pos m) ≡ true) × (word_modulo (pos m) ≡ w) = kept _ _ _ is in
    let small : leb m 2047 ≡ true = both.0 in
    let word : m % 2 ^ 32 ≡ w = both.1 in
    grind (arith, nat_tests, small, word)
immediate_kept (negsuc m) w is =
    let both : (is_within (neg_ℤ (pos 2048)) (pos 2047) (negsuc m) ≡ true) × (word_modulo (negsuc m) ≡ w) = kept _ _ _ is in
    let small : (leb m 2047 && true) ≡ true = both.0 in
    let word : 2 ^ 32 - 1 - m % 2 ^ 32 ≡ w = both.1 in
    grind (arith, nat_tests, small, word)

pub amount_kept : (n : ℤ) (w : ℕ) → within (pos 0) (pos 31) n ≡ Ok w → w < 32
unfolding within
amount_kept (pos m) w is =
    let both : (is_within (pos 0) (pos 31) (pos m) ≡ true) × (word_modulo (pos m) ≡ w) = kept _ _ _ is in
    let small : (leb 0 m && leb m 31) ≡ true = both.0 in
    let word : m % 2 ^ 32 ≡ w = both.1 in
    grind (arith, nat_tests, small, word)
amount_kept (negsuc m) w is = absurd cc

pub upper_kept : (n : ℤ) (w : ℕ) → within (pos 0) (pos 1048575) n ≡ Ok w → w < 2 ^ 20
unfolding within
upper_kept (pos m) w is =
    let both : (is_within (pos 0) (pos 1048575) (pos m) ≡ true) × (word_modulo (pos m) ≡ w) = kept _ _ _ is in
    let small : (leb 0 m && leb m 1048575) ≡ true = both.0 in
    let word : m % 2 ^ 32 ≡ w = both.1 in
    grind (arith, nat_tests, small, word)
upper_kept (negsuc m) w is = absurd cc

-- ---- words as signed numbers

-- what holds of a word's signed number, by cases on its sign
pub signed_by : (P : ℤ → Type 0) (w : ℕ) → (w < 2 ^ 31 → P (pos w)) → (2 ^ 31 ≤ w → P (negsuc (2 ^ 32 - suc w))) → P (signed w)
signed_by P w low high = go (ltb w (2 ^ 31)) refl
  where
    go : (t : Bool) → ltb w (2 ^ 31) ≡ t → P (signed w)
    go true e = rw e (low (grind (arith, nat_tests, e)))
    go false e = rw e (high (grind (arith, nat_tests, e)))

short_test : (w : ℕ) → w < 2 ^ 32 → is_short w ≡ (w == sign_extended 12 w)
short_test w fits =
    signed_by (λ z. is_within (neg_ℤ (pos 2048)) (pos 2047) z ≡ (w == sign_extended 12 w)) w
    (λ low. grind (arith, nat_tests)) (λ high. grind (arith, nat_tests))

branch_test : (w : ℕ) → w < 2 ^ 32 → (is_within (neg_ℤ (pos 4096)) (pos 4094) (signed w) && (w % 2 == 0)) ≡ (w == sign_extended 13 w && (w % 2 == 0))
branch_test w fits =
    signed_by (λ z. (is_within (neg_ℤ (pos 4096)) (pos 4094) z && (w % 2 == 0)) ≡ (w == sign_extended 13 w && (w % 2 == 0))) w
    (λ low. grind (arith, nat_tests)) (λ high. grind (arith, nat_tests))

jump_test : (w : ℕ) → w < 2 ^ 32 → (is_within (neg_ℤ (pos 1048576)) (pos 1048574) (signed w) && (w % 2 == 0)) ≡ (w == sign_extended 21 w && (w % 2 == 0))
jump_test w fits =
    signed_by (λ z. (is_within (neg_ℤ (pos 1048576)) (pos 1048574) z && (w % 2 == 0)) ≡ (w == sign_extended 21 w && (w % 2 == 0))) w
    (λ low. grind (arith, nat_tests)) (λ high. grind (arith, nat_tests))

-- two tests decide two facts
decide : (w s : ℕ) (o : Option ℕ) → SomeIff o ((w ≡ s) × (w % 2 ≡ 0)) w → o ≡ (if w == s && (w % 2 == 0) then Some w else None)
decide w s None isnt =
    let no : (w == s && (w % 2 == 0)) ≡ false = false_from_ne_true _ (λ e. isnt (grind (arith, nat_tests, e), grind (arith, nat_tests, e))) in
    rw no refl
decide w s (Some x) is =
    let same : w ≡ s = is.0.0 in
    let even : w % 2 ≡ 0 = is.0.1 in
    let yes : (w == s && (w % 2 == 0)) ≡ true = grind (arith, nat_tests, same, even) in
    rw (yes, is.1) refl

told : (t : Bool) (w : ℕ) → ok_or (if t then Some w else None) kinds.Range ≡ (if t then Ok w else Err kinds.Range)
told true w = refl
told false w = refl

-- ---- what the fields' own tests answer

pub branch_kept : (w : ℕ) (o : Option ℕ) → w < 2 ^ 32 → SomeIff o ((w ≡ sign_extended 13 w) × (w % 2 ≡ 0)) w → ok_or o kinds.Range ≡ even_within (neg_ℤ (pos 4096)) (pos 4094) w
unfolding even_within
branch_kept w o fits is = rw (decide w (sign_extended 13 w) o is, ← branch_test w fits) (told _ w)

pub jump_kept : (w : ℕ) (o : Option ℕ) → w < 2 ^ 32 → SomeIff o ((w ≡ sign_extended 21 w) × (w % 2 ≡ 0)) w → ok_or o kinds.Range ≡ even_within (neg_ℤ (pos 1048576)) (pos 1048574) w
unfolding even_within
jump_kept w o fits is = rw (decide w (sign_extended 21 w) o is, ← jump_test w fits) (told _ w)

pub short_kept : (w : ℕ) (o : Option ℕ) → w < 2 ^ 32 → SomeIff o (w ≡ sign_extended 12 w) w → o ≡ (if is_short w then Some w else None)
short_kept w None fits isnt =
    let no : (w == sign_extended 12 w) ≡ false = false_from_ne_true _ (λ e. isnt (grind (arith, nat_tests, e))) in
    rw (short_test w fits, no) refl
short_kept w (Some x) fits is =
    let same : w ≡ sign_extended 12 w = is.0 in
    let yes : (w == sign_extended 12 w) ≡ true = grind (arith, nat_tests, same) in
    rw (short_test w fits, yes, is.1) refl

pub low_kept : (w : ℕ) → w < 2 ^ 32 → sign_extended 12 w ≡ low_part w
low_kept w fits =
    cond_both (ltb (w % 2 ^ 12) (2 ^ 11)) (w % 2 ^ 12) (2 ^ 32 - 2 ^ 12 + w % 2 ^ 12) (λ m. m ≡ low_part w)
    (λ e. let small : w % 2 ^ 12 < 2 ^ 11 = grind (arith, nat_tests, e) in omega arith)
    (λ e. let large : 2 ^ 11 ≤ w % 2 ^ 12 = grind (arith, nat_tests, e) in omega arith)
