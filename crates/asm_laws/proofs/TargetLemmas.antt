-- The operands that are shown of fields, read again. Where there are few of them all are tried.
use Rattle.std.proofs.Common.{◌≡◌, ◌⊎◌, ℕ, ◌+◌, ◌-◌, ◌*◌, ◌/◌, ◌%◌, ◌^◌, ◌<◌, ◌≤◌, Bool, true, false, List, [], ◌∷◌, length, inl, inr, refl, ap, ◌∙◌, arith}
use Rattle.std.proofs.Common.{ltb}
use Rattle.std.specs.Prelude.{◌==◌, ◌&&◌, nat_le, ℤ, pos, negsuc, neg_ℤ, Option, Some, None, Result, Ok, Err}
use Rattle.std.specs.Char.{digit_value, is_digit}
use Rattle.std.specs.Fmt.{digits}
use Rattle.std.specs.List.{list_all, range_with_len}
use Rattle.std.specs.Str.Parse.{digits_value}
use Rattle.std.proofs.lemmas.Bool.{agree_below, agree_below_at, and_from, and_parts, cond_both, eqb-true}
use Rattle.std.proofs.lemmas.Bool.Decides.{nat_tests}
use Rattle.std.proofs.lemmas.List.Folds.{list_all-map}
use Rattle.pump_words.specs.TextLaws.{hex8_text_value}
use Rattle.pump_words.specs.Texts.{first_digits, hex5_text, hex8_text, hex_digit, hex_digit_of}
use Rattle.pump_words.specs.Words.{sign_extended, signed}
use Rattle.asm_show.specs.Operands as shown
use Rattle.asm_text.specs.Numbers.{number_of, numeral, unsigned_of}
use Rattle.asm_table.specs.Registers.{number_named, purpose_named, register_named}
use Rattle.asm_read.specs.declared.errors.AsmErrorKind.{AsmErrorKind}
use Rattle.asm_read.specs.Addresses.{is_plain}
use Rattle.asm_read.specs.Operands.{Text}
use Rattle.asm_words.specs.Ranges.{amount_at, branch_offset, distance, even_within, immediate_at, jump_offset, upper_at, within}
use Rattle.asm_words.proofs.OffsetLemmas.{branch_within, jump_within}
use Rattle.asm_laws.proofs.PieceLemmas.{Piece, is_filled, is_solid}

-- ---- tests that two values are the same

abbrev same_number : ℤ → ℤ → Bool
same_number (pos m) (pos n) = m == n
same_number (pos m) (negsuc n) = false
same_number (negsuc m) (pos n) = false
same_number (negsuc m) (negsuc n) = m == n

same_is : (x y : ℤ) → same_number x y ≡ true → x ≡ y
same_is (pos m) (pos n) e = ap (λ (k : ℕ). pos k) (eqb-true m n e)
same_is (pos m) (negsuc n) e = absurd cc
same_is (negsuc m) (pos n) e = absurd cc
same_is (negsuc m) (negsuc n) e = ap (λ (k : ℕ). negsuc k) (eqb-true m n e)

abbrev number_is : Option ℤ → ℤ → Bool
number_is None y = false
number_is (Some x) y = same_number x y

number_some : (o : Option ℤ) (y : ℤ) → number_is o y ≡ true → o ≡ Some y
number_some None y e = absurd cc
number_some (Some x) y e = ap (λ (z : ℤ). Some z) (same_is x y e)

abbrev place_is : Option ℕ → ℕ → Bool
place_is None y = false
place_is (Some x) y = x == y

place_some : (o : Option ℕ) (y : ℕ) → place_is o y ≡ true → o ≡ Some y
place_some None y e = absurd cc
place_some (Some x) y e = ap (λ (k : ℕ). Some k) (eqb-true x y e)

abbrev word_is : Result ℕ AsmErrorKind → ℕ → Bool
word_is (Ok x) y = x == y
word_is (Err kind) y = false

word_ok : (r : Result ℕ AsmErrorKind) (y : ℕ) → word_is r y ≡ true → r ≡ Ok y
word_ok (Ok x) y e = let same : x ≡ y = eqb-true x y e in rw same refl
word_ok (Err kind) y e = absurd cc

-- a word or an operand without parentheses
abbrev is_piece : Text → Bool
is_piece text = is_filled text && (list_all is_solid text && list_all is_plain text)

piece_of : (text : Text) → is_piece text ≡ true → Piece text
piece_of text e = record {
  filled = (and_parts (is_filled text) (list_all is_solid text && list_all is_plain text) e).0;
  solid = (and_parts (list_all is_solid text) (list_all is_plain text) (and_parts (is_filled text) (list_all is_solid text && list_all is_plain text) e).1).0;
}

plain_of : (text : Text) → is_piece text ≡ true → list_all is_plain text ≡ true
plain_of text e = (and_parts (list_all is_solid text) (list_all is_plain text) (and_parts (is_filled text) (list_all is_solid text && list_all is_plain text) e).1).1

-- ---- registers

pub record Register (r : ℕ) : Type 0 where
  pub piece : Piece (shown.register r)
  pub plain : list_all is_plain (shown.register r) ≡ true
  pub value : register_named (shown.register r) ≡ Some r

abbrev good_register : ℕ → Bool
good_register r = is_piece (shown.register r) && place_is (register_named (shown.register r)) r

good_registers : agree_below good_register (λ n. true) 32 ≡ true
unfolding digits number_named purpose_named
good_registers = refl

pub register : (r : ℕ) → r < 2 ^ 5 → Register r
register r fits =
    let good : good_register r ≡ true = agree_below_at good_register (λ n. true) 32 r good_registers fits in
    let piece : is_piece (shown.register r) ≡ true = (and_parts (is_piece (shown.register r)) (place_is (register_named (shown.register r)) r) good).0 in
    record {
      piece = piece_of (shown.register r) piece;
      plain = plain_of (shown.register r) piece;
      value = place_some (register_named (shown.register r)) r (and_parts (is_piece (shown.register r)) (place_is (register_named (shown.register r)) r) good).1;
    }

-- ---- immediates

pub record Immediate (imm : ℕ) : Type 0 where
  pub piece : Piece (shown.immediate imm)
  pub plain : list_all is_plain (shown.immediate imm) ≡ true
  pub value : number_of (shown.immediate imm) ≡ Some (signed imm)
  pub back : immediate_at (signed imm) ≡ Ok imm

abbrev good_immediate : ℕ → Bool
good_immediate imm = is_piece (shown.immediate imm) && (number_is (number_of (shown.immediate imm)) (signed imm) && word_is (immediate_at (signed imm)) imm)

good_immediates : agree_below (λ n. good_immediate (sign_extended 12 n)) (λ n. true) 4096 ≡ true
unfolding digits number_of unsigned_of numeral within
good_immediates = refl

immediate_tested : (imm : ℕ) → good_immediate imm ≡ true → Immediate imm
immediate_tested imm good =
    let piece : is_piece (shown.immediate imm) ≡ true = (and_parts (is_piece (shown.immediate imm)) (number_is (number_of (shown.immediate imm)) (signed imm) && word_is (immediate_at (signed imm)) imm) good).0 in
    let rest : (number_is (number_of (shown.immediate imm)) (signed imm) && word_is (immediate_at (signed imm)) imm) ≡ true = (and_parts (is_piece (shown.immediate imm)) (number_is (number_of (shown.immediate imm)) (signed imm) && word_is (immediate_at (signed imm)) imm) good).1 in
    record {
      piece = piece_of (shown.immediate imm) piece;
      plain = plain_of (shown.immediate imm) piece;
      value = number_some (number_of (shown.immediate imm)) (signed imm) (and_parts (number_is (number_of (shown.immediate imm)) (signed imm)) (word_is (immediate_at (signed imm)) imm) rest).0;
      back = word_ok (immediate_at (signed imm)) imm (and_parts (number_is (number_of (shown.immediate imm)) (signed imm)) (word_is (immediate_at (signed imm)) imm) rest).1;
    }

pub immediate : (imm bits : ℕ) → bits < 2 ^ 12 → imm ≡ sign_extended 12 bits → Immediate imm
immediate imm bits fits is =
    immediate_tested imm (ap good_immediate is ∙ agree_below_at (λ n. good_immediate (sign_extended 12 n)) (λ n. true) 4096 bits good_immediates fits)

-- ---- amounts of shifts

pub record Amount (count : ℕ) : Type 0 where
  pub piece : Piece (shown.amount count)
  pub value : number_of (shown.amount count) ≡ Some (pos count)
  pub back : amount_at (pos count) ≡ Ok count

abbrev good_amount : ℕ → Bool
good_amount count = is_piece (shown.amount count) && (number_is (number_of (shown.amount count)) (pos count) && word_is (amount_at (pos count)) count)

good_amounts : agree_below good_amount (λ n. true) 32 ≡ true
unfolding digits number_of unsigned_of numeral within
good_amounts = refl

pub amount : (count : ℕ) → count < 2 ^ 5 → Amount count
amount count fits =
    let good : good_amount count ≡ true = agree_below_at good_amount (λ n. true) 32 count good_amounts fits in
    let rest : (number_is (number_of (shown.amount count)) (pos count) && word_is (amount_at (pos count)) count) ≡ true = (and_parts (is_piece (shown.amount count)) (number_is (number_of (shown.amount count)) (pos count) && word_is (amount_at (pos count)) count) good).1 in
    record {
      piece = piece_of (shown.amount count) (and_parts (is_piece (shown.amount count)) (number_is (number_of (shown.amount count)) (pos count) && word_is (amount_at (pos count)) count) good).0;
      value = number_some (number_of (shown.amount count)) (pos count) (and_parts (number_is (number_of (shown.amount count)) (pos count)) (word_is (amount_at (pos count)) count) rest).0;
      back = word_ok (amount_at (pos count)) count (and_parts (number_is (number_of (shown.amount count)) (pos count)) (word_is (amount_at (pos count)) count) rest).1;
    }

-- ---- hexadecimal digits

abbrev good_digit : ℕ → Bool
good_digit d = is_solid (hex_digit d) && (is_digit (hex_digit d) 16 && (digit_value (hex_digit d) == d))

good_digits : agree_below good_digit (λ n. true) 16 ≡ true
good_digits = refl

digit_here : (word k : ℕ) → good_digit (word / 2 ^ (28 - 4 * k) % 16) ≡ true
digit_here word k = agree_below_at good_digit (λ n. true) 16 (word / 2 ^ (28 - 4 * k) % 16) good_digits (omega arith)

solid_digit : (d : ℕ) → good_digit d ≡ true → is_solid (hex_digit d) ≡ true
solid_digit d good = (and_parts (is_solid (hex_digit d)) (is_digit (hex_digit d) 16 && (digit_value (hex_digit d) == d)) good).0

digit_digit : (d : ℕ) → good_digit d ≡ true → is_digit (hex_digit d) 16 ≡ true
digit_digit d good = (and_parts (is_digit (hex_digit d) 16) (digit_value (hex_digit d) == d) (and_parts (is_solid (hex_digit d)) (is_digit (hex_digit d) 16 && (digit_value (hex_digit d) == d)) good).1).0

value_digit : (d : ℕ) → good_digit d ≡ true → digit_value (hex_digit d) ≡ d
value_digit d good = eqb-true (digit_value (hex_digit d)) d (and_parts (is_digit (hex_digit d) 16) (digit_value (hex_digit d) == d) (and_parts (is_solid (hex_digit d)) (is_digit (hex_digit d) 16 && (digit_value (hex_digit d) == d)) good).1).1

everywhere : (p : ℕ → Bool) → ((k : ℕ) → p k ≡ true) → (ks : List ℕ) → list_all p ks ≡ true
everywhere p each [] = refl
everywhere p each (k ∷ ks) = and_from (p k) (list_all p ks) (each k) (everywhere p each ks)

solid_digits : (word count : ℕ) → list_all is_solid (first_digits word count) ≡ true
solid_digits word count =
    list_all-map is_solid (hex_digit_of word) (range_with_len 0 count)
    ∙ everywhere (λ k. is_solid (hex_digit_of word k)) (λ k. solid_digit (word / 2 ^ (28 - 4 * k) % 16) (digit_here word k)) (range_with_len 0 count)

abbrev is_hex : ℕ → Bool
is_hex byte = is_digit byte 16

hex_digits : (word count : ℕ) → list_all is_hex (first_digits word count) ≡ true
hex_digits word count =
    list_all-map is_hex (hex_digit_of word) (range_with_len 0 count)
    ∙ everywhere (λ k. is_hex (hex_digit_of word k)) (λ k. digit_digit (word / 2 ^ (28 - 4 * k) % 16) (digit_here word k)) (range_with_len 0 count)

digit_at : (word k : ℕ) → digit_value (hex_digit_of word k) ≡ word / 2 ^ (28 - 4 * k) % 16
digit_at word k = value_digit (word / 2 ^ (28 - 4 * k) % 16) (digit_here word k)

hex5_text_value : (word : ℕ) → word < 2 ^ 32 → digits_value 16 (hex5_text word) ≡ word / 2 ^ 12
hex5_text_value word fits = omega (arith, digit_at word 0, digit_at word 1, digit_at word 2, digit_at word 3, digit_at word 4)

numeral_is : (text : Text) (n most : ℕ) → nat_le 1 (length text) ≡ true → list_all is_hex text ≡ true → digits_value 16 text ≡ n → n ≤ most → numeral 16 most text ≡ Some n
unfolding numeral
numeral_is text n most some hex value small =
    let fits : nat_le n most ≡ true = grind (arith, nat_tests) in
    rw (some, hex, value, fits) refl

hex_number : (text : Text) (n : ℕ) → nat_le 1 (length text) ≡ true → list_all is_hex text ≡ true → digits_value 16 text ≡ n → n < 2 ^ 32 → number_of (48 ∷ 120 ∷ text) ≡ Some (pos n)
unfolding number_of unsigned_of
hex_number text n some hex value small =
    let read : numeral 16 (2 ^ 32 - 1) text ≡ Some n = numeral_is text n (2 ^ 32 - 1) some hex value (omega arith) in
    rw read refl

-- ---- upper parts

pub record Upper (imm : ℕ) : Type 0 where
  pub piece : Piece (shown.upper imm)
  pub value : number_of (shown.upper imm) ≡ Some (pos (imm / 2 ^ 12))
  pub back : upper_at (pos (imm / 2 ^ 12)) ≡ Ok imm

upper_back : (imm bits : ℕ) → bits < 2 ^ 20 → imm ≡ bits * 2 ^ 12 → upper_at (pos (imm / 2 ^ 12)) ≡ Ok imm
unfolding within
upper_back imm bits fits is =
    let low : (nat_le 0 (imm / 2 ^ 12) && nat_le (imm / 2 ^ 12) 1048575) ≡ true = grind (arith, nat_tests) in
    let whole : imm / 2 ^ 12 % 2 ^ 32 * 2 ^ 12 ≡ imm = omega arith in
    rw (low, whole) refl

pub upper : (imm bits : ℕ) → bits < 2 ^ 20 → imm ≡ bits * 2 ^ 12 → Upper imm
upper imm bits fits is = record {
  piece = record { filled = refl; solid = solid_digits imm 5 };
  value = hex_number (hex5_text imm) (imm / 2 ^ 12) refl (hex_digits imm 5) (hex5_text_value imm (omega arith)) (omega arith);
  back = upper_back imm bits fits is;
}

-- ---- whole words

pub record Whole (word : ℕ) : Type 0 where
  pub piece : Piece (shown.whole word)
  pub value : number_of (shown.whole word) ≡ Some (pos word)

pub whole : (word : ℕ) → word < 2 ^ 32 → Whole word
whole word fits = record {
  piece = record { filled = refl; solid = solid_digits word 8 };
  value = hex_number (hex8_text word) word refl (hex_digits word 8) (hex8_text_value word fits) fits;
}

-- ---- offsets

-- an offset brings the place to its target, and the target back to the offset
distance_is : (pc offset : ℕ) → pc < 2 ^ 32 → offset < 2 ^ 32 → distance pc ((pc + offset) % 2 ^ 32) ≡ offset
distance_is pc offset pc_fits fits = omega arith

branch_near : (bits : ℕ) → bits < 2 ^ 13 → bits % 2 ≡ 0 → (sign_extended 13 bits ≤ 4094) ⊎ (2 ^ 32 ≤ sign_extended 13 bits + 4096)
branch_near bits fits even =
    cond_both (ltb (bits % 2 ^ 13) (2 ^ 12)) (bits % 2 ^ 13) (2 ^ 32 - 2 ^ 13 + bits % 2 ^ 13) (λ m. (m ≤ 4094) ⊎ (2 ^ 32 ≤ m + 4096))
    (λ e. let small : bits % 2 ^ 13 < 2 ^ 12 = grind (arith, nat_tests, e) in inl (omega arith))
    (λ e. let large : 2 ^ 12 ≤ bits % 2 ^ 13 = grind (arith, nat_tests, e) in inr (omega arith))

branch_even : (bits : ℕ) → bits < 2 ^ 13 → bits % 2 ≡ 0 → (sign_extended 13 bits < 2 ^ 32) × (sign_extended 13 bits % 2 ≡ 0)
branch_even bits fits even =
    cond_both (ltb (bits % 2 ^ 13) (2 ^ 12)) (bits % 2 ^ 13) (2 ^ 32 - 2 ^ 13 + bits % 2 ^ 13) (λ m. (m < 2 ^ 32) × (m % 2 ≡ 0))
    (λ e. (omega arith, omega arith)) (λ e. (omega arith, omega arith))

branch_kept : (pc offset : ℕ) → pc < 2 ^ 32 → (offset ≤ 4094) ⊎ (2 ^ 32 ≤ offset + 4096) → (offset < 2 ^ 32) × (offset % 2 ≡ 0) → branch_offset pc ((pc + offset) % 2 ^ 32) ≡ Ok offset
branch_kept pc offset pc_fits near fits =
    ap (λ (w : ℕ). even_within (neg_ℤ (pos 4096)) (pos 4094) w) (distance_is pc offset pc_fits fits.0) ∙ branch_within offset near fits.0 fits.1

pub branch_back : (pc offset bits : ℕ) → pc < 2 ^ 32 → bits < 2 ^ 13 → bits % 2 ≡ 0 → offset ≡ sign_extended 13 bits → branch_offset pc ((pc + offset) % 2 ^ 32) ≡ Ok offset
branch_back pc offset bits pc_fits fits even is =
    rw is (branch_kept pc (sign_extended 13 bits) pc_fits (branch_near bits fits even) (branch_even bits fits even))

jump_near : (bits : ℕ) → bits < 2 ^ 21 → bits % 2 ≡ 0 → (sign_extended 21 bits ≤ 1048574) ⊎ (2 ^ 32 ≤ sign_extended 21 bits + 1048576)
jump_near bits fits even =
    cond_both (ltb (bits % 2 ^ 21) (2 ^ 20)) (bits % 2 ^ 21) (2 ^ 32 - 2 ^ 21 + bits % 2 ^ 21) (λ m. (m ≤ 1048574) ⊎ (2 ^ 32 ≤ m + 1048576))
    (λ e. let small : bits % 2 ^ 21 < 2 ^ 20 = grind (arith, nat_tests, e) in inl (omega arith))
    (λ e. let large : 2 ^ 20 ≤ bits % 2 ^ 21 = grind (arith, nat_tests, e) in inr (omega arith))

jump_even : (bits : ℕ) → bits < 2 ^ 21 → bits % 2 ≡ 0 → (sign_extended 21 bits < 2 ^ 32) × (sign_extended 21 bits % 2 ≡ 0)
jump_even bits fits even =
    cond_both (ltb (bits % 2 ^ 21) (2 ^ 20)) (bits % 2 ^ 21) (2 ^ 32 - 2 ^ 21 + bits % 2 ^ 21) (λ m. (m < 2 ^ 32) × (m % 2 ≡ 0))
    (λ e. (omega arith, omega arith)) (λ e. (omega arith, omega arith))

jump_kept : (pc offset : ℕ) → pc < 2 ^ 32 → (offset ≤ 1048574) ⊎ (2 ^ 32 ≤ offset + 1048576) → (offset < 2 ^ 32) × (offset % 2 ≡ 0) → jump_offset pc ((pc + offset) % 2 ^ 32) ≡ Ok offset
jump_kept pc offset pc_fits near fits =
    ap (λ (w : ℕ). even_within (neg_ℤ (pos 1048576)) (pos 1048574) w) (distance_is pc offset pc_fits fits.0) ∙ jump_within offset near fits.0 fits.1

pub jump_back : (pc offset bits : ℕ) → pc < 2 ^ 32 → bits < 2 ^ 21 → bits % 2 ≡ 0 → offset ≡ sign_extended 21 bits → jump_offset pc ((pc + offset) % 2 ^ 32) ≡ Ok offset
jump_back pc offset bits pc_fits fits even is =
    rw is (jump_kept pc (sign_extended 21 bits) pc_fits (jump_near bits fits even) (jump_even bits fits even))
