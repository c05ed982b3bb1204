-- Numbers of 1 to 1024 in decimal, and how far jumps go. Where there are few numbers all are tried.
use Rattle.std.proofs.Common.{◌≡◌, ◌⊎◌, ℕ, ◌+◌, ◌%◌, ◌^◌, ◌<◌, ◌≤◌, Bool, true, false, [], ◌∷◌, ◌++◌, inl, inr, refl, ap, arith}
use Rattle.std.specs.Prelude.{◌==◌, ◌&&◌, codes, nat_le, ℤ, pos, negsuc, neg_ℤ, is_none, Option, Some, None, Ok}
use Rattle.std.specs.Fmt.{decimal, digits}
use Rattle.std.specs.List.{list_all}
use Rattle.std.proofs.lemmas.Bool.{agree_below, agree_below_at, and_parts, eqb-true}
use Rattle.std.proofs.lemmas.Bool.Decides.{nat_tests}
use Rattle.asm_text.specs.Bytes.{is_allowed}
use Rattle.asm_text.specs.Cuts.{after, before, without_blanks}
use Rattle.asm_text.specs.Numbers.{number_of, numeral, unsigned_of}
use Rattle.asm_read.specs.Operands.{Text}
use Rattle.asm_words.specs.Ranges.{distance, is_short, is_within, jump_offset, word_modulo}
use Rattle.asm_words.proofs.OffsetLemmas.{jump_within}
use Rattle.asm_words.proofs.RangeLemmas.{signed_by}
use Rattle.workload_laws.proofs.StatementLemmas.{is_line}

-- ---- tests that two values are the same

abbrev same_text : Text → Text → Bool
same_text [] [] = true
same_text [] (y ∷ ys) = false
same_text (x ∷ xs) [] = false
same_text (x ∷ xs) (y ∷ ys) = x == y && same_text xs ys

same_is : (xs ys : Text) → same_text xs ys ≡ true → xs ≡ ys
same_is [] [] e = refl
same_is [] (y ∷ ys) e = absurd cc
same_is (x ∷ xs) [] e = absurd cc
same_is (x ∷ xs) (y ∷ ys) e =
    let first : x ≡ y = eqb-true x y (and_parts (x == y) (same_text xs ys) e).0 in
    let more : xs ≡ ys = same_is xs ys (and_parts (x == y) (same_text xs ys) e).1 in
    cc

abbrev number_is : Option ℤ → ℕ → Bool
number_is None n = false
number_is (Some (pos m)) n = m == n
number_is (Some (negsuc m)) n = false

some_number : (o : Option ℤ) (n : ℕ) → number_is o n ≡ true → o ≡ Some (pos n)
some_number None n e = absurd cc
some_number (Some (pos m)) n e = ap (λ (k : ℕ). Some (pos k)) (eqb-true m n e)
some_number (Some (negsuc m)) n e = absurd cc

is_nothing : (o : Option Text) → is_none o ≡ true → o ≡ None
is_nothing None e = refl
is_nothing (Some text) e = absurd cc

-- ---- decimals

-- the line of a number
abbrev pub number_line : ℕ → Text
number_line n = codes "li a0, " ++ decimal n

-- how the line is cut, and what it says
pub record Decimal (n : ℕ) : Type 0 where
  pub line : is_line (number_line n) ≡ true
  pub allowed : list_all is_allowed (number_line n) ≡ true
  pub before_hash : before 35 (decimal n) ≡ decimal n
  pub after_colon : after 58 (decimal n) ≡ None
  pub trimmed_line : without_blanks (number_line n) ≡ number_line n
  pub before_comma : before 44 (decimal n) ≡ decimal n
  pub after_comma : after 44 (decimal n) ≡ None
  pub trimmed_number : without_blanks (32 ∷ decimal n) ≡ decimal n
  pub value : number_of (decimal n) ≡ Some (pos n)

abbrev is_cut : ℕ → Bool
is_cut n = is_line (number_line n) && (list_all is_allowed (number_line n) && same_text (before 35 (decimal n)) (decimal n))

abbrev is_whole : ℕ → Bool
is_whole n = is_none (after 58 (decimal n)) && same_text (without_blanks (number_line n)) (number_line n)

abbrev is_operand : ℕ → Bool
is_operand n = same_text (before 44 (decimal n)) (decimal n) && is_none (after 44 (decimal n))

abbrev is_number : ℕ → Bool
is_number n = same_text (without_blanks (32 ∷ decimal n)) (decimal n) && number_is (number_of (decimal n)) n

all_cut : agree_below is_cut (λ n. true) 1025 ≡ true
unfolding digits
all_cut = refl

all_whole : agree_below is_whole (λ n. true) 1025 ≡ true
unfolding digits
all_whole = refl

all_operands : agree_below is_operand (λ n. true) 1025 ≡ true
unfolding digits
all_operands = refl

all_numbers : agree_below is_number (λ n. true) 1025 ≡ true
unfolding digits number_of unsigned_of numeral
all_numbers = refl

pub decimal_read : (n : ℕ) → n ≤ 1024 → Decimal n
decimal_read n small =
    let cut : is_cut n ≡ true = agree_below_at is_cut (λ n. true) 1025 n all_cut (omega arith) in
    let rest : (list_all is_allowed (number_line n) && same_text (before 35 (decimal n)) (decimal n)) ≡ true =
    (and_parts (is_line (number_line n)) (list_all is_allowed (number_line n) && same_text (before 35 (decimal n)) (decimal n)) cut).1 in
    let whole : is_whole n ≡ true = agree_below_at is_whole (λ n. true) 1025 n all_whole (omega arith) in
    let operand : is_operand n ≡ true = agree_below_at is_operand (λ n. true) 1025 n all_operands (omega arith) in
    let number : is_number n ≡ true = agree_below_at is_number (λ n. true) 1025 n all_numbers (omega arith) in
    record {
      line = (and_parts (is_line (number_line n)) (list_all is_allowed (number_line n) && same_text (before 35 (decimal n)) (decimal n)) cut).0;
      allowed = (and_parts (list_all is_allowed (number_line n)) (same_text (before 35 (decimal n)) (decimal n)) rest).0;
      before_hash = same_is (before 35 (decimal n)) (decimal n) (and_parts (list_all is_allowed (number_line n)) (same_text (before 35 (decimal n)) (decimal n)) rest).1;
      after_colon = is_nothing (after 58 (decimal n)) (and_parts (is_none (after 58 (decimal n))) (same_text (without_blanks (number_line n)) (number_line n)) whole).0;
      trimmed_line = same_is (without_blanks (number_line n)) (number_line n) (and_parts (is_none (after 58 (decimal n))) (same_text (without_blanks (number_line n)) (number_line n)) whole).1;
      before_comma = same_is (before 44 (decimal n)) (decimal n) (and_parts (same_text (before 44 (decimal n)) (decimal n)) (is_none (after 44 (decimal n))) operand).0;
      after_comma = is_nothing (after 44 (decimal n)) (and_parts (same_text (before 44 (decimal n)) (decimal n)) (is_none (after 44 (decimal n))) operand).1;
      trimmed_number = same_is (without_blanks (32 ∷ decimal n)) (decimal n) (and_parts (same_text (without_blanks (32 ∷ decimal n)) (decimal n)) (number_is (number_of (decimal n)) n) number).0;
      value = some_number (number_of (decimal n)) n (and_parts (same_text (without_blanks (32 ∷ decimal n)) (decimal n)) (number_is (number_of (decimal n)) n) number).1;
    }

-- ---- words

-- a small number is written by one instruction
pub wrapped_small : (n : ℕ) → n ≤ 1024 → word_modulo (pos n) ≡ n
wrapped_small n small = let e : n % 2 ^ 32 ≡ n = omega arith in e

pub short_small : (n : ℕ) → n ≤ 1024 → is_short n ≡ true
short_small n small =
    signed_by (λ z. is_within (neg_ℤ (pos 2048)) (pos 2047) z ≡ true) n
    (λ low. grind (arith, nat_tests)) (λ high. absurd (omega arith))

-- ---- jumps

distance_near : (place target : ℕ) → place ≤ 65536 → target ≤ 65536 → (distance place target ≤ 1048574) ⊎ (2 ^ 32 ≤ distance place target + 1048576)
distance_near place target inside near = go (nat_le place target) refl
  where
    go : (t : Bool) → nat_le place target ≡ t → (distance place target ≤ 1048574) ⊎ (2 ^ 32 ≤ distance place target + 1048576)
    go true e = let ahead : place ≤ target = grind (arith, nat_tests, e) in inl (omega arith)
    go false e = let back : target < place = grind (arith, nat_tests, e) in inr (omega arith)

-- a jump within 65536 bytes
pub jump_in_ram : (place target : ℕ) → place ≤ 65536 → target ≤ 65536 → place % 4 ≡ 0 → target % 4 ≡ 0 → jump_offset place target ≡ Ok (distance place target)
jump_in_ram place target inside near aligned even =
    jump_within (distance place target) (distance_near place target inside near) (omega arith) (omega arith)
