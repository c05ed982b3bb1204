-- What texts say: each tells its number.
use Rattle.std.specs.Prelude.{◌≡◌, ℕ, ◌-◌, ◌*◌, ◌/◌, ◌%◌, ◌^◌, ◌<◌, ◌==◌, Bool, true}
use Rattle.std.specs.Char.{digit_value}
use Rattle.std.specs.List.{AllPass, range_with_len}
use Rattle.std.specs.Str.Parse.{digits_value}
use Rattle.std.proofs.Common.{refl, sym, ap, ◌∙◌, zero-add, arith}
use Rattle.std.proofs.lemmas.Bool.{eqb-true}
use Rattle.std.proofs.lemmas.List.Elements.{All-get_or}
use Rattle.std.proofs.lemmas.List.FromFn.{get_or-range_with_len, length-range_with_len}
use Rattle.std.proofs.lemmas.List.Sums.{AllPass-from_list_all}
use Rattle.pump_words.specs.Texts.{hex_digit, hex_digit_of, hex8_text}

-- each hexadecimal digit has its value
hex_digit_value : (n : ℕ) → n < 16 → digit_value (hex_digit n) ≡ n
hex_digit_value n small =
    let test : ℕ → Bool = λ m. digit_value (hex_digit m) == m in
    let all : AllPass test (range_with_len 0 16) = AllPass-from_list_all test (range_with_len 0 16) refl in
    let here = All-get_or (λ m. test m ≡ true) (range_with_len 0 16) n 0 (omega (arith, length-range_with_len 0 16)) all in
    eqb-true _ _ (rw (get_or-range_with_len 0 16 n 0 small, zero-add n) at here)

digit_at : (word k : ℕ) → digit_value (hex_digit_of word k) ≡ word / 2 ^ (28 - 4 * k) % 16
digit_at word k = hex_digit_value (word / 2 ^ (28 - 4 * k) % 16) (omega arith)

-- eight hexadecimal digits write their word
pub hex8_text_value : (word : ℕ) → word < 2 ^ 32 → digits_value 16 (hex8_text word) ≡ word
hex8_text_value word fits =
    omega (arith, digit_at word 0, digit_at word 1, digit_at word 2, digit_at word 3, digit_at word 4, digit_at word 5, digit_at word 6, digit_at word 7)

-- so they tell it from every other
pub hex8_text_injective : (v w : ℕ) → v < 2 ^ 32 → w < 2 ^ 32 → hex8_text v ≡ hex8_text w → v ≡ w
hex8_text_injective v w v_fits w_fits same =
    sym (hex8_text_value v v_fits) ∙ ap (digits_value 16) same ∙ hex8_text_value w w_fits
