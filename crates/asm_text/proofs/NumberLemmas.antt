-- Digits that are tested and read one after another.
use Rattle.std.proofs.Common.{◌≡◌, ◌≢◌, ◌⊎◌, ◌<◌, ℕ, false, List, [], ◌∷◌, length, get_or, inl, inr, refl, arith}
use Rattle.std.specs.Prelude.{◌==◌, ◌&&◌}
use Rattle.std.proofs.lemmas.Bool.Decides.{nat_tests}
use Rattle.std.proofs.lemmas.Grind.{common_steps}
use Rattle.std.proofs.lemmas.Int.Digits.{digits_value_more}
use Rattle.std.proofs.lemmas.Str.Parse.{digits_value-take-le}
use Rattle.std.proofs.lemmas.List.Folds.{list_all_at, list_all_more}
use Rattle.asm_text.specs.Numbers.{number_of, numeral, positive, unsigned_of}

pub ruleset read = (common_steps, digits_value_more, digits_value-take-le, list_all_at, list_all_more)

-- a text that is too short for what stands in front, or has something else there
pub number-positive : (text : List ℕ) → (length text < 1) ⊎ (get_or text 0 0 ≢ 45) → number_of text ≡ positive text
unfolding number_of unsigned_of
number-positive [] other = refl
number-positive (first ∷ more) (inl short) = absurd (omega arith)
number-positive (first ∷ more) (inr other) = let no : (first == 45) ≡ false = grind (arith, nat_tests, other) in rw no refl

pub unsigned-decimal : (most : ℕ) (text : List ℕ) → (length text < 2) ⊎ (get_or text 0 0 ≢ 48) ⊎ (get_or text 1 0 ≢ 120) → unsigned_of most text ≡ numeral 10 most text
unfolding unsigned_of numeral
unsigned-decimal most [] other = refl
unsigned-decimal most (first ∷ []) other = refl
unsigned-decimal most (first ∷ second ∷ more) (inl short) = absurd (omega arith)
unsigned-decimal most (first ∷ second ∷ more) (inr (inl other)) = let no : (first == 48) ≡ false = grind (arith, nat_tests, other) in rw no refl
unsigned-decimal most (first ∷ second ∷ more) (inr (inr other)) =
    let no : (first == 48 && second == 120) ≡ false = grind (arith, nat_tests, other) in
    rw no refl
