-- First fit as a function and as a relation: each says what the other says.
use Rattle.std.proofs.Common.{◌≡◌, ℕ, zero, suc, ◌+◌, ◌*◌, ◌/◌, ◌%◌, ◌<◌, ◌≤◌, Bool, true, false, Option, Some, None, option_map, if◌then◌else◌, refl, ap, subst, inl, inr, arith}
use Rattle.std.specs.Bool.{Decides}
use Rattle.std.specs.List.{All, list_all}
use Rattle.std.specs.Option.{option_or}
use Rattle.std.proofs.lemmas.Bool.{cases_lt, le-leb, leb-true}
use Rattle.std.proofs.lemmas.Bool.Decides.{Decides-and, Decides-by_and, Decides-or}
use Rattle.live_blocks.specs.declared.block.Block.{Block}
use Rattle.live_blocks.specs.Space.{IsApart, IsFirstFit, LiesFree, Space, first_fit, fits, is_apart, least}

-- ---- the least number that passes a test

record IsLeast (test : ℕ → Bool) (bound least : ℕ) : Type 0 where
  below : least < bound
  passes : test least ≡ true
  first : (lower : ℕ) → lower < least → test lower ≡ false

-- what an answer says of the numbers below a bound
abbrev Tells : (ℕ → Bool) → ℕ → Option ℕ → Type 0
Tells test bound None = (k : ℕ) → k < bound → test k ≡ false
Tells test bound (Some k) = IsLeast test bound k

-- one number more
tells_more : (test : ℕ → Bool) (bound : ℕ) (answer : Option ℕ) → Tells test bound answer
    → (passes : Bool) → test bound ≡ passes → Tells test (suc bound) (option_or answer (if passes then Some bound else None))
tells_more test bound (Some k) is passes e = record {
  below = omega (arith, is.below);
  passes = is.passes;
  first = is.first;
}
tells_more test bound None none true e = record { below = omega arith; passes = e; first = none }
tells_more test bound None none false e = λ k below. elim (cases_lt k bound) [
  | inl lower ↦ none k lower
  | inr at_least ↦ subst (λ j. test j ≡ false) {x = bound} (omega arith) e
]

least_tells : (test : ℕ → Bool) (bound : ℕ) → Tells test bound (least test bound)
least_tells test zero = λ k below. absurd (omega arith)
least_tells test (suc bound) = tells_more test bound (least test bound) (least_tells test bound) (test bound) refl

-- ---- the test of a place

apart_decides : (at words : ℕ) (block : Block) → Decides (is_apart at words block) (IsApart at words block)
apart_decides at words block = Decides-or _ _ (leb-true _ _, le-leb _ _) (leb-true _ _, le-leb _ _)

free_decides : (space : Space) (words at : ℕ)
    → Decides (list_all (is_apart at words) space.live) (All (IsApart at words) space.live)
free_decides space words at = Decides-by_and (is_apart at words) (IsApart at words) (list_all (is_apart at words))
    (apart_decides at words) refl (λ _ _. refl) space.live

fits_decides : (space : Space) (words at : ℕ)
    → Decides (fits space words at) ((space.base ≤ at) × ((at + 4 * words ≤ space.top) × All (IsApart at words) space.live))
fits_decides space words at = Decides-and _ _ (leb-true _ _, le-leb _ _)
    (Decides-and _ _ (leb-true _ _, le-leb _ _) (free_decides space words at))

lies_where_fits : (space : Space) (words at : ℕ) → fits space words at ≡ true → LiesFree space words at
lies_where_fits space words at is =
    let all = (fits_decides space words at).0 is in
    record { from = all.0; to = all.1.0; free = all.1.1 }

fits_where_lies : (space : Space) (words at : ℕ) → LiesFree space words at → fits space words at ≡ true
fits_where_lies space words at lies = (fits_decides space words at).1 (lies.from, (lies.to, lies.free))

-- at a multiple of 4, told by its quarter
fits_at_quarter : (space : Space) (words at : ℕ) → at % 4 ≡ 0 → LiesFree space words at
    → fits space words (4 * (at / 4)) ≡ true
fits_at_quarter space words at aligned lies =
    subst (λ place. fits space words place ≡ true) {x = at} (omega arith) (fits_where_lies space words at lies)

-- ---- first fit

module _ (space : Space) (words : ℕ) where
  first_where_least : (k : ℕ) → IsLeast (λ k. fits space words (4 * k)) space.top k
      → IsFirstFit space words (4 * k)
  first_where_least k is = record {
    aligned = omega arith;
    lies_free = lies_where_fits space words (4 * k) is.passes;
    first = λ lower aligned below lies.
        let fails = is.first (lower / 4) (omega arith) in
        let passes = fits_at_quarter space words lower aligned lies in
        absurd (cc (fails, passes));
  }

  found_by : (at : ℕ) (answer : Option ℕ) → Tells (λ k. fits space words (4 * k)) space.top answer
      → option_map (λ k. 4 * k) answer ≡ Some at → IsFirstFit space words at
  found_by at None none e = absurd (cc)
  found_by at (Some k) is e = subst (IsFirstFit space words) {x = 4 * k} (cc) (first_where_least k is)

  found_where_first : 1 ≤ words → (at : ℕ) → IsFirstFit space words at
      → (answer : Option ℕ) → Tells (λ k. fits space words (4 * k)) space.top answer
      → option_map (λ k. 4 * k) answer ≡ Some at
  found_where_first some at is None none =
      let fails = none (at / 4) (omega (arith, is.lies_free.to)) in
      let passes = fits_at_quarter space words at is.aligned is.lies_free in
      absurd (cc (fails, passes))
  found_where_first some at is (Some k) least = elim (cases_lt (4 * k) at) [
    | inl below ↦ absurd (is.first (4 * k) (omega arith) below (lies_where_fits space words (4 * k) least.passes))
    | inr at_least ↦ elim (cases_lt at (4 * k)) [
      | inl above ↦
          let fails = least.first (at / 4) (omega (arith, is.aligned)) in
          let passes = fits_at_quarter space words at is.aligned is.lies_free in
          absurd (cc (fails, passes))
      | inr at_most ↦ ap Some (omega arith)
    ]
  ]

  -- what first fit finds
  pub found_first : (at : ℕ) → first_fit space words ≡ Some at → IsFirstFit space words at
  unfolding first_fit
  found_first at e = found_by at (least (λ k. fits space words (4 * k)) space.top)
      (least_tells (λ k. fits space words (4 * k)) space.top) e

  -- and it finds that
  pub first_found : 1 ≤ words → (at : ℕ) → IsFirstFit space words at → first_fit space words ≡ Some at
  unfolding first_fit
  first_found some at is = found_where_first some at is (least (λ k. fits space words (4 * k)) space.top)
      (least_tells (λ k. fits space words (4 * k)) space.top)

  none_by : (answer : Option ℕ) → Tells (λ k. fits space words (4 * k)) space.top answer
      → ((at : ℕ) → at % 4 ≡ 0 → LiesFree space words at → ⊥) → option_map (λ k. 4 * k) answer ≡ None
  none_by None tells none = refl
  none_by (Some k) least none = absurd (none (4 * k) (omega arith) (lies_where_fits space words (4 * k) least.passes))

  -- it finds nothing where so many words lie nowhere free
  pub none_found : ((at : ℕ) → at % 4 ≡ 0 → LiesFree space words at → ⊥) → first_fit space words ≡ None
  unfolding first_fit
  none_found none = none_by (least (λ k. fits space words (4 * k)) space.top)
      (least_tells (λ k. fits space words (4 * k)) space.top) none
