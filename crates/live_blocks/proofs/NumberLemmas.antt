-- What the order of blocks by their numbers says of a search by number.
use Rattle.std.proofs.Common.{◌≡◌, ◌≢◌, ℕ, ◌<◌, ◌≤◌, List, length, get_or, Result, Ok, Err, IfNone, IfSome, sym, ap, ◌∙◌, subst, inl, inr, arith}
use Rattle.std.specs.List.{All, Contains}
use Rattle.std.specs.List.Sorted.{IsBinarySearchResult, IsNonDecreasingBy, IsSearchInRange}
use Rattle.std.specs.Result.{result_ok}
use Rattle.std.specs.Ordering.{nat_cmp, ordering_index}
use Rattle.std.proofs.lemmas.Bool.{cases_lt}
use Rattle.std.proofs.lemmas.Bool.Decides.{nat_tests}
use Rattle.std.proofs.lemmas.Cmp.{ranked}
use Rattle.std.proofs.lemmas.List.{get_or_default}
use Rattle.live_blocks.specs.declared.block.Block.{Block}
use Rattle.live_blocks.specs.Run.{AreNumbered, IsPlaceOf}

module _ (live : List Block) (numbered : AreNumbered live) where
  pub numbers_rise : (i j : ℕ) (d : Block) → i ≤ j → j < length live → (get_or live i d).number ≤ (get_or live j d).number
  numbers_rise i j d le in_range = elim (cases_lt i j) [
    | inl earlier ↦ omega (arith, numbered i j d earlier in_range)
    | inr same ↦ subst (λ k. (get_or live i d).number ≤ (get_or live k d).number) {x = i} {y = j} (omega arith) (omega arith)
  ]

  -- the comparisons with a number rise along the list, as a binary search asks
  comparisons_rise : (number : ℕ) → IsNonDecreasingBy (λ block. ordering_index (nat_cmp block.number number)) live
  comparisons_rise number i j d le in_range = let rise : (get_or live i d).number ≤ (get_or live j d).number = numbers_rise i j d le in_range in grind (arith, nat_tests)

  -- a binary search ends at the block of the number, or none has it
  pub searched : (number : ℕ) (answer : Result ℕ ℕ) → IsSearchInRange answer (length live)
      → IsBinarySearchResult (λ block. nat_cmp block.number number) live answer
      → record { found : IfSome (result_ok answer) (IsPlaceOf live number); absent : IfNone (result_ok answer) (All (λ block. block.number ≢ number) live) }
  searched number (Ok at) in_range equal = record { found = record { in_range = in_range; has_number = λ d. ranked _ number _ (sym (equal d)) }; absent = tt }
  searched number (Err at) in_range parted = record {
    found = tt;
    absent = λ k d lower same. elim (cases_lt k at) [
      | inl before ↦ omega (arith, ranked _ number _ (sym ((parted (comparisons_rise number)).0 k d (omega arith) before)))
      | inr after ↦ omega (arith, ranked _ number _ (sym ((parted (comparisons_rise number)).1 k d after lower)))
    ];
  }

  -- the place of a number is one
  pub same_place : (i j : ℕ) (d : Block) → i < length live → j < length live → (get_or live i d).number ≡ (get_or live j d).number → i ≡ j
  same_place i j d in_range in_range' same = elim (cases_lt i j) [
    | inl before ↦ absurd (omega (arith, numbered i j d before in_range'))
    | inr from ↦ elim (cases_lt j i) [
      | inl after ↦ absurd (omega (arith, numbered j i d after in_range))
      | inr to ↦ omega arith
    ]
  ]

  -- and so is the block
  pub same_block : (x y : Block) → Contains live x → Contains live y → x.number ≡ y.number → x ≡ y
  same_block x y has_x has_y same =
      let y_is : get_or live has_y.0 x ≡ y = get_or_default live has_y.0 x y has_y.1 ∙ has_y.2 in
      let numbers : (get_or live has_x.0 x).number ≡ (get_or live has_y.0 x).number = ap (λ (b : Block). b.number) has_x.2 ∙ (same ∙ sym (ap (λ (b : Block). b.number) y_is)) in
      let places : has_x.0 ≡ has_y.0 = same_place has_x.0 has_y.0 x has_x.1 has_y.1 numbers in
      sym has_x.2 ∙ (ap (λ k. get_or live k x) places ∙ y_is)
