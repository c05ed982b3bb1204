-- The tags that pairs of words stand for.
use Rattle.std.proofs.Common.{◌≡◌, ℕ, zero, suc, ◌<◌, ◌≤◌, List, [], ◌∷◌, Option, Some, None, get_or, length, slice_get, take, refl, sym, ap, ◌∙◌}
use Rattle.std.specs.List.{cons_option}
use Rattle.std.specs.Prelude.{option_and_then}
use Rattle.std.proofs.lemmas.List.{get_or_past}
use Rattle.std.proofs.lemmas.Option.{get_or_from_slice_get, none-some, option_and_then_some, slice_get_within, some_pair_parts}
use Rattle.tag_intern.specs.Table.{HasNoRepeats}
use Rattle.tag_intern.specs.Words.{tag_at}
use Rattle.tag_pairs.specs.Pairs.{pair_of, pair_on, pairs_on}
use Rattle.tag_pairs.proofs.TableLemmas.{some_at}

-- both tags of a pair are there
parts_of : {A B : Type 0} (left : Option A) (right : Option B) (tag : A × B) → pair_of left right ≡ Some tag → (left ≡ Some tag.0) × (right ≡ Some tag.1)
parts_of (Some left) (Some right) tag is =
    let parts = some_pair_parts left tag.0 right tag.1 is in
    (ap Some parts.0, ap Some parts.1)
parts_of (Some left) None tag is = absurd (none-some tag is)
parts_of None right tag is = absurd (none-some tag is)

module _ {A B : Type 0} (lefts : List A) (rights : List B) where
  -- the words of pairs are words of the two tables
  abbrev pub AreWords : List (ℕ × ℕ) → Type 0
  AreWords pairs = (place : ℕ) (pair : ℕ × ℕ) → slice_get pairs place ≡ Some pair → (pair.0 < length lefts) × (pair.1 < length rights)

  pub pair_is : (pair : ℕ × ℕ) (tag : A × B) → slice_get lefts pair.0 ≡ Some tag.0 → slice_get rights pair.1 ≡ Some tag.1 → pair_on lefts rights pair ≡ Some tag
  pair_is pair tag left right = λ j. pair_of (left j) (right j)

  pub pair_parts : (pair : ℕ × ℕ) (tag : A × B) → pair_on lefts rights pair ≡ Some tag → (slice_get lefts pair.0 ≡ Some tag.0) × (slice_get rights pair.1 ≡ Some tag.1)
  pair_parts pair tag is = parts_of (slice_get lefts pair.0) (slice_get rights pair.1) tag is

  -- ---- pairs of words of the tables

  first_tag : (pair : ℕ × ℕ) (pairs : List (ℕ × ℕ)) → AreWords (pair ∷ pairs) → (tag : A × B) × (pair_on lefts rights pair ≡ Some tag)
  first_tag pair pairs words =
      let below = words zero pair refl in
      let left = some_at lefts pair.0 below.0 in
      let right = some_at rights pair.1 below.1 in
      ((left.0, right.0), pair_is pair (left.0, right.0) left.1 right.1)

  from_first : (pair : ℕ × ℕ) (pairs : List (ℕ × ℕ)) (tag : A × B) → pair_on lefts rights pair ≡ Some tag → pairs_on lefts rights (pair ∷ pairs) ≡ tag ∷ pairs_on lefts rights pairs
  from_first pair pairs tag is = ap (λ first. cons_option first (pairs_on lefts rights pairs)) is

  -- what stands at a place
  at_place : (pairs : List (ℕ × ℕ)) → AreWords pairs → (place : ℕ) → slice_get (pairs_on lefts rights pairs) place ≡ option_and_then (pair_on lefts rights) (slice_get pairs place)
  at_place [] words place = refl
  at_place (pair ∷ pairs) words zero =
      let first = first_tag pair pairs words in
      ap (λ tags. slice_get tags zero) (from_first pair pairs first.0 first.1) ∙ sym first.1
  at_place (pair ∷ pairs) words (suc place) =
      let first = first_tag pair pairs words in
      ap (λ tags. slice_get tags (suc place)) (from_first pair pairs first.0 first.1) ∙ at_place pairs (λ place. words (suc place)) place

  module _ (pairs : List (ℕ × ℕ)) (words : AreWords pairs) where
    pub stands : (place : ℕ) (pair : ℕ × ℕ) (tag : A × B) → slice_get pairs place ≡ Some pair → pair_on lefts rights pair ≡ Some tag
        → slice_get (pairs_on lefts rights pairs) place ≡ Some tag
    stands place pair tag there is = at_place pairs words place ∙ ap (option_and_then (pair_on lefts rights)) there ∙ is

    pub pair_at : (place : ℕ) (tag : A × B) → slice_get (pairs_on lefts rights pairs) place ≡ Some tag
        → (pair : ℕ × ℕ) × (slice_get pairs place ≡ Some pair) × (pair_on lefts rights pair ≡ Some tag)
    pair_at place tag there =
        option_and_then_some (pair_on lefts rights) (slice_get pairs place) tag (sym (at_place pairs words place) ∙ there)
        (λ pair at is. (pair, at, is))

  pub length-pairs_on : (pairs : List (ℕ × ℕ)) → AreWords pairs → length (pairs_on lefts rights pairs) ≡ length pairs
  length-pairs_on [] words = refl
  length-pairs_on (pair ∷ pairs) words =
      let first = first_tag pair pairs words in
      ap length (from_first pair pairs first.0 first.1) ∙ ap suc (length-pairs_on pairs (λ place. words (suc place)))

  pub take-pairs_on : (n : ℕ) (pairs : List (ℕ × ℕ)) → AreWords pairs → take n (pairs_on lefts rights pairs) ≡ pairs_on lefts rights (take n pairs)
  take-pairs_on zero pairs words = refl
  take-pairs_on (suc n) [] words = refl
  take-pairs_on (suc n) (pair ∷ pairs) words =
      let first = first_tag pair pairs words in
      ap (take (suc n)) (from_first pair pairs first.0 first.1)
      ∙ ap (λ tags. first.0 ∷ tags) (take-pairs_on n pairs (λ place. words (suc place)))
      ∙ sym (from_first pair (take n pairs) first.0 first.1)

  -- what a word is read as, with words that neither table has where there is no pair
  pub tag_at-pairs_on : (none : ℕ) → length lefts ≤ none → length rights ≤ none → (other : A × B) (pairs : List (ℕ × ℕ)) → AreWords pairs → (word : ℕ)
      → tag_at other (pairs_on lefts rights pairs) word
      ≡ (tag_at other.0 lefts (tag_at (none, none) pairs word).0, tag_at other.1 rights (tag_at (none, none) pairs word).1)
  tag_at-pairs_on none no_left no_right other [] words word =
      λ j. (sym (get_or_past lefts none other.0 no_left) j, sym (get_or_past rights none other.1 no_right) j)
  tag_at-pairs_on none no_left no_right other (pair ∷ pairs) words zero =
      let first = first_tag pair pairs words in
      let parts = pair_parts pair first.0 first.1 in
      ap (λ tags. get_or tags zero other) (from_first pair pairs first.0 first.1)
      ∙ (λ j. (
        sym (get_or_from_slice_get lefts pair.0 first.0.0 other.0 parts.0) j,
        sym (get_or_from_slice_get rights pair.1 first.0.1 other.1 parts.1) j,
      ))
  tag_at-pairs_on none no_left no_right other (pair ∷ pairs) words (suc word) =
      let first = first_tag pair pairs words in
      ap (λ tags. get_or tags (suc word) other) (from_first pair pairs first.0 first.1)
      ∙ tag_at-pairs_on none no_left no_right other pairs (λ place. words (suc place)) word

  -- two pairs of words of one pair of tags are one
  pub same_pair : HasNoRepeats lefts → HasNoRepeats rights → (left right : ℕ × ℕ) (tag : A × B) → pair_on lefts rights left ≡ Some tag → pair_on lefts rights right ≡ Some tag → left ≡ right
  same_pair left_distinct right_distinct left right tag is also =
      let parts = pair_parts left tag is in
      let others = pair_parts right tag also in
      λ j. (
        left_distinct left.0 right.0 (slice_get_within lefts left.0 tag.0 parts.0) (parts.0 ∙ sym others.0) j,
        right_distinct left.1 right.1 (slice_get_within rights left.1 tag.1 parts.1) (parts.1 ∙ sym others.1) j,
      )

  pub distinct_pairs : (pairs : List (ℕ × ℕ)) → AreWords pairs → HasNoRepeats lefts → HasNoRepeats rights → HasNoRepeats pairs → HasNoRepeats (pairs_on lefts rights pairs)
  distinct_pairs pairs words left_distinct right_distinct distinct i j below same =
      let there = some_at (pairs_on lefts rights pairs) i below in
      let first = pair_at pairs words i there.0 there.1 in
      let second = pair_at pairs words j there.0 (sym same ∙ there.1) in
      distinct i j (slice_get_within pairs i first.0 first.1)
      (first.1 ∙ ap Some (same_pair left_distinct right_distinct first.0 second.0 there.0 first.2 second.2) ∙ sym second.1)

-- pairs stand for the same tags in other tables where each of them does
module _ {A B : Type 0} (lefts new_lefts : List A) (rights new_rights : List B) where
  pub same_pairs : (pairs : List (ℕ × ℕ)) → ((place : ℕ) (pair : ℕ × ℕ) → slice_get pairs place ≡ Some pair → pair_on new_lefts new_rights pair ≡ pair_on lefts rights pair)
      → pairs_on new_lefts new_rights pairs ≡ pairs_on lefts rights pairs
  same_pairs [] same = refl
  same_pairs (pair ∷ pairs) same =
      λ j. cons_option (same zero pair refl j) (same_pairs pairs (λ place. same (suc place)) j)
