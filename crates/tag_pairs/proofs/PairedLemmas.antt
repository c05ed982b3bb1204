-- Three tables that are paired: what they are as one table, and after a cut and after a pair of tags that is new.
use Rattle.std.proofs.Common.{◌≡◌, ℕ, ◌<◌, ◌≤◌, ◌^◌, Bool, List, [], ◌∷◌, ◌++◌, Some, length, slice_get, take, sym, ap, subst, ◌∙◌, arith}
use Rattle.std.specs.Cmp.{IsEquivalence}
use Rattle.std.specs.List.{Contains, cons_option}
use Rattle.std.proofs.lemmas.List.{length-map, map-append, take-map}
use Rattle.std.proofs.lemmas.List.Elements.{filter_map-append}
use Rattle.engine_trait.specs.Accounts.{with_tag}
use Rattle.tag_intern.specs.Table.{IsTable, TableState, cut_to, table_after}
use Rattle.tag_intern.proofs.TableLemmas.{extends_with, same_words}
use Rattle.tag_pairs.specs.Order.{counted}
use Rattle.tag_pairs.specs.Pairs.{ArePaired, IsSide, left_count, left_words, pair_of, pair_on, paired, pairs_on, right_count, right_words}
use Rattle.tag_pairs.proofs.OrderLemmas.{came}
use Rattle.tag_pairs.proofs.PairLemmas.{AreWords, distinct_pairs, length-pairs_on, pair_at, pair_is, pair_parts, same_pairs, same_pair, stands, take-pairs_on}
use Rattle.tag_pairs.proofs.SideLemmas.{count_fits, cut_side, grown_side}
use Rattle.tag_pairs.proofs.TableLemmas.{contained_at, cut_table, place_of, push_table, pushed_by, slice_get-taken}

-- words of pairs are below the counts of the words in their places
counted_words : (pairs : List (ℕ × ℕ)) (place : ℕ) (pair : ℕ × ℕ) → slice_get pairs place ≡ Some pair
    → (pair.0 < left_count pairs) × (pair.1 < right_count pairs)
counted_words pairs place pair there = (
  came (λ (pair : ℕ × ℕ). pair.0) 0 pairs place pair there,
  came (λ (pair : ℕ × ℕ). pair.1) 0 pairs place pair there,
)

module _ {A B : Type 0} (lefts : TableState A) (rights : TableState B) (pairs : TableState (ℕ × ℕ)) (are : ArePaired lefts rights pairs) where
  pub are_words : AreWords lefts.tags rights.tags pairs.tags
  are_words place pair there =
      let below = counted_words pairs.tags place pair there in
      (subst (λ n. pair.0 < n) are.left.count below.0, subst (λ n. pair.1 < n) are.right.count below.1)

  pub length-paired : length (pairs_on lefts.tags rights.tags pairs.tags) ≡ length pairs.tags
  length-paired = length-pairs_on lefts.tags rights.tags pairs.tags are_words

  pub paired_table : IsTable (paired lefts rights pairs)
  paired_table =
      let size = length-paired in
      let within = are.table.within in
      record {
        distinct = distinct_pairs lefts.tags rights.tags pairs.tags are_words are.left.table.distinct are.right.table.distinct are.table.distinct;
        within = omega (arith, size, within);
        some = are.table.some;
        small = are.table.small;
      }

  -- ---- where a pair of tags stands

  module _ (tag : A × B) where
    -- a pair of tags that stands there has both tags on their sides
    pub left_there : (word : ℕ) → slice_get (paired lefts rights pairs).tags word ≡ Some tag → (left : ℕ) × (slice_get lefts.tags left ≡ Some tag.0)
    left_there word there =
        let at = pair_at lefts.tags rights.tags pairs.tags are_words word tag there in
        (at.0.0, (pair_parts lefts.tags rights.tags at.0 tag at.2).0)

    pub right_there : (word : ℕ) → slice_get (paired lefts rights pairs).tags word ≡ Some tag → (right : ℕ) × (slice_get rights.tags right ≡ Some tag.1)
    right_there word there =
        let at = pair_at lefts.tags rights.tags pairs.tags are_words word tag there in
        (at.0.1, (pair_parts lefts.tags rights.tags at.0 tag at.2).1)

    -- it stands where the pair of their words does
    pub pair_there : (left right : ℕ) → slice_get lefts.tags left ≡ Some tag.0 → slice_get rights.tags right ≡ Some tag.1 → (word : ℕ)
        → (slice_get pairs.tags word ≡ Some (left, right) → slice_get (paired lefts rights pairs).tags word ≡ Some tag)
        × (slice_get (paired lefts rights pairs).tags word ≡ Some tag → slice_get pairs.tags word ≡ Some (left, right))
    pair_there left right is_left is_right word =
        let is = pair_is lefts.tags rights.tags (left, right) tag is_left is_right in (
          λ there. stands lefts.tags rights.tags pairs.tags are_words word (left, right) tag there is,
          λ there.
              let at = pair_at lefts.tags rights.tags pairs.tags are_words word tag there in
              at.1 ∙ ap Some (same_pair lefts.tags rights.tags are.left.table.distinct are.right.table.distinct at.0 (left, right) tag at.2 is),
        )

  -- ---- a cut to the first pairs and to their words

  module _ (n : ℕ) where
    cut_left : IsSide (left_words (take n pairs.tags)) pairs.limit (cut_to lefts (left_count (take n pairs.tags)))
    cut_left =
        subst (λ (words : List ℕ). IsSide words pairs.limit (cut_to lefts (counted 0 words))) (take-map (λ (pair : ℕ × ℕ). pair.0) n pairs.tags)
        (cut_side (left_words pairs.tags) pairs.limit lefts are.left n)

    cut_right : IsSide (right_words (take n pairs.tags)) pairs.limit (cut_to rights (right_count (take n pairs.tags)))
    cut_right =
        subst (λ (words : List ℕ). IsSide words pairs.limit (cut_to rights (counted 0 words))) (take-map (λ (pair : ℕ × ℕ). pair.1) n pairs.tags)
        (cut_side (right_words pairs.tags) pairs.limit rights are.right n)

    pub cut_fits : (left_count (take n pairs.tags) ≤ length lefts.tags) × (right_count (take n pairs.tags) ≤ length rights.tags)
    cut_fits = (
      subst (λ (words : List ℕ). counted 0 words ≤ length lefts.tags) (take-map (λ (pair : ℕ × ℕ). pair.0) n pairs.tags)
          (count_fits (left_words pairs.tags) pairs.limit lefts are.left n),
      subst (λ (words : List ℕ). counted 0 words ≤ length rights.tags) (take-map (λ (pair : ℕ × ℕ). pair.1) n pairs.tags)
          (count_fits (right_words pairs.tags) pairs.limit rights are.right n),
    )

    pub cut_small : (left_count (take n pairs.tags) < 2 ^ 32) × (right_count (take n pairs.tags) < 2 ^ 32)
    cut_small =
        let fits = cut_fits in
        let left_few = fits.0 in
        let right_few = fits.1 in
        let left_within = are.left.table.within in
        let right_within = are.right.table.within in
        let left_small = are.left.table.small in
        let right_small = are.right.table.small in
        (omega (arith, left_few, left_within, left_small), omega (arith, right_few, right_within, right_small))

    pub cut_are : ArePaired (cut_to lefts (left_count (take n pairs.tags))) (cut_to rights (right_count (take n pairs.tags))) (cut_to pairs n)
    cut_are = record { left = cut_left; right = cut_right; table = cut_table pairs n are.table }

    pub cut_paired : paired (cut_to lefts (left_count (take n pairs.tags))) (cut_to rights (right_count (take n pairs.tags))) (cut_to pairs n)
        ≡ cut_to (paired lefts rights pairs) n
    cut_paired = ap (λ (tags : List (A × B)). record { tags = tags; limit = pairs.limit }) (same_pairs lefts.tags (take (left_count (take n pairs.tags)) lefts.tags)
        rights.tags (take (right_count (take n pairs.tags)) rights.tags) (take n pairs.tags) same
        ∙ sym (take-pairs_on lefts.tags rights.tags n pairs.tags are_words))
      where
        same : (place : ℕ) (pair : ℕ × ℕ) → slice_get (take n pairs.tags) place ≡ Some pair
            → pair_on (take (left_count (take n pairs.tags)) lefts.tags) (take (right_count (take n pairs.tags)) rights.tags) pair
            ≡ pair_on lefts.tags rights.tags pair
        same place pair there =
            let below = counted_words (take n pairs.tags) place pair there in
            let left = slice_get-taken (left_count (take n pairs.tags)) lefts.tags pair.0 (subst (λ (n : ℕ). pair.0 < n) cut_left.count below.0) in
            let right = slice_get-taken (right_count (take n pairs.tags)) rights.tags pair.1 (subst (λ (n : ℕ). pair.1 < n) cut_right.count below.1) in
            λ j. pair_of (left j) (right j)

    -- so for tables that are these
    module _ (new_lefts : TableState A) (new_rights : TableState B) (new_pairs : TableState (ℕ × ℕ)) (left right : ℕ) (pairs_are : new_pairs ≡ cut_to pairs n)
        (left_is : left ≡ left_count new_pairs.tags) (right_is : right ≡ right_count new_pairs.tags)
        (lefts_are : new_lefts ≡ cut_to lefts left) (rights_are : new_rights ≡ cut_to rights right) where
      lefts_cut : new_lefts ≡ cut_to lefts (left_count (take n pairs.tags))
      lefts_cut = lefts_are ∙ ap (cut_to lefts) (left_is ∙ ap (λ (table : TableState (ℕ × ℕ)). left_count table.tags) pairs_are)

      rights_cut : new_rights ≡ cut_to rights (right_count (take n pairs.tags))
      rights_cut = rights_are ∙ ap (cut_to rights) (right_is ∙ ap (λ (table : TableState (ℕ × ℕ)). right_count table.tags) pairs_are)

      pub cut_state : paired new_lefts new_rights new_pairs ≡ cut_to (paired lefts rights pairs) n
      cut_state = (λ j. paired (lefts_cut j) (rights_cut j) (pairs_are j)) ∙ cut_paired

      pub cut_stays : ArePaired new_lefts new_rights new_pairs
      cut_stays =
          subst (λ (tables : TableState A × TableState B × TableState (ℕ × ℕ)). ArePaired tables.0 tables.1 tables.2)
          (λ j. (sym lefts_cut j, sym rights_cut j, sym pairs_are j)) cut_are

-- ---- a pair of tags that is new

-- both tags came to their sides, and the pair of their words to the pairs
pub record IsComing {A B : Type 0} (left_eq : A → A → Bool) (right_eq : B → B → Bool) (pair_eq : ℕ × ℕ → ℕ × ℕ → Bool)
    (lefts new_lefts : TableState A) (rights new_rights : TableState B) (pairs new_pairs : TableState (ℕ × ℕ)) (tag : A × B) (pair : ℕ × ℕ) (place : ℕ) : Type 0 where
  pub left_laws : IsEquivalence left_eq
  pub right_laws : IsEquivalence right_eq
  pub are : ArePaired lefts rights pairs
  pub absent : Contains (paired lefts rights pairs).tags tag → ⊥
  pub room : length pairs.tags < pairs.limit
  pub lefts_grown : new_lefts ≡ table_after left_eq lefts tag.0
  pub rights_grown : new_rights ≡ table_after right_eq rights tag.1
  pub pairs_grown : new_pairs ≡ table_after pair_eq pairs pair
  pub left_word : slice_get new_lefts.tags pair.0 ≡ Some tag.0
  pub right_word : slice_get new_rights.tags pair.1 ≡ Some tag.1
  pub pair_word : slice_get new_pairs.tags place ≡ Some pair

module _ {A B : Type 0} (left_eq : A → A → Bool) (right_eq : B → B → Bool) (pair_eq : ℕ × ℕ → ℕ × ℕ → Bool)
    (lefts new_lefts : TableState A) (rights new_rights : TableState B) (pairs new_pairs : TableState (ℕ × ℕ)) (tag : A × B) (pair : ℕ × ℕ) (place : ℕ)
    (comes : IsComing left_eq right_eq pair_eq lefts new_lefts rights new_rights pairs new_pairs tag pair place) where
  -- words of the sides stand for what they stood for
  left_kept : (word : ℕ) → word < length lefts.tags → slice_get new_lefts.tags word ≡ slice_get lefts.tags word
  left_kept word below =
      ap (λ (table : TableState A). slice_get table.tags word) comes.lefts_grown
      ∙ same_words lefts.tags (with_tag left_eq lefts.tags tag.0) (extends_with left_eq comes.left_laws lefts.tags tag.0) word below

  right_kept : (word : ℕ) → word < length rights.tags → slice_get new_rights.tags word ≡ slice_get rights.tags word
  right_kept word below =
      ap (λ (table : TableState B). slice_get table.tags word) comes.rights_grown
      ∙ same_words rights.tags (with_tag right_eq rights.tags tag.1) (extends_with right_eq comes.right_laws rights.tags tag.1) word below

  -- so the pair of their words is new
  new_pair : Contains pairs.tags pair → ⊥
  new_pair there =
      let at = place_of pairs.tags pair there in
      let below = are_words lefts rights pairs comes.are at.0 pair at.1 in
      let left = sym (left_kept pair.0 below.0) ∙ comes.left_word in
      let right = sym (right_kept pair.1 below.1) ∙ comes.right_word in
      comes.absent (contained_at (pairs_on lefts.tags rights.tags pairs.tags) tag at.0
      ((pair_there lefts rights pairs comes.are tag pair.0 pair.1 left right at.0).0 at.1))

  pushed : new_pairs.tags ≡ pairs.tags ++ pair ∷ []
  pushed =
      ap (λ (table : TableState (ℕ × ℕ)). table.tags) comes.pairs_grown
      ∙ pushed_by pair_eq pairs.tags pair place new_pair (ap (λ (table : TableState (ℕ × ℕ)). slice_get table.tags place) (sym comes.pairs_grown) ∙ comes.pair_word)

  pairs_pushed : new_pairs ≡ record pairs { tags = pairs.tags ++ pair ∷ [] }
  pairs_pushed = λ j. record { tags = pushed j; limit = (comes.pairs_grown j).limit }

  few_left : length (left_words pairs.tags) < pairs.limit
  few_left = subst (λ (n : ℕ). n < pairs.limit) (sym (length-map pairs.tags (λ (pair : ℕ × ℕ). pair.0))) comes.room

  few_right : length (right_words pairs.tags) < pairs.limit
  few_right = subst (λ (n : ℕ). n < pairs.limit) (sym (length-map pairs.tags (λ (pair : ℕ × ℕ). pair.1))) comes.room

  pushed_are : ArePaired new_lefts new_rights (record pairs { tags = pairs.tags ++ pair ∷ [] })
  pushed_are = record {
    left = subst (λ (words : List ℕ). IsSide words pairs.limit new_lefts) (sym (map-append (λ (pair : ℕ × ℕ). pair.0) pairs.tags (pair ∷ [])))
        (grown_side left_eq comes.left_laws (left_words pairs.tags) pairs.limit lefts new_lefts comes.are.left few_left tag.0 pair.0 comes.lefts_grown comes.left_word);
    right = subst (λ (words : List ℕ). IsSide words pairs.limit new_rights) (sym (map-append (λ (pair : ℕ × ℕ). pair.1) pairs.tags (pair ∷ [])))
        (grown_side right_eq comes.right_laws (right_words pairs.tags) pairs.limit rights new_rights comes.are.right few_right tag.1 pair.1 comes.rights_grown comes.right_word);
    table = push_table pairs.tags pair comes.are.table.distinct new_pair pairs.limit comes.are.table comes.room;
  }

  -- the three are paired again
  pub coming_are : ArePaired new_lefts new_rights new_pairs
  coming_are = subst (ArePaired new_lefts new_rights) (sym pairs_pushed) pushed_are

  same_kept : (at : ℕ) (old : ℕ × ℕ) → slice_get pairs.tags at ≡ Some old → pair_on new_lefts.tags new_rights.tags old ≡ pair_on lefts.tags rights.tags old
  same_kept at old there =
      let below = are_words lefts rights pairs comes.are at old there in
      λ j. pair_of (left_kept old.0 below.0 j) (right_kept old.1 below.1 j)

  -- and the pair of tags stands at the end
  pub coming_state : paired new_lefts new_rights new_pairs ≡ record (paired lefts rights pairs) { tags = (paired lefts rights pairs).tags ++ tag ∷ [] }
  coming_state =
      ap (paired new_lefts new_rights) pairs_pushed
      ∙ ap (λ (tags : List (A × B)). record { tags = tags; limit = pairs.limit }) (filter_map-append (pair_on new_lefts.tags new_rights.tags) pairs.tags (pair ∷ [])
      ∙ (λ j. same_pairs lefts.tags new_lefts.tags rights.tags new_rights.tags pairs.tags same_kept j
      ++ cons_option (pair_is new_lefts.tags new_rights.tags pair tag comes.left_word comes.right_word j) []))
