-- What is told of three tables that are paired, by the one table that they are.
use Rattle.std.proofs.Common.{◌≡◌, ℕ, ◌<◌, ◌≤◌, ◌&&◌, Bool, List, [], ◌∷◌, ◌++◌, Option, Some, None, Result, Err, length, slice_get, refl, sym, ap, ◌∙◌, arith}
use Rattle.std.specs.Cmp.{IsEquivalence, and_equiv, on_equiv}
use Rattle.std.specs.List.{Contains}
use Rattle.std.proofs.lemmas.Bool.{and_parts}
use Rattle.std.proofs.lemmas.List.{length-map}
use Rattle.std.proofs.lemmas.Option.{none-some}
use Rattle.pump_words.specs.Same.{TellsApart}
use Rattle.engine_trait.specs.Accounts.{with_tag}
use Rattle.tag_intern.specs.Table.{Extends, IsTable, TableState, table_after}
use Rattle.tag_intern.specs.Words.{tag_at}
use Rattle.tag_intern.specs.declared.table.InternEnd.{InternEnd}
use Rattle.tag_intern.specs.declared.table.InternEnd.TheVariants.{Full, Memory}
use Rattle.tag_intern.proofs.TableLemmas.{slice_get-last, with_word}
use Rattle.tag_pairs.specs.Pairs.{ArePaired, left_words, paired, right_words}
use Rattle.tag_pairs.proofs.PairLemmas.{tag_at-pairs_on}
use Rattle.tag_pairs.proofs.PairedLemmas.{are_words, left_there, pair_there, right_there}
use Rattle.tag_pairs.proofs.SideLemmas.{side_few}
use Rattle.tag_pairs.proofs.TableLemmas.{pushed_new}

-- ---- tests of pairs

module _ {A B : Type 0} (left_eq : A → A → Bool) (right_eq : B → B → Bool) where
  -- whether two pairs are the same on both sides
  abbrev pub both_eq : A × B → A × B → Bool
  both_eq x y = left_eq x.0 y.0 && right_eq x.1 y.1

  pub both_equiv : IsEquivalence left_eq → IsEquivalence right_eq → IsEquivalence both_eq
  both_equiv left right = and_equiv (on_equiv (λ (pair : A × B). pair.0) left) (on_equiv (λ (pair : A × B). pair.1) right)

  pub both_apart : TellsApart left_eq → TellsApart right_eq → TellsApart both_eq
  both_apart left right x y same =
      let parts = and_parts (left_eq x.0 y.0) (right_eq x.1 y.1) same in
      λ j. (left x.0 y.0 parts.0 j, right x.1 y.1 parts.1 j)

module _ {T : Type 0} (eq : T → T → Bool) (laws : IsEquivalence eq) where
  -- a tag that is there takes no room
  pub known_fits : (table : TableState T) → IsTable table → (tag : T) (word : ℕ) → slice_get table.tags word ≡ Some tag
      → table.limit < length (with_tag eq table.tags tag) → ⊥
  known_fits table is tag word there over =
      let same = ap length (with_word eq laws table.tags tag word there) in
      let within = is.within in
      omega (arith, same, within, over)

-- ---- words and tags of the one table

module _ {A B : Type 0} (lefts : TableState A) (rights : TableState B) (pairs : TableState (ℕ × ℕ)) (are : ArePaired lefts rights pairs)
    (table : TableState (A × B)) (is : paired lefts rights pairs ≡ table) where
  module _ (tag : A × B) where
    stood : (word : ℕ) → slice_get table.tags word ≡ Some tag → slice_get (paired lefts rights pairs).tags word ≡ Some tag
    stood word there = ap (λ (table : TableState (A × B)). slice_get table.tags word) is ∙ there

    -- where a side has no word for its tag, the pair stands nowhere
    pub no_left : ((word : ℕ) → slice_get lefts.tags word ≡ Some tag.0 → ⊥) → (word : ℕ) → slice_get table.tags word ≡ Some tag → ⊥
    no_left nowhere word there = let at = left_there lefts rights pairs are tag word (stood word there) in nowhere at.0 at.1

    pub no_right : ((word : ℕ) → slice_get rights.tags word ≡ Some tag.1 → ⊥) → (word : ℕ) → slice_get table.tags word ≡ Some tag → ⊥
    no_right nowhere word there = let at = right_there lefts rights pairs are tag word (stood word there) in nowhere at.0 at.1

    -- a search that ends without a word is exact then
    pub none_found : (found : Option ℕ) → found ≡ None → ((word : ℕ) → slice_get table.tags word ≡ Some tag → ⊥) → (word : ℕ)
        → (found ≡ Some word → slice_get table.tags word ≡ Some tag) × (slice_get table.tags word ≡ Some tag → found ≡ Some word)
    none_found found none nowhere word = (λ some. absurd (none-some word (sym none ∙ some)), λ there. absurd (nowhere word there))

    -- and so is a search of the pair of words
    pub pair_found : (left right : ℕ) → slice_get lefts.tags left ≡ Some tag.0 → slice_get rights.tags right ≡ Some tag.1 → (found : Option ℕ)
        → ((word : ℕ) → (found ≡ Some word → slice_get pairs.tags word ≡ Some (left, right)) × (slice_get pairs.tags word ≡ Some (left, right) → found ≡ Some word))
        → (word : ℕ) → (found ≡ Some word → slice_get table.tags word ≡ Some tag) × (slice_get table.tags word ≡ Some tag → found ≡ Some word)
    pair_found left right is_left is_right found exact word =
        let pair = pair_there lefts rights pairs are tag left right is_left is_right word in (
          λ some. ap (λ (table : TableState (A × B)). slice_get table.tags word) (sym is) ∙ pair.0 ((exact word).0 some),
          λ there. (exact word).1 (pair.1 (stood word there)),
        )

  -- what a word is read as
  pub read_as : (none : ℕ) → pairs.limit ≤ none → (other : A × B) (word : ℕ) (pair : ℕ × ℕ) (left : A) (right : B)
      → pair ≡ tag_at (none, none) pairs.tags word → left ≡ tag_at other.0 lefts.tags pair.0 → right ≡ tag_at other.1 rights.tags pair.1
      → (left, right) ≡ tag_at other table.tags word
  read_as none high other word pair left right pair_is left_is right_is =
      let left_within = are.left.table.within in
      let left_limit = are.left.same_limit in
      let right_within = are.right.table.within in
      let right_limit = are.right.same_limit in
      (λ j. (left_is j, right_is j))
      ∙ (λ j. (tag_at other.0 lefts.tags (pair_is j).0, tag_at other.1 rights.tags (pair_is j).1))
      ∙ sym (tag_at-pairs_on lefts.tags rights.tags none (omega (arith, left_within, left_limit, high)) (omega (arith, right_within, right_limit, high))
      other pairs.tags (are_words lefts rights pairs are) word)
      ∙ ap (λ (table : TableState (A × B)). tag_at other table.tags word) is

-- ---- a pair of tags that is new

pub pushed_same : {T : Type 0} (old table new : TableState T) (tag : T) → old ≡ table → new ≡ record old { tags = old.tags ++ tag ∷ [] }
    → new ≡ record table { tags = table.tags ++ tag ∷ [] }
pushed_same {T} old table new tag is grown = grown ∙ ap (λ (table : TableState T). record table { tags = table.tags ++ tag ∷ [] }) is

module _ {T : Type 0} (table new : TableState T) (tag : T) (grown : new ≡ record table { tags = table.tags ++ tag ∷ [] }) where
  pub new_word : (word : ℕ) → word ≡ length table.tags → slice_get new.tags word ≡ Some tag
  new_word word is = (λ j. slice_get (grown j).tags (is j)) ∙ slice_get-last table.tags tag

  pub new_extends : Extends table.tags new.tags
  new_extends = (tag ∷ [], ap (λ (table : TableState T). table.tags) grown)

  pub new_state : (eq : T → T → Bool) → TellsApart eq → (Contains table.tags tag → ⊥) → new ≡ table_after eq table tag
  new_state eq exact absent = grown ∙ ap (λ (tags : List T). record table { tags = tags }) (sym (pushed_new eq exact table.tags tag absent))

-- a side has room where the pairs do
module _ {A B : Type 0} (lefts : TableState A) (rights : TableState B) (pairs : TableState (ℕ × ℕ)) (are : ArePaired lefts rights pairs)
    (room : length pairs.tags < pairs.limit) where
  pub left_room : length lefts.tags ≡ lefts.limit → ⊥
  left_room full =
      let few = side_few (left_words pairs.tags) pairs.limit lefts are.left in
      let size = length-map pairs.tags (λ (pair : ℕ × ℕ). pair.0) in
      let same = are.left.same_limit in
      omega (arith, few, size, same, room, full)

  pub right_room : length rights.tags ≡ rights.limit → ⊥
  right_room full =
      let few = side_few (right_words pairs.tags) pairs.limit rights are.right in
      let size = length-map pairs.tags (λ (pair : ℕ × ℕ). pair.1) in
      let same = are.right.same_limit in
      omega (arith, few, size, same, room, full)

-- so memory alone is wanting
pub memory_alone : (end : InternEnd) → (◌≡◌ {A = Result ℕ InternEnd} (Err end) (Err Full) → ⊥) → end ≡ Memory
memory_alone Full not_full = absurd (not_full refl)
memory_alone Memory not_full = refl
