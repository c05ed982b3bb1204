-- A table of pairs of tags: a table of tags for each side, and one of pairs of their words.
use Rattle.std.specs.Prelude.{◌≡◌, ℕ, List, Option, Some, None, length, map, slice_get}
use Rattle.std.specs.List.{filter_map}
use Rattle.tag_intern.specs.Table.{IsTable, TableState}
use Rattle.tag_pairs.specs.Order.{ComeInOrder, counted}

-- the words on the left of pairs
abbrev pub left_words : List (ℕ × ℕ) → List ℕ
left_words pairs = map (λ (pair : ℕ × ℕ). pair.0) pairs

-- the words on their right
abbrev pub right_words : List (ℕ × ℕ) → List ℕ
right_words pairs = map (λ (pair : ℕ × ℕ). pair.1) pairs

-- how many words have come on their left: those up to the highest
abbrev pub left_count : List (ℕ × ℕ) → ℕ
left_count pairs = counted 0 (left_words pairs)

abbrev pub right_count : List (ℕ × ℕ) → ℕ
right_count pairs = counted 0 (right_words pairs)

module _ {A B : Type 0} where
  -- two tags as a pair, where both are there
  abbrev pub pair_of : Option A → Option B → Option (A × B)
  pair_of (Some left) (Some right) = Some (left, right)
  pair_of (Some left) None = None
  pair_of None right = None

  -- the tags that a pair of words stands for
  abbrev pub pair_on : List A → List B → ℕ × ℕ → Option (A × B)
  pair_on lefts rights pair = pair_of (slice_get lefts pair.0) (slice_get rights pair.1)

  -- the tags that pairs of words stand for
  abbrev pub pairs_on : List A → List B → List (ℕ × ℕ) → List (A × B)
  pairs_on lefts rights pairs = filter_map (pair_on lefts rights) pairs

  abbrev pub paired : TableState A → TableState B → TableState (ℕ × ℕ) → TableState (A × B)
  paired lefts rights pairs = record { tags = pairs_on lefts.tags rights.tags pairs.tags; limit = pairs.limit }

-- a table of tags is that of one side of pairs: the words there come in order, and are all the words of the table
pub record IsSide {T : Type 0} (words : List ℕ) (limit : ℕ) (side : TableState T) : Type 0 where
  pub table : IsTable side
  pub order : ComeInOrder 0 words
  pub count : counted 0 words ≡ length side.tags
  pub same_limit : side.limit ≡ limit

-- what holds of the three tables at all times: no side has a tag beside those of the pairs
pub record ArePaired {A B : Type 0} (lefts : TableState A) (rights : TableState B) (pairs : TableState (ℕ × ℕ)) : Type 0 where
  pub left : IsSide (left_words pairs.tags) pairs.limit lefts
  pub right : IsSide (right_words pairs.tags) pairs.limit rights
  pub table : IsTable pairs
