-- A table with the tags of some words alone, and the words that stand for the tags of another table in it.
use Rattle.std.specs.Prelude.{◌≡◌, ℕ, ◌<◌, ◌≤◌, List, [], ◌∷◌, Bool, Contains, Some, length, map, slice_get, slice_index}
use Rattle.engine_trait.specs.Accounts.{with_tags}
use Rattle.tag_intern.specs.Table.{TableState}
use Rattle.tag_intern.specs.Words.{tag_at}

-- under the same limit the plain tag, and then the tags of these words, none twice
abbrev pub remade_table : {T : Type 0} → (T → T → Bool) → TableState T → T → List ℕ → TableState T
remade_table eq table plain live = record table { tags = with_tags eq [] (plain ∷ map (tag_at plain table.tags) live) }

-- the numbers lead from words of the old tags to words of the new ones
pub record Renumbers {T : Type 0} (old new : List T) (numbers : List ℕ) : Type 0 where
  -- there is one for each word of the old tags
  pub size : length numbers ≡ length old
  -- a tag that is among the new ones has this word there
  pub same : (word : ℕ) (tag : T) → slice_get old word ≡ Some tag → Contains new tag → slice_get new (slice_index numbers word) ≡ Some tag
  -- one that is not among them has 0
  pub gone : (word : ℕ) (tag : T) → slice_get old word ≡ Some tag → (Contains new tag → ⊥) → slice_index numbers word ≡ 0
  -- where there is any new tag, each number is the word of one
  pub below : 1 ≤ length new → (word : ℕ) → slice_index numbers word < length new
