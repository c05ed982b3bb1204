-- The table of the tags that have words. A tag's word is its place in a list without repeats.
use Rattle.std.specs.Prelude.{◌≡◌, ℕ, ◌<◌, ◌≤◌, ◌^◌, ◌++◌, Bool, List, [], length, slice_get, take}
use Rattle.engine_trait.specs.Accounts.{with_tag}

-- the tags in the order of their words, and how many there may be
pub record TableState (T : Type 0) : Type 0 where
  pub tags : List T
  pub limit : ℕ

module _ {T : Type 0} where
  -- no tag stands at two places
  abbrev pub HasNoRepeats : List T → Type 0
  HasNoRepeats tags = (i j : ℕ) → i < length tags → slice_get tags i ≡ slice_get tags j → i ≡ j

  -- the new tags begin with the old ones, so that no word changes its tag
  abbrev pub Extends : List T → List T → Type 0
  Extends old new = (more : List T) × (new ≡ old ++ more)

  -- what holds of every table
  pub record IsTable (table : TableState T) : Type 0 where
    pub distinct : HasNoRepeats table.tags
    pub within : length table.tags ≤ table.limit
    pub some : 1 ≤ table.limit
    pub small : table.limit < 2 ^ 32

  abbrev pub empty_table : ℕ → TableState T
  empty_table limit = record { tags = []; limit = limit }

  -- the table with a tag, which goes to the end where it is new
  abbrev pub table_after : (T → T → Bool) → TableState T → T → TableState T
  table_after eq table tag = record table { tags = with_tag eq table.tags tag }

  -- the table with its first tags alone
  abbrev pub cut_to : TableState T → ℕ → TableState T
  cut_to table count = record table { tags = take count table.tags }
