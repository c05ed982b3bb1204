-- Words of a table, and the tags that they are the words of.
use Rattle.std.specs.Prelude.{◌≡◌, ℕ, List, Some, map, slice_get}
use Rattle.tag_memory.specs.Hart.{HartState}
use Rattle.tag_memory.specs.Maps.{hart_by}

module _ {T : Type 0} (tags : List T) where
  -- a tag that has a word
  pub record Named : Type 0 where
    pub word : ℕ
    pub tag : T
    pub has : slice_get tags word ≡ Some tag

  -- each word is that of the tag at its place
  pub record AreWordsOf (means : List T) (words : List ℕ) : Type 0 where
    pub named : List Named
    pub written : words ≡ map (λ (n : Named). n.word) named
    pub meant : means ≡ map (λ (n : Named). n.tag) named

  -- so is each of a hart's, of each hart
  pub record AreHartsOf (means : List (HartState T)) (harts : List (HartState ℕ)) : Type 0 where
    pub named : List (HartState Named)
    pub written : harts ≡ map (hart_by (λ (n : Named). n.word)) named
    pub meant : means ≡ map (hart_by (λ (n : Named). n.tag)) named
