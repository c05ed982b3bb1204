-- Tables of tags: what stands where, and what they are after a cut and after a tag that is new.
use Rattle.std.proofs.Common.{◌≡◌, ℕ, zero, suc, ◌<◌, ◌≤◌, Bool, true, false, ◌⊎◌, inl, inr, List, [], ◌∷◌, ◌++◌, Option, Some, None, if◌then◌else◌, length, slice_get, take, drop, refl, sym, ap, subst, ◌∙◌, arith, true≢false}
use Rattle.std.specs.Prelude.{IsNone}
use Rattle.std.specs.List.{Contains, list_any}
use Rattle.std.proofs.lemmas.Bool.{cases_lt}
use Rattle.std.proofs.lemmas.List.{length-take, length_push, take-append-drop}
use Rattle.std.proofs.lemmas.Map.Views.{Contains-from_any}
use Rattle.std.proofs.lemmas.Option.{get_or_from_slice_get, none-some, slice_get-get_or, slice_get_within}
use Rattle.pump_words.specs.Same.{TellsApart}
use Rattle.engine_trait.specs.Accounts.{with_tag}
use Rattle.tag_intern.specs.Table.{HasNoRepeats, IsTable, TableState, cut_to}
use Rattle.tag_intern.proofs.TableLemmas.{same_words, slice_get-last, taken_distinct}

module _ {T : Type 0} where
  -- ---- what stands where

  pub some_at : (tags : List T) (word : ℕ) → word < length tags → (tag : T) × (slice_get tags word ≡ Some tag)
  some_at [] word below = absurd (omega arith)
  some_at (tag ∷ tags) zero below = (tag, refl)
  some_at (tag ∷ tags) (suc word) below = some_at tags word (omega arith)

  pub contained_at : (tags : List T) (tag : T) (word : ℕ) → slice_get tags word ≡ Some tag → Contains tags tag
  contained_at tags tag word there = (word, slice_get_within tags word tag there, get_or_from_slice_get tags word tag tag there)

  pub place_of : (tags : List T) (tag : T) → Contains tags tag → (word : ℕ) × (slice_get tags word ≡ Some tag)
  place_of tags tag there = (there.0, slice_get-get_or tags there.0 tag there.1 ∙ ap Some there.2)

  -- a search that tells places exactly finds none where there is none
  pub none_exactly : (found : Option ℕ) (tags : List T) (tag : T)
      → ((word : ℕ) → (found ≡ Some word → slice_get tags word ≡ Some tag) × (slice_get tags word ≡ Some tag → found ≡ Some word))
      → (IsNone found → Contains tags tag → ⊥) × ((Contains tags tag → ⊥) → IsNone found)
  none_exactly None tags tag exact = (
    λ _ there. let place = place_of tags tag there in none-some place.0 ((exact place.0).1 place.1),
    λ _. refl,
  )
  none_exactly (Some word) tags tag exact = (
    λ none there. true≢false none,
    λ absent. absurd (absent (contained_at tags tag word ((exact word).0 refl))),
  )

  -- a word of the first tags keeps its tag
  pub slice_get-taken : (count : ℕ) (tags : List T) (word : ℕ) → word < length (take count tags) → slice_get (take count tags) word ≡ slice_get tags word
  slice_get-taken count tags word below = sym (same_words (take count tags) tags (drop count tags, sym (take-append-drop count tags)) word below)

  -- ---- a table after a cut

  pub cut_table : (table : TableState T) (count : ℕ) → IsTable table → IsTable (cut_to table count)
  cut_table table count is =
      let size = length-take count table.tags in
      let within = is.within in
      record {
        distinct = taken_distinct count table.tags is.distinct;
        within = omega (arith, size, within);
        some = is.some;
        small = is.small;
      }

  -- ---- a table after a tag that is new

  -- a tag that comes and that was nowhere stands at the end
  pub pushed_by : (eq : T → T → Bool) (tags : List T) (tag : T) (word : ℕ) → (Contains tags tag → ⊥) → slice_get (with_tag eq tags tag) word ≡ Some tag
      → with_tag eq tags tag ≡ tags ++ tag ∷ []
  pushed_by eq tags tag word absent = by (list_any (eq tag) tags) refl
    where
      by : (found : Bool) → list_any (eq tag) tags ≡ found → slice_get (with_tag eq tags tag) word ≡ Some tag → with_tag eq tags tag ≡ tags ++ tag ∷ []
      by false new has = ap (λ b. if b then tags else tags ++ tag ∷ []) new
      by true known has =
          absurd (absent (contained_at tags tag word (subst (λ (b : Bool). slice_get (if b then tags else tags ++ tag ∷ []) word ≡ Some tag) known has)))

  -- the same where the test tells tags apart
  pub pushed_new : (eq : T → T → Bool) → TellsApart eq → (tags : List T) (tag : T) → (Contains tags tag → ⊥) → with_tag eq tags tag ≡ tags ++ tag ∷ []
  pushed_new eq exact tags tag absent = by (list_any (eq tag) tags) refl
    where
      by : (found : Bool) → list_any (eq tag) tags ≡ found → with_tag eq tags tag ≡ tags ++ tag ∷ []
      by false new = ap (λ b. if b then tags else tags ++ tag ∷ []) new
      by true known = absurd (absent (Contains-from_any exact tag tags known))

  module _ (tags : List T) (tag : T) (distinct : HasNoRepeats tags) (absent : Contains tags tag → ⊥) where
    -- what stands at an old word, and what at the new one
    old_word : (word : ℕ) → word < length tags → slice_get (tags ++ tag ∷ []) word ≡ slice_get tags word
    old_word = same_words tags (tags ++ tag ∷ []) (tag ∷ [], refl)

    new_apart : (old new : ℕ) → old < length tags → new ≡ length tags → slice_get (tags ++ tag ∷ []) old ≡ slice_get (tags ++ tag ∷ []) new → ⊥
    new_apart old new below is same =
        absent (contained_at tags tag old (sym (old_word old below) ∙ same ∙ ap (slice_get (tags ++ tag ∷ [])) is ∙ slice_get-last tags tag))

    pub distinct_push : HasNoRepeats (tags ++ tag ∷ [])
    distinct_push i j below same =
        let size = length_push tags tag in
        let there = some_at (tags ++ tag ∷ []) i below in
        let within = slice_get_within (tags ++ tag ∷ []) j there.0 (sym same ∙ there.1) in
        by (cases_lt i (length tags)) (cases_lt j (length tags)) (omega (arith, size, below)) (omega (arith, size, within))
      where
        by : (i < length tags) ⊎ (length tags ≤ i) → (j < length tags) ⊎ (length tags ≤ j) → i ≤ length tags → j ≤ length tags → i ≡ j
        by (inl a) (inl b) m n = distinct i j a (sym (old_word i a) ∙ same ∙ old_word j b)
        by (inl a) (inr b) m n = absurd (new_apart i j a (omega arith) same)
        by (inr a) (inl b) m n = absurd (new_apart j i b (omega arith) (sym same))
        by (inr a) (inr b) m n = omega arith

    pub push_table : (limit : ℕ) → IsTable (record { tags = tags; limit = limit }) → length tags < limit → IsTable (record { tags = tags ++ tag ∷ []; limit = limit })
    push_table limit is room =
        let size = length_push tags tag in
        record {
          distinct = distinct_push;
          within = omega (arith, size, room);
          some = is.some;
          small = is.small;
        }
