-- Tables of tags that stand for those of another table: where a tag stands, and how the table grows.
use Rattle.std.proofs.Common.{◌≡◌, ℕ, zero, suc, ◌<◌, ◌≤◌, Bool, true, false, List, [], ◌∷◌, ◌++◌, Option, Some, None, map, slice_get, refl, sym, ap, subst, ◌∙◌, true≢false}
use Rattle.std.specs.Cmp.{IsEquivalence}
use Rattle.std.specs.List.{Contains, list_any}
use Rattle.std.specs.Prelude.{option_map}
use Rattle.std.proofs.lemmas.List.{length-map, map-append, map_push, take-map}
use Rattle.std.proofs.lemmas.Map.Views.{Contains-from_any, list_any-from_Contains}
use Rattle.std.proofs.lemmas.Option.{none-some, same_Some, slice_get-map, slice_get_within}
use Rattle.pump_words.specs.Same.{TellsApart}
use Rattle.engine_trait.specs.Accounts.{with_tag}
use Rattle.tag_intern.specs.Table.{Extends, HasNoRepeats, IsTable, TableState, cut_to, table_after}
use Rattle.tag_intern.specs.Words.{tag_at}
use Rattle.tag_intern.proofs.TableLemmas.{with_known, with_word}
use Rattle.tag_pairs.specs.Mapped.{mapped}
use Rattle.tag_pairs.proofs.TableLemmas.{contained_at, place_of, pushed_new, some_at}

module _ {A B : Type 0} (image : A → B) (preimage : B → A) (apart : (tag : A) → preimage (image tag) ≡ tag) where
  -- ---- where a tag stands

  module _ (tags : List A) (tag : A) (whole : B) (is : image tag ≡ whole) where
    pub image_there : (word : ℕ) → slice_get tags word ≡ Some tag → slice_get (map image tags) word ≡ Some whole
    image_there word there = slice_get-map image tags word ∙ ap (option_map image) there ∙ ap Some is

    pub tag_there : (word : ℕ) → slice_get (map image tags) word ≡ Some whole → slice_get tags word ≡ Some tag
    tag_there word there = by (slice_get tags word) (sym (slice_get-map image tags word) ∙ there)
      where
        by : (found : Option A) → option_map image found ≡ Some whole → found ≡ Some tag
        by None none = absurd (none-some whole none)
        by (Some other) some =
            let same = same_Some (image other) whole some ∙ sym is in
            ap Some (sym (apart other) ∙ ap preimage same ∙ apart tag)

    pub image_contained : Contains tags tag → Contains (map image tags) whole
    image_contained there = let at = place_of tags tag there in contained_at (map image tags) whole at.0 (image_there at.0 at.1)

    pub tag_contained : Contains (map image tags) whole → Contains tags tag
    tag_contained there = let at = place_of (map image tags) whole there in contained_at tags tag at.0 (tag_there at.0 at.1)

    -- ---- the tag comes

    pub with_tag-mapped : (eq : A → A → Bool) → IsEquivalence eq → TellsApart eq → (image_eq : B → B → Bool) → IsEquivalence image_eq → TellsApart image_eq
        → map image (with_tag eq tags tag) ≡ with_tag image_eq (map image tags) whole
    with_tag-mapped eq laws exact image_eq image_laws image_exact = by (list_any (eq tag) tags) refl
      where
        by : (found : Bool) → list_any (eq tag) tags ≡ found → map image (with_tag eq tags tag) ≡ with_tag image_eq (map image tags) whole
        by true known =
            let at = place_of tags tag (Contains-from_any exact tag tags known) in
            ap (map image) (with_known eq laws tags tag known) ∙ sym (with_word image_eq image_laws (map image tags) whole at.0 (image_there at.0 at.1))
        by false new =
            let absent = λ (there : Contains tags tag). true≢false (sym (list_any-from_Contains laws tag tags there) ∙ new) in
            ap (map image) (pushed_new eq exact tags tag absent) ∙ map_push image tags tag ∙ ap (λ (last : B). map image tags ++ last ∷ []) is
            ∙ sym (pushed_new image_eq image_exact (map image tags) whole (λ there. absent (tag_contained there)))

  -- ---- a table

  distinct_images : (tags : List A) → HasNoRepeats tags → HasNoRepeats (map image tags)
  distinct_images tags distinct i j below same =
      let at = some_at tags i (subst (λ (n : ℕ). i < n) (length-map tags image) below) in
      let there = sym same ∙ image_there tags at.0 (image at.0) refl i at.1 in
      distinct i j (slice_get_within tags i at.0 at.1) (at.1 ∙ sym (tag_there tags at.0 (image at.0) refl j there))

  pub mapped_table : (table : TableState A) → IsTable table → IsTable (mapped image table)
  mapped_table table is = record {
    distinct = distinct_images table.tags is.distinct;
    within = subst (λ (n : ℕ). n ≤ table.limit) (sym (length-map table.tags image)) is.within;
    some = is.some;
    small = is.small;
  }

module _ {A B : Type 0} (image : A → B) where
  -- what a word is read as
  pub tag_at-mapped : (tags : List A) (other : A) (whole : B) → image other ≡ whole → (word : ℕ) → tag_at whole (map image tags) word ≡ image (tag_at other tags word)
  tag_at-mapped [] other whole is word = sym is
  tag_at-mapped (tag ∷ tags) other whole is zero = refl
  tag_at-mapped (tag ∷ tags) other whole is (suc word) = tag_at-mapped tags other whole is word

  pub table_after-mapped : (old new : TableState A) (eq : A → A → Bool) (tag : A) (image_eq : B → B → Bool) (whole : B)
      → map image (with_tag eq old.tags tag) ≡ with_tag image_eq (map image old.tags) whole → new ≡ table_after eq old tag
      → mapped image new ≡ table_after image_eq (mapped image old) whole
  table_after-mapped old new eq tag image_eq whole same grown =
      ap (mapped image) grown ∙ ap (λ (tags : List B). record { tags = tags; limit = old.limit }) same

  pub extends-mapped : (old new : List A) → Extends old new → Extends (map image old) (map image new)
  extends-mapped old new grows = (map image grows.0, ap (map image) grows.1 ∙ map-append image old grows.0)

  pub cut-mapped : (table : TableState A) (n : ℕ) → mapped image (cut_to table n) ≡ cut_to (mapped image table) n
  cut-mapped table n = ap (λ (tags : List B). record { tags = tags; limit = table.limit }) (sym (take-map image n table.tags))
