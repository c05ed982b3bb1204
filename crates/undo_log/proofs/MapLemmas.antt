-- A change of each tag that records hold goes through what is done with them.
use Rattle.std.proofs.Common.{◌≡◌, ◌∙◌, ◌-◌, ℕ, List, [], ◌∷◌, ◌++◌, drop, flat_map, length, map, option_map, take, Option, Some, None, slice_get, ap, refl, sym}
use Rattle.std.proofs.lemmas.List.{drop-map, length-map, map-append, take-map}
use Rattle.std.proofs.lemmas.Option.{slice_get-map}
use Rattle.std.proofs.lemmas.Simd.{map-map}
use Rattle.circular_buffer.specs.Buffer.{keep_last}
use Rattle.undo_log.specs.Past.{Past, Record, newest, older, past_by, past_of, past_tags, pushed, record_tags, record_with, replaced_by, replaced_tags, some_replaced_by}
use Rattle.undo_log.specs.declared.record.Replaced.{Replaced}

-- ---- two changes of each tag in a row are one

module _ {A B C : Type 0} (f : A → B) (g : B → C) where
  some_replaced_on : (old : Option (Replaced A)) → some_replaced_by g (some_replaced_by f old) ≡ some_replaced_by (λ tag. g (f tag)) old
  some_replaced_on None = refl
  some_replaced_on (Some old) = refl

  pub record_with_record_with : {U : Type 0} (made : Record A U) → record_with g (record_with f made) ≡ record_with (λ tag. g (f tag)) made
  record_with_record_with made = λ i. record {
    hart = made.hart;
    pc = made.pc;
    pc_tag = g (f made.pc_tag);
    reg = some_replaced_on made.reg i;
    word = some_replaced_on made.word i;
    range = map-map (replaced_by g) (replaced_by f) made.range i;
    plan = made.plan;
    fed = made.fed;
  }

  pub past_by_past_by : {U : Type 0} (past : Past A U) → past_by g (past_by f past) ≡ past_by (λ tag. g (f tag)) past
  past_by_past_by past =
      ap (λ kept. past_of kept past.most)
      (map-map (record_with g) (record_with f) past.kept ∙ (λ i. map (λ made. record_with_record_with made i) past.kept))

-- ---- the tags that changed records hold

module _ {T V : Type 0} (f : T → V) where
  replaced_tags_by : (old : Option (Replaced T)) → replaced_tags (some_replaced_by f old) ≡ map f (replaced_tags old)
  replaced_tags_by None = refl
  replaced_tags_by (Some old) = refl

  range_tags_by : (range : List (Replaced T)) → map (λ (old : Replaced V). old.tag) (map (replaced_by f) range) ≡ map f (map (λ (old : Replaced T). old.tag) range)
  range_tags_by range =
      map-map (λ (old : Replaced V). old.tag) (replaced_by f) range ∙ sym (map-map f (λ (old : Replaced T). old.tag) range)

module _ {T V U : Type 0} (f : T → V) where
  pub record_tags_by : (made : Record T U) → record_tags (record_with f made) ≡ map f (record_tags made)
  record_tags_by made =
      let tags = map (λ (old : Replaced T). old.tag) made.range in
      let front = made.pc_tag ∷ replaced_tags made.reg in
      (λ i. f made.pc_tag ∷ replaced_tags_by f made.reg i ++ replaced_tags_by f made.word i ++ range_tags_by f made.range i)
      ∙ ap (λ places. places ++ map f tags) (sym (map-append f front (replaced_tags made.word)))
      ∙ sym (map-append f (front ++ replaced_tags made.word) tags)

  kept_tags_by : (kept : List (Record T U)) → flat_map record_tags (map (record_with f) kept) ≡ map f (flat_map record_tags kept)
  kept_tags_by [] = refl
  kept_tags_by (made ∷ kept) =
      (λ i. record_tags_by made i ++ kept_tags_by kept i) ∙ sym (map-append f (record_tags made) (flat_map record_tags kept))

  pub past_tags_by : (past : Past T U) → past_tags (past_by f past) ≡ map f (past_tags past)
  past_tags_by past = kept_tags_by past.kept

-- ---- what is done with changed records

module _ {T V U : Type 0} (f : T → V) where
  keep_last_by : (n : ℕ) (kept : List (Record T U)) → keep_last n (map (record_with f) kept) ≡ map (record_with f) (keep_last n kept)
  keep_last_by n kept =
      ap (λ size. drop (size - n) (map (record_with f) kept)) (length-map kept (record_with f))
      ∙ drop-map (record_with f) (length kept - n) kept

  pub pushed_by : (past : Past T U) (made : Record T U) → pushed (past_by f past) (record_with f made) ≡ past_by f (pushed past made)
  pushed_by past made =
      ap (λ kept. past_of kept past.most)
      (ap (keep_last past.most) (sym (map-append (record_with f) past.kept (made ∷ []))) ∙ keep_last_by past.most (past.kept ++ made ∷ []))

  pub newest_by : (past : Past T U) → newest (past_by f past) ≡ option_map (record_with f) (newest past)
  newest_by past =
      ap (λ size. slice_get (map (record_with f) past.kept) (size - 1)) (length-map past.kept (record_with f))
      ∙ slice_get-map (record_with f) past.kept (length past.kept - 1)

  pub newest_some_by : (past : Past T U) (made : Record T U) → newest past ≡ Some made → newest (past_by f past) ≡ Some (record_with f made)
  newest_some_by past made last = newest_by past ∙ ap (option_map (record_with f)) last

  pub newest_none_by : (past : Past T U) → newest past ≡ None → newest (past_by f past) ≡ None
  newest_none_by past none = newest_by past ∙ ap (option_map (record_with f)) none

  pub older_by : (past : Past T U) → older (past_by f past) ≡ past_by f (older past)
  older_by past =
      ap (λ kept. past_of kept past.most)
      (ap (λ size. take (size - 1) (map (record_with f) past.kept)) (length-map past.kept (record_with f))
      ∙ take-map (record_with f) (length past.kept - 1) past.kept)
