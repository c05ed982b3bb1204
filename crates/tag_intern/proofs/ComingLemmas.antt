-- Tags that come to a table one after another.
use Rattle.std.proofs.Common.{◌≡◌, ℕ, suc, ◌+◌, ◌<◌, ◌≤◌, Bool, true, false, List, [], ◌∷◌, ◌++◌, drop, get_or, length, map, take, Result, Ok, Err, Some, slice_get, refl, sym, ap, subst, ◌∙◌, arith}
use Rattle.std.specs.Cmp.{IsEquivalence}
use Rattle.std.specs.List.{list_any}
use Rattle.std.proofs.Math.Seq.{take-suc}
use Rattle.std.proofs.lemmas.List.{map-append, take-append-drop}
use Rattle.engine_trait.specs.Accounts.{with_tag, with_tags}
use Rattle.tag_intern.specs.Table.{TableState, table_after}
use Rattle.tag_intern.specs.declared.table.InternEnd.{InternEnd}
use Rattle.tag_intern.specs.declared.table.InternEnd.TheVariants as intern_end
use Rattle.tag_intern.proofs.TableLemmas.{extends_with_tags, longer, slice_get-last, with_known, with_new, with_word}

module _ {T : Type 0} (eq : T → T → Bool) where
  -- some tags, and then others
  pub with_tags-append : (seen tags more : List T) → with_tags eq seen (tags ++ more) ≡ with_tags eq (with_tags eq seen tags) more
  with_tags-append seen [] more = refl
  with_tags-append seen (tag ∷ tags) more = with_tags-append (with_tag eq seen tag) tags more

  -- tags for which there is no room, before others
  pub tags_over : IsEquivalence eq → (limit : ℕ) (seen tags more : List T) → limit < length (with_tags eq seen tags) → limit < length (with_tags eq seen (tags ++ more))
  tags_over laws limit seen tags more over =
      let n = longer (with_tags eq seen tags) _ (extends_with_tags eq laws (with_tags eq seen tags) more) in
      subst (λ grown. limit < length grown) (sym (with_tags-append seen tags more)) (omega (arith, n, over))

-- a tag that comes twice comes once
module _ {T : Type 0} (eq : T → T → Bool) (laws : IsEquivalence eq) (seen : List T) (tag : T) where
  pub with_twice : with_tag eq (with_tag eq seen tag) tag ≡ with_tag eq seen tag
  with_twice = by (list_any (eq tag) seen) refl
    where
      by : (found : Bool) → list_any (eq tag) seen ≡ found → with_tag eq (with_tag eq seen tag) tag ≡ with_tag eq seen tag
      by true e = ap (λ tags. with_tag eq tags tag) (with_known eq laws seen tag e)
      by false e =
          let pushed = with_new eq laws seen tag e in
          with_word eq laws (with_tag eq seen tag) tag (length seen) (ap (λ tags. slice_get tags (length seen)) pushed ∙ slice_get-last seen tag)

-- a tag that has a word comes
module _ {T : Type 0} (eq : T → T → Bool) (laws : IsEquivalence eq) (table : TableState T) (word : ℕ) (tag : T) (known : slice_get table.tags word ≡ Some tag) where
  pub known_stays : table ≡ table_after eq table tag
  known_stays = λ j. record table { tags = sym (with_word eq laws table.tags tag word known) j }

  pub known_fits : length table.tags ≤ table.limit → table.limit < length (with_tag eq table.tags tag) → ⊥
  known_fits within over =
      let same : length (with_tag eq table.tags tag) ≡ length table.tags = ap length (with_word eq laws table.tags tag word known) in
      omega (arith, same, within, over)

-- the tag of the next item comes
module _ {A T : Type 0} (f : A → T) (items : List A) (k : ℕ) (d : A) (lt : k < length items) where
  pub read_more : map f (take (k + 1) items) ≡ map f (take k items) ++ f (get_or items k d) ∷ []
  read_more =
      ap (λ n. map f (take n items)) (let next : k + 1 ≡ suc k = omega arith in next) ∙ ap (map f) (take-suc items k d lt)
      ∙ map-append f (take k items) (get_or items k d ∷ [])

  pub all_read : map f (take (k + 1) items) ++ map f (drop (k + 1) items) ≡ map f items
  all_read = sym (map-append f (take (k + 1) items) (drop (k + 1) items)) ∙ ap (map f) (take-append-drop (k + 1) items)

  module _ (eq : T → T → Bool) (before now : List T) (seen : now ≡ with_tags eq before (map f (take k items))) (tag : T) (is : tag ≡ f (get_or items k d)) where
    pub tag_came : (grown : List T) → grown ≡ with_tag eq now tag → grown ≡ with_tags eq before (map f (take (k + 1) items))
    tag_came grown e =
        e ∙ (λ j. with_tag eq (seen j) (is j)) ∙ sym (with_tags-append eq before (map f (take k items)) (f (get_or items k d) ∷ []))
        ∙ ap (with_tags eq before) (sym read_more)

    pub tag_over : IsEquivalence eq → (limit : ℕ) → limit < length (with_tag eq now tag) → limit < length (with_tags eq before (map f items))
    tag_over laws limit over =
        subst (λ tags. limit < length (with_tags eq before tags)) all_read
        (tags_over eq laws limit before (map f (take (k + 1) items)) (map f (drop (k + 1) items))
        (subst (λ tags. limit < length tags) (tag_came (with_tag eq now tag) refl) over))

-- ---- an error that is passed on

same_end : {A E : Type 0} (r : Result A E) (given end : E) → r ≡ Err given → r ≡ Err end → given ≡ end
same_end r given end e f = cc

abbrev failed : {A E : Type 0} → E → Result A E
failed end = Err end

pub passed_on : {A B E : Type 0} (r : Result A E) (given told end : E) → r ≡ Err given → given ≡ told → r ≡ Err end → failed {A = B} told ≡ failed end
passed_on r given told end e same f = ap (λ end. failed end) (sym same ∙ same_end r given end e f)

-- ---- an end of a table

abbrev done : {A : Type 0} → A → Result A InternEnd
done x = Ok x

-- what is done is not out of words
pub never_full : {A : Type 0} (x : A) → done x ≡ Err intern_end.Full → ⊥
never_full x full = cc
