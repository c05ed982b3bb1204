-- What is written in words: how it goes on as tags come, and what it stands for.
use Rattle.std.proofs.Common.{◌≡◌, ℕ, ◌+◌, ◌<◌, ◌≤◌, Bool, List, [], ◌∷◌, ◌++◌, drop, get_or, length, take, Option, Some, None, Result, Err, option_map, slice_get, refl, sym, ap, subst, ◌∙◌, arith}
use Rattle.std.specs.Cmp.{IsEquivalence}
use Rattle.std.specs.List.{All}
use Rattle.std.proofs.lemmas.List.{length-append, length-map, take-append-drop, take-append-le}
use Rattle.std.proofs.lemmas.List.Elements.{All-cons, All-head, All-nil, All-tail}
use Rattle.std.proofs.lemmas.Option.{get_or_from_slice_get, same_Some, slice_get_within}
use Rattle.shared_terms.proofs.ListLemmas.{take_next}
use Rattle.policy_trait.specs.Maps.{answer_by}
use Rattle.policy_trait.specs.declared.services.Answer.{Answer}
use Rattle.engine_trait.specs.Accounts.{with_tag, with_tags}
use Rattle.engine_trait.specs.Maps.{words_by}
use Rattle.tag_intern.specs.Table.{Extends}
use Rattle.tag_intern.specs.Words.{tag_at}
use Rattle.tag_intern.specs.declared.table.InternEnd.{InternEnd}
use Rattle.tag_intern.specs.declared.table.InternEnd.TheVariants as intern_end
use Rattle.tag_intern.proofs.ComingLemmas.{all_read, read_more, tag_came, tag_over, with_tags-append}
use Rattle.tag_intern.proofs.TableLemmas.{extends_with_tags, grown_word, longer}
use Rattle.word_service.specs.Written.{AnswerStandsFor, IsAnswerBelow, IsWordBelow, StandFor, tags_of}

-- ---- an error that is passed on

abbrev failed : {A E : Type 0} → E → Result A E
failed end = Err end

-- memory that ran out does not mean that tag numbers did
pub not_full : {A : Type 0} (end : InternEnd) → failed {A = A} end ≡ failed intern_end.Memory → failed {A = A} end ≡ failed intern_end.Full → ⊥
not_full end memory full = cc

-- ---- the tags that come

module _ {T : Type 0} (eq : T → T → Bool) (laws : IsEquivalence eq) (limit : ℕ) (seen : List T) where
  -- where there is room for tags, there is for the first of them
  pub first_fits : (tags : List T) → length (with_tags eq seen tags) ≤ limit → length (with_tags eq seen (take 1 tags)) ≤ limit
  first_fits tags fits =
      let n = longer (with_tags eq seen (take 1 tags)) _ (extends_with_tags eq laws (with_tags eq seen (take 1 tags)) (drop 1 tags)) in
      let all = sym (with_tags-append eq seen (take 1 tags) (drop 1 tags)) ∙ ap (with_tags eq seen) (take-append-drop 1 tags) in
      let more = subst (λ grown. length (with_tags eq seen (take 1 tags)) ≤ length grown) all n in
      omega (arith, more, fits)

-- the first tag of a range with words is the first of all
module _ {T : Type 0} where
  pub first_of : (words : List (ℕ × ℕ × T)) (more : List T) → 1 ≤ length words → take 1 (tags_of words ++ more) ≡ take 1 (tags_of words)
  first_of words more some =
      let n = length-map words (λ (word : ℕ × ℕ × T). word.2) in
      take-append-le 1 (tags_of words) more (omega (arith, n, some))

-- the tag of the next word of a range comes
module _ {T : Type 0} (words : List (ℕ × ℕ × T)) (k : ℕ) (item : ℕ × ℕ × T) (lt : k < length words) (is : item ≡ get_or words k item) where
  abbrev tag_in : ℕ × ℕ × T → T
  tag_in word = word.2

  tag_is : item.2 ≡ tag_in (get_or words k item)
  tag_is = ap tag_in is

  abbrev read : List T
  read = tags_of (take (k + 1) words)

  first_read : take 1 (tags_of words) ≡ take 1 read
  first_read =
      let n = ap length (read_more tag_in words k item lt) ∙ length-append (tags_of (take k words)) (tag_in (get_or words k item) ∷ []) in
      ap (take 1) (sym (all_read tag_in words k item lt)) ∙ take-append-le 1 read (tags_of (drop (k + 1) words)) (omega (arith, n))

  module _ (eq : T → T → Bool) (seen now : List T) (known : now ≡ with_tags eq seen (tags_of (take k words))) where
    pub word_came : (grown : List T) → grown ≡ with_tag eq now item.2 → grown ≡ with_tags eq seen read
    word_came = tag_came tag_in words k item lt eq seen now known item.2 tag_is

    pub word_over : IsEquivalence eq → (limit : ℕ) → limit < length (with_tag eq now item.2) → limit < length (with_tags eq seen (tags_of words))
    word_over = tag_over tag_in words k item lt eq seen now known item.2 tag_is

    pub word_fits : IsEquivalence eq → (limit : ℕ) → (limit < length (with_tag eq now item.2) → ⊥) → length (with_tags eq seen (take 1 (tags_of words))) ≤ limit
    word_fits laws limit room =
        let fits : length (with_tag eq now item.2) ≤ limit = omega (arith, room) in
        subst (λ tags. length (with_tags eq seen tags) ≤ limit) (sym first_read)
        (first_fits eq laws limit seen read (subst (λ tags. length tags ≤ limit) (word_came (with_tag eq now item.2) refl) fits))

-- ---- a range

same_head : {A : Type 0} (x y : A) (xs ys : List A) → x ∷ xs ≡ y ∷ ys → x ≡ y
same_head x y xs ys e = cc

same_tail : {A : Type 0} (x y : A) (xs ys : List A) → x ∷ xs ≡ y ∷ ys → xs ≡ ys
same_tail x y xs ys e = cc

module _ {T : Type 0} where
  -- a word of it, and what stands there
  record IsFor (tags : List T) (written : ℕ × ℕ × ℕ) (item : ℕ × ℕ × T) : Type 0 where
    address : written.0 ≡ item.0
    value : written.1 ≡ item.1
    tag : slice_get tags written.2 ≡ Some item.2

  module _ (tags : List T) (w : ℕ × ℕ × ℕ) (x : ℕ × ℕ × T) (written : List (ℕ × ℕ × ℕ)) (words : List (ℕ × ℕ × T)) (stand : StandFor tags (w ∷ written) (x ∷ words)) where
    first : IsFor tags w x
    first =
        let e = same_head (w.0, w.1, slice_get tags w.2) (x.0, x.1, Some x.2) (words_by (slice_get tags) written) (words_by Some words) stand in
        record {
          address = ap (λ (p : ℕ × ℕ × Option T). p.0) e;
          value = ap (λ (p : ℕ × ℕ × Option T). p.1) e;
          tag = ap (λ (p : ℕ × ℕ × Option T). p.2) e;
        }

    rest : StandFor tags written words
    rest = same_tail (w.0, w.1, slice_get tags w.2) (x.0, x.1, Some x.2) (words_by (slice_get tags) written) (words_by Some words) stand

  -- words keep what they stand for
  pub stand_on : (a b : List T) → Extends a b → (written : List (ℕ × ℕ × ℕ)) (words : List (ℕ × ℕ × T)) → StandFor a written words → StandFor b written words
  stand_on a b grows [] [] stand = refl
  stand_on a b grows [] (x ∷ words) stand = absurd cc
  stand_on a b grows (w ∷ written) [] stand = absurd cc
  stand_on a b grows (w ∷ written) (x ∷ words) stand =
      let is = first a w x written words stand in
      let more = stand_on a b grows written words (rest a w x written words stand) in
      λ j. (is.address j, is.value j, grown_word a b grows w.2 x.2 is.tag j) ∷ more j

  words_by-append : {U : Type 0} (f : T → U) (words more : List (ℕ × ℕ × T)) → words_by f (words ++ more) ≡ words_by f words ++ words_by f more
  words_by-append f [] more = refl
  words_by-append f (word ∷ words) more = ap (λ rest. (word.0, word.1, f word.2) ∷ rest) (words_by-append f words more)

  -- a range is as its words are read
  pub decoded : (plain : T) (tags : List T) (written : List (ℕ × ℕ × ℕ)) (words : List (ℕ × ℕ × T)) → StandFor tags written words → words_by (tag_at plain tags) written ≡ words
  decoded plain tags [] [] stand = refl
  decoded plain tags [] (x ∷ words) stand = absurd cc
  decoded plain tags (w ∷ written) [] stand = absurd cc
  decoded plain tags (w ∷ written) (x ∷ words) stand =
      let is = first tags w x written words stand in
      let more = decoded plain tags written words (rest tags w x written words stand) in
      λ j. (is.address j, is.value j, get_or_from_slice_get tags w.2 x.2 plain is.tag j) ∷ more j

  pub below : (tags : List T) (written : List (ℕ × ℕ × ℕ)) (words : List (ℕ × ℕ × T)) → StandFor tags written words → All (IsWordBelow (length tags)) written
  below tags [] words stand = All-nil (IsWordBelow (length tags))
  below tags (w ∷ written) [] stand = absurd cc
  below tags (w ∷ written) (x ∷ words) stand =
      All-cons (IsWordBelow (length tags)) w written (slice_get_within tags w.2 x.2 (first tags w x written words stand).tag)
      (below tags written words (rest tags w x written words stand))

  -- what holds of each address that a service writes holds of each that is written
  pub placed : (P : ℕ → Type 0) (tags : List T) (written : List (ℕ × ℕ × ℕ)) (words : List (ℕ × ℕ × T)) → StandFor tags written words
      → All (λ (word : ℕ × ℕ × T). P word.0) words → All (λ (word : ℕ × ℕ × ℕ). P word.0) written
  placed P tags [] words stand all = All-nil (λ (word : ℕ × ℕ × ℕ). P word.0)
  placed P tags (w ∷ written) [] stand all = absurd cc
  placed P tags (w ∷ written) (x ∷ words) stand all =
      All-cons (λ (word : ℕ × ℕ × ℕ). P word.0) w written
      (subst P (sym (first tags w x written words stand).address) (All-head (λ (word : ℕ × ℕ × T). P word.0) x words all))
      (placed P tags written words (rest tags w x written words stand) (All-tail (λ (word : ℕ × ℕ × T). P word.0) x words all))

-- the next word of a range is written
module _ {T : Type 0} (tags : List T) (written more : List (ℕ × ℕ × ℕ)) (words : List (ℕ × ℕ × T)) (k : ℕ) (item : ℕ × ℕ × T) (word : ℕ) where
  pub word_written : k < length words → item ≡ get_or words k item → slice_get tags word ≡ Some item.2 → more ≡ written ++ (item.0, item.1, word) ∷ []
      → StandFor tags written (take k words) → StandFor tags more (take (k + 1) words)
  word_written lt is tag pushed stand =
      ap (words_by (slice_get tags)) pushed
      ∙ words_by-append (slice_get tags) written ((item.0, item.1, word) ∷ [])
      ∙ (λ j. stand j ++ (item.0, item.1, tag j) ∷ [])
      ∙ sym (words_by-append Some (take k words) (item ∷ []))
      ∙ ap (λ next. words_by Some (take k words ++ next ∷ [])) is
      ∙ ap (words_by Some) (sym (take_next words k item lt))

-- ---- an answer

module _ {T : Type 0} (tags : List T) where
  same_answer : (w : Answer ℕ) (x : Answer T) → AnswerStandsFor tags (Some w) (Some x) → answer_by (slice_get tags) w ≡ answer_by Some x
  same_answer w x stands = same_Some (answer_by (slice_get tags) w) (answer_by Some x) stands

  answer_tag : (w : Answer ℕ) (x : Answer T) → AnswerStandsFor tags (Some w) (Some x) → slice_get tags w.tag ≡ Some x.tag
  answer_tag w x stands = ap (λ (answer : Answer (Option T)). answer.tag) (same_answer w x stands)

  -- an answer is as its word is read
  pub answer_decoded : (plain : T) (written : Option (Answer ℕ)) (answer : Option (Answer T)) → AnswerStandsFor tags written answer
      → option_map (answer_by (tag_at plain tags)) written ≡ answer
  answer_decoded plain None None stands = refl
  answer_decoded plain None (Some x) stands = absurd cc
  answer_decoded plain (Some w) None stands = absurd cc
  answer_decoded plain (Some w) (Some x) stands =
      let same = same_answer w x stands in
      let tag = get_or_from_slice_get tags w.tag x.tag plain (answer_tag w x stands) in
      λ j. Some (record { value = (same j).value; tag = tag j; rest = (same j).rest })

  pub answer_below : (written : Option (Answer ℕ)) (answer : Option (Answer T)) → AnswerStandsFor tags written answer → IsAnswerBelow (length tags) written
  answer_below None answer stands = tt
  answer_below (Some w) None stands = absurd cc
  answer_below (Some w) (Some x) stands = slice_get_within tags w.tag x.tag (answer_tag w x stands)
