-- Words of a table and what they mean, as tags come to the table.
use Rattle.std.proofs.Common.{◌≡◌, ℕ, zero, suc, ◌+◌, ◌-◌, ◌<◌, ◌≤◌, ◌⊎◌, inl, inr, Bool, List, [], ◌∷◌, ◌++◌, get_or, length, map, take, Some, slice_get, slice_index_or, refl, sym, ap, subst, ◌∙◌, arith}
use Rattle.std.specs.Cmp.{IsEquivalence}
use Rattle.std.specs.List.{range_with_len}
use Rattle.std.proofs.lemmas.Bool.{cases_lt}
use Rattle.std.proofs.lemmas.List.{map-append, take_more}
use Rattle.tag_memory.specs.Hart.{HartState, fresh_hart}
use Rattle.tag_memory.specs.Maps.{hart_by}
use Rattle.engine_trait.specs.Accounts.{with_tag, with_tags}
use Rattle.tag_intern.specs.Table.{Extends}
use Rattle.tag_intern.proofs.ComingLemmas.{tags_over, with_tags-append, with_twice}
use Rattle.engine_trait.proofs.MapLemmas.{harts_on}
use Rattle.tag_intern.proofs.TableLemmas.{grown_word}
use Rattle.word_loader.specs.Named.{AreHartsOf, AreWordsOf, Named}

-- ---- a table that grows

module _ {T : Type 0} where
  abbrev pub word_of : {tags : List T} → Named tags → ℕ
  word_of n = n.word

  abbrev pub tag_of : {tags : List T} → Named tags → T
  tag_of n = n.tag

  module _ (a b : List T) (grows : Extends a b) where
    -- a tag keeps its word
    abbrev kept : Named a → Named b
    kept n = record { word = n.word; tag = n.tag; has = grown_word a b grows n.word n.tag n.has }

    pub harts_grow : (means : List (HartState T)) (harts : List (HartState ℕ)) → AreHartsOf a means harts → AreHartsOf b means harts
    harts_grow means harts are = record {
      named = map (hart_by kept) are.named;
      written = are.written ∙ sym (harts_on kept word_of are.named);
      meant = are.meant ∙ sym (harts_on kept tag_of are.named);
    }

  -- ---- one more hart

  -- a hart as it is at the start, with that plain tag
  abbrev pub IsFresh : T → HartState T → Type 0
  IsFresh plain hart = hart ≡ fresh_hart hart.pc hart.pc_tag plain

  module _ (tags : List T) (means : List (HartState T)) (harts : List (HartState ℕ)) (are : AreHartsOf tags means harts)
      (entry word : ℕ) (tag plain : T) (has : slice_get tags word ≡ Some tag) (zero_is : slice_get tags 0 ≡ Some plain) where
    abbrev named_hart : HartState (Named tags)
    named_hart = fresh_hart entry (record { word = word; tag = tag; has = has }) (record { word = 0; tag = plain; has = zero_is })

    pub hart_pushed : AreHartsOf tags (means ++ fresh_hart entry tag plain ∷ []) (harts ++ fresh_hart entry word 0 ∷ [])
    hart_pushed = record {
      named = are.named ++ named_hart ∷ [];
      written = ap (λ all. all ++ fresh_hart entry word 0 ∷ []) are.written ∙ sym (map-append (hart_by word_of) are.named (named_hart ∷ []));
      meant = ap (λ all. all ++ fresh_hart entry tag plain ∷ []) are.meant ∙ sym (map-append (hart_by tag_of) are.named (named_hart ∷ []));
    }

  -- ---- words that are known place by place

  pub words_made : (f : ℕ → T) (tags : List T) (start : ℕ) (words : List ℕ)
      → ((k d : ℕ) → k < length words → slice_get tags (slice_index_or words k d) ≡ Some (f (start + k)))
      → AreWordsOf tags (map f (range_with_len start (length words))) words
  words_made f tags start [] made = record { named = []; written = refl; meant = refl }
  words_made f tags start (word ∷ words) made =
      let rest = words_made f tags (start + 1) words
      (λ k d lt. made (suc k) d (omega (arith, lt)) ∙ (let same : start + suc k ≡ start + 1 + k = omega arith in ap (λ n. Some (f n)) same)) in
      let here : start + 0 ≡ start = omega arith in
      record {
        named = record { word = word; tag = f start; has = made 0 0 (omega arith) ∙ ap (λ n. Some (f n)) here } ∷ rest.named;
        written = ap (λ all. word ∷ all) rest.written;
        meant = ap (λ all. f start ∷ all) rest.meant;
      }

-- ---- the next hart comes

module _ {T : Type 0} (starts : List (HartState T)) (k : ℕ) (lt : k < length starts) (tags : List T) (harts : List (HartState ℕ))
    (are : AreHartsOf tags (take k starts) harts) where
  pub hart_came : (start : HartState T) (plain : T) → start ≡ get_or starts k start → IsFresh plain start
      → (word : ℕ) → slice_get tags word ≡ Some start.pc_tag → slice_get tags 0 ≡ Some plain
      → (hart : HartState ℕ) → hart ≡ fresh_hart start.pc word 0 → (pushed : List (HartState ℕ)) → pushed ≡ harts ++ hart ∷ []
      → AreHartsOf tags (take (k + 1) starts) pushed
  hart_came start plain is fresh word has zero_is hart hart_is pushed pushed_is =
      let more = hart_pushed tags (take k starts) harts are start.pc word start.pc_tag plain has zero_is in
      record {
        named = more.named;
        written = pushed_is ∙ ap (λ (h : HartState ℕ). harts ++ h ∷ []) hart_is ∙ more.written;
        meant = take_more starts k start lt ∙ ap (λ (h : HartState T). take k starts ++ h ∷ []) (sym is ∙ fresh) ∙ more.meant;
      }

-- ---- a run of words with one tag

module _ {T : Type 0} (f : ℕ → T) where
  range_append : (start n more past all : ℕ) → start + n ≡ past → n + more ≡ all
      → map f (range_with_len start all) ≡ map f (range_with_len start n) ++ map f (range_with_len past more)
  range_append start zero more past all past_is all_is =
      let from : start ≡ past = omega (arith, past_is) in
      let count : all ≡ more = omega (arith, all_is) in
      λ j. map f (range_with_len (from j) (count j))
  range_append start (suc n) more past all past_is all_is =
      let count : all ≡ suc (n + more) = omega (arith, all_is) in
      ap (λ whole. map f (range_with_len start whole)) count
      ∙ ap (λ tags. f start ∷ tags) (range_append (start + 1) n more past (n + more) (omega (arith, past_is)) refl)

  module _ (eq : T → T → Bool) (tag : T) where
    -- a tag that has a word comes again and again
    again : (seen : List T) → with_tag eq seen tag ≡ seen → (start n : ℕ) → ((k : ℕ) → start ≤ k → k < start + n → f k ≡ tag)
        → with_tags eq seen (map f (range_with_len start n)) ≡ seen
    again seen known start zero same = refl
    again seen known start (suc n) same =
        let rest = map f (range_with_len (start + 1) n) in
        ap (λ next. with_tags eq (with_tag eq seen next) rest) (same start (omega arith) (omega arith)) ∙ ap (λ tags. with_tags eq tags rest) known
        ∙ again seen known (start + 1) n (λ k least most. same k (omega (arith, least)) (omega (arith, most)))

    -- the first of a run gets a word
    run_came : (seen : List T) → with_tag eq (with_tag eq seen tag) tag ≡ with_tag eq seen tag → (start n : ℕ) → 1 ≤ n
        → ((k : ℕ) → start ≤ k → k < start + n → f k ≡ tag) → with_tags eq seen (map f (range_with_len start n)) ≡ with_tag eq seen tag
    run_came seen known start zero some same = absurd (omega (arith, some))
    run_came seen known start (suc n) some same =
        let rest = map f (range_with_len (start + 1) n) in
        ap (λ next. with_tags eq (with_tag eq seen next) rest) (same start (omega arith) (omega arith))
        ∙ again (with_tag eq seen tag) known (start + 1) n (λ k least most. same k (omega (arith, least)) (omega (arith, most)))

  module _ (eq : T → T → Bool) (laws : IsEquivalence eq) (tag : T) (before now : List T) (n end : ℕ) (some : n < end)
      (seen : now ≡ with_tags eq before (map f (range_with_len 0 n))) (same : (k : ℕ) → n ≤ k → k < end → f k ≡ tag) where
    abbrev run : ℕ
    run = end - n

    end_is : n + run ≡ end
    end_is = omega (arith, some)

    run_read : with_tag eq now tag ≡ with_tags eq before (map f (range_with_len 0 end))
    run_read =
        sym (run_came eq tag now (with_twice eq laws now tag) n run (omega (arith, some)) (λ k least most. same k least (omega (arith, most, some))))
        ∙ ap (λ tags. with_tags eq tags (map f (range_with_len n run))) seen
        ∙ sym (with_tags-append eq before (map f (range_with_len 0 n)) (map f (range_with_len n run)))
        ∙ ap (with_tags eq before) (sym (range_append 0 n run n end (omega arith) end_is))

    pub run_seen : (grown : List T) → grown ≡ with_tag eq now tag → grown ≡ with_tags eq before (map f (range_with_len 0 end))
    run_seen grown e = e ∙ run_read

    pub run_over : (limit count : ℕ) → end ≤ count → limit < length (with_tag eq now tag) → limit < length (with_tags eq before (map f (range_with_len 0 count)))
    run_over limit count most over =
        let whole : end + (count - end) ≡ count = omega (arith, most) in
        subst (λ tags. limit < length (with_tags eq before tags))
        (sym (range_append 0 end (count - end) end count (omega arith) whole))
        (tags_over eq laws limit before (map f (range_with_len 0 end)) (map f (range_with_len end (count - end)))
        (subst (λ tags. limit < length tags) run_read over))

-- ---- the tags of the start: the plain one, those of the pcs, and those of memory

module _ {T : Type 0} (eq : T → T → Bool) (plain : T) (pcs tags : List T) (before : List T) (empty : before ≡ []) where
  pub first_plain : (now : List T) → now ≡ with_tag eq before plain → slice_get now 0 ≡ Some plain
  first_plain now e = ap (λ seen. slice_get seen 0) (e ∙ ap (λ seen. with_tag eq seen plain) empty)

  pcs_come : (now : List T) → now ≡ with_tag eq before plain → with_tags eq now pcs ≡ with_tags eq [] (plain ∷ pcs)
  pcs_come now e = ap (λ seen. with_tags eq seen pcs) (e ∙ ap (λ seen. with_tag eq seen plain) empty)

  tags_come : (now next : List T) → now ≡ with_tag eq before plain → next ≡ with_tags eq now pcs → with_tags eq next tags ≡ with_tags eq [] (plain ∷ (pcs ++ tags))
  tags_come now next e f =
      ap (λ seen. with_tags eq seen tags) (f ∙ pcs_come now e) ∙ sym (with_tags-append eq (plain ∷ []) pcs tags)

  pub first_seen : (now next last : List T) → now ≡ with_tag eq before plain → next ≡ with_tags eq now pcs → last ≡ with_tags eq next tags
      → last ≡ with_tags eq [] (plain ∷ (pcs ++ tags))
  first_seen now next last e f h = h ∙ tags_come now next e f

  -- the first of them for which there is no room
  pub plain_over : IsEquivalence eq → (limit : ℕ) → limit < length (with_tag eq before plain) → limit < length (with_tags eq [] (plain ∷ (pcs ++ tags)))
  plain_over laws limit over =
      tags_over eq laws limit [] (plain ∷ []) (pcs ++ tags) (subst (λ seen. limit < length (with_tag eq seen plain)) empty over)

  pub pcs_over : IsEquivalence eq → (limit : ℕ) (now : List T) → now ≡ with_tag eq before plain → limit < length (with_tags eq now pcs)
      → limit < length (with_tags eq [] (plain ∷ (pcs ++ tags)))
  pcs_over laws limit now e over = tags_over eq laws limit [] (plain ∷ pcs) tags (subst (λ seen. limit < length seen) (pcs_come now e) over)

  pub tags_out : (limit : ℕ) (now next : List T) → now ≡ with_tag eq before plain → next ≡ with_tags eq now pcs → limit < length (with_tags eq next tags)
      → limit < length (with_tags eq [] (plain ∷ (pcs ++ tags)))
  tags_out limit now next e f over = subst (λ seen. limit < length seen) (tags_come now next e f) over

-- ---- the words of a run go to the end of those before

module _ {T : Type 0} (f : ℕ → T) (old new : List T) (grows : Extends old new) (words filled : List ℕ) (n end word : ℕ) (tag : T)
    (made : (k d : ℕ) → k < n → slice_get old (slice_index_or words k d) ≡ Some (f k))
    (kept : (k d : ℕ) → k < end → k < length words → slice_index_or filled k d ≡ slice_index_or words k d)
    (more : (k d : ℕ) → length words ≤ k → k < end → slice_index_or filled k d ≡ word)
    (has : slice_get new word ≡ Some tag) (same : (k : ℕ) → n ≤ k → k < end → f k ≡ tag) (size : length words ≡ n) where
  pub run_made : (k d : ℕ) → k < end → slice_get new (slice_index_or filled k d) ≡ Some (f k)
  run_made k d lt = by (cases_lt k n)
    where
      by : (k < n) ⊎ (n ≤ k) → slice_get new (slice_index_or filled k d) ≡ Some (f k)
      by (inl before) =
          ap (slice_get new) (kept k d lt (omega (arith, before, size)))
          ∙ grown_word old new grows (slice_index_or words k d) (f k) (made k d before)
      by (inr after) = ap (slice_get new) (more k d (omega (arith, after, size)) lt) ∙ has ∙ ap (λ t. Some t) (sym (same k after lt))
