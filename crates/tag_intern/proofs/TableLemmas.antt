-- Lists of tags without repeats: what stands at a word, how they grow, and where a tag is found.
use Rattle.std.proofs.Common.{◌≡◌, ℕ, zero, suc, ◌+◌, ◌<◌, ◌≤◌, Bool, true, false, ◌⊎◌, inl, inr, List, [], ◌∷◌, ◌++◌, length, take, drop, Option, Some, None, slice_get, position, is_some, append-nil, true≢false, refl, sym, ap, subst, ◌∙◌, if◌then◌else◌, arith}
use Rattle.std.specs.Cmp.{IsEquivalence}
use Rattle.std.specs.List.{Contains, list_any}
use Rattle.std.proofs.Math.Seq.{take-append_seam}
use Rattle.std.proofs.lemmas.Bool.{cases_lt}
use Rattle.std.proofs.lemmas.List.{append_assoc, length-append, take-append-drop}
use Rattle.std.proofs.lemmas.List.Folds.{list_any_at}
use Rattle.std.proofs.lemmas.List.Quantifiers.{position-Some}
use Rattle.std.proofs.lemmas.Map.Views.{Contains-from_any, list_any-from_Contains}
use Rattle.std.proofs.lemmas.Option.{get_or_from_slice_get, none-some, same_Some, slice_get-get_or, slice_get_within}
use Rattle.pump_words.specs.Same.{TellsApart}
use Rattle.engine_trait.specs.Accounts.{with_tag, with_tags}
use Rattle.tag_intern.specs.Table.{Extends, HasNoRepeats, IsTable}

module _ {T : Type 0} where
  -- ---- what stands at a word of a longer list

  pub slice_get-append : (xs ys : List T) (i : ℕ) → i < length xs → slice_get (xs ++ ys) i ≡ slice_get xs i
  slice_get-append [] ys i h = absurd (omega arith)
  slice_get-append (x ∷ xs) ys zero h = refl
  slice_get-append (x ∷ xs) ys (suc i) h = slice_get-append xs ys i (omega arith)

  pub slice_get-last : (xs : List T) (x : T) → slice_get (xs ++ x ∷ []) (length xs) ≡ Some x
  slice_get-last [] x = refl
  slice_get-last (y ∷ xs) x = slice_get-last xs x

  -- what stands behind a list with one more tag is that tag
  pub at_end : (xs : List T) (x y : T) (i : ℕ) → length xs ≤ i → slice_get (xs ++ x ∷ []) i ≡ Some y → (i ≡ length xs) × (x ≡ y)
  at_end [] x y zero h e = (refl, same_Some x y e)
  at_end [] x y (suc i) h e = absurd (none-some y e)
  at_end (z ∷ xs) x y zero h e = absurd (omega arith)
  at_end (z ∷ xs) x y (suc i) h e = let p = at_end xs x y i (omega arith) e in (ap suc p.0, p.1)

  -- ---- lists that go on

  pub extends_same : (tags : List T) → Extends tags tags
  extends_same tags = ([], sym (append-nil tags))

  pub extends_on : (a b c : List T) → Extends a b → Extends b c → Extends a c
  extends_on a b c p q = (p.0 ++ q.0, q.1 ∙ ap (λ l. l ++ q.0) p.1 ∙ append_assoc a p.0 q.0)

  pub longer : (a b : List T) → Extends a b → length a ≤ length b
  longer a b p = let n : length b ≡ length a + length p.0 = ap length p.1 ∙ length-append a p.0 in omega (arith, n)

  pub same_words : (a b : List T) → Extends a b → (i : ℕ) → i < length a → slice_get b i ≡ slice_get a i
  same_words a b p i h = ap (λ l. slice_get l i) p.1 ∙ slice_get-append a p.0 i h

  -- a tag keeps its word
  pub grown_word : (a b : List T) → Extends a b → (word : ℕ) (tag : T) → slice_get a word ≡ Some tag → slice_get b word ≡ Some tag
  grown_word a b grows word tag has = same_words a b grows word (slice_get_within a word tag has) ∙ has

  pub prefix : (a b : List T) → Extends a b → take (length a) b ≡ a
  prefix a b p = ap (take (length a)) p.1 ∙ take-append_seam a p.0

  -- ---- lists without repeats

  -- the prefix of one is one
  pub prefix_distinct : (a b : List T) → Extends a b → HasNoRepeats b → HasNoRepeats a
  prefix_distinct [] b p d i j h e = absurd (omega arith)
  prefix_distinct (x ∷ xs) b p d i j h e =
      let a = x ∷ xs in
      let at = slice_get-get_or a i x h in
      let within = slice_get_within a j _ (sym e ∙ at) in
      d i j (let n = longer a b p in omega (arith, n, h)) (same_words a b p i h ∙ e ∙ sym (same_words a b p j within))

  pub taken_distinct : (n : ℕ) (tags : List T) → HasNoRepeats tags → HasNoRepeats (take n tags)
  taken_distinct n tags = prefix_distinct (take n tags) tags (drop n tags, sym (take-append-drop n tags))

  -- one with one more tag, which is new
  module _ (tags : List T) (tag : T) (distinct : HasNoRepeats tags) (new : (i : ℕ) → slice_get tags i ≡ Some tag → ⊥) where
    pushed_distinct : HasNoRepeats (tags ++ tag ∷ [])
    pushed_distinct i j h e =
        let all = tags ++ tag ∷ [] in
        let a = slice_get-get_or all i tag h in
        let b = sym e ∙ a in
        by _ a b (cases_lt i (length tags)) (cases_lt j (length tags))
      where
        by : (x : T) → slice_get (tags ++ tag ∷ []) i ≡ Some x → slice_get (tags ++ tag ∷ []) j ≡ Some x
            → (i < length tags) ⊎ (length tags ≤ i) → (j < length tags) ⊎ (length tags ≤ j) → i ≡ j
        by x a b (inl il) (inl jl) =
            distinct i j il (sym (slice_get-append tags (tag ∷ []) i il) ∙ a ∙ sym b ∙ slice_get-append tags (tag ∷ []) j jl)
        by x a b (inl il) (inr jn) =
            absurd (new i (sym (slice_get-append tags (tag ∷ []) i il) ∙ a ∙ ap Some (sym (at_end tags tag x j jn b).1)))
        by x a b (inr ip) (inl jl) =
            absurd (new j (sym (slice_get-append tags (tag ∷ []) j jl) ∙ b ∙ ap Some (sym (at_end tags tag x i ip a).1)))
        by x a b (inr ip) (inr jn) = (at_end tags tag x i ip a).0 ∙ sym (at_end tags tag x j jn b).0

module _ {T : Type 0} (eq : T → T → Bool) (laws : IsEquivalence eq) where
  -- ---- a tag comes

  any_at : (tags : List T) (tag : T) (i : ℕ) → slice_get tags i ≡ Some tag → list_any (eq tag) tags ≡ true
  any_at tags tag i e =
      list_any_at (eq tag) tags i tag (slice_get_within tags i tag e) (ap (eq tag) (get_or_from_slice_get tags i tag tag e) ∙ laws.refl tag)

  -- a tag that is there changes nothing, and a new one goes to the end
  pub with_known : (tags : List T) (tag : T) → list_any (eq tag) tags ≡ true → with_tag eq tags tag ≡ tags
  with_known tags tag e = ap (λ b. if b then tags else tags ++ tag ∷ []) e

  pub with_new : (tags : List T) (tag : T) → list_any (eq tag) tags ≡ false → with_tag eq tags tag ≡ tags ++ tag ∷ []
  with_new tags tag e = ap (λ b. if b then tags else tags ++ tag ∷ []) e

  pub with_word : (tags : List T) (tag : T) (word : ℕ) → slice_get tags word ≡ Some tag → with_tag eq tags tag ≡ tags
  with_word tags tag word e = with_known tags tag (any_at tags tag word e)

  pub extends_with : (tags : List T) (tag : T) → Extends tags (with_tag eq tags tag)
  extends_with tags tag = by (list_any (eq tag) tags) refl
    where
      by : (b : Bool) → list_any (eq tag) tags ≡ b → Extends tags (with_tag eq tags tag)
      by true e = ([], with_known tags tag e ∙ sym (append-nil tags))
      by false e = (tag ∷ [], with_new tags tag e)

  pub distinct_with : (tags : List T) (tag : T) → HasNoRepeats tags → HasNoRepeats (with_tag eq tags tag)
  distinct_with tags tag d = by (list_any (eq tag) tags) refl
    where
      by : (b : Bool) → list_any (eq tag) tags ≡ b → HasNoRepeats (with_tag eq tags tag)
      by true e = subst HasNoRepeats (sym (with_known tags tag e)) d
      by false e =
          subst HasNoRepeats (sym (with_new tags tag e)) (pushed_distinct tags tag d (λ i at. true≢false (sym (any_at tags tag i at) ∙ e)))

  -- ---- tags come

  pub extends_with_tags : (tags more : List T) → Extends tags (with_tags eq tags more)
  extends_with_tags tags [] = extends_same tags
  extends_with_tags tags (tag ∷ more) =
      extends_on tags (with_tag eq tags tag) _ (extends_with tags tag) (extends_with_tags (with_tag eq tags tag) more)

  pub distinct_with_tags : (tags more : List T) → HasNoRepeats tags → HasNoRepeats (with_tags eq tags more)
  distinct_with_tags tags [] d = d
  distinct_with_tags tags (tag ∷ more) d = distinct_with_tags (with_tag eq tags tag) more (distinct_with tags tag d)

  -- ---- a tag is looked up

  module _ (exact : TellsApart eq) (tags : List T) (tag : T) where
    -- a tag that stands nowhere is found nowhere, and goes to the end
    absent_where_new : list_any (eq tag) tags ≡ false → Contains tags tag → ⊥
    absent_where_new e there = true≢false (sym (list_any-from_Contains laws tag tags there) ∙ e)

    new_where_absent : (Contains tags tag → ⊥) → list_any (eq tag) tags ≡ false
    new_where_absent absent = by (list_any (eq tag) tags) refl
      where
        by : (b : Bool) → list_any (eq tag) tags ≡ b → list_any (eq tag) tags ≡ false
        by true e = absurd (absent (Contains-from_any exact tag tags e))
        by false e = e

    module _ (absent : Contains tags tag → ⊥) where
      pushed : with_tag eq tags tag ≡ tags ++ tag ∷ []
      pushed = with_new tags tag (new_where_absent absent)

      pub word_of_new : (grown : List T) → grown ≡ with_tag eq tags tag → (n : ℕ) → n ≡ length tags → slice_get grown n ≡ Some tag
      word_of_new grown e n l = (λ j. slice_get ((e ∙ pushed) j) (l j)) ∙ slice_get-last tags tag

      length_pushed : length (with_tag eq tags tag) ≡ length tags + 1
      length_pushed = ap length pushed ∙ length-append tags (tag ∷ [])

      pub over_where_full : (limit : ℕ) → length tags ≡ limit → limit < length (with_tag eq tags tag)
      over_where_full limit full = let n = length_pushed in omega (arith, n, full)

      -- a table that is not full is one after the tag came
      pub table_with : (limit : ℕ) → IsTable (record { tags = tags; limit = limit }) → (length tags ≡ limit → ⊥)
          → (grown : List T) → grown ≡ with_tag eq tags tag → IsTable (record { tags = grown; limit = limit })
      table_with limit table room grown e =
          let within : length tags ≤ limit = table.within in
          let n : length grown ≡ length tags + 1 = ap length e ∙ length_pushed in
          record {
            distinct = subst HasNoRepeats (sym e) (distinct_with tags tag table.distinct);
            within = omega (arith, n, within, room);
            some = table.some;
            small = table.small;
          }

    -- the place at which the search of the tags that are kept ends, if it does
    module _ (kept : List T) (is : kept ≡ tags) (distinct : HasNoRepeats kept) (place : Option ℕ)
        (at : place ≡ position (eq tag) kept) (found : is_some place ≡ list_any (eq tag) kept) where
      stands : (i : ℕ) → place ≡ Some i → slice_get kept i ≡ Some tag
      stands i e =
          let p = position-Some (eq tag) kept i tag (sym at ∙ e) in
          slice_get-get_or kept i tag p.0 ∙ ap Some (sym (exact tag _ p.1))

      ends : (i : ℕ) → slice_get kept i ≡ Some tag → place ≡ Some i
      ends i there = by place refl
        where
          by : (p : Option ℕ) → place ≡ p → place ≡ Some i
          by None e = absurd (true≢false (sym (any_at kept tag i there) ∙ sym found ∙ ap is_some e))
          by (Some j) e = e ∙ ap Some (distinct j i (slice_get_within kept j tag (stands j e)) (stands j e ∙ sym there))

      pub exact_at : (i : ℕ) → (place ≡ Some i → slice_get tags i ≡ Some tag) × (slice_get tags i ≡ Some tag → place ≡ Some i)
      exact_at i = (λ e. ap (λ l. slice_get l i) (sym is) ∙ stands i e, λ there. ends i (ap (λ l. slice_get l i) is ∙ there))

      pub missing_at : (is_some place ≡ false → Contains tags tag → ⊥) × ((Contains tags tag → ⊥) → is_some place ≡ false)
      missing_at =
          let any : is_some place ≡ list_any (eq tag) tags = found ∙ ap (list_any (eq tag)) is in
          (λ e. absent_where_new (sym any ∙ e), λ absent. any ∙ new_where_absent absent)
