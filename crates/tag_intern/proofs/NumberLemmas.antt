-- How the numbers come that lead from the words of one list of tags to those of another.
use Rattle.std.proofs.Common.{◌≡◌, ℕ, ◌+◌, ◌<◌, ◌≤◌, ◌⊎◌, inl, inr, List, [], ◌∷◌, ◌++◌, get_or, length, take, Option, Some, None, slice_get, refl, sym, ap, subst, ◌∙◌, arith}
use Rattle.std.specs.List.{Contains}
use Rattle.std.specs.Option.{unwrap_or}
use Rattle.std.proofs.Math.ListN.{get_or-append}
use Rattle.std.proofs.Math.Seq.{get_or-append_seam}
use Rattle.std.proofs.lemmas.Bool.{cases_lt}
use Rattle.std.proofs.lemmas.List.{get_or_past, length-append}
use Rattle.std.proofs.lemmas.Option.{get_or_from_slice_get, slice_get_within}
use Rattle.shared_terms.proofs.ListLemmas.{take_next}
use Rattle.tag_intern.specs.Sweep.{Renumbers}
use Rattle.tag_intern.proofs.TableLemmas.{at_end, slice_get-append}

module _ {T : Type 0} where
  -- a tag that stands at a word is among the tags
  pub standing : (tags : List T) (word : ℕ) (tag : T) → slice_get tags word ≡ Some tag → Contains tags tag
  standing tags word tag e = (word, slice_get_within tags word tag e, get_or_from_slice_get tags word tag tag e)

  -- what the number of one tag tells
  record IsNumber (new : List T) (tag : T) (number : ℕ) : Type 0 where
    same : Contains new tag → slice_get new number ≡ Some tag
    gone : (Contains new tag → ⊥) → number ≡ 0
    below : 1 ≤ length new → number < length new

  -- it is the word that the tag has, and 0 where it has none
  is_number : (new : List T) (tag : T) (found : Option ℕ) → ((word : ℕ) → found ≡ Some word → slice_get new word ≡ Some tag) → (found ≡ None → Contains new tag → ⊥)
      → (number : ℕ) → number ≡ unwrap_or found 0 → IsNumber new tag number
  is_number new tag None has none number is = record {
    same = λ there. absurd (none refl there);
    gone = λ _. is;
    below = λ some. omega (arith, is, some);
  }
  is_number new tag (Some word) has none number is =
      let at : slice_get new number ≡ Some tag = ap (slice_get new) is ∙ has word refl in
      record {
        same = λ _. at;
        gone = λ absent. absurd (absent (standing new number tag at));
        below = λ _. slice_get_within new number tag at;
      }

  -- one more tag gets its number
  module _ (old new : List T) (numbers : List ℕ) (tag : T) (number : ℕ) (so_far : Renumbers old new numbers) (is : IsNumber new tag number) where
    -- the numbers with that one
    abbrev longer_numbers : List ℕ
    longer_numbers = numbers ++ number ∷ []

    -- the number of a word that had one
    before : (word : ℕ) → word < length old → get_or longer_numbers word 0 ≡ get_or numbers word 0
    before word h = get_or-append numbers (number ∷ []) 0 word (let n = so_far.size in omega (arith, n, h))

    -- that of the next word
    last : (word : ℕ) → word ≡ length old → get_or longer_numbers word 0 ≡ number
    last word h = ap (λ i. get_or longer_numbers i 0) (h ∙ sym so_far.size) ∙ get_or-append_seam numbers number [] 0

    -- what holds of the numbers goes on to hold
    same_next : (word : ℕ) (x : T) → slice_get (old ++ tag ∷ []) word ≡ Some x → Contains new x → slice_get new (get_or longer_numbers word 0) ≡ Some x
    same_next word x at there = by (cases_lt word (length old))
      where
        by : (word < length old) ⊎ (length old ≤ word) → slice_get new (get_or longer_numbers word 0) ≡ Some x
        by (inl h) = ap (slice_get new) (before word h) ∙ so_far.same word x (sym (slice_get-append old (tag ∷ []) word h) ∙ at) there
        by (inr h) =
            let end = at_end old tag x word h at in
            ap (slice_get new) (last word end.0) ∙ is.same (subst (Contains new) (sym end.1) there) ∙ ap Some end.1

    gone_next : (word : ℕ) (x : T) → slice_get (old ++ tag ∷ []) word ≡ Some x → (Contains new x → ⊥) → get_or longer_numbers word 0 ≡ 0
    gone_next word x at absent = by (cases_lt word (length old))
      where
        by : (word < length old) ⊎ (length old ≤ word) → get_or longer_numbers word 0 ≡ 0
        by (inl h) = before word h ∙ so_far.gone word x (sym (slice_get-append old (tag ∷ []) word h) ∙ at) absent
        by (inr h) =
            let end = at_end old tag x word h at in
            last word end.0 ∙ is.gone (subst (λ t. Contains new t → ⊥) (sym end.1) absent)

    below_next : 1 ≤ length new → (word : ℕ) → get_or longer_numbers word 0 < length new
    below_next some word = by (cases_lt word (length old)) (cases_lt (length old) word)
      where
        by : (word < length old) ⊎ (length old ≤ word) → (length old < word) ⊎ (word ≤ length old) → get_or longer_numbers word 0 < length new
        by (inl h) other = let e = before word h in let b = so_far.below some word in omega (arith, e, b)
        by (inr h) (inl more) =
            let n = length-append numbers (number ∷ []) in
            let size = so_far.size in
            let past = get_or_past longer_numbers word 0 (omega (arith, n, size, more)) in
            omega (arith, past, some)
        by (inr h) (inr less) = let e = last word (omega (arith, h, less)) in let b = is.below some in omega (arith, e, b)

    -- so they lead from one more tag
    next_numbered : Renumbers (old ++ tag ∷ []) new longer_numbers
    next_numbered = record {
      size = let n = length-append numbers (number ∷ []) in let m = length-append old (tag ∷ []) in let size = so_far.size in omega (arith, n, m, size);
      same = same_next;
      gone = gone_next;
      below = below_next;
    }

-- the tag of the next word gets its number
module _ {T : Type 0} (old new : List T) (numbers : List ℕ) (k : ℕ) (tag plain : T) (lt : k < length old) (so_far : Renumbers (take k old) new numbers) (is : tag ≡ get_or old k plain) where
  pub numbered : (found : Option ℕ) → ((word : ℕ) → found ≡ Some word → slice_get new word ≡ Some tag) → (found ≡ None → Contains new tag → ⊥)
      → (number : ℕ) → number ≡ unwrap_or found 0 → (more : List ℕ) → more ≡ numbers ++ number ∷ [] → Renumbers (take (k + 1) old) new more
  numbered found has none number number_is more pushed =
      let taken : take (k + 1) old ≡ take k old ++ tag ∷ [] = take_next old k plain lt ∙ ap (λ t. take k old ++ t ∷ []) (sym is) in
      let all = next_numbered (take k old) new numbers tag number so_far (is_number new tag found has none number number_is) in
      subst (λ (tags : List T). Renumbers tags new more) (sym taken) (subst (Renumbers (take k old ++ tag ∷ []) new) (sym pushed) all)
