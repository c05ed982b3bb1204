-- How many words have come, and in which order.
use Rattle.std.proofs.Common.{◌≡◌, ℕ, zero, suc, ◌+◌, ◌<◌, ◌≤◌, List, [], ◌∷◌, ◌++◌, Some, get_or, length, ltb, map, slice_get, take, refl, ap, ◌∙◌, arith, le-ltb, lt-ltb, ltb-false, ltb-true}
use Rattle.std.proofs.lemmas.Bool.{cond-false, cond-true, cond_both}
use Rattle.std.proofs.lemmas.List.{map_more}
use Rattle.std.proofs.lemmas.Option.{none-some, same_Some, slice_get-get_or}
use Rattle.tag_pairs.specs.Order.{ComeInOrder, counted, next}

-- ---- one more word

pub next_more : (count word : ℕ) → count ≤ next count word
next_more count word =
    cond_both (ltb word count) count (word + 1) (λ n. count ≤ n) (λ e. omega arith) (λ e. let new = ltb-false word count e in omega (arith, new))

pub next_above : (count word : ℕ) → word < next count word
next_above count word =
    cond_both (ltb word count) count (word + 1) (λ n. word < n) (λ e. ltb-true word count e) (λ e. omega arith)

pub next_few : (count word : ℕ) → word ≤ count → next count word ≤ count + 1
next_few count word known = cond_both (ltb word count) count (word + 1) (λ n. n ≤ count + 1) (λ e. omega arith) (λ e. omega (arith, known))

pub next_known : (count word : ℕ) → word < count → next count word ≡ count
next_known count word known = cond-true (ltb word count) count (word + 1) (lt-ltb word count known)

pub next_new : (count word : ℕ) → count ≤ word → next count word ≡ word + 1
next_new count word new = cond-false (ltb word count) count (word + 1) (le-ltb word count new)

-- ---- many words

pub counted_more : (count : ℕ) (words : List ℕ) → count ≤ counted count words
counted_more count [] = omega arith
counted_more count (word ∷ words) =
    let first = next_more count word in
    let rest = counted_more (next count word) words in
    omega (arith, first, rest)

-- every word that came is below the count
pub came : {P : Type 0} (word_of : P → ℕ) (count : ℕ) (items : List P) (place : ℕ) (item : P) → slice_get items place ≡ Some item
    → word_of item < counted count (map word_of items)
came word_of count [] place item there = absurd (none-some item there)
came word_of count (first ∷ items) zero item there =
    let above = next_above count (word_of first) in
    let more = counted_more (next count (word_of first)) (map word_of items) in
    let same = ap word_of (same_Some first item there) in
    omega (arith, above, more, same)
came word_of count (first ∷ items) (suc place) item there = came word_of (next count (word_of first)) items place item there

pub counted-push : (count : ℕ) (words : List ℕ) (word : ℕ) → counted count (words ++ word ∷ []) ≡ next (counted count words) word
counted-push count [] word = refl
counted-push count (first ∷ words) word = counted-push (next count first) words word

pub order_push : (count : ℕ) (words : List ℕ) (word : ℕ) → ComeInOrder count words → word ≤ counted count words
    → ComeInOrder count (words ++ word ∷ [])
order_push count [] word order fits = (fits, tt)
order_push count (first ∷ words) word order fits = (order.0, order_push (next count first) words word order.1 fits)

-- the first of them come in order too, and are no more
pub order_taken : (n count : ℕ) (words : List ℕ) → ComeInOrder count words → ComeInOrder count (take n words)
order_taken zero count words order = tt
order_taken (suc n) count [] order = tt
order_taken (suc n) count (word ∷ words) order = (order.0, order_taken n (next count word) words order.1)

pub counted_taken : (n count : ℕ) (words : List ℕ) → counted count (take n words) ≤ counted count words
counted_taken zero count words = counted_more count words
counted_taken (suc n) count [] = omega arith
counted_taken (suc n) count (word ∷ words) = counted_taken n (next count word) words

-- in order, as many come at most as there are
pub counted_few : (count : ℕ) (words : List ℕ) → ComeInOrder count words → counted count words ≤ count + length words
counted_few count [] order = omega arith
counted_few count (word ∷ words) order =
    let first = next_few count word order.0 in
    let rest = counted_few (next count word) words order.1 in
    omega (arith, first, rest)

-- ---- items one after another

module _ {P : Type 0} (word_of : P → ℕ) (items : List P) (place : ℕ) (other : P) (within : place < length items) where
  pub counted_next : counted 0 (map word_of (take (place + 1) items)) ≡ next (counted 0 (map word_of (take place items))) (word_of (get_or items place other))
  counted_next = ap (counted 0) (map_more word_of items place other within) ∙ counted-push 0 (map word_of (take place items)) (word_of (get_or items place other))

  pub word_counted : word_of (get_or items place other) < counted 0 (map word_of items)
  word_counted = came word_of 0 items place (get_or items place other) (slice_get-get_or items place other within)
