-- What lists keep where an element comes or goes.
use Rattle.std.proofs.Common.{◌≡◌, ◌≢◌, ◌⊎◌, ℕ, zero, suc, ◌-◌, ◌<◌, ◌≤◌, Bool, true, false, cond, List, [], ◌∷◌, ◌++◌, length, get_or, take, drop, Some, None, refl, sym, ap, ◌∙◌, subst, inl, inr, arith}
use Rattle.std.specs.List.{All, AllPairs, AllWithin, Contains, filter, find, insert, remove}
use Rattle.std.proofs.lemmas.List.{length-drop, take-append-drop, take_all}
use Rattle.std.proofs.lemmas.List.Elements.{All-append, All-cons, All-drop, All-take, Contains-append_cases, Contains-append_left, Contains-append_right}
use Rattle.std.proofs.lemmas.List.Kept.{AllPairs-cons}
use Rattle.std.proofs.lemmas.Option.{none-some, same_Some}

-- what a search found: an element that passes
pub record IsFound {X : Type 0} (p : X → Bool) (xs : List X) (x : X) : Type 0 where
  pub among : Contains xs x
  pub passes : p x ≡ true

module _ {X : Type 0} where
  -- ---- one element more

  pub all_insert : (P : X → Type 0) (xs : List X) (i : ℕ) (y : X) → All P xs → P y → All P (insert xs i y)
  all_insert P xs i y all one = All-append P (take i xs) (y ∷ drop i xs) (All-take P i xs all) (All-cons P y (drop i xs) one (All-drop P i xs all))

  pub pairs_tail : (R : X → X → Type 0) (x : X) (xs : List X) → AllPairs R (x ∷ xs) → AllPairs R xs
  pairs_tail R x xs pairs i j d lower in_range = pairs (suc i) (suc j) d (omega arith) (omega arith)

  pub pairs_head : (R : X → X → Type 0) (x : X) (xs : List X) → AllPairs R (x ∷ xs) → All (R x) xs
  pairs_head R x xs pairs k d in_range = pairs zero (suc k) d (omega arith) (omega arith)

  pub pairs_insert : (R : X → X → Type 0) (xs : List X) (i : ℕ) (y : X) → i ≤ length xs → AllPairs R xs
      → AllWithin (λ x. R x y) xs 0 i → AllWithin (R y) xs i (length xs) → AllPairs R (insert xs i y)
  pairs_insert R xs zero y in_range pairs before after = AllPairs-cons R y xs (λ k d lower. after k d (omega arith) lower) pairs
  pairs_insert R [] (suc i) y in_range pairs before after = absurd (omega arith)
  pairs_insert R (x ∷ xs) (suc i) y in_range pairs before after =
      AllPairs-cons R x (insert xs i y) (all_insert (R x) xs i y (pairs_head R x xs pairs) (before zero x (omega arith) (omega arith)))
      (pairs_insert R xs i y (omega arith) (pairs_tail R x xs pairs)
      (λ k d low high. before (suc k) d (omega arith) (omega arith)) (λ k d low high. after (suc k) d (omega arith) (omega arith)))

  contains_later : (y x : X) (xs : List X) → Contains xs x → Contains (y ∷ xs) x
  contains_later y x xs has = (suc has.0, omega (arith, has.1), has.2)

  pub contains_insert : (xs : List X) (i : ℕ) (y x : X) → Contains xs x → Contains (insert xs i y) x
  contains_insert xs i y x has = elim (Contains-append_cases (take i xs) (drop i xs) x (subst (λ l. Contains l x) (sym (take-append-drop i xs)) has)) [
    | inl before ↦ Contains-append_left (take i xs) (y ∷ drop i xs) x before
    | inr after ↦ Contains-append_right (take i xs) (y ∷ drop i xs) x (contains_later y x (drop i xs) after)
  ]

  pub contains_inserted : (xs : List X) (i : ℕ) (y : X) → Contains (insert xs i y) y
  contains_inserted xs i y = Contains-append_right (take i xs) (y ∷ drop i xs) y (zero, omega arith, refl)

  -- what is in the list after that was in it before, or is the new one
  pub inserted_cases : (xs : List X) (i : ℕ) (y x : X) → Contains (insert xs i y) x → Contains xs x ⊎ (y ≡ x)
  inserted_cases xs i y x has = elim (Contains-append_cases (take i xs) (y ∷ drop i xs) x has) [
    | inl before ↦ inl (whole (Contains-append_left (take i xs) (drop i xs) x before))
    | inr (zero, in_range, is) ↦ inr is
    | inr (suc k, in_range, is) ↦ inl (whole (Contains-append_right (take i xs) (drop i xs) x (k, omega arith, is)))
  ]
    where
      whole : Contains (take i xs ++ drop i xs) x → Contains xs x
      whole = subst (λ l. Contains l x) (take-append-drop i xs)

  -- ---- one element less

  filter_all : (p : X → Bool) (xs : List X) (d : X) → ((k : ℕ) → k < length xs → p (get_or xs k d) ≡ true) → filter p xs ≡ xs
  filter_all p [] d passes = refl
  filter_all p (x ∷ xs) d passes = rw (passes zero (omega arith)) (ap (λ (l : List X). x ∷ l) (filter_all p xs d (λ k in_range. passes (suc k) (omega arith))))

  pub filter_keeps : (p : X → Bool) (xs : List X) → All (λ x. p x ≡ true) xs → filter p xs ≡ xs
  filter_keeps p [] all = refl
  filter_keeps p (x ∷ xs) all = rw (all zero x (omega arith)) (ap (λ (l : List X). x ∷ l) (filter_keeps p xs (λ k d in_range. all (suc k) d (omega arith))))

  -- the element at i alone fails a test
  pub remove_is_filter : (p : X → Bool) (xs : List X) (i : ℕ) (d : X) → i < length xs → p (get_or xs i d) ≡ false
      → ((k : ℕ) → k < length xs → k ≢ i → p (get_or xs k d) ≡ true) → remove xs i ≡ filter p xs
  remove_is_filter p [] i d in_range fails passes = absurd (omega arith)
  remove_is_filter p (x ∷ xs) zero d in_range fails passes = rw fails (sym (filter_all p xs d (λ k lower. passes (suc k) (omega arith) (λ same. omega arith))))
  remove_is_filter p (x ∷ xs) (suc i) d in_range fails passes = rw (passes zero (omega arith) (λ same. omega arith))
      (ap (λ (l : List X). x ∷ l) (remove_is_filter p xs i d (omega arith) fails (λ k lower other. passes (suc k) (omega arith) (λ same. other (omega arith)))))

  contains_kept : (b : Bool) (y x : X) (xs : List X) → Contains xs x → Contains (cond b (y ∷ xs) xs) x
  contains_kept true y x xs has = contains_later y x xs has
  contains_kept false y x xs has = has

  pub contains_filter : (p : X → Bool) (xs : List X) (x : X) → Contains xs x → p x ≡ true → Contains (filter p xs) x
  contains_filter p [] x has passes = absurd (omega (arith, has.1))
  contains_filter p (y ∷ ys) x (zero, in_range, is) passes = rw (ap p is ∙ passes) (zero, omega arith, is)
  contains_filter p (y ∷ ys) x (suc k, in_range, is) passes = contains_kept (p y) y x (filter p ys) (contains_filter p ys x (k, omega arith, is) passes)

  -- ---- the first that passes

  pub find_passes : (p : X → Bool) (xs : List X) (i : ℕ) (d : X) → i < length xs → p (get_or xs i d) ≡ true
      → ((k : ℕ) → k < i → p (get_or xs k d) ≡ false) → find p xs ≡ Some (get_or xs i d)
  find_passes p [] i d in_range passes fails = absurd (omega arith)
  find_passes p (x ∷ xs) zero d in_range passes fails = rw passes refl
  find_passes p (x ∷ xs) (suc i) d in_range passes fails =
      rw (fails zero (omega arith)) (find_passes p xs i d (omega arith) passes (λ k lower. fails (suc k) (omega arith)))

  pub find_fails : (p : X → Bool) (xs : List X) → All (λ x. p x ≡ false) xs → find p xs ≡ None
  find_fails p [] all = refl
  find_fails p (x ∷ xs) all = rw (all zero x (omega arith)) (find_fails p xs (λ k d in_range. all (suc k) d (omega arith)))

  found_by : (p : X → Bool) (x y : X) (xs : List X) (test : Bool) → p x ≡ test → (find p xs ≡ Some y → IsFound p xs y)
      → cond test (Some x) (find p xs) ≡ Some y → IsFound p (x ∷ xs) y
  found_by p x y xs true is later e =
      let same : x ≡ y = same_Some x y e in
      record { among = (zero, omega arith, same); passes = subst (λ z. p z ≡ true) same is }
  found_by p x y xs false is later e =
      let found = later e in
      record { among = (suc found.among.0, omega (arith, found.among.1), found.among.2); passes = found.passes }

  pub found : (p : X → Bool) (xs : List X) (y : X) → find p xs ≡ Some y → IsFound p xs y
  found p [] y e = absurd (none-some y e)
  found p (x ∷ xs) y e = found_by p x y xs (p x) refl (found p xs y) e

  -- ---- a list from a place on

  -- all that is left there, as a range with no end has it
  pub rest : (start : ℕ) (xs : List X) → take (length xs - start) (drop start xs) ≡ drop start xs
  rest start xs = take_all _ _ (omega (arith, length-drop start xs))

  pub pairs_drop : (R : X → X → Type 0) (n : ℕ) (xs : List X) → AllPairs R xs → AllPairs R (drop n xs)
  pairs_drop R zero xs pairs = pairs
  pairs_drop R (suc n) [] pairs = pairs
  pairs_drop R (suc n) (x ∷ xs) pairs = pairs_drop R n xs (pairs_tail R x xs pairs)

  pub all_drop : (P : X → Type 0) (n : ℕ) (xs : List X) → AllWithin P xs n (length xs) → All P (drop n xs)
  all_drop P zero xs all = λ k d in_range. all k d (omega arith) in_range
  all_drop P (suc n) [] all = λ k d in_range. absurd (omega arith)
  all_drop P (suc n) (x ∷ xs) all = all_drop P n xs (λ k d low high. all (suc k) d (omega arith) (omega arith))

  pub contains_drop : (n : ℕ) (xs : List X) (x : X) (k : ℕ) → n ≤ k → k < length xs → get_or xs k x ≡ x → Contains (drop n xs) x
  contains_drop zero xs x k from in_range is = (k, in_range, is)
  contains_drop (suc n) [] x k from in_range is = absurd (omega arith)
  contains_drop (suc n) (y ∷ ys) x zero from in_range is = absurd (omega arith)
  contains_drop (suc n) (y ∷ ys) x (suc k) from in_range is = contains_drop n ys x k (omega arith) (omega arith) is
