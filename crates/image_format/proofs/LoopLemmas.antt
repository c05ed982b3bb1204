-- A loop that reads rows one after the other reads what its count tells of.
use Rattle.std.proofs.Common.{◌≡◌, ℕ, zero, suc, Option, None, ◌-◌, ◌+◌, ◌≤◌, ◌<◌, List, [], ◌∷◌, ◌++◌, length, Result, Ok, Err, refl, sym, ap, subst, ◌∙◌, append_assoc, arith}
use Rattle.std.proofs.lemmas.List.{append-nil}
use Rattle.image_format.specs.declared.errors.ImageError.{ImageError}
use Rattle.image_format.specs.declared.errors.ImageEnd.{ImageEnd}
use Rattle.image_format.specs.declared.errors.ImageEnd.TheVariants as ends
use Rattle.shared_terms.specs.Steps.{◌>>=◌}
use Rattle.image_format.specs.Reading.{FailsAs, Place, times, with_prefix, rows_at}
use Rattle.shared_terms.proofs.StepLemmas.{on_ok, ok_is}

-- one more row behind the prefix, and what comes behind it
regroup : {S A : Type 0} (prefix : List A) (x : A) (read : Result (List A × S) ImageError) → with_prefix prefix (read >>= λ others. Ok (x ∷ others.0, others.1)) ≡ with_prefix (prefix ++ x ∷ []) read
regroup {S} {A} prefix x (Ok y) = ap (λ (xs : List A). Ok (xs, y.1)) (simp append_assoc)
regroup prefix x (Err error) = refl

-- a row was read: the loop goes on behind it
pub goes_on : {S A : Type 0} (step : S → Result (A × S) ImageError) (prefix : List A) (count i : ℕ) (s t : S) (x : A) (total : Result (List A × S) ImageError) → i < count → step s ≡ Ok (x, t)
    → with_prefix prefix (times (count - i) step s) ≡ total → with_prefix (prefix ++ x ∷ []) (times (count - (i + 1)) step t) ≡ total
unfolding times
goes_on step prefix count i s t x total lt read so_far =
    let k : count - i ≡ suc (count - (i + 1)) = omega arith in
    let one : with_prefix prefix (times (count - i) step s) ≡ with_prefix (prefix ++ x ∷ []) (times (count - (i + 1)) step t) = rw (k, read) (regroup prefix x (times (count - (i + 1)) step t)) in
    sym one ∙ so_far

-- as many are read as said
pub times_length : {S A : Type 0} (count : ℕ) (step : S → Result (A × S) ImageError) (s : S) (x : List A × S) → times count step s ≡ Ok x → length x.0 ≡ count
unfolding times
times_length {S} {A} zero step s x e = subst (λ (y : List A × S). length y.0 ≡ 0) (ok_is ([], s) x e) refl
times_length {S} {A} (suc n) step s x e =
    on_ok (step s) _ x e λ first first-is e1.
    on_ok (times n step first.1) _ x e1 λ others others-is e2.
    let made : List A × S = (first.0 ∷ others.0, others.1) in
    subst (λ (y : List A × S). length y.0 ≡ suc n) (ok_is made x e2) (ap suc (times_length n step first.1 others others-is))

-- a row was refused, and so is the whole
pub refuses : {S A : Type 0} (e : ImageEnd) (step : S → Result (A × S) ImageError) (prefix : List A) (count i : ℕ) (s : S) (total : Result (List A × S) ImageError) → i < count → FailsAs e (step s)
    → with_prefix prefix (times (count - i) step s) ≡ total → FailsAs e total
unfolding times
refuses ends.Memory step prefix count i s total lt read so_far = tt
refuses (ends.Bad error) step prefix count i s total lt read so_far =
    let k : count - i ≡ suc (count - (i + 1)) = omega arith in
    let one : with_prefix prefix (times (count - i) step s) ≡ Err error = rw (k, read) refl in
    sym so_far ∙ one

-- as many rows were read as the count tells of
pub is_done : {S A : Type 0} (step : S → Result (A × S) ImageError) (prefix : List A) (count i : ℕ) (s : S) (total : Result (List A × S) ImageError) → count ≤ i → with_prefix prefix (times (count - i) step s) ≡ total → total ≡ Ok (prefix, s)
unfolding times
is_done {S} {A} step prefix count i s total le so_far =
    let k : count - i ≡ 0 = omega arith in
    let one : with_prefix prefix (times (count - i) step s) ≡ Ok (prefix, s) = rw k (ap (λ (xs : List A). Ok (xs, s)) (append-nil prefix)) in
    sym so_far ∙ one

abbrev pub placed : {A : Type 0} → ℕ → Option A → List ℕ → Place A
placed row before bytes = record { row = row; before = before; bytes = bytes }

-- from the first row on
abbrev pub start : {A : Type 0} → List ℕ → Place A
start bytes = placed 0 None bytes

pub rows_refused : {A B : Type 0} (e : ImageEnd) (count : ℕ) (step : Place A → Result (B × Place A) ImageError) (bytes : List ℕ) → FailsAs e (times count step (start bytes)) → FailsAs e (rows_at count step bytes)
unfolding rows_at
rows_refused ends.Memory count step bytes refused = tt
rows_refused (ends.Bad error) count step bytes refused = rw refused refl

pub rows_done : {A B : Type 0} (count : ℕ) (step : Place A → Result (B × Place A) ImageError) (bytes : List ℕ) (rows : List B) (end : Place A) → times count step (start bytes) ≡ Ok (rows, end) → rows_at count step bytes ≡ Ok (rows, end.bytes)
unfolding rows_at
rows_done count step bytes rows end done = rw done refl
