-- Lists split before an element: their last, or the next of a walk through them.
use Rattle.std.proofs.Common.{◌≡◌, ℕ, suc, ◌+◌, ◌-◌, ◌<◌, List, [], ◌∷◌, ◌++◌, length, get_or, set, take, sym, ap, ◌∙◌, arith}
use Rattle.std.proofs.Math.Seq.{take-suc}
use Rattle.std.proofs.lemmas.List.{drop_all, set-get_or, set_split}

-- another last element
pub last_set : {A : Type 0} (xs : List A) (x : A) → 0 < length xs → set xs (length xs - 1) x ≡ take (length xs - 1) xs ++ x ∷ []
last_set {A} xs x some =
    let i = length xs - 1 in
    set_split xs i x (omega arith) ∙ ap (λ (ys : List A). take i xs ++ x ∷ ys) (drop_all (suc i) xs (omega arith))

-- a list that is not empty ends with its last
pub last_split : {A : Type 0} (xs : List A) (none : A) → 0 < length xs → xs ≡ take (length xs - 1) xs ++ get_or xs (length xs - 1) none ∷ []
last_split xs none some = sym (set-get_or xs (length xs - 1) none) ∙ last_set xs (get_or xs (length xs - 1) none) some

-- a walk's prefix and its next element
pub take_next : {A : Type 0} (xs : List A) (k : ℕ) (d : A) → k < length xs → take (k + 1) xs ≡ take k xs ++ get_or xs k d ∷ []
take_next xs k d lt = ap (λ n. take n xs) (let next : k + 1 ≡ suc k = omega arith in next) ∙ take-suc xs k d lt
