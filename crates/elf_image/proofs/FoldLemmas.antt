-- A fold over the numbers below a limit.
use Rattle.std.proofs.Common.{◌≡◌, ℕ, zero, suc, ◌+◌, ◌<◌, ◌≤◌, List, [], ◌∷◌, ◌++◌, refl, ap, ◌∙◌, arith}
use Rattle.std.specs.List.{fold, range_with_len}
use Rattle.std.proofs.lemmas.List.Sums.{fold_push}

range_more : (first count : ℕ) → range_with_len first (suc count) ≡ range_with_len first count ++ (first + count) ∷ []
range_more first zero = ap (λ (n : ℕ). n ∷ []) (let e : first ≡ first + 0 = omega arith in e)
range_more first (suc count) =
    let sum : first + 1 + count ≡ first + suc count = omega arith in
    ap (λ (list : List ℕ). first ∷ list) (range_more (first + 1) count ∙ ap (λ (n : ℕ). range_with_len (first + 1) count ++ n ∷ []) sum)

-- one more number
pub fold_next : {B : Type 0} (f : B → ℕ → B) (b : B) (n : ℕ) → fold f b (range_with_len 0 (n + 1)) ≡ f (fold f b (range_with_len 0 n)) n
fold_next f b n =
    let next : n + 1 ≡ suc n = omega arith in
    let sum : 0 + n ≡ n = omega arith in
    ap (λ (k : ℕ). fold f b (range_with_len 0 k)) next ∙ ap (fold f b) (range_more 0 n) ∙ fold_push f b (range_with_len 0 n) (0 + n) ∙ ap (λ (k : ℕ). f (fold f b (range_with_len 0 n)) k) sum

-- two steps that are alike at each number below the limit
same_from : {B : Type 0} (f g : B → ℕ → B) (limit first count : ℕ) → ((n : ℕ) → n < limit → (b : B) → f b n ≡ g b n) → first + count ≤ limit → (b : B) → fold f b (range_with_len first count) ≡ fold g b (range_with_len first count)
same_from f g limit first zero same le b = refl
same_from f g limit first (suc count) same le b =
    ap (λ a. fold f a (range_with_len (first + 1) count)) (same first (omega arith) b) ∙ same_from f g limit (first + 1) count same (omega arith) (g b first)

pub fold_same : {B : Type 0} (f g : B → ℕ → B) (limit : ℕ) (b : B) → ((n : ℕ) → n < limit → (b : B) → f b n ≡ g b n) → fold f b (range_with_len 0 limit) ≡ fold g b (range_with_len 0 limit)
fold_same f g limit b same = same_from f g limit 0 limit same (omega arith) b

-- what the start has and each step keeps, the fold has
kept_from : {B : Type 0} (f : B → ℕ → B) (P : ℕ → B → Type 0) (limit first count : ℕ) → ((n : ℕ) → n < limit → (b : B) → P n b → P (n + 1) (f b n)) → first + count ≤ limit → (b : B) → P first b → P (first + count) (fold f b (range_with_len first count))
kept_from f P limit first zero keeps le b p = let e : first + 0 ≡ first = omega arith in rw e p
kept_from f P limit first (suc count) keeps le b p =
    let e : first + suc count ≡ first + 1 + count = omega arith in
    rw e (kept_from f P limit (first + 1) count keeps (omega arith) (f b first) (keeps first (omega arith) b p))

pub fold_kept : {B : Type 0} (f : B → ℕ → B) (P : ℕ → B → Type 0) (limit : ℕ) (b : B) → ((n : ℕ) → n < limit → (b : B) → P n b → P (n + 1) (f b n)) → P 0 b → P limit (fold f b (range_with_len 0 limit))
fold_kept f P limit b keeps p = let e : 0 + limit ≡ limit = omega arith in rw e at (kept_from f P limit 0 limit keeps (omega arith) b p)
