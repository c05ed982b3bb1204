-- What the texts of tags tell: what stands in their parentheses, and the numbers there.
use Rattle.std.proofs.Common.{◌≡◌, ℕ, ◌+◌, ◌%◌, ◌^◌, ◌<◌, List, [], ◌∷◌, ◌++◌, get_or, drop, refl, sym, ap, ◌∙◌, arith}
use Rattle.std.proofs.lemmas.Fmt.{decimal_by_steps, decimal_injective}
use Rattle.std.proofs.lemmas.List.{append_cancel_left, append_cancel_right}
use Rattle.std.specs.Fmt.{decimal}
use Rattle.std.specs.Prelude.{codes}

-- what stands in the parentheses
pub within : (prefix x y : List ℕ) → prefix ++ x ++ codes ")" ≡ prefix ++ y ++ codes ")" → x ≡ y
within prefix x y e = append_cancel_left prefix x y (append_cancel_right (prefix ++ x) (prefix ++ y) (codes ")") e)

-- numbers of 32 bits are told by their texts
pub same_number : (m n : ℕ) → m < 2 ^ 32 → n < 2 ^ 32 → decimal m ≡ decimal n → m ≡ n
same_number m n m_small n_small e = decimal_injective m n (omega (arith, m_small)) (omega (arith, n_small)) e

-- ---- a number in front of a comma

-- the byte is none of the list
abbrev Lacks : ℕ → List ℕ → Type 0
Lacks c [] = Unit {0}
Lacks c (x ∷ xs) = (x ≡ c → ⊥) × Lacks c xs

head_is : (x y : ℕ) (xs ys : List ℕ) → x ∷ xs ≡ y ∷ ys → x ≡ y
head_is x y xs ys e = ap (λ (l : List ℕ). get_or l 0 0) e

tail_is : (x y : ℕ) (xs ys : List ℕ) → x ∷ xs ≡ y ∷ ys → xs ≡ ys
tail_is x y xs ys e = ap (λ (l : List ℕ). drop 1 l) e

-- two lists cut at the first such byte
cut : (c : ℕ) (xs us ys vs : List ℕ) → Lacks c xs → Lacks c us → xs ++ c ∷ ys ≡ us ++ c ∷ vs → (xs ≡ us) × (ys ≡ vs)
cut c [] [] ys vs x_lacks u_lacks e = (refl, tail_is c c ys vs e)
cut c [] (u ∷ us) ys vs x_lacks u_lacks e = absurd (u_lacks.0 (sym (head_is c u ys (us ++ c ∷ vs) e)))
cut c (x ∷ xs) [] ys vs x_lacks u_lacks e = absurd (x_lacks.0 (head_is x c (xs ++ c ∷ ys) vs e))
cut c (x ∷ xs) (u ∷ us) ys vs x_lacks u_lacks e =
    let rest = cut c xs us ys vs x_lacks.1 u_lacks.1 (tail_is x u (xs ++ c ∷ ys) (us ++ c ∷ vs) e) in
    (ap (λ y. y ∷ xs) (head_is x u (xs ++ c ∷ ys) (us ++ c ∷ vs) e) ∙ ap (λ (l : List ℕ). u ∷ l) rest.0, rest.1)

lacks_push : (c x : ℕ) (xs : List ℕ) → (x ≡ c → ⊥) → Lacks c xs → Lacks c (xs ++ x ∷ [])
lacks_push c x [] differs lacks = (differs, tt)
lacks_push c x (y ∷ ys) differs lacks = (lacks.0, lacks_push c x ys differs lacks.1)

-- no digit is a comma
lacks_comma : (n : ℕ) → n < 2 ^ 32 → Lacks 44 (decimal n)
lacks_comma n small =
    decimal_by_steps (λ m ds. Lacks 44 ds)
    (λ m few. ((λ e. omega (arith, e)), tt))
    (λ m ds large lacks. lacks_push 44 (48 + m % 10) ds (λ e. omega (arith, e)) lacks)
    n (omega (arith, small))

-- the whole text tells both the number and what follows
pub cut_number : (m n : ℕ) (ys vs : List ℕ) → m < 2 ^ 32 → n < 2 ^ 32 → decimal m ++ 44 ∷ ys ≡ decimal n ++ 44 ∷ vs → (m ≡ n) × (ys ≡ vs)
cut_number m n ys vs m_small n_small e =
    let parts = cut 44 (decimal m) (decimal n) ys vs (lacks_comma m m_small) (lacks_comma n n_small) e in
    (same_number m n m_small n_small parts.0, parts.1)
