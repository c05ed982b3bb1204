-- Texts without a bar, joined by bars: the whole tells the first of them, and the rest.
use Rattle.std.proofs.Common.{◌≡◌, ℕ, ◌==◌, ◌<◌, Bool, true, false, not, List, [], ◌∷◌, ◌++◌, append_assoc, get_or, drop, length, refl, sym, ap, ◌∙◌, arith}
use Rattle.std.specs.List.{list_all}
use Rattle.std.proofs.lemmas.Bool.Decides.{nat_tests}
use Rattle.std.proofs.lemmas.List.{append-nil}
use Rattle.policy_product.specs.Both.{joint_text}

-- no byte of the text is a bar
abbrev pub is_bare : List ℕ → Bool
is_bare text = list_all (λ byte. not (byte == 124)) text

-- a text as each part that is on gives one: not empty, and without a bar
pub record IsPiece (text : List ℕ) : Type 0 where
  pub some : 0 < length text
  pub bare : is_bare text ≡ true

-- the rest of a text behind its first piece
abbrev pub behind : List ℕ → List ℕ
behind [] = []
behind (c ∷ rest) = 124 ∷ c ∷ rest

head_is : (x y : ℕ) (xs ys : List ℕ) → x ∷ xs ≡ y ∷ ys → x ≡ y
head_is x y xs ys e = ap (λ (l : List ℕ). get_or l 0 0) e

tail_is : (x y : ℕ) (xs ys : List ℕ) → x ∷ xs ≡ y ∷ ys → xs ≡ ys
tail_is x y xs ys e = ap (λ (l : List ℕ). drop 1 l) e

bare_head : (x : ℕ) (xs : List ℕ) → is_bare (x ∷ xs) ≡ true → x ≡ 124 → ⊥
bare_head x xs bare bar = grind (arith, nat_tests, bare, bar)

bare_tail : (x : ℕ) (xs : List ℕ) → is_bare (x ∷ xs) ≡ true → is_bare xs ≡ true
bare_tail x xs bare = grind (arith, nat_tests, bare)

same_rest : (y v : List ℕ) → behind y ≡ behind v → y ≡ v
same_rest [] [] e = refl
same_rest [] (d ∷ v) e = absurd (omega (arith, ap length e))
same_rest (c ∷ y) [] e = absurd (omega (arith, ap length e))
same_rest (c ∷ y) (d ∷ v) e = tail_is 124 124 (c ∷ y) (d ∷ v) e

-- the rest begins with a bar
only_bar : (u : ℕ) (us y : List ℕ) → (u ≡ 124 → ⊥) → behind y ≡ u ∷ us → ⊥
only_bar u us [] differs e = omega (arith, ap length e)
only_bar u us (c ∷ y) differs e = differs (sym (head_is 124 u (c ∷ y) us e))

-- two texts cut at their first bar, or at their ends
cut : (xs us y v : List ℕ) → is_bare xs ≡ true → is_bare us ≡ true → xs ++ behind y ≡ us ++ behind v → (xs ≡ us) × (y ≡ v)
cut [] [] y v x_bare u_bare e = (refl, same_rest y v e)
cut [] (u ∷ us) y v x_bare u_bare e = absurd (only_bar u (us ++ behind v) y (bare_head u us u_bare) e)
cut (x ∷ xs) [] y v x_bare u_bare e = absurd (only_bar x (xs ++ behind y) v (bare_head x xs x_bare) (sym e))
cut (x ∷ xs) (u ∷ us) y v x_bare u_bare e =
    let rest = cut xs us y v (bare_tail x xs x_bare) (bare_tail u us u_bare) (tail_is x u (xs ++ behind y) (us ++ behind v) e) in
    (ap (λ c. c ∷ xs) (head_is x u (xs ++ behind y) (us ++ behind v) e) ∙ ap (λ (l : List ℕ). u ∷ l) rest.0, rest.1)

not_empty : (c : ℕ) (text : List ℕ) → (length (c ∷ text) == 0) ≡ false
not_empty c text = grind (arith, nat_tests)

-- the second text, or none, behind a first that is not empty
joined_is : (x y : List ℕ) → 0 < length x → joint_text x y ≡ x ++ behind y
joined_is [] y some = absurd (omega (arith, some))
joined_is (c ∷ x) [] some = rw (not_empty c x) (sym (append-nil (c ∷ x)))
joined_is (c ∷ x) (d ∷ y) some = rw (not_empty c x, not_empty d y) (append_assoc (c ∷ x) (124 ∷ []) (d ∷ y))

-- joined texts that are the same have the same first piece and the same rest
pub first_told : (x u y v : List ℕ) → IsPiece x → IsPiece u → joint_text x y ≡ joint_text u v → (x ≡ u) × (y ≡ v)
first_told x u y v x_is u_is e = cut x u y v x_is.bare u_is.bare (sym (joined_is x y x_is.some) ∙ e ∙ joined_is u v u_is.some)
