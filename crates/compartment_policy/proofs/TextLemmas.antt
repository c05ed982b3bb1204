-- A tag's text tells the tag.
use Rattle.std.proofs.Common.{◌≡◌, ℕ, ◌/◌, ◌%◌, ◌^◌, ◌<◌, ◌≤◌, nat_le, nat_lt, Bool, true, false, List, [], ◌∷◌, ◌++◌, append_assoc, get_or, drop, take, if◌then◌else◌, refl, sym, ap, ◌∙◌, arith, zero-add}
use Rattle.std.specs.Prelude.{codes}
use Rattle.std.specs.Fmt.{decimal}
use Rattle.std.specs.List.{AllPass, range_with_len}
use Rattle.std.proofs.lemmas.Bool.{leb-true, ltb-true}
use Rattle.std.proofs.lemmas.List.{append_cancel_left}
use Rattle.std.proofs.lemmas.List.Elements.{All-get_or}
use Rattle.std.proofs.lemmas.List.FromFn.{get_or-range_with_len, length-range_with_len}
use Rattle.std.proofs.lemmas.List.Sums.{AllPass-from_list_all}
use Rattle.pump_words.specs.TextLaws.{hex8_text_injective}
use Rattle.pump_words.specs.Texts.{hex_digit, hex8_text}
use Rattle.policy_trait.proofs.TextLemmas.{cut_number}
use Rattle.policy_trait.specs.Sets.{CompartmentSet, hex32_text, mask_text, set_of}
use Rattle.compartment_policy.specs.Compartments.{HasFittingNumbers, compartment_text}
use Rattle.compartment_policy.specs.declared.tag.CompartmentTag.{CompartmentTag}
use Rattle.compartment_policy.specs.declared.tag.CompartmentTag.TheVariants.{Plain, Pc, Place}

-- ---- a mask in front of a byte that is no digit

digit_large : (n : ℕ) → n < 16 → 48 ≤ hex_digit n
digit_large n small =
    let test : ℕ → Bool = λ m. nat_le 48 (hex_digit m) in
    let all : AllPass test (range_with_len 0 16) = AllPass-from_list_all test (range_with_len 0 16) refl in
    let here = All-get_or (λ m. test m ≡ true) (range_with_len 0 16) n 0 (omega (arith, length-range_with_len 0 16)) all in
    leb-true 48 (hex_digit n) (rw (get_or-range_with_len 0 16 n 0 small, zero-add n) at here)

-- a mask's text, by whether the mask is below 2 ^ 32
abbrev text_by : Bool → ℕ → List ℕ
text_by below bits = if below then hex8_text bits else hex32_text bits

-- eight digits are not the first of thirty-two
not_longer : (c n : ℕ) (ys : List ℕ) → c < 48 → get_or (hex32_text n ++ ys) 8 0 ≡ c → ⊥
not_longer c n ys below is = omega (arith, is, below, digit_large (n / 2 ^ 64 % 2 ^ 32 / 2 ^ 28 % 16) (omega arith))

cut_by : (i j : Bool) (c m n : ℕ) (ys vs : List ℕ) → c < 48 → nat_lt m (2 ^ 32) ≡ i → nat_lt n (2 ^ 32) ≡ j → m < 2 ^ 128 → n < 2 ^ 128
    → text_by i m ++ c ∷ ys ≡ text_by j n ++ c ∷ vs → (m ≡ n) × (ys ≡ vs)
cut_by true true c m n ys vs below m_is n_is m_fits n_fits e =
    (hex8_text_injective m n (ltb-true m (2 ^ 32) m_is) (ltb-true n (2 ^ 32) n_is) (ap (λ (l : List ℕ). take 8 l) e), ap (λ (l : List ℕ). drop 9 l) e)
cut_by false false c m n ys vs below m_is n_is m_fits n_fits e =
    let first = hex8_text_injective (m / 2 ^ 96) (n / 2 ^ 96) (omega arith) (omega arith) (ap (λ (l : List ℕ). take 8 l) e) in
    let second = hex8_text_injective (m / 2 ^ 64 % 2 ^ 32) (n / 2 ^ 64 % 2 ^ 32) (omega arith) (omega arith) (ap (λ (l : List ℕ). take 8 (drop 8 l)) e) in
    let third = hex8_text_injective (m / 2 ^ 32 % 2 ^ 32) (n / 2 ^ 32 % 2 ^ 32) (omega arith) (omega arith) (ap (λ (l : List ℕ). take 8 (drop 16 l)) e) in
    let last = hex8_text_injective (m % 2 ^ 32) (n % 2 ^ 32) (omega arith) (omega arith) (ap (λ (l : List ℕ). take 8 (drop 24 l)) e) in
    (omega (arith, first, second, third, last), ap (λ (l : List ℕ). drop 33 l) e)
cut_by true false c m n ys vs below m_is n_is m_fits n_fits e = absurd (not_longer c n (c ∷ vs) below (sym (ap (λ (l : List ℕ). get_or l 8 0) e)))
cut_by false true c m n ys vs below m_is n_is m_fits n_fits e = absurd (not_longer c m (c ∷ ys) below (ap (λ (l : List ℕ). get_or l 8 0) e))

-- the whole text tells both the mask and what follows
cut_mask : (c m n : ℕ) (ys vs : List ℕ) → c < 48 → m < 2 ^ 128 → n < 2 ^ 128 → mask_text m ++ c ∷ ys ≡ mask_text n ++ c ∷ vs → (m ≡ n) × (ys ≡ vs)
cut_mask c m n ys vs below m_fits n_fits e = cut_by (nat_lt m (2 ^ 32)) (nat_lt n (2 ^ 32)) c m n ys vs below refl refl m_fits n_fits e

-- ---- the tags

pc_apart : (m n : ℕ) (i j : Bool) → m < 2 ^ 32 → n < 2 ^ 32
    → decimal m ++ (if i then codes ",j)" else codes ",-)") ≡ decimal n ++ (if j then codes ",j)" else codes ",-)") → Pc i m ≡ Pc j n
pc_apart m n true true m_fits n_fits e = ap (λ o. Pc true o) (cut_number m n (codes "j)") (codes "j)") m_fits n_fits e).0
pc_apart m n false false m_fits n_fits e = ap (λ o. Pc false o) (cut_number m n (codes "-)") (codes "-)") m_fits n_fits e).0
pc_apart m n true false m_fits n_fits e =
    let h = ap (λ (l : List ℕ). get_or l 0 0) (cut_number m n (codes "j)") (codes "-)") m_fits n_fits e).1 in absurd (omega (arith, h))
pc_apart m n false true m_fits n_fits e =
    let h = ap (λ (l : List ℕ). get_or l 0 0) (cut_number m n (codes "-)") (codes "j)") m_fits n_fits e).1 in absurd (omega (arith, h))

-- what follows an owner's comma: two sets
abbrev sets : CompartmentSet → CompartmentSet → List ℕ
sets into write = mask_text into.bits ++ 44 ∷ (mask_text write.bits ++ 41 ∷ [])

joined : (prefix number into write : List ℕ)
    → prefix ++ number ++ codes "," ++ into ++ codes "," ++ write ++ codes ")" ≡ prefix ++ (number ++ 44 ∷ (into ++ 44 ∷ (write ++ 41 ∷ [])))
joined prefix number into write = simp append_assoc

place_text : (m : ℕ) (i v : CompartmentSet) → compartment_text (Place m i v) ≡ codes "place(" ++ (decimal m ++ 44 ∷ sets i v)
place_text m i v = joined (codes "place(") (decimal m) (mask_text i.bits) (mask_text v.bits)

places : (m n : ℕ) (i j v w : CompartmentSet) → m ≡ n → i ≡ j → v ≡ w → Place m i v ≡ Place n j w
places m n i j v w owner into write = cc

place_apart : (m n : ℕ) (i j v w : CompartmentSet) → HasFittingNumbers (Place m i v) → HasFittingNumbers (Place n j w)
    → compartment_text (Place m i v) ≡ compartment_text (Place n j w) → Place m i v ≡ Place n j w
place_apart m n i j v w left right e =
    let parts = cut_number m n (sets i v) (sets j w) left.0 right.0 (append_cancel_left (codes "place(") _ _ (sym (place_text m i v) ∙ e ∙ place_text n j w)) in
    let into = cut_mask 44 i.bits j.bits (mask_text v.bits ++ 41 ∷ []) (mask_text w.bits ++ 41 ∷ []) (omega arith) left.1 right.1 parts.1 in
    let write = cut_mask 41 v.bits w.bits [] [] (omega arith) left.2 right.2 into.1 in
    places m n i j v w parts.0 (ap set_of into.0) (ap set_of write.0)

pub text_apart : (x y : CompartmentTag) → HasFittingNumbers x → HasFittingNumbers y → compartment_text x ≡ compartment_text y → x ≡ y
text_apart Plain Plain left right e = refl
text_apart (Pc i m) (Pc j n) left right e = pc_apart m n i j left right (append_cancel_left (codes "pc(") _ _ e)
text_apart (Place m i v) (Place n j w) left right e = place_apart m n i j v w left right e
text_apart _ _ left right e =
    let second = ap (λ (l : List ℕ). get_or l 1 0) e in
    let fourth = ap (λ (l : List ℕ). get_or l 3 0) e in
    absurd (omega (arith, second, fourth))
