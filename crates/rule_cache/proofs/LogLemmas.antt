-- The list once it has caught up with a log: the last time that a slot comes is the one that counts.
use Rattle.std.proofs.Common.{◌≡◌, ℕ, zero, suc, ◌+◌, ◌<◌, inl, inr, List, [], ◌∷◌, ◌++◌, length, drop, slice_get, slice_index, slice_index_or, slice_set, Some, refl, sym, ap, ◌∙◌, subst, arith}
use Rattle.std.proofs.Math.ListN.{replicate}
use Rattle.std.proofs.lemmas.Bool.{cases_eq}
use Rattle.std.proofs.lemmas.List.{drop_more, get_or-set_other, get_or-set_same}
use Rattle.lru.proofs.Pairs.{slice_get-cut}
use Rattle.rule_cache.specs.Fronts.{AreNoted, Slot, brought_up, replayed, slot_at, touched}
use Rattle.rule_cache.specs.Stores.{Rules}
use Rattle.rule_cache.proofs.FrontLemmas.{last_touched, touched_stays}

module _ (slots : List Slot) where
  -- one number more
  pub brought_more : (numbers : List ℕ) (number : ℕ) (rules : Rules)
      → brought_up slots (numbers ++ number ∷ []) rules ≡ brought_up slots numbers (touched (slot_at slots number) rules)
  brought_more [] number rules = refl
  brought_more (first ∷ numbers) number rules = ap (touched (slot_at slots first)) (brought_more numbers number rules)

  -- a slot's rule that is first at last may be first before
  last_brought : (slot : Slot) (numbers : List ℕ) (rules : Rules)
      → touched slot (brought_up slots numbers rules) ≡ touched slot (brought_up slots numbers (touched slot rules))
  last_brought slot [] rules = sym (touched_stays slot rules)
  last_brought slot (first ∷ numbers) rules =
      let between = slot_at slots first in
      last_touched slot between (brought_up slots numbers rules)
      ∙ ap (λ list. touched slot (touched between list)) (last_brought slot numbers rules)
      ∙ sym (last_touched slot between (brought_up slots numbers (touched slot rules)))

  -- a number that is noted already may be passed over
  pub brought_before : (number : ℕ) (numbers : List ℕ) (place : ℕ) → slice_get numbers place ≡ Some number → (rules : Rules)
      → brought_up slots numbers rules ≡ brought_up slots numbers (touched (slot_at slots number) rules)
  brought_before number [] place has rules = absurd cc
  brought_before number (first ∷ numbers) zero has rules =
      let is : first ≡ number = cc in
      subst (λ n. touched (slot_at slots n) (brought_up slots numbers rules) ≡ touched (slot_at slots n) (brought_up slots numbers (touched (slot_at slots number) rules)))
      (sym is) (last_brought (slot_at slots number) numbers rules)
  brought_before number (first ∷ numbers) (suc place) has rules =
      ap (touched (slot_at slots first)) (brought_before number numbers place has rules)

-- from one place of a log to the one before it
pub one_more : (slots : List Slot) (log : List ℕ) (place : ℕ) (rules : Rules) → place < length log
    → replayed slots (drop place log) rules ≡ replayed slots (drop (place + 1) log) (touched (slot_at slots (slice_index log place)) rules)
one_more slots log place rules within = ap (λ rest. replayed slots rest rules) (drop_more log place 0 within)

-- ---- what is noted

got_before : (numbers : List ℕ) (more place number : ℕ) → slice_get numbers place ≡ Some number → slice_get (numbers ++ more ∷ []) place ≡ Some number
got_before [] more place number has = absurd cc
got_before (first ∷ numbers) more zero number has = has
got_before (first ∷ numbers) more (suc place) number has = got_before numbers more place number has

-- a number that is noted makes no difference
pub noted_before : (numbers places : List ℕ) (number : ℕ) → AreNoted numbers places → (place : ℕ) → slice_index_or places number 0 ≡ place → (place ≡ 0 → ⊥)
    → (slots : List Slot) (rules : Rules) → brought_up slots numbers rules ≡ brought_up slots numbers (touched (slot_at slots number) rules)
noted_before numbers places number are zero is some slots rules = absurd (some refl)
noted_before numbers places number are (suc place) is some slots rules = brought_before slots number numbers place (are number place is) rules

-- and one more is noted at the end
pub noted_after : (numbers places : List ℕ) (number : ℕ) → AreNoted numbers places → number < length places
    → AreNoted (numbers ++ number ∷ []) (slice_set places number (length numbers + 1))
noted_after numbers places number are within other place is = elim (cases_eq other number) [
  | inl same ↦
      let written : slice_index_or (slice_set places number (length numbers + 1)) other 0 ≡ length numbers + 1 =
      ap (λ n. slice_index_or (slice_set places number (length numbers + 1)) n 0) same ∙ get_or-set_same places number (length numbers + 1) 0 within in
      let last : length numbers ≡ place = omega (arith, is, written) in
      subst (λ n. slice_get (numbers ++ number ∷ []) n ≡ Some other) last (slice_get-cut numbers number [] ∙ ap Some (sym same))
  | inr apart ↦
      got_before numbers number place other (are other place (sym (get_or-set_other places number other (length numbers + 1) 0 apart) ∙ is))
]

-- at first nothing is noted

no_places : (n number : ℕ) → ◌≡◌ {A = ℕ} (slice_index_or (replicate {A = ℕ} n 0) number 0) 0
no_places zero number = refl
no_places (suc n) zero = refl
no_places (suc n) (suc number) = no_places n number

pub none_noted : (numbers : List ℕ) (n : ℕ) → AreNoted numbers (replicate {A = ℕ} n 0)
none_noted numbers n number place is = let none = no_places n number in absurd cc
