-- What the place of a rule in its set says: what a look-up of its key finds, and which rules are left beside it.
use Rattle.std.proofs.Common.{◌≡◌, ℕ, zero, suc, ◌-◌, ◌<◌, ◌≤◌, true, false, [], ◌∷◌, ◌++◌, length, take, drop, slice_index_or, position, remove, slice_set, Option, Some, None, inl, inr, refl, sym, ap, ◌∙◌, subst, arith}
use Rattle.std.specs.List.{position_or_len}
use Rattle.std.specs.Map.{lookup, lookup_entry, remove_entry}
use Rattle.std.proofs.lemmas.Bool.{cases_lt, le-ltb, lt-ltb}
use Rattle.std.proofs.lemmas.List.{append-nil, drop_all, length_push, take_all, take_at}
use Rattle.lru.specs.LruCache.{IsValid, lru_cache, promoted}
use Rattle.policy_trait.specs.declared.rules.Outs.{Outs}
use Rattle.rule_cache.specs.Keys.{key_eq}
use Rattle.rule_cache.specs.Stores.{IsSet, Rules, with_rule, without}
use Rattle.rule_cache.specs.declared.key.Key.{Key}
use Rattle.rule_cache.proofs.RuleLemmas.{moved_hit, moved_miss, put_kept}
use Rattle.rule_cache.proofs.StoreLemmas.{with_rule_set}

module _ (key : Key) where
  abbrev first : Rules → ℕ
  first kept = position_or_len (λ rule. key_eq key rule.0) kept

  -- the rule with the key stands at the place
  pub record IsAt (kept : Rules) (place : ℕ) (rule : Key × Outs ℕ) : Type 0 where
    pub value : lookup (key_eq key) kept ≡ Some rule.1
    pub entry : lookup_entry (key_eq key) kept ≡ Some rule
    pub others : remove_entry (key_eq key) kept ≡ remove kept place

  -- no rule has the key
  pub record IsAbsent (kept : Rules) : Type 0 where
    pub value : lookup (key_eq key) kept ≡ None
    pub entry : lookup_entry (key_eq key) kept ≡ None

  at_first : (kept : Rules) (place : ℕ) (d : Key × Outs ℕ) → first kept ≡ place → place < length kept
      → IsAt kept place (slice_index_or kept place d)
  at_first [] place d is within = absurd (omega arith)
  at_first (rule ∷ kept) zero d is within = (elim (key_eq key rule.0) as (λ same. key_eq key rule.0 ≡ same → IsAt (rule ∷ kept) zero rule) [
    | true ↦ λ same. record { value = rw same; entry = rw same; others = rw same }
    | false ↦ λ same. let later = rw same at is in absurd (omega arith)
  ]) refl
  at_first (rule ∷ kept) (suc place) d is within =
      (elim (key_eq key rule.0) as (λ same. key_eq key rule.0 ≡ same → IsAt (rule ∷ kept) (suc place) (slice_index_or kept place d)) [
        | true ↦ λ same. let now = rw same at is in absurd (omega arith)
        | false ↦ λ same.
            let later = rw same at is in
            let rest = at_first kept place d (omega arith) (omega arith) in
            record { value = rw same rest.value; entry = rw same rest.entry; others = rw same (ap (λ rules. rule ∷ rules) rest.others) }
      ]) refl

  absent_behind : (kept : Rules) → length kept ≤ first kept → IsAbsent kept
  absent_behind [] past = record { value = refl; entry = refl }
  absent_behind (rule ∷ kept) past = (elim (key_eq key rule.0) as (λ same. key_eq key rule.0 ≡ same → IsAbsent (rule ∷ kept)) [
    | true ↦ λ same. let now = rw same at past in absurd (omega arith)
    | false ↦ λ same.
        let later = rw same at past in
        let rest = absent_behind kept (omega arith) in
        record { value = rw same rest.value; entry = rw same rest.entry }
  ]) refl

  -- a place that was found
  pub at_place : (kept : Rules) (place : ℕ) (d : Key × Outs ℕ) → Some place ≡ position (λ rule. key_eq key rule.0) kept
      → IsAt kept place (slice_index_or kept place d)
  at_place kept place d found = elim (cases_lt (first kept) (length kept)) [
    | inl within ↦
        let here = rw (lt-ltb (first kept) (length kept) within) at found in
        let place_is : first kept ≡ place = cc in
        at_first kept place d place_is (omega arith)
    | inr past ↦ let none = rw (le-ltb (first kept) (length kept) past) at found in absurd cc
  ]

  -- and none that was found
  pub at_none : (kept : Rules) → None ≡ position (λ rule. key_eq key rule.0) kept → IsAbsent kept
  at_none kept missing = elim (cases_lt (first kept) (length kept)) [
    | inl within ↦ let some = rw (lt-ltb (first kept) (length kept) within) at missing in absurd cc
    | inr past ↦ absent_behind kept past
  ]

  -- ---- a look-up

  module _ (kept : Rules) (place : ℕ) (rule : Key × Outs ℕ) (found : Some place ≡ position (λ rule. key_eq key rule.0) kept)
      (read : rule ≡ slice_index_or kept place rule) where
    pub found_there : Some rule.1 ≡ lookup (key_eq key) kept
    found_there = ap (λ (r : Key × Outs ℕ). Some r.1) read ∙ sym (at_place kept place rule found).value

    pub moved_there : rule ∷ remove kept place ≡ promoted (key_eq key) kept
    moved_there =
        let at = at_place kept place rule found in
        rw at.entry (λ j. read j ∷ sym at.others j)

  pub moved_none : (kept : Rules) → IsAbsent kept → kept ≡ promoted (key_eq key) kept
  moved_none kept absent = rw absent.entry

  -- the rule that stands first with its key is found there, and stays
  first_told : (kept : Rules) (words : Outs ℕ) → Some words ≡ lookup (key_eq key) (take 1 kept)
      → (Some words ≡ lookup (key_eq key) kept) × (kept ≡ promoted (key_eq key) kept)
  first_told [] words stands = absurd cc
  first_told (rule ∷ kept) words stands = (elim (key_eq key rule.0) as (λ same. key_eq key rule.0 ≡ same
      → (Some words ≡ lookup (key_eq key) (rule ∷ kept)) × (rule ∷ kept ≡ promoted (key_eq key) (rule ∷ kept))) [
        | true ↦ λ same. let there = rw same at stands in rw same (there, refl)
        | false ↦ λ same. let none = rw same at stands in absurd cc
      ]) refl

  pub found_first : (kept : Rules) (words : Outs ℕ) → Some words ≡ lookup (key_eq key) (take 1 kept) → Some words ≡ lookup (key_eq key) kept
  found_first kept words stands = (first_told kept words stands).0

  pub moved_first : (kept : Rules) (words : Outs ℕ) → Some words ≡ lookup (key_eq key) (take 1 kept) → kept ≡ promoted (key_eq key) kept
  moved_first kept words stands = (first_told kept words stands).1

  -- ---- a rule that is kept

  module _ (ways : ℕ) (some : 1 ≤ ways) (kept : Rules) (set : IsSet ways kept) where
    valid : IsValid key_eq (lru_cache kept ways)
    valid = (set.apart, set.within, some)

    -- a set stays one
    promoted_by : (found : Option (Outs ℕ)) → found ≡ lookup (key_eq key) kept → IsSet ways (promoted (key_eq key) kept)
    promoted_by None is = subst (λ cache. IsSet ways cache.entries) (sym (moved_miss key ways kept None is)) set
    promoted_by (Some words) is =
        subst (λ cache. IsSet ways cache.entries) (sym (moved_hit key ways kept valid (Some words) is)) (with_rule_set key ways words kept set)

    pub promoted_set : IsSet ways (promoted (key_eq key) kept)
    promoted_set = promoted_by (lookup (key_eq key) kept) refl

  -- what stands behind the front of a set that has the rule
  taken_from : (ways : ℕ) (words : Outs ℕ) (rule : Key × Outs ℕ) (others kept : Rules) → 1 ≤ ways → rule ∷ others ≡ with_rule ways key words kept
      → others ≡ take (ways - 1) (without key kept)
  taken_from zero words rule others kept some is = absurd (omega arith)
  taken_from (suc ways) words rule others kept some is = let less : suc ways - 1 ≡ ways = omega arith in rw less (ap (drop 1) is)

  module _ (ways : ℕ) (some : 1 ≤ ways) (words : Outs ℕ) (kept : Rules) (set : IsSet ways kept) where
    -- the rule takes the place of the one with its key
    pub others_there : (place : ℕ) → Some place ≡ position (λ rule. key_eq key rule.0) kept
        → remove kept place ≡ take (ways - 1) (without key kept)
    others_there place found =
        let at = at_place kept place (key, words) found in
        let put = rw at.entry at (put_kept key ways kept (valid ways some kept set) words) in
        sym at.others ∙ taken_from ways words ((slice_index_or kept place (key, words)).0, words) (remove_entry (key_eq key) kept) kept some put

    others_absent : IsAbsent kept → take (ways - 1) kept ≡ take (ways - 1) (without key kept)
    others_absent absent =
        let put = rw absent.entry at (put_kept key ways kept (valid ways some kept set) words) in
        taken_from ways words (key, words) (take (ways - 1) kept) kept some put

    -- that of the last one of a full set
    pub others_full : IsAbsent kept → length kept ≡ ways → remove kept (ways - 1) ≡ take (ways - 1) (without key kept)
    others_full absent full =
        ap (λ rules. take (ways - 1) kept ++ rules) (drop_all (suc (ways - 1)) kept (omega arith))
        ∙ append-nil (take (ways - 1) kept) ∙ others_absent absent

    -- or a new one
    pub others_more : IsAbsent kept → (length kept ≡ ways → ⊥) → (rule : Key × Outs ℕ) (more : Rules) → more ≡ kept ++ rule ∷ []
        → (place : ℕ) → place ≡ length kept → remove more place ≡ take (ways - 1) (without key kept)
    others_more absent room rule more is place last =
        let within = set.within in
        let long = length_push kept rule in
        ap (remove more) last ∙ ap (λ rules. remove rules (length kept)) is
        ∙ (λ j. take_at kept (rule ∷ []) (length kept) refl j ++ drop_all (suc (length kept)) (kept ++ rule ∷ []) (omega arith) j)
        ∙ append-nil kept ∙ sym (take_all (ways - 1) kept (omega arith)) ∙ others_absent absent

-- the first rule moved one back by itself
pub second_put : (kept : Rules) (rule : Key × Outs ℕ) (d : Key × Outs ℕ) → 1 < length kept
    → slice_set (slice_set kept 1 (slice_index_or kept 0 d)) 0 rule ≡ rule ∷ remove kept 1
second_put [] rule d within = absurd (omega (arith, within))
second_put (first ∷ []) rule d within = absurd (omega (arith, within))
second_put (first ∷ second ∷ kept) rule d within = refl
