-- What the cache below leaves of its rules, in the words of a store.
use Rattle.std.proofs.Common.{◌≡◌, ℕ, zero, suc, ◌+◌, ◌-◌, ◌≤◌, true, false, not, cond, [], ◌∷◌, IfNone, IfSome, length, take, Option, Some, None, option_map, refl, sym, ap, ◌∙◌, arith}
use Rattle.std.specs.List.{IsDistinct}
use Rattle.std.specs.Map.{keys_of, lookup, lookup_entry, remove_entry}
use Rattle.std.specs.Option.{option_map_or}
use Rattle.std.proofs.lemmas.List.{take_all}
use Rattle.std.proofs.lemmas.Map.{NonePasses}
use Rattle.std.proofs.lemmas.Map.Entries.{none_past_head}
use Rattle.std.proofs.lemmas.Map.Keys.{IsDistinct-tail}
use Rattle.lru.specs.LruCache.{IsValid, lru_cache, promoted, put_entries}
use Rattle.lru.proofs.CallerLemmas.{Contains-lookup_entry}
use Rattle.lru.proofs.Pairs.{lookup-lookup_entry}
use Rattle.policy_trait.specs.declared.rules.Outs.{Outs}
use Rattle.rule_cache.specs.Keys.{key_eq}
use Rattle.rule_cache.specs.Stores.{Rules, with_rule, without}
use Rattle.rule_cache.specs.declared.key.Key.{Key}
use Rattle.rule_cache.proofs.KeyLemmas.{key_laws, key_told}

module _ (key : Key) where
  -- ---- a key that is not kept

  without_absent : (kept : Rules) → NonePasses (key_eq key) kept → without key kept ≡ kept
  without_absent [] absent = refl
  without_absent (rule ∷ kept) absent = rw absent.0 (ap (λ rules. rule ∷ rules) (without_absent kept absent.1))

  absent_by_entry : (kept : Rules) → lookup_entry (key_eq key) kept ≡ None → NonePasses (key_eq key) kept
  absent_by_entry [] none = tt
  absent_by_entry (rule ∷ kept) none = (elim (key_eq key rule.0) as (λ same. key_eq key rule.0 ≡ same → NonePasses (key_eq key) (rule ∷ kept)) [
    | true ↦ λ is. let found = rw is at none in absurd cc
    | false ↦ λ is. (is, absent_by_entry kept (rw is at none))
  ]) refl

  added : (capacity : ℕ) (words : Outs ℕ) (kept : Rules) → 1 ≤ capacity → lookup_entry (key_eq key) kept ≡ None
      → (key, words) ∷ take (capacity - 1) kept ≡ with_rule capacity key words kept
  added zero words kept room none = absurd (omega (arith, room))
  added (suc capacity) words kept room none =
      let less : suc capacity - 1 ≡ capacity = omega arith in
      ap (λ n. (key, words) ∷ take n kept) less
      ∙ ap (λ rules. (key, words) ∷ take capacity rules) (sym (without_absent kept (absent_by_entry kept none)))

  -- ---- a key that is kept, once

  removed : (kept : Rules) → IsDistinct key_eq (keys_of kept) → remove_entry (key_eq key) kept ≡ without key kept
  removed [] apart = refl
  removed (rule ∷ kept) apart = (elim (key_eq key rule.0) as (λ same. key_eq key rule.0 ≡ same
      → cond same kept (rule ∷ remove_entry (key_eq key) kept) ≡ cond (not same) (rule ∷ without key kept) (without key kept)) [
        | true ↦ λ is. sym (without_absent kept (none_past_head key_laws key rule kept apart is))
        | false ↦ λ is. ap (λ rules. rule ∷ rules) (removed kept (IsDistinct-tail key_eq rule.0 (keys_of kept) apart))
      ]) refl

  length_removed : (kept : Rules) (rule : Key × Outs ℕ) → lookup_entry (key_eq key) kept ≡ Some rule
      → length (remove_entry (key_eq key) kept) + 1 ≡ length kept
  length_removed [] rule found = absurd cc
  length_removed (first ∷ kept) rule found = (elim (key_eq key first.0) as (λ same. key_eq key first.0 ≡ same
      → cond same (Some first) (lookup_entry (key_eq key) kept) ≡ Some rule
      → length (cond same kept (first ∷ remove_entry (key_eq key) kept)) + 1 ≡ length (first ∷ kept)) [
        | true ↦ λ is here. omega arith
        | false ↦ λ is later. let rest = length_removed kept rule later in omega (arith, rest)
      ]) refl found

  fronted : (capacity : ℕ) (words : Outs ℕ) (kept : Rules) → IsDistinct key_eq (keys_of kept) → length kept ≤ capacity
      → (rule : Key × Outs ℕ) → lookup_entry (key_eq key) kept ≡ Some rule
      → (rule.0, words) ∷ remove_entry (key_eq key) kept ≡ with_rule capacity key words kept
  fronted capacity words kept apart within rule found =
      let same : key ≡ rule.0 = key_told key rule.0 (Contains-lookup_entry (key_eq key) kept rule found).1 in
      let fewer = length_removed kept rule found in
      let fits : length ((key, words) ∷ remove_entry (key_eq key) kept) ≤ capacity = omega (arith, fewer, within) in
      ap (λ (k : Key). (k, words) ∷ remove_entry (key_eq key) kept) (sym same)
      ∙ sym (take_all capacity ((key, words) ∷ remove_entry (key_eq key) kept) fits)
      ∙ ap (λ rules. take capacity ((key, words) ∷ rules)) (removed kept apart)

  -- ---- what the calls leave

  module _ (capacity : ℕ) (kept : Rules) (valid : IsValid key_eq (lru_cache kept capacity)) where
    put_by : (words : Outs ℕ) (found : Option (Key × Outs ℕ)) → lookup_entry (key_eq key) kept ≡ found
        → option_map_or (λ (rule : Key × Outs ℕ). (rule.0, words) ∷ remove_entry (key_eq key) kept) found ((key, words) ∷ take (capacity - 1) kept)
        ≡ with_rule capacity key words kept
    put_by words None is = added capacity words kept valid.2 is
    put_by words (Some rule) is = fronted capacity words kept valid.0 valid.1 rule is

    -- what is put is kept
    pub put_kept : (words : Outs ℕ) → put_entries key_eq (lru_cache kept capacity) key words ≡ with_rule capacity key words kept
    put_kept words = put_by words (lookup_entry (key_eq key) kept) refl

    promoted_by : (words : Outs ℕ) (found : Option (Key × Outs ℕ)) → lookup_entry (key_eq key) kept ≡ found
        → option_map (λ (rule : Key × Outs ℕ). rule.1) found ≡ Some words
        → option_map_or (λ (rule : Key × Outs ℕ). rule ∷ remove_entry (key_eq key) kept) found kept ≡ with_rule capacity key words kept
    promoted_by words None is hit = absurd cc
    promoted_by words (Some rule) is hit =
        let told : rule.1 ≡ words = cc in
        ap (λ (w : Outs ℕ). (rule.0, w) ∷ remove_entry (key_eq key) kept) told ∙ fronted capacity words kept valid.0 valid.1 rule is

    promoted_hit : (words : Outs ℕ) → lookup (key_eq key) kept ≡ Some words
        → promoted (key_eq key) kept ≡ with_rule capacity key words kept
    promoted_hit words hit =
        promoted_by words (lookup_entry (key_eq key) kept) refl (lookup-lookup_entry (key_eq key) kept ∙ hit)

    -- what is found is at the front
    pub moved_hit : (found : Option (Outs ℕ)) → found ≡ lookup (key_eq key) kept
        → IfSome found (λ words. lru_cache (promoted (key_eq key) kept) capacity ≡ lru_cache (with_rule capacity key words kept) capacity)
    moved_hit None is = tt
    moved_hit (Some words) is = ap (λ (rules : Rules). lru_cache rules capacity) (promoted_hit words (sym is))

  missed_by : (kept : Rules) (found : Option (Key × Outs ℕ)) → option_map (λ (rule : Key × Outs ℕ). rule.1) found ≡ None
      → option_map_or (λ (rule : Key × Outs ℕ). rule ∷ remove_entry (key_eq key) kept) found kept ≡ kept
  missed_by kept None miss = refl
  missed_by kept (Some rule) miss = absurd cc

  -- a miss moves none
  pub moved_miss : (capacity : ℕ) (kept : Rules) (found : Option (Outs ℕ)) → found ≡ lookup (key_eq key) kept
      → IfNone found (lru_cache (promoted (key_eq key) kept) capacity ≡ lru_cache kept capacity)
  moved_miss capacity kept None is =
      ap (λ (rules : Rules). lru_cache rules capacity) (missed_by kept (lookup_entry (key_eq key) kept) (lookup-lookup_entry (key_eq key) kept ∙ sym is))
  moved_miss capacity kept (Some words) is = tt
