-- Rules that go to the front of a list: what a key finds then, and which orders of moves come to the same.
use Rattle.std.proofs.Common.{◌≡◌, ℕ, Bool, true, false, cond, [], ◌∷◌, Option, Some, None, option_map, refl, sym, ap, ◌∙◌, subst}
use Rattle.std.specs.Map.{lookup, lookup_entry, remove_entry}
use Rattle.lru.specs.LruCache.{promoted}
use Rattle.lru.proofs.CallerLemmas.{Contains-lookup_entry}
use Rattle.lru.proofs.Pairs.{lookup-lookup_entry}
use Rattle.policy_trait.specs.declared.rules.Outs.{Outs}
use Rattle.rule_cache.specs.Keys.{key_eq}
use Rattle.rule_cache.specs.Stores.{Rules}
use Rattle.rule_cache.specs.declared.key.Key.{Key}
use Rattle.rule_cache.proofs.KeyLemmas.{key_laws, key_told}

-- a key that is not x, where y is it
other_key : (x y z : Key) → key_eq x y ≡ false → key_eq x z ≡ true → key_eq y z ≡ false
other_key x y z apart is = ap (key_eq y) (sym (key_told x z is)) ∙ key_laws.symm y x ∙ apart

-- what is found has the key
found_key : (x : Key) (rules : Rules) (rule : Key × Outs ℕ) → lookup_entry (key_eq x) rules ≡ Some rule → key_eq x rule.0 ≡ true
found_key x rules rule found = (Contains-lookup_entry (key_eq x) rules rule found).1

-- ---- two keys that are not the same

module _ (x y : Key) (apart : key_eq x y ≡ false) where
  -- a removal changes nothing for another key
  entry_removed : (rules : Rules) → lookup_entry (key_eq y) (remove_entry (key_eq x) rules) ≡ lookup_entry (key_eq y) rules
  entry_removed [] = refl
  entry_removed (rule ∷ rules) = (elim (key_eq x rule.0) as (λ same. key_eq x rule.0 ≡ same
      → lookup_entry (key_eq y) (cond same rules (rule ∷ remove_entry (key_eq x) rules)) ≡ lookup_entry (key_eq y) (rule ∷ rules)) [
        | true ↦ λ is. rw (other_key x y rule.0 apart is)
        | false ↦ λ is. ap (cond (key_eq y rule.0) (Some rule)) (entry_removed rules)
      ]) refl

  pub found_removed : (rules : Rules) → lookup (key_eq y) (remove_entry (key_eq x) rules) ≡ lookup (key_eq y) rules
  found_removed rules =
      sym (lookup-lookup_entry (key_eq y) (remove_entry (key_eq x) rules))
      ∙ ap (option_map (λ (rule : Key × Outs ℕ). rule.1)) (entry_removed rules)
      ∙ lookup-lookup_entry (key_eq y) rules

  -- of two removals either may come first
  removed_both : (rules : Rules)
      → remove_entry (key_eq x) (remove_entry (key_eq y) rules) ≡ remove_entry (key_eq y) (remove_entry (key_eq x) rules)
  removed_both [] = refl
  removed_both (rule ∷ rules) = (elim (key_eq x rule.0) as (λ same. key_eq x rule.0 ≡ same
      → remove_entry (key_eq x) (remove_entry (key_eq y) (rule ∷ rules)) ≡ remove_entry (key_eq y) (remove_entry (key_eq x) (rule ∷ rules))) [
        | true ↦ λ is. let another = other_key x y rule.0 apart is in simp (is, another)
        | false ↦ λ is. (elim (key_eq y rule.0) as (λ same. key_eq y rule.0 ≡ same
            → remove_entry (key_eq x) (remove_entry (key_eq y) (rule ∷ rules)) ≡ remove_entry (key_eq y) (remove_entry (key_eq x) (rule ∷ rules))) [
              | true ↦ λ that. simp (is, that)
              | false ↦ λ that. simp (is, that) (ap (λ rest. rule ∷ rest) (removed_both rules))
            ]) refl
      ]) refl

-- ---- one key

module _ (x : Key) (rules : Rules) where
  promoted_absent : lookup_entry (key_eq x) rules ≡ None → promoted (key_eq x) rules ≡ rules
  promoted_absent none = rw none

  promoted_found : (rule : Key × Outs ℕ) → lookup_entry (key_eq x) rules ≡ Some rule
      → promoted (key_eq x) rules ≡ rule ∷ remove_entry (key_eq x) rules
  promoted_found rule found = rw found

  stays_by : (found : Option (Key × Outs ℕ)) → lookup_entry (key_eq x) rules ≡ found
      → promoted (key_eq x) (promoted (key_eq x) rules) ≡ promoted (key_eq x) rules
  stays_by None is = ap (promoted (key_eq x)) (promoted_absent is)
  stays_by (Some rule) is =
      let same = found_key x rules rule is in
      let first : promoted (key_eq x) (rule ∷ remove_entry (key_eq x) rules) ≡ rule ∷ remove_entry (key_eq x) rules = rw same in
      ap (promoted (key_eq x)) (promoted_found rule is) ∙ first ∙ sym (promoted_found rule is)

  -- a rule that is first stays there
  pub promoted_stays : promoted (key_eq x) (promoted (key_eq x) rules) ≡ promoted (key_eq x) rules
  promoted_stays = stays_by (lookup_entry (key_eq x) rules) refl

-- ---- what a key finds

module _ (q x : Key) (rules : Rules) where
  entry_by : (rule : Key × Outs ℕ) → lookup_entry (key_eq x) rules ≡ Some rule → (same : Bool) → key_eq q rule.0 ≡ same
      → lookup_entry (key_eq q) (rule ∷ remove_entry (key_eq x) rules) ≡ lookup_entry (key_eq q) rules
  entry_by rule is true that =
      let one : q ≡ x = key_told q rule.0 that ∙ sym (key_told x rule.0 (found_key x rules rule is)) in
      rw that (sym (ap (λ k. lookup_entry (key_eq k) rules) one ∙ is))
  entry_by rule is false that =
      let key : x ≡ rule.0 = key_told x rule.0 (found_key x rules rule is) in
      rw that (entry_removed x q (key_laws.symm x q ∙ ap (key_eq q) key ∙ that) rules)

  entry_promoted_by : (found : Option (Key × Outs ℕ)) → lookup_entry (key_eq x) rules ≡ found
      → lookup_entry (key_eq q) (promoted (key_eq x) rules) ≡ lookup_entry (key_eq q) rules
  entry_promoted_by None is = ap (lookup_entry (key_eq q)) (promoted_absent x rules is)
  entry_promoted_by (Some rule) is =
      ap (lookup_entry (key_eq q)) (promoted_found x rules rule is) ∙ entry_by rule is (key_eq q rule.0) refl

  entry_promoted : lookup_entry (key_eq q) (promoted (key_eq x) rules) ≡ lookup_entry (key_eq q) rules
  entry_promoted = entry_promoted_by (lookup_entry (key_eq x) rules) refl

  -- a key finds the same
  pub found_promoted : lookup (key_eq q) (promoted (key_eq x) rules) ≡ lookup (key_eq q) rules
  found_promoted =
      sym (lookup-lookup_entry (key_eq q) (promoted (key_eq x) rules))
      ∙ ap (option_map (λ (rule : Key × Outs ℕ). rule.1)) entry_promoted
      ∙ lookup-lookup_entry (key_eq q) rules

-- ---- two moves

module _ (x y : Key) (apart : key_eq x y ≡ false) (rules : Rules) where
  removed_promoted_by : (found : Option (Key × Outs ℕ)) → lookup_entry (key_eq y) rules ≡ found
      → remove_entry (key_eq x) (promoted (key_eq y) rules) ≡ promoted (key_eq y) (remove_entry (key_eq x) rules)
  removed_promoted_by None is =
      ap (remove_entry (key_eq x)) (promoted_absent y rules is)
      ∙ sym (promoted_absent y (remove_entry (key_eq x) rules) (entry_removed x y apart rules ∙ is))
  removed_promoted_by (Some rule) is =
      let another : key_eq x rule.0 ≡ false = other_key y x rule.0 (key_laws.symm y x ∙ apart) (found_key y rules rule is) in
      let past : remove_entry (key_eq x) (rule ∷ remove_entry (key_eq y) rules) ≡ rule ∷ remove_entry (key_eq x) (remove_entry (key_eq y) rules) =
      rw another in
      ap (remove_entry (key_eq x)) (promoted_found y rules rule is) ∙ past
      ∙ ap (λ rest. rule ∷ rest) (removed_both x y apart rules)
      ∙ sym (promoted_found y (remove_entry (key_eq x) rules) rule (entry_removed x y apart rules ∙ is))

  removed_promoted : remove_entry (key_eq x) (promoted (key_eq y) rules) ≡ promoted (key_eq y) (remove_entry (key_eq x) rules)
  removed_promoted = removed_promoted_by (lookup_entry (key_eq y) rules) refl

module _ (x : Key) where
  -- what is left behind a rule that is first
  removed_first : (rules : Rules) (rule : Key × Outs ℕ) → lookup_entry (key_eq x) rules ≡ Some rule
      → remove_entry (key_eq x) (promoted (key_eq x) rules) ≡ remove_entry (key_eq x) rules
  removed_first rules rule is =
      let same = found_key x rules rule is in
      let behind : remove_entry (key_eq x) (rule ∷ remove_entry (key_eq x) rules) ≡ remove_entry (key_eq x) rules = rw same in
      ap (remove_entry (key_eq x)) (promoted_found x rules rule is) ∙ behind

  last_by : (y : Key) → key_eq x y ≡ false → (rules : Rules) (found : Option (Key × Outs ℕ)) → lookup_entry (key_eq x) rules ≡ found
      → promoted (key_eq x) (promoted (key_eq y) rules) ≡ promoted (key_eq x) (promoted (key_eq y) (promoted (key_eq x) rules))
  last_by y apart rules None is = ap (λ rest. promoted (key_eq x) (promoted (key_eq y) rest)) (sym (promoted_absent x rules is))
  last_by y apart rules (Some rule) is =
      promoted_found x (promoted (key_eq y) rules) rule (entry_promoted x y rules ∙ is)
      ∙ ap (λ rest. rule ∷ rest) (
      removed_promoted x y apart rules
      ∙ ap (promoted (key_eq y)) (sym (removed_first rules rule is))
      ∙ sym (removed_promoted x y apart (promoted (key_eq x) rules))
      )
      ∙ sym (promoted_found x (promoted (key_eq y) (promoted (key_eq x) rules)) rule
      (entry_promoted x y (promoted (key_eq x) rules) ∙ entry_promoted x x rules ∙ is))

  last_at : (y : Key) (rules : Rules) (same : Bool) → key_eq x y ≡ same
      → promoted (key_eq x) (promoted (key_eq y) rules) ≡ promoted (key_eq x) (promoted (key_eq y) (promoted (key_eq x) rules))
  last_at y rules true is =
      subst (λ z. promoted (key_eq x) (promoted (key_eq z) rules) ≡ promoted (key_eq x) (promoted (key_eq z) (promoted (key_eq x) rules)))
      (key_told x y is) (sym (promoted_stays x (promoted (key_eq x) rules)))
  last_at y rules false is = last_by y is rules (lookup_entry (key_eq x) rules) refl

  -- of two moves of a rule the last alone counts
  pub last_counts : (y : Key) (rules : Rules)
      → promoted (key_eq x) (promoted (key_eq y) rules) ≡ promoted (key_eq x) (promoted (key_eq y) (promoted (key_eq x) rules))
  last_counts y rules = last_at y rules (key_eq x y) refl
