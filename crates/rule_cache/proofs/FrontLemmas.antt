-- The front before a list of rules: what its slots and its log say of the list.
use Rattle.std.proofs.Common.{◌≡◌, ℕ, zero, suc, ◌+◌, ◌-◌, ◌<◌, ◌≤◌, Bool, true, false, cond, ◌⊎◌, inl, inr, List, [], ◌∷◌, ◌++◌, IfSome, length, take, slice_get, slice_set, Option, Some, None, option_map, refl, sym, ap, ◌∙◌, subst, arith}
use Rattle.std.specs.Map.{lookup, lookup_entry, remove_entry}
use Rattle.std.specs.Option.{option_map_or, unwrap_or}
use Rattle.std.proofs.lemmas.Bool.{cases_eq, false_from_ne_true, false≢true}
use Rattle.std.proofs.lemmas.List.{get_or-set_other, get_or-set_same, length-set}
use Rattle.std.proofs.lemmas.Option.{none-some, slice_get_past}
use Rattle.lru.specs.LruCache.{IsValid, last_entry, lru_cache, promoted, put_entries}
use Rattle.lru.proofs.CallerLemmas.{Contains-lookup_entry}
use Rattle.lru.proofs.Pairs.{lookup-lookup_entry}
use Rattle.policy_trait.specs.declared.rules.Outs.{Outs}
use Rattle.rule_cache.specs.Fronts.{AreEmpty, IsFront, Slot, emptied, filled, has_key, replayed, rule_with, slot_at, slot_of, touched}
use Rattle.rule_cache.specs.Keys.{key_eq}
use Rattle.rule_cache.specs.Stores.{Rules}
use Rattle.rule_cache.specs.declared.key.Key.{Key}
use Rattle.rule_cache.proofs.KeyLemmas.{key_laws, key_told}
use Rattle.rule_cache.proofs.PromotedLemmas.{found_promoted, found_removed, last_counts, promoted_stays}
use Rattle.rule_cache.proofs.RuleLemmas.{moved_hit, moved_miss}
use Rattle.rule_cache.proofs.StoreLemmas.{with_rule_set}

-- ---- a slot's rule goes to the front

found_touched : (key : Key) (slot : Slot) (rules : Rules) → lookup (key_eq key) (touched slot rules) ≡ lookup (key_eq key) rules
found_touched key None rules = refl
found_touched key (Some rule) rules = found_promoted key rule.0 rules

pub touched_stays : (slot : Slot) (rules : Rules) → touched slot (touched slot rules) ≡ touched slot rules
touched_stays None rules = refl
touched_stays (Some rule) rules = promoted_stays rule.0 rules

pub last_touched : (slot between : Slot) (rules : Rules) → touched slot (touched between rules) ≡ touched slot (touched between (touched slot rules))
last_touched None between rules = refl
last_touched (Some rule) None rules = sym (promoted_stays rule.0 rules)
last_touched (Some rule) (Some other) rules = last_counts rule.0 other.0 rules

promoted_valid : (key : Key) (capacity : ℕ) (rules : Rules) → IsValid key_eq (lru_cache rules capacity)
    → (found : Option (Outs ℕ)) → found ≡ lookup (key_eq key) rules → IsValid key_eq (lru_cache (promoted (key_eq key) rules) capacity)
promoted_valid key capacity rules valid None is = subst (IsValid key_eq) (sym (moved_miss key capacity rules None is)) valid
promoted_valid key capacity rules valid (Some words) is =
    let set = with_rule_set key capacity words rules (record { apart = valid.0; within = valid.1 }) in
    subst (IsValid key_eq) (sym (moved_hit key capacity rules valid (Some words) is)) (set.apart, set.within, valid.2)

touched_valid : (slot : Slot) (capacity : ℕ) (rules : Rules) → IsValid key_eq (lru_cache rules capacity)
    → IsValid key_eq (lru_cache (touched slot rules) capacity)
touched_valid None capacity rules valid = valid
touched_valid (Some rule) capacity rules valid = promoted_valid rule.0 capacity rules valid (lookup (key_eq rule.0) rules) refl

-- ---- the list catches up

module _ (slots : List Slot) where
  -- a key finds the same
  pub found_replayed : (key : Key) (log : List ℕ) (rules : Rules) → lookup (key_eq key) (replayed slots log rules) ≡ lookup (key_eq key) rules
  found_replayed key [] rules = refl
  found_replayed key (number ∷ log) rules =
      found_replayed key log (touched (slot_at slots number) rules) ∙ found_touched key (slot_at slots number) rules

  pub replayed_valid : (log : List ℕ) (capacity : ℕ) (rules : Rules) → IsValid key_eq (lru_cache rules capacity)
      → IsValid key_eq (lru_cache (replayed slots log rules) capacity)
  replayed_valid [] capacity rules valid = valid
  replayed_valid (number ∷ log) capacity rules valid =
      replayed_valid log capacity (touched (slot_at slots number) rules) (touched_valid (slot_at slots number) capacity rules valid)

  -- one number more
  pub replayed_push : (log : List ℕ) (number : ℕ) (rules : Rules)
      → replayed slots (log ++ number ∷ []) rules ≡ touched (slot_at slots number) (replayed slots log rules)
  replayed_push [] number rules = refl
  replayed_push (first ∷ log) number rules = replayed_push log number (touched (slot_at slots first) rules)

-- ---- slots before a list

-- slots before a list are so before one in which each key finds the same
pub still_front : (slots : List Slot) (rules other : Rules) → IsFront slots rules
    → ((key : Key) → lookup (key_eq key) other ≡ lookup (key_eq key) rules) → IsFront slots other
still_front slots rules other is same = record {
  size = is.size;
  stands = λ number key words there. let was = is.stands number key words there in (was.0, same key ∙ was.1);
}

pub empty_front : (slots : List Slot) (rules : Rules) → length slots ≡ 256 → AreEmpty slots → IsFront slots rules
empty_front slots rules size empty = record {
  size = size;
  stands = λ number key words there. let none = empty number in absurd cc;
}

-- slots before a list are so before the same once it has caught up
pub caught_front : (slots : List Slot) (rules : Rules) → IsFront slots rules → (log : List ℕ) (caught : Rules)
    → caught ≡ replayed slots log rules → IsFront slots caught
caught_front slots rules is log caught same =
    still_front slots rules caught is (λ key. ap (lookup (key_eq key)) same ∙ found_replayed slots key log rules)

below_size : (key : Key) → slot_of key < 256
unfolding slot_of
below_size key = omega arith

-- where one slot is written, each other stays
set_cases : (slots : List Slot) (place number : ℕ) (slot found : Slot) → place < length slots → slot_at (slice_set slots place slot) number ≡ found
    → ((number ≡ place) × (slot ≡ found)) ⊎ ((number ≡ place → ⊥) × (slot_at slots number ≡ found))
set_cases slots place number slot found within is = elim (cases_eq number place) [
  | inl same ↦ inl (same, sym (get_or-set_same slots place slot None within) ∙ ap (slot_at (slice_set slots place slot)) (sym same) ∙ is)
  | inr apart ↦ inr (apart, sym (get_or-set_other slots place number slot None apart) ∙ is)
]

module _ (slots : List Slot) (rules : Rules) (is : IsFront slots rules) where
  -- what the list has for a key may stand in the key's slot
  pub filled_front : (key : Key) (found : Option (Outs ℕ)) → found ≡ lookup (key_eq key) rules → IsFront (filled key found slots) rules
  filled_front key None has = is
  filled_front key (Some words) has =
      let place = slot_of key in
      let size = is.size in
      let below = below_size key in
      let within : place < length slots = omega (arith, size, below) in
      record {
        size = length-set slots place (Some (key, words)) ∙ is.size;
        stands = λ number other its there. elim (set_cases slots place number (Some (key, words)) (Some (other, its)) within there) [
          | inl here ↦ let rule : (key, words) ≡ (other, its) = ap (λ slot. unwrap_or slot (key, words)) here.1 in
              subst (λ r. (slot_of r.0 ≡ number) × (lookup (key_eq r.0) rules ≡ Some r.1)) rule (sym here.0, sym has)
          | inr elsewhere ↦ is.stands number other its elsewhere.1
        ];
      }

  -- a slot that is left full has another key than the rule that was pushed out
  not_emptied : (rule : Key × Outs ℕ) (number : ℕ) (key : Key) (words : Outs ℕ)
      → (has : Bool) → has_key rule.0 (slot_at slots (slot_of rule.0)) ≡ has
      → slot_at (cond has (slice_set slots (slot_of rule.0) None) slots) number ≡ Some (key, words)
      → (slot_at slots number ≡ Some (key, words)) × (key_eq rule.0 key ≡ false)
  not_emptied rule number key words true has there =
      let place = slot_of rule.0 in
      let size = is.size in
      let below = below_size rule.0 in
      let within : place < length slots = omega (arith, size, below) in
      elim (set_cases slots place number None (Some (key, words)) within there) [
        | inl here ↦ let none = here.1 in absurd cc
        | inr elsewhere ↦ (
          elsewhere.1,
          false_from_ne_true (key_eq rule.0 key) (λ same.
              elsewhere.0 (sym (is.stands number key words elsewhere.1).0 ∙ ap slot_of (sym (key_told rule.0 key same)))),
        )
      ]
  not_emptied rule number key words false has there = (
    there,
    false_from_ne_true (key_eq rule.0 key) (λ same.
        let place : slot_of rule.0 ≡ number = ap slot_of (key_told rule.0 key same) ∙ (is.stands number key words there).0 in
        let at : slot_at slots (slot_of rule.0) ≡ Some (key, words) = ap (slot_at slots) place ∙ there in
        false≢true (sym has ∙ ap (has_key rule.0) at ∙ same)),
  )

  emptied_has : (gone : Slot) (number : ℕ) (key : Key) (words : Outs ℕ) → slot_at (emptied gone slots) number ≡ Some (key, words)
      → (slot_at slots number ≡ Some (key, words)) × IfSome gone (λ rule. key_eq rule.0 key ≡ false)
  emptied_has None number key words there = (there, tt)
  emptied_has (Some rule) number key words there =
      not_emptied rule number key words (has_key rule.0 (slot_at slots (slot_of rule.0))) refl there

  emptied_size_by : (rule : Key × Outs ℕ) (has : Bool) → length (cond has (slice_set slots (slot_of rule.0) None) slots) ≡ 256
  emptied_size_by rule true = length-set slots (slot_of rule.0) None ∙ is.size
  emptied_size_by rule false = is.size

  emptied_size : (gone : Slot) → length (emptied gone slots) ≡ 256
  emptied_size None = is.size
  emptied_size (Some rule) = emptied_size_by rule (has_key rule.0 (slot_at slots (slot_of rule.0)))

-- an emptied slot is one less
pub emptied_front : (slots : List Slot) (rules : Rules) → IsFront slots rules → (gone : Slot) → IsFront (emptied gone slots) rules
emptied_front slots rules is gone = record {
  size = emptied_size slots rules is gone;
  stands = λ number key words there. is.stands number key words (emptied_has slots rules is gone number key words there).0;
}

-- slots before a list, once it was asked for a key
pub asked_front : (slots : List Slot) (rules : Rules) → IsFront slots rules → (key : Key) (found : Option (Outs ℕ))
    → found ≡ lookup (key_eq key) rules → IsFront (filled key found slots) (promoted (key_eq key) rules)
asked_front slots rules is key found has =
    let stays = λ (other : Key). found_promoted other key rules in
    filled_front slots (promoted (key_eq key) rules) (still_front slots rules (promoted (key_eq key) rules) is stays) key found (has ∙ sym (stays key))

-- ---- a rule is put

-- what the first n rules have, where the one behind them has another key
found_before : (key : Key) (words : Outs ℕ) (n : ℕ) (rules : Rules) → length rules ≤ n + 1
    → lookup (key_eq key) rules ≡ Some words → IfSome (slice_get rules n) (λ rule. key_eq rule.0 key ≡ false)
    → lookup (key_eq key) (take n rules) ≡ Some words
found_before key words n [] short has apart = absurd cc
found_before key words zero (rule ∷ []) short has apart =
    let another : key_eq key rule.0 ≡ false = key_laws.symm key rule.0 ∙ apart in let none = rw another at has in absurd cc
found_before key words zero (rule ∷ next ∷ rules) short has apart = absurd (omega (arith, short))
found_before key words (suc n) (rule ∷ rules) short has apart = (elim (key_eq key rule.0) as (λ same. key_eq key rule.0 ≡ same
    → cond same (Some rule.1) (lookup (key_eq key) rules) ≡ Some words
    → cond same (Some rule.1) (lookup (key_eq key) (take n rules)) ≡ Some words) [
      | true ↦ λ is here. here
      | false ↦ λ is later. found_before key words n rules (omega (arith, short)) later apart
    ]) refl has

module _ (key : Key) (words : Outs ℕ) (capacity : ℕ) (rules : Rules) (valid : IsValid key_eq (lru_cache rules capacity))
    (other : Key) (its : Outs ℕ) (has : lookup (key_eq other) rules ≡ Some its) where
  behind_new : key_eq other key ≡ false → (rest : Rules) → lookup (key_eq other) rest ≡ Some its
      → (first : Key) → key ≡ first → lookup (key_eq other) ((first, words) ∷ rest) ≡ Some its
  behind_new apart rest found first same = let another : key_eq other first ≡ false = ap (key_eq other) (sym same) ∙ apart in rw another found

  found_put_by : (found : Option (Key × Outs ℕ)) → lookup_entry (key_eq key) rules ≡ found
      → IfSome (slice_get rules (capacity - 1)) (λ rule. key_eq rule.0 other ≡ false)
      → IfSome (rule_with key (option_map (λ (rule : Key × Outs ℕ). rule.1) found)) (λ rule. key_eq rule.0 other ≡ false)
      → lookup (key_eq other) (option_map_or (λ (rule : Key × Outs ℕ). (rule.0, words) ∷ remove_entry (key_eq key) rules) found ((key, words) ∷ take (capacity - 1) rules))
      ≡ Some its
  found_put_by None is last replaced =
      let room = valid.2 in
      let short = valid.1 in
      let absent : lookup (key_eq key) rules ≡ None =
      sym (lookup-lookup_entry (key_eq key) rules) ∙ ap (option_map (λ (rule : Key × Outs ℕ). rule.1)) is in
      let another : key_eq other key ≡ false = false_from_ne_true (key_eq other key) (λ same.
      none-some its (sym absent ∙ ap (λ k. lookup (key_eq k) rules) (sym (key_told other key same)) ∙ has)) in
      behind_new another (take (capacity - 1) rules) (found_before other its (capacity - 1) rules (omega (arith, room, short)) has last) key refl
  found_put_by (Some rule) is last replaced =
      let same : key ≡ rule.0 = key_told key rule.0 (Contains-lookup_entry (key_eq key) rules rule is).1 in
      behind_new (key_laws.symm other key ∙ replaced) (remove_entry (key_eq key) rules) (found_removed key other replaced rules ∙ has) rule.0 same

  -- a put keeps what each key has but the one pushed out and the one replaced
  found_put : IfSome (slice_get rules (capacity - 1)) (λ rule. key_eq rule.0 other ≡ false)
      → IfSome (rule_with key (lookup (key_eq key) rules)) (λ rule. key_eq rule.0 other ≡ false)
      → lookup (key_eq other) (put_entries key_eq (lru_cache rules capacity) key words) ≡ Some its
  found_put last replaced =
      found_put_by (lookup_entry (key_eq key) rules) refl last (
      subst (λ found. IfSome (rule_with key found) (λ rule. key_eq rule.0 other ≡ false)) (sym (lookup-lookup_entry (key_eq key) rules)) replaced
      )

-- the slots once a rule is put, and the slots of the one pushed out and of the one replaced are empty
pub put_front : (slots : List Slot) (rules : Rules) → IsFront slots rules → (capacity : ℕ) → IsValid key_eq (lru_cache rules capacity)
    → (key : Key) (words : Outs ℕ) (old : Option (Outs ℕ)) → old ≡ lookup (key_eq key) rules
    → IsFront (emptied (rule_with key old) (emptied (slice_get rules (capacity - 1)) slots))
    (put_entries key_eq (lru_cache rules capacity) key words)
put_front slots rules is capacity valid key words old same =
    let last = slice_get rules (capacity - 1) in
    let replaced = rule_with key old in
    let left = emptied_front slots rules is last in
    record {
      size = emptied_size (emptied last slots) rules left replaced;
      stands = λ number other its there.
          let was = emptied_has (emptied last slots) rules left replaced number other its there in
          let before = emptied_has slots rules is last number other its was.0 in
          let stood = is.stands number other its before.0 in (
            stood.0,
            found_put key words capacity rules valid other its stood.1 before.1
                (subst (λ found. IfSome (rule_with key found) (λ rule. key_eq rule.0 other ≡ false)) same was.1),
          );
    }

-- ---- the last rule

-- a list that isn't full pushes none out
pub none_displaced : (rules : Rules) (capacity : ℕ) → length rules < capacity → slice_get rules (capacity - 1) ≡ None
none_displaced rules capacity room = slice_get_past rules (capacity - 1) (omega arith)

-- a full one the last
pub last_displaced : (rules : Rules) (capacity : ℕ) → IsValid key_eq (lru_cache rules capacity) → capacity ≤ length rules
    → last_entry rules ≡ slice_get rules (capacity - 1)
last_displaced rules capacity valid full = let short = valid.1 in let same : length rules ≡ capacity = omega arith in ap (λ n. slice_get rules (n - 1)) same
