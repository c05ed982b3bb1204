-- A store stays one.
use Rattle.std.proofs.Common.{◌≡◌, ℕ, zero, suc, ◌≤◌, Bool, true, false, not, cond, List, [], ◌∷◌, length, map, replicate, take, Option, Some, None, refl, sym, subst, slice_index_or, slice_set, arith}
use Rattle.std.specs.List.{IsDistinct, AllByRecursion}
use Rattle.std.specs.Map.{keys_of}
use Rattle.std.proofs.lemmas.List.{length-map, length-replicate, length-set, take-map}
use Rattle.std.proofs.lemmas.Map.Keys.{IsDistinct-cons, IsDistinct-head, IsDistinct-tail}
use Rattle.std.proofs.lemmas.Map.Made.{IsDistinct-keys_filter}
use Rattle.policy_trait.specs.declared.rules.Outs.{Outs}
use Rattle.engine_trait.specs.Accounts.{set_of}
use Rattle.rule_cache.specs.Keys.{key_eq}
use Rattle.rule_cache.specs.Stores.{IsSet, IsStore, Rules, Store, counted_as, store_without_rules, empty_store, lookup_of, looked_for, set_rules, store_with, with_rule, without}
use Rattle.rule_cache.specs.declared.key.Key.{Key}

-- a set without rules
abbrev no_rules : Rules
no_rules = []

pub empty_set : (ways : ℕ) → IsSet ways []
unfolding IsDistinct
empty_set ways = record { apart = tt; within = omega arith }

-- what holds of each holds of the one at a place, also where one is written
module _ {X : Type 0} (P : X → Type 0) where
  pub all_at : (xs : List X) (d : X) (place : ℕ) → AllByRecursion P xs → P d → P (slice_index_or xs place d)
  all_at [] d place all default = default
  all_at (x ∷ xs) d zero all default = all.0
  all_at (x ∷ xs) d (suc place) all default = all_at xs d place all.1 default

  pub all_set : (xs : List X) (place : ℕ) (y : X) → AllByRecursion P xs → P y → AllByRecursion P (slice_set xs place y)
  all_set [] place y all new = tt
  all_set (x ∷ xs) zero y all new = (new, all.1)
  all_set (x ∷ xs) (suc place) y all new = (all.0, all_set xs place y all.1 new)

module _ {X : Type 0} where
  all_take : (P : X → Type 0) (n : ℕ) (xs : List X) → AllByRecursion P xs → AllByRecursion P (take n xs)
  all_take P zero xs all = tt
  all_take P (suc n) [] all = all
  all_take P (suc n) (x ∷ xs) all = (all.0, all_take P n xs all.1)

  length_take : (n : ℕ) (xs : List X) → length (take n xs) ≤ n
  length_take zero xs = omega arith
  length_take (suc n) [] = omega arith
  length_take (suc n) (x ∷ xs) = let rest = length_take n xs in omega (arith, rest)

  distinct_take : (eq : X → X → Bool) (n : ℕ) (xs : List X) → IsDistinct eq xs → IsDistinct eq (take n xs)
  unfolding IsDistinct
  distinct_take eq zero xs apart = tt
  distinct_take eq (suc n) [] apart = apart
  distinct_take eq (suc n) (x ∷ xs) apart =
      IsDistinct-cons eq x (take n xs) (all_take (λ y. eq x y ≡ false) n xs (IsDistinct-head eq x xs apart))
      (distinct_take eq n xs (IsDistinct-tail eq x xs apart))

module _ (key : Key) where
  others : (kept : Rules) → AllByRecursion (λ other. key_eq key other ≡ false) (keys_of (without key kept))
  others [] = tt
  others (rule ∷ kept) = (elim (key_eq key rule.0) as (λ same. key_eq key rule.0 ≡ same
      → AllByRecursion (λ other. key_eq key other ≡ false) (keys_of (cond (not same) (rule ∷ without key kept) (without key kept)))) [
        | true ↦ λ is. others kept
        | false ↦ λ is. (is, others kept)
      ]) refl

  with_rule_apart : (capacity : ℕ) (words : Outs ℕ) (kept : Rules) → IsDistinct key_eq (keys_of kept)
      → IsDistinct key_eq (keys_of (with_rule capacity key words kept))
  with_rule_apart capacity words kept apart =
      subst (IsDistinct key_eq) (take-map (λ (rule : Key × Outs ℕ). rule.0) capacity ((key, words) ∷ without key kept))
      (distinct_take key_eq capacity (key ∷ keys_of (without key kept))
      (IsDistinct-cons key_eq key (keys_of (without key kept)) (others kept)
      (IsDistinct-keys_filter key_eq (λ rule. not (key_eq key rule.0)) kept apart)))

  pub with_rule_set : (ways : ℕ) (words : Outs ℕ) (kept : Rules) → IsSet ways kept → IsSet ways (with_rule ways key words kept)
  with_rule_set ways words kept is = record {
    apart = with_rule_apart ways words kept is.apart;
    within = length_take ways ((key, words) ∷ without key kept);
  }

  pub stored_stays : (words : Outs ℕ) (store : Store) → IsStore store → IsStore (store_with key words store)
  stored_stays words store is =
      let place = set_of key.group (length store.sets) in
      let count = length-set store.sets place (with_rule store.ways key words (set_rules key store)) in
      record {
        some = subst (λ n. 1 ≤ n) (sym count) is.some;
        room = is.room;
        each = all_set (IsSet store.ways) store.sets place _ is.each
            (with_rule_set store.ways words (set_rules key store) (all_at (IsSet store.ways) store.sets [] place is.each (empty_set store.ways)));
      }

  counted_stays : (store : Store) (at : Option (Outs ℕ)) → IsStore store → IsStore (counted_as key at store)
  counted_stays store None is = record { some = is.some; room = is.room; each = is.each }
  counted_stays store (Some words) is =
      let kept = stored_stays words store is in record { some = kept.some; room = kept.room; each = kept.each }

  pub looking_stays : (store : Store) → IsStore store → IsStore (looked_for key store)
  looking_stays store is = counted_stays store (lookup_of key store) is

all_empty : (ways sets : ℕ) → AllByRecursion (IsSet ways) (replicate sets [])
all_empty ways zero = tt
all_empty ways (suc sets) = (empty_set ways, all_empty ways sets)

pub empty_is : (sets ways : ℕ) → 1 ≤ sets → 1 ≤ ways → IsStore (empty_store sets ways)
empty_is sets ways some room = record {
  some = subst (λ n. 1 ≤ n) (sym (length-replicate {A = Rules} sets [])) some;
  room = room;
  each = all_empty ways sets;
}

all_emptied : (ways : ℕ) (sets : List Rules) → AllByRecursion (IsSet ways) (map (λ kept. []) sets)
all_emptied ways [] = tt
all_emptied ways (kept ∷ sets) = (empty_set ways, all_emptied ways sets)

pub emptied_stays : (store : Store) → IsStore store → IsStore (store_without_rules store)
emptied_stays store is = record {
  some = subst (λ n. 1 ≤ n) (sym (length-map store.sets (λ (kept : Rules). no_rules))) is.some;
  room = is.room;
  each = all_emptied store.ways store.sets;
}
