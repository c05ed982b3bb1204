-- What calls on one set make of the store.
use Rattle.std.proofs.Common.{◌≡◌, ℕ, zero, suc, ◌+◌, ◌-◌, ◌<◌, ◌≤◌, true, false, List, [], ◌∷◌, ◌++◌, length, map, replicate, drop, take, slice_index, slice_index_or, slice_set, vec_capacity, vec_items, is_some, Option, Some, None, sym, ap, ◌∙◌, subst, arith}
use Rattle.std.specs.List.{AllByRecursion}
use Rattle.std.specs.Map.{lookup}
use Rattle.std.proofs.Math.Seq.{map-set_same}
use Rattle.std.proofs.lemmas.List.{get_or-map, get_or_default, length-append, length-drop, length-map, length-take, length-set, map-set, map_push, replicate_more}
use Rattle.std.proofs.lemmas.List.Edits.{map_over_more}
use Rattle.lru.specs.LruCache.{IsValid, lru_cache, promoted}
use Rattle.policy_trait.specs.declared.rules.Outs.{Outs}
use Rattle.shared_terms.specs.Counts.{next_count}
use Rattle.engine_trait.specs.Accounts.{group_number, set_of}
use Rattle.rule_cache.specs.Keys.{key_eq}
use Rattle.rule_cache.specs.Stores.{IsSet, Rules, Store, counted_as, lookup_of, looked_for, set_rules, store_with, with_rule}
use Rattle.rule_cache.specs.declared.key.Key.{Key}
use Rattle.rule_cache.proofs.RuleLemmas.{moved_hit, moved_miss}
use Rattle.rule_cache.proofs.StoreLemmas.{all_set, empty_set, with_rule_set}
use Rattle.set_cache.specs.Sets.{AreHeld, AreNumbers, IsHeld, SetVec, rules_of, store_of}
use Rattle.set_cache.proofs.PlaceLemmas.{promoted_set}

abbrev no_rules : Rules
no_rules = []

-- what holds of each holds of the one at a place
all_within : {X : Type 0} (P : X → Type 0) (xs : List X) (place : ℕ) (d : X) → AllByRecursion P xs → place < length xs → P (slice_index_or xs place d)
all_within P [] place d all within = absurd (omega arith)
all_within P (x ∷ xs) zero d all within = all.0
all_within P (x ∷ xs) (suc place) d all within = all_within P xs place d all.1 (omega arith)

all_push : {X : Type 0} (P : X → Type 0) (xs : List X) (x : X) → AllByRecursion P xs → P x → AllByRecursion P (xs ++ x ∷ [])
all_push P [] x all last = (last, tt)
all_push P (first ∷ xs) x all last = (all.0, all_push P xs x all.1 last)

-- one set may be written, where it has room
with_set : {A : Type 0} (ways : ℕ) (numbers : List ℕ) (sets : List (SetVec A)) → AreHeld ways numbers sets
    → (number : ℕ) (new : SetVec A) → IsHeld ways new → AreHeld ways numbers (slice_set sets number new)
with_set ways numbers sets held number new one = record {
  table = subst (λ n. AreNumbers n numbers) (sym (length-set sets number new)) held.table;
  some = subst (λ n. 1 ≤ n) (sym (length-set sets number new)) held.some;
  room = held.room;
  each = all_set (IsHeld ways) sets number new held.each one;
}

-- ---- sets without rules

module _ {A : Type 0} where
  emptied_held : (ways : ℕ) (set : SetVec A) → set.items ≡ [] → ways ≤ vec_capacity set → IsHeld ways set
  emptied_held ways set none room = record { rules = subst (IsSet ways) (sym none) (empty_set ways); room = room }

  -- one more set with room
  pub rules_more : (sets : List (SetVec A)) (count : ℕ) (set : SetVec A) → rules_of sets ≡ replicate count [] → set.items ≡ []
      → rules_of (sets ++ set ∷ []) ≡ replicate (count + 1) []
  rules_more sets count set before none =
      map_push vec_items sets set
      ∙ (λ j. before j ++ none j ∷ [])
      ∙ replicate_more count []

  pub each_more : (ways : ℕ) (sets : List (SetVec A)) (set : SetVec A) → AllByRecursion (IsHeld ways) sets
      → set.items ≡ [] → ways ≤ vec_capacity set → AllByRecursion (IsHeld ways) (sets ++ set ∷ [])
  each_more ways sets set each none room = all_push (IsHeld ways) sets set each (emptied_held ways set none room)

  -- a set that loses its rules in place
  pub rules_emptied : (old now : List (SetVec A)) (number : ℕ) (new : SetVec A) → number < length now
      → rules_of now ≡ map (λ _. []) (take number (rules_of old)) ++ drop number (rules_of old) → new.items ≡ []
      → rules_of (slice_set now number new) ≡ map (λ _. []) (take (number + 1) (rules_of old)) ++ drop (number + 1) (rules_of old)
  rules_emptied old now number new within before none =
      let rules = rules_of old in
      let long = length-map now vec_items in
      let front : length (map {A = Rules} {B = Rules} (λ _. []) (take number rules)) ≡ length (take number rules) =
      length-map (take number rules) (λ (kept : Rules). no_rules) in
      let taken = length-take number rules in
      let rest = length-drop number rules in
      let both = ap length before ∙ length-append (map (λ (kept : Rules). no_rules) (take number rules)) (drop number rules) in
      let inside : number < length rules = omega arith in
      map-set vec_items now number new
      ∙ ap (λ (kept : Rules). slice_set (rules_of now) number kept) none
      ∙ map_over_more (λ (kept : Rules). no_rules) rules (rules_of now) number (slice_index_or (rules_of now) number []) inside before
      (get_or_default (rules_of now) number [] (slice_index_or (rules_of now) number []) (omega arith))

  pub held_emptied : (ways : ℕ) (numbers : List ℕ) (now : List (SetVec A)) (number : ℕ) (set new : SetVec A) → number < length now
      → new.items ≡ [] → vec_capacity new ≡ vec_capacity (slice_index_or now number set) → AreHeld ways numbers now
      → AreHeld ways numbers (slice_set now number new)
  held_emptied ways numbers now number set new within none same held =
      let one = all_within (IsHeld ways) now number set held.each within in
      with_set ways numbers now held number new (emptied_held ways new none (subst (λ n. ways ≤ n) (sym same) one.room))

-- ---- one set

module _ {A : Type 0} (key : Key) (ways : ℕ) (numbers : List ℕ) (sets : List (SetVec A)) (held : AreHeld ways numbers sets)
    (number : ℕ) (told : number ≡ slice_index numbers (group_number key.group - 1)) where
  is : number ≡ set_of key.group (length sets)
  is = told ∙ held.table key.group

  pub number_within : number < length sets
  number_within = let some = held.some in omega (arith, is)

  module _ (set : SetVec A) (read : set ≡ slice_index_or sets number set) where
    set_held : IsHeld ways set
    set_held = subst (IsHeld ways) (sym read) (all_within (IsHeld ways) sets number set held.each number_within)

    module _ (hits misses : ℕ) where
      rules_there : set_rules key (store_of ways hits misses sets) ≡ set.items
      rules_there =
          ap (λ n. slice_index_or (rules_of sets) (set_of key.group n) []) (length-map sets vec_items)
          ∙ ap (λ n. slice_index_or (rules_of sets) n []) (sym is)
          ∙ get_or-map vec_items sets number set [] number_within
          ∙ ap vec_items (sym read)

      found_there : lookup_of key (store_of ways hits misses sets) ≡ lookup (key_eq key) set.items
      found_there = ap (lookup (key_eq key)) rules_there

      place_there : number ≡ set_of key.group (length (rules_of sets))
      place_there = is ∙ ap (set_of key.group) (sym (length-map sets vec_items))

      -- the set with one rule more makes the store with it
      pub kept_there : (words : Outs ℕ) (new : SetVec A) → new.items ≡ with_rule ways key words set.items
          → store_of ways hits misses (slice_set sets number new) ≡ store_with key words (store_of ways hits misses sets)
      kept_there words new kept =
          ap (λ rules. record { sets = rules; ways = ways; hits = hits; misses = misses }) (
          map-set vec_items sets number new
          ∙ (λ j. slice_set (rules_of sets) (place_there j) ((kept ∙ ap (with_rule ways key words) (sym rules_there)) j))
          )

      -- and one with the same rules leaves it
      same_there : (new : SetVec A) → new.items ≡ set.items → rules_of (slice_set sets number new) ≡ rules_of sets
      same_there new same =
          map-set_same vec_items sets number new set
          (same ∙ ap vec_items read)

      module _ (new : SetVec A) (moved : new.items ≡ promoted (key_eq key) set.items) where
        pub hit_there : (found : Option (Outs ℕ)) → found ≡ lookup (key_eq key) set.items → is_some found ≡ true
            → store_of ways (next_count hits) misses (slice_set sets number new) ≡ looked_for key (store_of ways hits misses sets)
        hit_there None is hit = absurd cc
        hit_there (Some words) is hit =
            let valid : IsValid key_eq (lru_cache set.items ways) = (set_held.rules.apart, set_held.rules.within, held.room) in
            let there = ap (λ cache. cache.entries) (moved_hit key ways set.items valid (Some words) is) in
            ap (λ (s : Store). record s { hits = next_count hits }) (kept_there words new (moved ∙ there))
            ∙ ap (λ at. counted_as key at (store_of ways hits misses sets)) (is ∙ sym found_there)

        pub miss_there : (found : Option (Outs ℕ)) → found ≡ lookup (key_eq key) set.items → is_some found ≡ false
            → store_of ways hits (next_count misses) (slice_set sets number new) ≡ looked_for key (store_of ways hits misses sets)
        miss_there (Some words) is miss = absurd cc
        miss_there None is miss =
            let there = ap (λ cache. cache.entries) (moved_miss key ways set.items None is) in
            ap (λ rules. record { sets = rules; ways = ways; hits = hits; misses = next_count misses }) (same_there new (moved ∙ there))
            ∙ ap (λ at. counted_as key at (store_of ways hits misses sets)) (is ∙ sym found_there)

    -- ---- memory that stays

    pub kept_held : (words : Outs ℕ) (new : SetVec A) → new.items ≡ with_rule ways key words set.items → ways ≤ vec_capacity new
        → AreHeld ways numbers (slice_set sets number new)
    kept_held words new kept room = with_set ways numbers sets held number new (record {
      rules = subst (IsSet ways) (sym kept) (with_rule_set key ways words set.items set_held.rules);
      room = room;
    })

    pub moved_held : (new : SetVec A) → new.items ≡ promoted (key_eq key) set.items → vec_capacity new ≡ vec_capacity set
        → AreHeld ways numbers (slice_set sets number new)
    moved_held new moved same = with_set ways numbers sets held number new (record {
      rules = subst (IsSet ways) (sym moved) (promoted_set key ways held.room set.items set_held.rules);
      room = subst (λ n. ways ≤ n) (sym same) set_held.room;
    })
