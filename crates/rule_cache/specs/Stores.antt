-- A store of rules: what a look-up, a kept rule and an emptying leave of it.
use Rattle.std.specs.Prelude.{ℕ, ◌≤◌, not, List, [], ◌∷◌, filter, length, map, replicate, take, Option, Some, None, slice_index_or, slice_set}
use Rattle.std.specs.List.{AllByRecursion, IsDistinct}
use Rattle.std.specs.Map.{keys_of, lookup}
use Rattle.policy_trait.specs.declared.rules.Outs.{Outs}
use Rattle.shared_terms.specs.Counts.{next_count}
use Rattle.engine_trait.specs.Accounts.{set_of}
use Rattle.rule_cache.specs.Keys.{key_eq}
use Rattle.rule_cache.specs.declared.key.Key.{Key}

-- rules by their keys, the most recent first
abbrev pub Rules : Type 0
Rules = List (Key × Outs ℕ)

-- what a store keeps, a list for each set, how many rules each set may have, and how many look-ups found one and found none
pub record Store : Type 0 where
  pub sets : List Rules
  pub ways : ℕ
  pub hits : ℕ
  pub misses : ℕ

-- what holds of every set: no two kept keys are the same, and there are no more than may be
pub record IsSet (ways : ℕ) (kept : Rules) : Type 0 where
  pub apart : IsDistinct key_eq (keys_of kept)
  pub within : length kept ≤ ways

-- what holds of every store
pub record IsStore (store : Store) : Type 0 where
  pub some : 1 ≤ length store.sets
  pub room : 1 ≤ store.ways
  pub each : AllByRecursion (IsSet store.ways) store.sets

-- so many sets of so many ways
abbrev pub empty_store : ℕ → ℕ → Store
empty_store sets ways = record { sets = replicate sets []; ways = ways; hits = 0; misses = 0 }

-- the rules without that of the key
abbrev pub without : Key → Rules → Rules
without key kept = filter (λ rule. not (key_eq key rule.0)) kept

-- the rule goes to the front in the place of the one with its key, and the last one goes where there are too many
abbrev pub with_rule : ℕ → Key → Outs ℕ → Rules → Rules
with_rule ways key words kept = take ways ((key, words) ∷ without key kept)

-- the rules of the set that a key belongs to
abbrev pub set_rules : Key → Store → Rules
set_rules key store = slice_index_or store.sets (set_of key.group (length store.sets)) []

-- what a look-up finds
abbrev pub lookup_of : Key → Store → Option (Outs ℕ)
lookup_of key store = lookup (key_eq key) (set_rules key store)

-- the store after a rule is kept
abbrev pub store_with : Key → Outs ℕ → Store → Store
store_with key words store =
    record store { sets = slice_set store.sets (set_of key.group (length store.sets)) (with_rule store.ways key words (set_rules key store)) }

abbrev pub counted_as : Key → Option (Outs ℕ) → Store → Store
counted_as key None store = record store { misses = next_count store.misses }
counted_as key (Some words) store = record (store_with key words store) { hits = next_count store.hits }

-- the store after a look-up: a hit moves its rule to the front of its set, a miss changes no rule
abbrev pub looked_for : Key → Store → Store
looked_for key store = counted_as key (lookup_of key store) store

-- the store without its rules
abbrev pub store_without_rules : Store → Store
store_without_rules store = record store { sets = map (λ kept. []) store.sets }
