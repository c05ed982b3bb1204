-- Sets of rules as they lie in memory.
use Rattle.std.specs.Prelude.{◌≡◌, ℕ, ◌-◌, ◌≤◌, List, Vec, length, map, slice_index, vec_capacity, vec_items}
use Rattle.std.specs.List.{AllByRecursion}
use Rattle.rv_decode.specs.declared.groups.Group.{Group}
use Rattle.policy_trait.specs.declared.rules.Outs.{Outs}
use Rattle.engine_trait.specs.Accounts.{group_number, set_of}
use Rattle.rule_cache.specs.Stores.{IsSet, Rules, Store}
use Rattle.rule_cache.specs.declared.key.Key.{Key}

-- the numbers are those of each group's set, in the order of groups, where there are so many sets
abbrev pub AreNumbers : ℕ → List ℕ → Type 0
AreNumbers sets numbers = (group : Group) → slice_index numbers (group_number group - 1) ≡ set_of group sets

-- a set of rules in memory
abbrev pub SetVec : Type 0 → Type 0
SetVec A = Vec (Key × Outs ℕ) A

module _ {A : Type 0} where
  -- the rules of each set
  abbrev pub rules_of : List (SetVec A) → List Rules
  rules_of sets = map vec_items sets

  -- the store that these sets are
  abbrev pub store_of : ℕ → ℕ → ℕ → List (SetVec A) → Store
  store_of ways hits misses sets = record { sets = rules_of sets; ways = ways; hits = hits; misses = misses }

  -- what holds of a set at all times: its memory has room for as many rules as it may have
  pub record IsHeld (ways : ℕ) (set : SetVec A) : Type 0 where
    pub rules : IsSet ways set.items
    pub room : ways ≤ vec_capacity set

  -- what holds of all of them, and of the table of their numbers
  pub record AreHeld (ways : ℕ) (numbers : List ℕ) (sets : List (SetVec A)) : Type 0 where
    pub table : AreNumbers (length sets) numbers
    pub some : 1 ≤ length sets
    pub room : 1 ≤ ways
    pub each : AllByRecursion (IsHeld ways) sets
