-- A store beside the account of an engine, whose keys are of tags.
use Rattle.std.specs.Prelude.{◌≡◌, ℕ, ◌<◌, ◌==◌, Bool, List, map}
use Rattle.std.specs.List.{AllByRecursion}
use Rattle.std.specs.Map.{keys_of}
use Rattle.policy_trait.specs.Maps.{ins_by}
use Rattle.engine_trait.specs.Accounts as accounts
use Rattle.engine_trait.specs.Accounts.{Account, same_key}
use Rattle.rule_cache.specs.Keys.{key_eq}
use Rattle.rule_cache.specs.Stores.{Rules, Store, set_rules}
use Rattle.rule_cache.specs.declared.key.Key.{Key}

-- the key with the tags of its words
abbrev pub key_by : {T : Type 0} → (ℕ → T) → Key → accounts.Key T
key_by tag_of key = record { group = key.group; inputs = ins_by tag_of key.words }

-- the keys of rules with the tags of their words
abbrev pub keys_by : {T : Type 0} → (ℕ → T) → Rules → List (accounts.Key T)
keys_by tag_of kept = map (key_by tag_of) (keys_of kept)

-- the words of the key are below the bound
pub record IsKeyBelow (bound : ℕ) (key : Key) : Type 0 where
  pub pc : key.words.pc < bound
  pub ci : key.words.ci < bound
  pub t1 : key.words.t1 < bound
  pub t2 : key.words.t2 < bound
  pub tm : key.words.tm < bound

module _ {T : Type 0} (tag_of : ℕ → T) where
  -- the key is told from the kept ones of its set as its tags are from theirs
  abbrev pub IsToldApart : (T → T → Bool) → Key → Store → Type 0
  IsToldApart eq key store =
      AllByRecursion (λ other. same_key eq (key_by tag_of key) (key_by tag_of other) ≡ key_eq key other) (keys_of (set_rules key store))

  -- below the bound, words are told apart as their tags are
  abbrev pub TellsBelow : (T → T → Bool) → ℕ → Type 0
  TellsBelow eq bound = (v w : ℕ) → v < bound → w < bound → eq (tag_of v) (tag_of w) ≡ (v == w)

  -- the account has the store's keys by their tags, its ways and its counts
  pub record IsAccountOf (account : Account T) (store : Store) : Type 0 where
    pub sets : account.sets ≡ map (keys_by tag_of) store.sets
    pub ways : account.ways ≡ store.ways
    pub hits : account.hits ≡ store.hits
    pub misses : account.misses ≡ store.misses
