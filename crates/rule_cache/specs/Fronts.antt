-- A front before the list of rules: its slots, and the list as it stands once it has caught up with the log.
use Rattle.std.specs.Prelude.{◌≡◌, ℕ, suc, ◌+◌, ◌-◌, ◌*◌, ◌/◌, ◌%◌, Bool, false, List, [], ◌∷◌, length, Option, Some, None, if◌then◌else◌, slice_get, slice_index_or, slice_set}
use Rattle.std.specs.Map.{lookup}
use Rattle.lru.specs.LruCache.{promoted}
use Rattle.policy_trait.specs.declared.rules.Outs.{Outs}
use Rattle.engine_trait.specs.Accounts.{group_number}
use Rattle.rule_cache.specs.Keys.{key_eq}
use Rattle.rule_cache.specs.Stores.{Rules}
use Rattle.rule_cache.specs.declared.key.Key.{Key}

-- a rule, if one stands there
abbrev pub Slot : Type 0
Slot = Option (Key × Outs ℕ)

-- the number of the slot that a key belongs to: the group and the words as digits of one number, to the base of 8, spread over
-- the bits from 2^16 on
unfoldable pub slot_of : Key → ℕ
slot_of key =
    ((((((group_number key.group - 1) * 8 + key.words.pc) * 8 + key.words.ci) * 8 + key.words.t1) * 8
    + key.words.t2) * 8 + key.words.tm) * 40503 / 65536 % 256

-- the slot of a number, empty where there is none
abbrev pub slot_at : List Slot → ℕ → Slot
slot_at slots number = slice_index_or slots number None

-- no rule stands in a slot
abbrev pub AreEmpty : List Slot → Type 0
AreEmpty slots = (number : ℕ) → slot_at slots number ≡ None

-- what holds of slots before the list as it lies: each rule in them stands where its key belongs, and the list has it
pub record IsFront (slots : List Slot) (rules : Rules) : Type 0 where
  pub size : length slots ≡ 256
  pub stands : (number : ℕ) (key : Key) (words : Outs ℕ) → slot_at slots number ≡ Some (key, words)
      → (slot_of key ≡ number) × (lookup (key_eq key) rules ≡ Some words)

-- ---- the list behind the slots

-- a slot's rule goes to the front of the list
abbrev pub touched : Slot → Rules → Rules
touched None rules = rules
touched (Some rule) rules = promoted (key_eq rule.0) rules

-- the list once the rules of the log's slots went to the front, in the log's order
abbrev pub replayed : List Slot → List ℕ → Rules → Rules
replayed slots [] rules = rules
replayed slots (number ∷ log) rules = replayed slots log (touched (slot_at slots number) rules)

-- the list once the rules of these slots went to the front, the first one last
abbrev pub brought_up : List Slot → List ℕ → Rules → Rules
brought_up slots [] rules = rules
brought_up slots (number ∷ numbers) rules = touched (slot_at slots number) (brought_up slots numbers rules)

-- a number that isn't 0 is the place of its own number in a list, from 1 on
abbrev pub AreNoted : List ℕ → List ℕ → Type 0
AreNoted numbers places = (number place : ℕ) → slice_index_or places number 0 ≡ suc place → slice_get numbers place ≡ Some number

-- ---- the slots after a call

-- the rule of a key with these outputs, if there are any
abbrev pub rule_with : Key → Option (Outs ℕ) → Slot
rule_with key None = None
rule_with key (Some words) = Some (key, words)

-- what the list had for a key stands in the key's slot
abbrev pub filled : Key → Option (Outs ℕ) → List Slot → List Slot
filled key None slots = slots
filled key (Some words) slots = slice_set slots (slot_of key) (Some (key, words))

-- whether a rule with the key stands in the slot
abbrev pub has_key : Key → Slot → Bool
has_key key None = false
has_key key (Some rule) = key_eq key rule.0

-- the slots without the rule of the key
abbrev pub without_key : Key → List Slot → List Slot
without_key key slots = if has_key key (slot_at slots (slot_of key)) then slice_set slots (slot_of key) None else slots

-- the slots without a rule that leaves the list
abbrev pub emptied : Slot → List Slot → List Slot
emptied None slots = slots
emptied (Some rule) slots = without_key rule.0 slots
