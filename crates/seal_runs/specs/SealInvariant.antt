-- What holds of sealing in each state that a run comes to.
use Rattle.std.specs.Prelude.{◌≡◌, ℕ, List, length}
use Rattle.std.specs.List.{Contains, range_with_len}
use Rattle.tag_memory.specs.Hart.{reg_tag, reg_value}
use Rattle.tag_memory.specs.Ram.{ram_tag, ram_word}
use Rattle.engine_trait.specs.Events.{Event}
use Rattle.engine_trait.specs.Machine.{HasWords, Machine, hart_at}
use Rattle.sealing_policy.specs.Sealing.{HasFewKeys}
use Rattle.sealing_policy.specs.declared.tag.SealTag.{SealTag}
use Rattle.sealing_policy.specs.declared.tag.SealTag.TheVariants.{Data, Key, Sealed}
use Rattle.seal_runs.specs.KeyBook.{KeyBook, key_book}

-- a place tagged as a key holds the number of one that was made; a place tagged as sealed holds a value that its key sealed
abbrev pub Fits : KeyBook → ℕ → SealTag → Type 0
Fits book value Data = Unit {0}
Fits book value (Key key) = (value ≡ key) × Contains book.made key
Fits book value (Sealed key) = Contains book.pairs (key, value)

-- every register and every word is so, and every pc is data; every value is a word; the keys that were made are 0, 1, 2 and so
-- on, and the next one's number is how many they are
pub record SealInvariant (events : List (Event SealTag)) (s : Machine ℕ SealTag) : Type 0 where
  pub registers : (h r : ℕ) → Fits (key_book events) (reg_value (hart_at s.core h) r) (reg_tag (hart_at s.core h) r)
  pub words : (address : ℕ) → Fits (key_book events) (ram_word s.core.ram address) (ram_tag s.core.ram address)
  pub pcs : (h : ℕ) → (hart_at s.core h).pc_tag ≡ Data
  pub values : HasWords s.core
  pub numbered : (key_book events).made ≡ range_with_len 0 (length (key_book events).made)
  pub next : s.policy ≡ length (key_book events).made
  pub few : HasFewKeys s.policy
