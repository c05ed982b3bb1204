-- Harts, memory and records of turns whose tags are words that a table has.
use Rattle.std.specs.Prelude.{◌≡◌, ℕ, ◌<◌}
use Rattle.undo_log.specs.Past.{Past, Record, past_by, record_with}
use Rattle.engine_trait.specs.Machine.{CoreState}
use Rattle.engine_trait.specs.Maps.{core_by}

-- a word below the count
pub record Low (count : ℕ) : Type 0 where
  pub word : ℕ
  pub below : word < count

-- every word of the core is one below the count: it is a core of such words
pub record IsLowCore (count : ℕ) (core : CoreState ℕ) : Type 0 where
  pub low : CoreState (Low count)
  pub is : core ≡ core_by (λ (w : Low count). w.word) low

-- so is every word that a record of a turn has in the place of a tag
pub record IsLowRecord {U : Type 0} (count : ℕ) (made : Record ℕ U) : Type 0 where
  pub low : Record (Low count) U
  pub is : made ≡ record_with (λ (w : Low count). w.word) low

-- and every word of all records
pub record IsLowPast {U : Type 0} (count : ℕ) (past : Past ℕ U) : Type 0 where
  pub low : Past (Low count) U
  pub is : past ≡ past_by (λ (w : Low count). w.word) low
