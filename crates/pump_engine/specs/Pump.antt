-- The engine whose tags are words of a table, and which keeps rules: what it is, and which machine with which account it is
-- by what its words stand for.
use Rattle.std.specs.Prelude.{◌≡◌, ℕ, ◌≤◌, Bool, List, Option, Some, length, map, slice_get}
use Rattle.rv_decode.specs.declared.groups.Group.{Group}
use Rattle.policy_trait.specs.Model.{PolicyModel}
use Rattle.policy_trait.specs.declared.rules.Mask.{Mask}
use Rattle.undo_log.specs.Past.{Past, past_by}
use Rattle.engine_trait.specs.Accounts.{Account}
use Rattle.engine_trait.specs.Machine.{CoreState, IsMachine, Machine}
use Rattle.engine_trait.specs.Maps.{core_by}
use Rattle.engine_trait.specs.Standing.{Standing}
use Rattle.engine_trait.specs.declared.ends.Halt.{Halt}
use Rattle.rule_cache.specs.Named.{keys_by}
use Rattle.rule_cache.specs.Stores.{Store}
use Rattle.tag_intern.specs.Table.{TableState}
use Rattle.tag_intern.specs.Words.{tag_at}
use Rattle.miss_handler.specs.Asked.{AreRules}
use Rattle.open_words.specs.Open.{AreOpen}
use Rattle.miss_handler.specs.Books.{rulebook_of}
use Rattle.pump_engine.specs.Low.{IsLowCore, IsLowPast}

-- the policy's value, the core of words, the table of tags, the kept rules with the counts of look-ups, the counts of turns and
-- of sweeps, why the engine is stopped as a whole, and the records of the last turns, in words but for their plans
pub record PumpState (S T : Type 0) : Type 0 where
  pub policy : S
  pub core : CoreState ℕ
  pub table : TableState T
  pub store : Store
  pub turns : ℕ
  pub sweeps : ℕ
  pub halt : Option Halt
  pub past : Past ℕ T

abbrev pub pump_of : {S T : Type 0} → S → CoreState ℕ → TableState T → Store → ℕ → ℕ → Option Halt → Past ℕ T → PumpState S T
pump_of policy core table store turns sweeps halt past =
    record { policy = policy; core = core; table = table; store = store; turns = turns; sweeps = sweeps; halt = halt; past = past }

module _ {S T : Type 0} (m : PolicyModel T S) where
  -- what a word stands for
  abbrev pub decode : PumpState S T → ℕ → T
  decode p word = tag_at (m.plain p.policy) p.table.tags word

  -- the machine of the tags that the words stand for
  abbrev pub machine_by_words : PumpState S T → Machine S T
  machine_by_words p = record { policy = p.policy; core = core_by (decode p) p.core }

  -- its account: the tags that have words are the table's, the kept keys are those of the store, and the records are those of
  -- the tags that their words stand for
  abbrev pub account_by_words : PumpState S T → Account T
  account_by_words p = record {
    table = p.table.tags;
    limit = p.table.limit;
    sets = map (keys_by (decode p)) p.store.sets;
    ways = p.store.ways;
    turns = p.turns;
    hits = p.store.hits;
    misses = p.store.misses;
    sweeps = p.sweeps;
    halt = p.halt;
    past = past_by (decode p) p.past;
  }

  abbrev pub standing_by_words : PumpState S T → Standing S T
  standing_by_words p = record { machine = machine_by_words p; account = account_by_words p }

  -- what holds of the engine at all times: the machine is sound, word 0 is the plain tag, no more tags have words than may,
  -- every word in a register, in a pc, in memory and in a record is that of a tag, each kept rule is the policy's answer, and
  -- each set may keep one
  pub record IsPump (p : PumpState S T) : Type 0 where
    pub machine : IsMachine m (machine_by_words p)
    pub plain_word : slice_get p.table.tags 0 ≡ Some (m.plain p.policy)
    pub within : length p.table.tags ≤ p.table.limit
    pub words : IsLowCore (length p.table.tags) p.core
    pub rules : AreRules (rulebook_of m p.policy) p.table.tags p.store.sets
    pub room : 1 ≤ p.store.ways
    pub remembered : IsLowPast (length p.table.tags) p.past

  -- the masks that were taken are the policy's, and what is known of open words is so
  pub record IsMasked (masks : Group → Mask) (known : List Bool) (p : PumpState S T) : Type 0 where
    pub pump : IsPump p
    pub masks_are : (group : Group) → masks group ≡ m.ignores p.policy group
    pub open_are : AreOpen m p.policy p.table.tags known
