-- The newest turn of an engine whose tags are words, taken back by its record.
use Rattle.std.specs.Prelude.{ℕ, length, Option, Some, None}
use Rattle.std.specs.Option.{ForSome}
use Rattle.policy_trait.specs.Model.{IsCommitted, PolicyModel}
use Rattle.tag_memory.specs.Ram.{ram_bytes}
use Rattle.turn_steps.specs.Feeds.{Tape, unread}
use Rattle.undo_log.specs.Past.{Record, older, record_with}
use Rattle.engine_trait.specs.Back.{IsPastOf, awake}
use Rattle.engine_trait.specs.History.{core_undone, policy_undone, undone}
use Rattle.engine_trait.specs.HistoryLaws.{IsFit}
use Rattle.engine_trait.specs.Machine.{IsMachine}
use Rattle.pump_engine.specs.Pump.{PumpState, account_by_words, decode, machine_by_words}

-- a byte that the turn of the record read is the next one again
abbrev pub unread_by : {U : Type 0} → Option (Record ℕ U) → Tape → Tape
unread_by None feed = feed
unread_by (Some made) feed = unread made.fed feed

module _ {S T : Type 0} (m : PolicyModel T S) (p : PumpState S T) where
  -- the policy, the core and the records are those before the turn; table, kept rules and counts stay
  abbrev pub taken_back : Option (Record ℕ T) → PumpState S T
  taken_back None = p
  taken_back (Some made) = record p {
    policy = policy_undone m p.policy made.plan;
    core = core_undone p.core made;
    halt = awake p.halt;
    past = older p.past;
  }

  -- the core has what the record names, its plan is the last that was committed, and the machine before it was sound
  pub record CanTakeBack (holds : S → Type 0) (made : Record ℕ T) : Type 0 where
    pub fit : IsFit (length p.core.harts) (ram_bytes p.core.ram) made
    pub committed : ForSome made.plan (IsCommitted m holds p.policy)
    pub sound : IsMachine m (undone m (machine_by_words m p) (record_with (decode m p) made))

  -- the records are those of the last turns that led to the machine
  abbrev pub HasPast : (S → Type 0) → Type 0
  HasPast holds = IsPastOf m holds (machine_by_words m p) (account_by_words m p).past.kept
