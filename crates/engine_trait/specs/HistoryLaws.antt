-- What taking turns back keeps.
use Rattle.std.specs.Prelude.{◌≡◌, ℕ, ◌%◌, ◌<◌, List, All, length}
use Rattle.std.specs.Option.{ForSome}
use Rattle.policy_trait.specs.Model.{IsCommitted, PolicyModel}
use Rattle.tag_memory.specs.Ram.{IsPlace, ram_bytes}
use Rattle.turn_steps.specs.Feeds.{Tape, unread, with_fed}
use Rattle.undo_log.specs.Past.{Record}
use Rattle.undo_log.specs.declared.record.Replaced.{Replaced}
use Rattle.engine_trait.specs.History.{AreMade, records_along, undone}
use Rattle.engine_trait.specs.Machine.{Machine}
use Rattle.engine_trait.specs.Runs.{Item, run_along}
use Rattle.engine_trait.specs.Turn.{Turned}

-- with so many harts, and so many bytes of memory, there are the hart, the register and the words that the record names, and its
-- pc is that of a word
pub record IsFit {T U : Type 0} (harts bytes : ℕ) (r : Record T U) : Type 0 where
  pub hart : r.hart < harts
  pub aligned : r.pc % 4 ≡ 0
  pub reg : ForSome r.reg (λ old. old.place < 32)
  pub word : ForSome r.word (λ old. IsPlace bytes old.place)
  pub range : All (λ (old : Replaced T). IsPlace bytes old.place) r.range

module _ {S T : Type 0} (m : PolicyModel T S) where
  -- The record takes the turn back: to the machine before it, and to the feed before it with what was fed since. The
  -- machine has what the record names, and a plan in it is the last one that was committed.
  pub record TakesBack (holds : S → Type 0) (s : Machine S T) (feed : Tape) (turned : Turned S T) (r : Record T T) : Type 0 where
    pub machine : undone m turned.machine r ≡ s
    pub tape : (bytes : List ℕ) → unread r.fed (with_fed turned.feed bytes) ≡ with_fed feed bytes
    pub fit : IsFit (length s.core.harts) (ram_bytes s.core.ram) r
    pub committed : ForSome r.plan (IsCommitted m holds turned.machine.policy)

  -- the shorter run ends where the record takes the run back to, has the records before it, and is one of turns of harts
  -- that are ready
  pub record StepsBack (s : Machine S T) (feed : Tape) (items shorter : List Item) (front : List (Record T T)) (r : Record T T) : Type 0 where
    pub machine : (run_along m s feed shorter).machine ≡ undone m (run_along m s feed items).machine r
    pub tape : (run_along m s feed shorter).feed ≡ unread r.fed (run_along m s feed items).feed
    pub records : records_along m s feed shorter ≡ front
    pub made : AreMade m s feed shorter
