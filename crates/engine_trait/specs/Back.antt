-- An engine's newest turn, taken back by its record.
use Rattle.std.specs.Prelude.{◌≡◌, ℕ, zero, suc, true, List, [], ◌∷◌, Option, Some, None}
use Rattle.policy_trait.specs.Model.{PolicyModel}
use Rattle.turn_steps.specs.Feeds.{Tape, unread}
use Rattle.undo_log.specs.Past.{Record, newest, older}
use Rattle.engine_trait.specs.History.{record_of, undone}
use Rattle.engine_trait.specs.Machine.{IsMachine, Machine, is_ready_in}
use Rattle.engine_trait.specs.Standing.{Standing}
use Rattle.engine_trait.specs.Turn.{turn_of}
use Rattle.engine_trait.specs.declared.ends.Halt.{Halt}
use Rattle.engine_trait.specs.declared.ends.Halt.TheVariants as halt

-- an engine that is out of tag numbers runs again; one that is out of memory does not
abbrev pub awake : Option Halt → Option Halt
awake None = None
awake (Some halt.TagNumbers) = None
awake (Some halt.Memory) = Some halt.Memory

-- after the newest turn was taken back: the engine, and the feed
pub record Backed (S T : Type 0) : Type 0 where
  pub standing : Standing S T
  pub feed : Tape

module _ {S T : Type 0} (m : PolicyModel T S) (e : Standing S T) (feed : Tape) where
  -- the machine and the feed are those before the turn; counts, table and kept rules stay
  abbrev pub back_by : Option (Record T T) → Backed S T
  back_by None = record { standing = e; feed = feed }
  back_by (Some made) = record {
    standing = record {
      machine = undone m e.machine made;
      account = record e.account { past = older e.account.past; halt = awake e.account.halt };
    };
    feed = unread made.fed feed;
  }

  -- the newest turn is taken back; without a record nothing changes
  unfoldable pub back : Backed S T
  back = back_by (newest e.account.past)

-- so many turns are taken back, one after another
abbrev pub backs : {S T : Type 0} → PolicyModel T S → Standing S T → Tape → ℕ → Backed S T
backs m e feed zero = record { standing = e; feed = feed }
backs m e feed (suc n) = back m (backs m e feed n).standing (backs m e feed n).feed

-- ---- the records that lead from one machine to another

module _ {S T : Type 0} (m : PolicyModel T S) where
  -- the first of them is that of a turn, and the rest holds of the machine after it
  pub record IsLed (first : Machine S T) (made : Record T T) (Rest : Machine S T → Type 0) : Type 0 where
    pub feed : Tape
    pub hart : ℕ
    pub ready : is_ready_in first.core hart ≡ true
    pub made_is : made ≡ record_of m first feed hart
    pub rest : Rest (turn_of m first feed hart).machine

  -- they are those of turns of ready harts, one after another, from the first machine to the last
  abbrev pub LeadTo : Machine S T → List (Record T T) → Machine S T → Type 0
  LeadTo first [] last = first ≡ last
  LeadTo first (made ∷ others) last = IsLed first made (λ next. LeadTo next others last)

  -- they are those of the last turns that led to the machine, from a sound one on
  pub record IsPastOf (holds : S → Type 0) (machine : Machine S T) (kept : List (Record T T)) : Type 0 where
    pub first : Machine S T
    pub sound : IsMachine m first
    pub valid : holds first.policy
    pub led : LeadTo first kept machine
