-- What every turn and every step keep, and how a step ends.
use Rattle.std.specs.Prelude.{◌≡◌, ℕ, ◌%◌, Bool, true, false, None, length}
use Rattle.policy_trait.specs.Model.{PolicyModel}
use Rattle.tag_memory.specs.Hart.{reg_tag, reg_value}
use Rattle.tag_memory.specs.Ram.{ram_bytes}
use Rattle.turn_steps.specs.Feeds.{Tape}
use Rattle.engine_trait.specs.Accounts.{account_after_turn, is_over, remembering}
use Rattle.shared_terms.specs.Counts.{next_count}
use Rattle.undo_log.specs.Past.{pushed}
use Rattle.engine_trait.specs.History.{record_of}
use Rattle.engine_trait.specs.Machine.{IsMachine, Machine, hart_at}
use Rattle.engine_trait.specs.Standing.{Standing, Stepped, is_ready, out_of_words}
use Rattle.engine_trait.specs.Turn.{turn_of}
use Rattle.engine_trait.specs.declared.ends.TurnEnd.{TurnEnd}
use Rattle.engine_trait.specs.declared.ends.TurnEnd.TheVariants as ends

-- a sound machine still, with as many harts, as much memory and the same plain tag
pub record StaysMachine {S T : Type 0} (m : PolicyModel T S) (s n : Machine S T) : Type 0 where
  pub machine : IsMachine m n
  pub harts : length n.core.harts ≡ length s.core.harts
  pub ram : ram_bytes n.core.ram ≡ ram_bytes s.core.ram
  pub plain : m.plain n.policy ≡ m.plain s.policy

-- x0 of that hart is 0 and plain, and its pc is that of a word
pub record HasPlainZero {S T : Type 0} (m : PolicyModel T S) (s : Machine S T) (h : ℕ) : Type 0 where
  pub zero : reg_value (hart_at s.core h) 0 ≡ 0
  pub plain : reg_tag (hart_at s.core h) 0 ≡ m.plain s.policy
  pub aligned : (hart_at s.core h).pc % 4 ≡ 0

-- the hart had its turn
abbrev pub is_made : TurnEnd → Bool
is_made (ends.Ran byte) = true
is_made ends.Break = true
is_made (ends.Stopped why) = true
is_made ends.Idle = false
is_made ends.TagsOut = false
is_made ends.Memory = false

module _ {S T : Type 0} (eq : T → T → Bool) (m : PolicyModel T S) (e : Standing S T) (feed : Tape) (h : ℕ) where
  -- the step is the machine's turn, it is counted and remembered, and the engine runs on
  pub record FollowsTurn (f : Stepped S T) : Type 0 where
    pub ready : is_ready e h ≡ true
    pub machine : f.standing.machine ≡ (turn_of m e.machine feed h).machine
    pub fed : f.feed ≡ (turn_of m e.machine feed h).feed
    pub ended : f.ended ≡ (turn_of m e.machine feed h).ended
    pub account : f.standing.account ≡ remembering (record_of m e.machine feed h) (account_after_turn eq m e.machine h e.account)
    pub halt : f.standing.account.halt ≡ None
    pub turns : f.standing.account.turns ≡ next_count e.account.turns
    pub past : f.standing.account.past ≡ pushed e.account.past (record_of m e.machine feed h)

  -- the turn would give more tags a word than may have one
  pub record RunsOut (f : Stepped S T) : Type 0 where
    pub ready : is_ready e h ≡ true
    pub over : is_over (account_after_turn eq m e.machine h e.account) ≡ true
    pub out : f ≡ out_of_words eq m e feed h
    pub past : f.standing.account.past ≡ e.account.past

  -- nothing changed
  pub record StaysIdle (f : Stepped S T) : Type 0 where
    pub waits : is_ready e h ≡ false
    pub idle : f ≡ record { standing = e; feed = feed; ended = ends.Idle }
