-- The turns of one command.
use Rattle.std.specs.Prelude.{◌≡◌, ℕ, zero, suc, Bool, List, [], ◌++◌, length, Some, None, if◌then◌else◌}
use Rattle.host_io.specs.Pieces.{Piece}
use Rattle.policy_trait.specs.Model.{PolicyModel}
use Rattle.turn_steps.specs.Feeds.{Tape}
use Rattle.engine_trait.specs.Machine.{hart_at}
use Rattle.engine_trait.specs.Standing.{Standing, Stepped, step}
use Rattle.shell_turns.specs.Order.{Next, Order, next_of}
use Rattle.shell_turns.specs.Told.{break_pieces, counted_harts, end_pieces, is_break, is_last}

-- after some turns: the standing and the feed; what the turns tell; and the harts of those that were counted, in their order
pub record Turns (S T : Type 0) : Type 0 where
  pub standing : Standing S T
  pub feed : Tape
  pub pieces : List Piece
  pub harts : List ℕ

module _ {S T : Type 0} where
  abbrev pub no_turns : Standing S T → Tape → Turns S T
  no_turns e feed = record { standing = e; feed = feed; pieces = []; harts = [] }

  -- turns after others that told so much and of which so many were counted
  abbrev pub behind : List Piece → List ℕ → Turns S T → Turns S T
  behind pieces harts turns = record turns { pieces = pieces ++ turns.pieces; harts = harts ++ turns.harts }

  -- the pc of hart h after a step
  abbrev pub pc_after : ℕ → Stepped S T → ℕ
  pc_after h stepped = (hart_at stepped.standing.machine.core h).pc

  -- what a turn of hart h tells: how it ended, and then that it is a break, where it is one
  abbrev pub step_pieces : List ℕ → ℕ → Stepped S T → List Piece
  step_pieces breaks h stepped =
      end_pieces h stepped.ended ++ break_pieces (is_break breaks (pc_after h stepped) stepped.ended) h (pc_after h stepped)

  -- a turn of hart h, and then the others, unless the command ends with it
  abbrev pub then_others : List ℕ → ℕ → Stepped S T → Turns S T → Turns S T
  then_others breaks h stepped others =
      behind (step_pieces breaks h stepped) (counted_harts h stepped.ended)
      (if is_last breaks (pc_after h stepped) stepped.ended then no_turns stepped.standing stepped.feed else others)

  -- `none` where no turn is next, else what the hart of the next turn and the order behind it make
  abbrev pub going_on : Next → Turns S T → (ℕ → Order → Turns S T) → Turns S T
  going_on None none some = none
  going_on (Some next) none some = some next.0 next.1

-- the turns leave this standing and this feed, and so many of them were counted
pub record Leaves {S T : Type 0} (turns : Turns S T) (e : Standing S T) (fed : Tape) (counted : ℕ) : Type 0 where
  pub standing : e ≡ turns.standing
  pub feed : fed ≡ turns.feed
  pub count : counted ≡ length turns.harts

module _ {S T : Type 0} (eq : T → T → Bool) (m : PolicyModel T S) (breaks : List ℕ) where
  -- At most so many turns, in this order. They end early at a break, where no turn is next, and where the engine runs out of
  -- tag numbers.
  unfoldable pub turns : ℕ → Order → Standing S T → Tape → Turns S T
  turns zero order e feed = no_turns e feed
  turns (suc n) order e feed =
      going_on (next_of order e) (no_turns e feed) (λ h rest.
      then_others breaks h (step eq m e feed h)
      (turns n rest (step eq m e feed h).standing (step eq m e feed h).feed))
