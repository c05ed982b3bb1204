-- What is put on one sink, and how a command is cut short.
use Rattle.std.specs.Prelude.{◌≡◌, ◌⊎◌, ℕ, ◌+◌, ◌<◌, Bool, List, ◌++◌, Option, Result, Ok, Err}
use Rattle.host_io.specs.Causes.{Rose}
use Rattle.host_io.specs.Pieces.{Piece, Puts}
use Rattle.host_io.specs.declared.traits.sink.PutEnd.{PutEnd}
use Rattle.host_io.specs.declared.traits.sink.PutEnd.TheVariants as put_end
use Rattle.policy_trait.specs.Model.{PolicyModel}
use Rattle.turn_steps.specs.Feeds.{Tape}
use Rattle.engine_trait.specs.Standing.{GivesUp, Standing, step}
use Rattle.shell_turns.specs.Order.{Order}
use Rattle.shell_turns.specs.Turns.{turns}
use Rattle.shell_turns.specs.declared.ends.ObeyEnd.{ObeyEnd}
use Rattle.shell_turns.specs.declared.ends.ObeyEnd.TheVariants as ends

-- the pieces were put on standard output, or, where the call was cut short, a prefix of them; what standard error has taken is
-- not touched
unfoldable pub PutsOut : {A E : Type 0} → Option (List ℕ) → Option (List ℕ) → List Piece → Result A E → Type 0
PutsOut old new pieces result =
    (other : Option (List ℕ)) → Puts (record { out = old; err = other }) (record { out = new; err = other }) pieces result

-- a sink's count of faults rises where a put failed, and every other answer leaves it
abbrev pub ObeyCause : {A : Type 0} → ℕ → ℕ → Result A ObeyEnd → Type 0
ObeyCause before now (Ok _) = now ≡ before
ObeyCause before now (Err ends.WriteFault) = Rose before now
ObeyCause before now (Err ends.Memory) = now ≡ before

-- all of the pieces were put, or, where the call was cut short, a prefix of them
abbrev pub all_put : Result (Unit {0}) ObeyEnd
all_put = Ok tt

abbrev pub cut_by : ObeyEnd → Result (Unit {0}) ObeyEnd
cut_by end = Err end

-- the answer of a put, as that of a command
abbrev pub answer_of : Result (Unit {0}) PutEnd → Result (Unit {0}) ObeyEnd
answer_of (Ok x) = Ok x
answer_of (Err put_end.Failed) = Err ends.WriteFault
answer_of (Err put_end.Memory) = Err ends.Memory

module _ {S T : Type 0} (eq : T → T → Bool) (m : PolicyModel T S) where
  -- a turn of hart h was made: the standing, with its account, and the feed are those that it leaves
  pub record IsMade (e : Standing S T) (feed : Tape) (h : ℕ) (f : Standing S T) (fed : Tape) : Type 0 where
    pub standing : f ≡ (step eq m e feed h).standing
    pub left : fed ≡ (step eq m e feed h).feed

  -- memory ran out in a turn of hart h: the engine gave it up, and nothing was told of it
  pub record GaveUp (e : Standing S T) (feed : Tape) (h : ℕ) (f : Standing S T) (fed : Tape) (old new : Option (List ℕ)) : Type 0 where
    pub engine : GivesUp eq m e feed h f fed
    pub silent : new ≡ old

  -- A turn that was cut short: where a put failed it was made; where memory ran out, in a put or in the engine, it was made or
  -- given up.
  abbrev pub TurnCut : Standing S T → Tape → ℕ → Standing S T → Tape → Option (List ℕ) → Option (List ℕ) → ObeyEnd → Type 0
  TurnCut e feed h f fed old new ends.WriteFault = IsMade e feed h f fed
  TurnCut e feed h f fed old new ends.Memory = IsMade e feed h f fed ⊎ GaveUp e feed h f fed old new

  module _ (breaks : List ℕ) (budget : ℕ) (order : Order) (e : Standing S T) (feed : Tape) where
    -- Cut short while a turn was told, the last one that was made: the standing, with its account, and the feed are those after
    -- it. What was put is all that the turns before it tell, and a prefix of what it tells itself.
    pub record IsCutInTelling (f : Standing S T) (fed : Tape) (old new : Option (List ℕ)) (end : ObeyEnd) : Type 0 where
      pub before : ℕ
      pub within : before < budget
      pub standing : f ≡ (turns eq m breaks (before + 1) order e feed).standing
      pub left : fed ≡ (turns eq m breaks (before + 1) order e feed).feed
      -- what the sink had taken before that turn, and what the turn tells
      pub taken : Option (List ℕ)
      pub last : List Piece
      pub told : (turns eq m breaks (before + 1) order e feed).pieces ≡ (turns eq m breaks before order e feed).pieces ++ last
      pub whole : PutsOut old taken (turns eq m breaks before order e feed).pieces all_put
      pub prefix : PutsOut taken new last (cut_by end)

    -- Cut short by the engine, since memory ran out in the turn behind the last one that was made: that turn was given up, and what
    -- was put is all that those before it tell.
    pub record IsCutInEngine (f : Standing S T) (fed : Tape) (old new : Option (List ℕ)) : Type 0 where
      pub made : ℕ
      pub within : made < budget
      pub hart : ℕ
      pub engine : GivesUp eq m (turns eq m breaks made order e feed).standing (turns eq m breaks made order e feed).feed hart f fed
      pub whole : PutsOut old new (turns eq m breaks made order e feed).pieces all_put

    -- turns that were cut short, of at most so many
    abbrev pub TurnsCut : Standing S T → Tape → Option (List ℕ) → Option (List ℕ) → ObeyEnd → Type 0
    TurnsCut f fed old new ends.WriteFault = IsCutInTelling f fed old new ends.WriteFault
    TurnsCut f fed old new ends.Memory = IsCutInTelling f fed old new ends.Memory ⊎ IsCutInEngine f fed old new
