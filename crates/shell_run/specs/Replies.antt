-- What a session replies to a command, and what becomes of it.
use Rattle.std.specs.Prelude.{◌≡◌, ◌⊎◌, ℕ, ◌/◌, ◌==◌, Bool, true, false, not, nat_lt, List, [], ◌∷◌, ◌++◌, filter, length, Option, Some, None, if◌then◌else◌}
use Rattle.std.specs.List.{list_all, list_any}
use Rattle.host_io.specs.Pieces.{Piece, out}
use Rattle.policy_trait.specs.Model.{PolicyModel}
use Rattle.turn_steps.specs.Feeds.{Tape, tape_of, with_fed}
use Rattle.engine_trait.specs.Accounts.{counts_of}
use Rattle.engine_trait.specs.Machine.{stop_at}
use Rattle.engine_trait.specs.Standing.{Standing}
use Rattle.shell_lang.specs.declared.command.Command.{Command}
use Rattle.shell_lang.specs.declared.command.Command.TheVariants as command
use Rattle.shell_turns.specs.Cuts.{PutsOut, TurnsCut, all_put, cut_by}
use Rattle.shell_turns.specs.Order.{Order, listed as listed_harts, only, rounds_from}
use Rattle.shell_turns.specs.Turns.{Turns, turns}
use Rattle.shell_turns.specs.declared.ends.ObeyEnd.{ObeyEnd}
use Rattle.shell_run.specs.Lines.{back_line, refusal_line, stats_line, sweeps_line, turns_line}
use Rattle.shell_run.specs.Session.{SessionState, backed, backed_count, bytes_in, is_hart, is_place, is_range}
use Rattle.shell_run.specs.Shown.{blocks, lines_from, pc_of, register_of, statement_of, tag_of, why_line, word_of}

-- the session after a command, and the lines of the reply
pub record Reply (S T : Type 0) : Type 0 where
  pub after : SessionState S T
  pub pieces : List Piece

module _ {S T : Type 0} (s : SessionState S T) where
  -- nothing is written; a session that only tells something stays
  abbrev pub silent : Reply S T
  silent = record { after = s; pieces = [] }

  abbrev pub telling : List Piece → Reply S T
  telling pieces = record { after = s; pieces = pieces }

  -- an operand that is out of the machine's range is refused before anything is done
  abbrev pub reply_if : Bool → Reply S T → Reply S T
  reply_if test reply = if test then reply else telling (out (refusal_line 4) ∷ [])

  -- one more breakpoint: one that is kept already stays, and a 65th is refused
  abbrev pub is_kept : ℕ → Bool
  is_kept a = list_any (λ place. place == a) s.breaks

  abbrev pub with_break : ℕ → SessionState S T
  with_break a = record s { breaks = s.breaks ++ a ∷ [] }

  abbrev pub breaking : ℕ → Reply S T
  breaking a = if is_kept a then silent else reply_if (nat_lt (length s.breaks) 64) (record { after = with_break a; pieces = [] })

  -- the breakpoints without this one, whether it was set or not
  abbrev pub clearing : ℕ → Reply S T
  clearing a = record { after = record s { breaks = filter (λ place. not (place == a)) s.breaks }; pieces = [] }

  -- the feed with these bytes behind those that are still to be read
  abbrev pub feeding : List ℕ → Reply S T
  feeding bytes = record { after = record s { feed = with_fed s.feed bytes }; pieces = [] }

  -- the start again, with its account, and an empty feed; the breakpoints stay
  abbrev pub restarting : Reply S T
  restarting = record { after = record s { standing = s.start; feed = tape_of [] }; pieces = [] }

-- turns, at most how many and whose, where `test` holds
abbrev pub asked_if : Bool → ℕ → Order → Option (ℕ × Order)
asked_if test budget order = if test then Some (budget, order) else None

-- the turns that a command asks for in a session, if it asks for any: one that names a hart that isn't there asks for none
abbrev pub turns_asked : {S T : Type 0} → SessionState S T → Command → Option (ℕ × Order)
turns_asked s (command.Step h n) = asked_if (is_hart s h) n (only h)
turns_asked s (command.Run n) = Some (n, rounds_from 0)
turns_asked s (command.Turns harts) = asked_if (list_all (is_hart s) harts) (length harts) (listed_harts harts)
turns_asked s _ = None

abbrev pub is_quit : Command → Bool
is_quit command.Quit = true
is_quit _ = false

module _ {S T : Type 0} (eq : T → T → Bool) (m : PolicyModel T S) (s : SessionState S T) where
  -- after these turns: what they tell, and then how many of them were counted
  abbrev pub after_turns : Turns S T → Reply S T
  after_turns turns = record {
    after = record s { standing = turns.standing; feed = turns.feed };
    pieces = turns.pieces ++ out (turns_line (length turns.harts)) ∷ [];
  }

  -- turns, and how many were counted
  unfoldable pub running : ℕ → Order → Reply S T
  running budget order = after_turns (turns eq m s.breaks budget order s.standing s.feed)

  -- the last turns taken back, and how many
  unfoldable pub backing : ℕ → Reply S T
  backing n = record { after = backed m s (backed_count s n); pieces = out (back_line (backed_count s n)) ∷ [] }

  -- what is shown of the machine
  unfoldable pub registers_shown : ℕ → List Piece
  registers_shown h = lines_from (register_of m s.standing.machine h) 0 32

  -- n words from the address a on, their tags, and their statements
  unfoldable pub words_shown : ℕ → ℕ → List Piece
  words_shown a n = lines_from (word_of m s.standing.machine a) 0 n

  unfoldable pub tags_shown : ℕ → ℕ → List Piece
  tags_shown a n = lines_from (tag_of m s.standing.machine a) 0 n

  unfoldable pub statements_shown : ℕ → ℕ → List Piece
  statements_shown a n = lines_from (statement_of m s.standing.machine a) 0 n

  -- memory has at most one block for each of its words
  unfoldable pub blocks_shown : List Piece
  blocks_shown = blocks m s.standing.machine 0 (bytes_in s / 4)

  -- the pc of hart h; why the hart stopped, or that it is ready
  abbrev pub pc_shown : ℕ → List Piece
  pc_shown h = out (pc_of m s.standing.machine h) ∷ []

  abbrev pub why_shown : ℕ → List Piece
  why_shown h = out (why_line h (stop_at s.standing.machine.core h)) ∷ []

  -- the counts since the start or the last reset
  abbrev pub stats_shown : List Piece
  stats_shown = out (stats_line (counts_of s.standing.account)) ∷ []

  -- how many sweeps there were since then
  abbrev pub sweeps_shown : List Piece
  sweeps_shown = out (sweeps_line (counts_of s.standing.account).sweeps) ∷ []

  -- a line for each command
  unfoldable pub reply_to : Command → Reply S T
  reply_to command.Blank = silent s
  reply_to (command.Step h n) = reply_if s (is_hart s h) (running n (only h))
  reply_to (command.Run n) = running n (rounds_from 0)
  reply_to (command.Turns harts) = reply_if s (list_all (is_hart s) harts) (running (length harts) (listed_harts harts))
  reply_to (command.Back n) = backing n
  reply_to (command.Feed bytes) = feeding s bytes
  reply_to (command.Regs h) = reply_if s (is_hart s h) (telling s (registers_shown h))
  reply_to (command.Pc h) = reply_if s (is_hart s h) (telling s (pc_shown h))
  reply_to (command.Mem a n) = reply_if s (is_range s a n) (telling s (words_shown a n))
  reply_to (command.Tags a n) = reply_if s (is_range s a n) (telling s (tags_shown a n))
  reply_to (command.Dis a n) = reply_if s (is_range s a n) (telling s (statements_shown a n))
  reply_to (command.Why h) = reply_if s (is_hart s h) (telling s (why_shown h))
  reply_to command.Blocks = telling s blocks_shown
  reply_to command.Stats = telling s stats_shown
  reply_to command.Sweeps = telling s sweeps_shown
  reply_to (command.Break a) = reply_if s (is_place s a) (breaking s a)
  reply_to (command.Clear a) = reply_if s (is_place s a) (clearing s a)
  reply_to command.Reset = restarting s
  reply_to command.Quit = silent s

-- ---- commands that are cut short

module _ {S T : Type 0} (eq : T → T → Bool) (m : PolicyModel T S) where
  -- Cut short while the number of the turns was told: all of them were made, and all that they tell was put, and a prefix of that
  -- line.
  pub record IsCutInCount (breaks : List ℕ) (budget : ℕ) (order : Order) (e : Standing S T) (feed : Tape) (f : Standing S T) (fed : Tape)
      (old new : Option (List ℕ)) (end : ObeyEnd) : Type 0 where
    pub standing : f ≡ (turns eq m breaks budget order e feed).standing
    pub left : fed ≡ (turns eq m breaks budget order e feed).feed
    -- what the sink had taken before that line
    pub taken : Option (List ℕ)
    pub whole : PutsOut old taken (turns eq m breaks budget order e feed).pieces all_put
    pub prefix : PutsOut taken new (out (turns_line (length (turns eq m breaks budget order e feed).harts)) ∷ []) (cut_by end)

  module _ (s : SessionState S T) where
    -- A session whose command was cut short: it stands as it did, or, where turns were asked for, after the last of them that was
    -- made; no further one was made, and what was put is of these turns.
    abbrev pub CutAs : Option (ℕ × Order) → SessionState S T → Option (List ℕ) → Option (List ℕ) → ObeyEnd → Type 0
    CutAs None t old new end = (t.standing ≡ s.standing) × (t.feed ≡ s.feed)
    CutAs (Some asked) t old new end =
        TurnsCut eq m s.breaks asked.0 asked.1 s.standing s.feed t.standing t.feed old new end
        ⊎ IsCutInCount s.breaks asked.0 asked.1 s.standing s.feed t.standing t.feed old new end

    -- what is left of it
    pub record IsCut (asked : Option (ℕ × Order)) (t : SessionState S T) (old new : Option (List ℕ)) (end : ObeyEnd) : Type 0 where
      pub start : t.start ≡ s.start
      pub breaks : t.breaks ≡ s.breaks
      pub ended : t.ended ≡ s.ended
      pub cut : CutAs asked t old new end
