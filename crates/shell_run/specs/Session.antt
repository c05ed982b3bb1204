-- A session: a machine that runs on from its start, with what the commands have set.
use Rattle.std.specs.Prelude.{◌≡◌, ℕ, ◌+◌, ◌*◌, ◌%◌, ◌==◌, ◌≤◌, Bool, false, ◌&&◌, min, nat_le, nat_lt, List, [], length, Option, Some, None}
use Rattle.policy_trait.specs.Model.{PolicyModel}
use Rattle.engine_trait.specs.Accounts.{is_over}
use Rattle.engine_trait.specs.Back.{backs}
use Rattle.engine_trait.specs.Standing.{Standing}
use Rattle.tag_memory.specs.Ram.{ram_bytes}
use Rattle.turn_steps.specs.Feeds.{Tape, tape_of}
use Rattle.shell_turns.specs.declared.ends.ObeyEnd.{ObeyEnd}

-- its start, its standing and feed by now, the breakpoints, and its early end, if it had one
pub record SessionState (S T : Type 0) : Type 0 where
  -- the start, to which a reset goes back
  pub start : Standing S T
  pub standing : Standing S T
  pub feed : Tape
  -- the breakpoints, in the order in which they were set
  pub breaks : List ℕ
  -- why it ended before its commands did, if it did
  pub ended : Option ObeyEnd

-- a session from its parts
abbrev pub session_of : {S T : Type 0} → Standing S T → Standing S T → Tape → List ℕ → Option ObeyEnd → SessionState S T
session_of start standing feed breaks ended = record {
  start = start;
  standing = standing;
  feed = feed;
  breaks = breaks;
  ended = ended;
}

-- a session at its start
abbrev pub fresh : {S T : Type 0} → Standing S T → SessionState S T
fresh start = session_of start start (tape_of []) [] None

-- a session that ended so
abbrev pub ending : {S T : Type 0} → SessionState S T → ObeyEnd → SessionState S T
ending s end = record s { ended = Some end }

-- a session can go back to its start, and there is room for the text of each tag in a line
pub record IsSession {S T : Type 0} (longest : ℕ) (s : SessionState S T) : Type 0 where
  pub within : is_over s.start.account ≡ false
  pub room : longest ≤ 460
  pub few : length s.breaks ≤ 64

module _ {S T : Type 0} (s : SessionState S T) where
  -- the number is that of a hart
  abbrev pub is_hart : ℕ → Bool
  is_hart h = nat_lt h (length s.standing.machine.core.harts)

  -- the bytes of memory
  abbrev pub bytes_in : ℕ
  bytes_in = ram_bytes s.standing.machine.core.ram

  -- the address is that of a word
  abbrev pub is_place : ℕ → Bool
  is_place a = a % 4 == 0 && nat_lt a bytes_in

  -- how many turns are taken back where so many are asked for: no more than are remembered
  abbrev pub backed_count : ℕ → ℕ
  backed_count n = min n (length s.standing.account.past.kept)

  -- so many words from that address on are all there
  abbrev pub is_range : ℕ → ℕ → Bool
  is_range a n = a % 4 == 0 && nat_le (a + 4 * n) bytes_in

-- the session with its last turns taken back, so many of them
abbrev pub backed : {S T : Type 0} → PolicyModel T S → SessionState S T → ℕ → SessionState S T
backed m s n = record s { standing = (backs m s.standing s.feed n).standing; feed = (backs m s.standing s.feed n).feed }
