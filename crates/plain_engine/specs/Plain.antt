-- The engine that asks its policy at every turn, and keeps no rules.
use Rattle.std.specs.Prelude.{◌≡◌, ℕ, ◌+◌, ◌-◌, ◌^◌, min, List, [], Option, Some, None, Result, Ok, Err}
use Rattle.policy_trait.specs.Model.{PolicyModel}
use Rattle.shared_terms.specs.Steps.{◌>>=◌}
use Rattle.policy_trait.specs.declared.rules.Outs.{Outs}
use Rattle.policy_trait.specs.declared.rules.Refused.{Refused}
use Rattle.tag_memory.specs.Hart.{HartState}
use Rattle.tag_memory.specs.Ram.{RamState}
use Rattle.turn_steps.specs.Feeds.{Tape, first_fed}
use Rattle.turn_steps.specs.declared.look.Look.{Look}
use Rattle.undo_log.specs.Past.{Past, Record, past_of}
use Rattle.engine_trait.specs.Accounts.{IsUncached, plain_account}
use Rattle.engine_trait.specs.Back.{awake}
use Rattle.engine_trait.specs.History.{record_done, record_or_bare, undone}
use Rattle.shared_terms.specs.Counts.{next_count}
use Rattle.engine_trait.specs.Machine.{CoreState, IsMachine, Machine, fresh_core}
use Rattle.engine_trait.specs.Standing.{Standing}
use Rattle.engine_trait.specs.Turn.{Turned, turn_effect, turn_job, settlement}
use Rattle.engine_trait.specs.declared.ends.Halt.{Halt}
use Rattle.engine_trait.specs.declared.ends.Halt.TheVariants as halt
use Rattle.engine_trait.specs.declared.ends.TurnEnd.{TurnEnd}

-- what the hart is about to do, where the policy lets it look
abbrev pub where_seen : Result (Unit {0}) Refused → Option Look → Option Look
where_seen (Ok seen) look = look
where_seen (Err refused) look = None

-- a count that stands still at the largest value of a `u64`
abbrev pub capped : ℕ → ℕ
capped n = min n (2 ^ 64 - 1)

-- the look-up of the turn in which memory ran out, which has no end
abbrev pub unended : Option Halt → ℕ
unended None = 0
unended (Some _) = 1

-- the machine and the account of an engine of these parts, where so many turns looked their rule up and ended, and so many were stopped before that
abbrev pub engine_of : {S T : Type 0} → S → CoreState T → ℕ → ℕ → Option Halt → Standing S T
engine_of policy core asked unasked halted = record {
  machine = record { policy = policy; core = core };
  account = record plain_account { turns = capped (asked + unasked); misses = capped (asked + unended halted); halt = halted };
}

-- a sound machine, and the account of an engine that keeps neither rules nor records, and so never runs out of tag numbers
pub record IsPlain {S T : Type 0} (m : PolicyModel T S) (e : Standing S T) : Type 0 where
  pub machine : IsMachine m e.machine
  pub account : IsUncached e.account
  pub past : e.account.past ≡ past_of [] 0
  pub words : awake e.account.halt ≡ e.account.halt

-- the machine of these parts at the start: no hart has stopped
abbrev pub machine_of : {S T : Type 0} → S → List (HartState T) → RamState T → Machine S T
machine_of policy harts ram = record { policy = policy; core = fresh_core harts ram }

-- the engine of these parts at the start
abbrev pub standing_of : {S T : Type 0} → S → List (HartState T) → RamState T → Standing S T
standing_of policy harts ram = record { machine = machine_of policy harts ram; account = plain_account }

-- the engine after a look-up: without kept rules it is a miss
abbrev pub after_look_up : {S T : Type 0} → Standing S T → Standing S T
after_look_up e = record e { account = record e.account { misses = next_count e.account.misses } }

-- the engine after a turn that left this machine
abbrev pub after_turn : {S T : Type 0} → Standing S T → Machine S T → Standing S T
after_turn e machine = record { machine = machine; account = record e.account { turns = next_count e.account.turns } }

-- the same of a turn that looked its rule up
abbrev pub after_asked : {S T : Type 0} → Standing S T → Machine S T → Standing S T
after_asked e machine = after_turn (after_look_up e) machine

-- the engine stopped since memory ran out
abbrev pub given_up : {S T : Type 0} → Standing S T → Standing S T
given_up e = record e { account = record e.account { halt = Some halt.Memory } }

-- what is left of a turn that the rule allowed
abbrev pub allowed_turn : {S T : Type 0} → PolicyModel T S → Machine S T → Tape → ℕ → Look → Outs T → Turned S T
allowed_turn m s feed h look outs = settlement m s feed h (turn_job m s h look outs >>= λ job. Ok (turn_effect m s feed h look outs job))

-- what a turn that the rule allowed replaces
abbrev pub allowed_record : {S T : Type 0} → PolicyModel T S → Machine S T → Tape → ℕ → Look → Outs T → Record T T
allowed_record m s feed h look outs =
    record_or_bare s.core h (turn_job m s h look outs >>= λ job. Ok (record_done s.core (first_fed feed.left) h look job))

-- the engine after a turn was taken back by its record; the counts stay
abbrev pub turned_back : {S T : Type 0} → PolicyModel T S → Standing S T → Record T T → Standing S T
turned_back m e made = record { machine = undone m e.machine made; account = record e.account { halt = awake e.account.halt } }

-- the engine with these records
abbrev pub with_past : {S T : Type 0} → Standing S T → Past T T → Standing S T
with_past e past = record e { account = record e.account { past = past } }

-- a call of a policy's service that the rule allowed ended as defined, and the look-up and the turn count
pub record EndsService {S T : Type 0} (m : PolicyModel T S) (e : Standing S T) (h : ℕ) (look : Look) (outs : Outs T) (ended : TurnEnd) (f : Standing S T) : Type 0 where
  pub turned : (feed : Tape) → allowed_turn m e.machine feed h look outs ≡ record { machine = f.machine; feed = feed; ended = ended }
  pub standing : f ≡ after_asked e f.machine
