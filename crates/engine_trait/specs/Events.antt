-- What a turn shows of itself.
use Rattle.std.specs.Prelude.{ℕ, ◌/◌, Bool, true, false, Option, Some, None, Result, Ok, Err, slice_index, if◌then◌else◌}
use Rattle.rv_decode.specs.declared.groups.Group.{Group}
use Rattle.rv_step.specs.Accesses.{bytes_of}
use Rattle.rv_step.specs.declared.accesses.Access.{Access}
use Rattle.rv_step.specs.declared.accesses.Access.TheVariants as access
use Rattle.policy_trait.specs.Model.{PolicyModel}
use Rattle.policy_trait.specs.declared.rules.Ins.{Ins}
use Rattle.policy_trait.specs.declared.services.Answer.{Answer}
use Rattle.policy_trait.specs.declared.services.Args.{Args}
use Rattle.policy_trait.specs.declared.services.Words.{Words}
use Rattle.monitor_calls.specs.Service.{Job}
use Rattle.turn_steps.specs.Feeds.{Tape}
use Rattle.turn_steps.specs.Looks.{is_call}
use Rattle.turn_steps.specs.Services.{args_on}
use Rattle.turn_steps.specs.declared.look.Look.{Look}
use Rattle.turn_steps.specs.declared.stop.Stop.{Stop}
use Rattle.turn_steps.specs.declared.stop.Stop.TheVariants as stop
use Rattle.engine_trait.specs.Machine.{CoreState, Machine, hart_at, is_ready_in}
use Rattle.engine_trait.specs.Turn.{job_at, preparation, rule_inputs, turn_of}
use Rattle.engine_trait.specs.declared.ends.TurnEnd.{TurnEnd}
use Rattle.engine_trait.specs.declared.ends.TurnEnd.TheVariants as ends

-- what the rule was asked with
pub record Asked (T : Type 0) : Type 0 where
  pub group : Group
  pub inputs : Ins T

-- an access to memory
pub record Touch : Type 0 where
  pub address : ℕ
  pub bytes : ℕ
  pub stores : Bool

-- a call of a policy's service
pub record Call (T : Type 0) : Type 0 where
  pub number : ℕ
  pub arguments : Args T

-- what a policy's service did
pub record Work (T : Type 0) : Type 0 where
  pub range : Option Words
  pub zero : Bool
  pub answer : Option (Answer T)

-- the hart, its pc and the word there, and how the turn ended; from the rule on, what it was asked with, the access and the
-- policy's service that is called, also where that is refused or spent; and what such a service did, where it retired
pub record Event (T : Type 0) : Type 0 where
  pub hart : ℕ
  pub pc : ℕ
  pub word : ℕ
  pub ended : TurnEnd
  pub asked : Option (Asked T)
  pub access : Option Touch
  pub call : Option (Call T)
  pub work : Option (Work T)

-- a turn retires where it comes to its effect; an exit retires too
abbrev pub is_retiring : TurnEnd → Bool
is_retiring (ends.Ran byte) = true
is_retiring ends.Break = true
is_retiring (ends.Stopped (stop.Exit code)) = true
is_retiring (ends.Stopped (stop.Fault fault)) = false
is_retiring (ends.Stopped (stop.Violation part why pc)) = false
is_retiring ends.Idle = false
is_retiring ends.TagsOut = false
is_retiring ends.Memory = false

-- whether the turn of an event came to its effect
abbrev pub is_retirement : {T : Type 0} → Event T → Bool
is_retirement event = is_retiring event.ended

-- what an access touches
abbrev pub touch_of : Access → Option Touch
touch_of access.None = None
touch_of (access.Load addr width signed) = Some (record { address = addr; bytes = bytes_of width; stores = false })
touch_of (access.Store addr width value) = Some (record { address = addr; bytes = bytes_of width; stores = true })

-- what the rule was asked with, where the checks passed
abbrev pub asked_in : {T : Type 0} → CoreState T → ℕ → Result Look Stop → Option (Asked T)
asked_in core h (Ok look) = Some (record { group = look.group; inputs = rule_inputs core h look })
asked_in core h (Err why) = None

-- what the instruction touches, where the checks passed
abbrev pub touched_in : Result Look Stop → Option Touch
touched_in (Ok look) = touch_of look.effect.access
touched_in (Err why) = None

-- the policy's service that was called, where the checks passed
abbrev pub called_in : {T : Type 0} → Args T → Result Look Stop → Option (Call T)
called_in arguments (Ok look) = if is_call look.group then Some (record { number = look.service; arguments = arguments }) else None
called_in arguments (Err why) = None

-- what the service did, where nothing refused it
abbrev pub work_in : {T : Type 0} → Result (Option (Job T)) Stop → Option (Work T)
work_in (Ok (Some job)) = Some (record { range = job.plan.range; zero = job.plan.zero; answer = job.plan.answer })
work_in (Ok None) = None
work_in (Err why) = None

module _ {S T : Type 0} (m : PolicyModel T S) (s : Machine S T) (feed : Tape) (h : ℕ) where
  -- the event of a hart that is ready, or of one that is not, which asked for nothing
  abbrev pub event_by : Bool → Event T
  event_by true = record {
    hart = h;
    pc = (hart_at s.core h).pc;
    word = slice_index s.core.ram.words ((hart_at s.core h).pc / 4);
    ended = (turn_of m s feed h).ended;
    asked = asked_in s.core h (preparation m s h);
    access = touched_in (preparation m s h);
    call = called_in (args_on (hart_at s.core h) s.core.ram) (preparation m s h);
    work = work_in (job_at m s h);
  }
  event_by false = record {
    hart = h;
    pc = (hart_at s.core h).pc;
    word = slice_index s.core.ram.words ((hart_at s.core h).pc / 4);
    ended = (turn_of m s feed h).ended;
    asked = None;
    access = None;
    call = None;
    work = None;
  }

  -- what is told of the turn of the hart
  unfoldable pub event_of : Event T
  event_of = event_by (is_ready_in s.core h)
