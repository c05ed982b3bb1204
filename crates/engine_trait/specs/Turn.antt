-- One turn of one hart. The first step that fails decides; a failure sets that hart's stop and changes nothing else.
use Rattle.std.specs.Prelude.{ℕ, Bool, true, false, ◌||◌, not, List, Option, Some, None, Result, Ok, Err, if◌then◌else◌}
use Rattle.rv_step.specs.declared.faults.Fault.{Fault}
use Rattle.rv_step.specs.declared.faults.Fault.TheVariants.{NoService, Spent}
use Rattle.policy_trait.specs.Model.{PolicyModel}
use Rattle.shared_terms.specs.Steps.{◌>>=◌}
use Rattle.policy_trait.specs.declared.rules.Ins.{Ins}
use Rattle.policy_trait.specs.declared.rules.Outs.{Outs}
use Rattle.policy_trait.specs.declared.rules.Refused.{Refused}
use Rattle.policy_trait.specs.declared.services.Answer.{Answer}
use Rattle.policy_trait.specs.declared.services.PlanEnd.{PlanEnd}
use Rattle.policy_trait.specs.declared.services.PlanEnd.TheVariants as plan_end
use Rattle.tag_memory.specs.Hart.{moved_to}
use Rattle.tag_memory.specs.Ram.{ram_tag, ram_word}
use Rattle.monitor_calls.specs.Service.{Job, service_job}
use Rattle.turn_steps.specs.Effects.{Carried, effect_result}
use Rattle.turn_steps.specs.Feeds.{Tape}
use Rattle.turn_steps.specs.Looks.{inputs_on, is_call, look_result}
use Rattle.turn_steps.specs.Peeks.{peeked}
use Rattle.turn_steps.specs.Services.{args_on, with_answer, with_words}
use Rattle.turn_steps.specs.declared.effects.Done.{Done}
use Rattle.turn_steps.specs.declared.effects.Done.TheVariants as done
use Rattle.turn_steps.specs.declared.look.Look.{Look}
use Rattle.turn_steps.specs.declared.stop.Stop.{Stop}
use Rattle.turn_steps.specs.declared.stop.Stop.TheVariants as stop
use Rattle.engine_trait.specs.Machine.{CoreState, Machine, hart_at, is_ready_in, stopping, with_hart}
use Rattle.engine_trait.specs.declared.ends.TurnEnd.{TurnEnd}
use Rattle.engine_trait.specs.declared.ends.TurnEnd.TheVariants as ends

-- after a turn: the machine, the feed, and how the turn ended
pub record Turned (S T : Type 0) : Type 0 where
  pub machine : Machine S T
  pub feed : Tape
  pub ended : TurnEnd

-- a fault as a stop
abbrev pub or_fault : {A : Type 0} → Result A Fault → Result A Stop
or_fault (Ok x) = Ok x
or_fault (Err fault) = Err (stop.Fault fault)

-- a policy's refusal at that pc, as a stop
abbrev pub violation : ℕ → Refused → Stop
violation pc refused = stop.Violation refused.part refused.why pc

-- a policy's refusal as a stop at that pc
abbrev pub or_violation : {A : Type 0} → ℕ → Result A Refused → Result A Stop
or_violation pc (Ok x) = Ok x
or_violation pc (Err refused) = Err (violation pc refused)

-- why a service was not served, as a stop
abbrev pub service_stop : ℕ → ℕ → PlanEnd → Stop
service_stop pc service (plan_end.Refused refused) = violation pc refused
service_stop pc service plan_end.Spent = stop.Fault (Spent service)

-- the work of a service, or why it was not served
abbrev pub or_unserved : {T : Type 0} → ℕ → ℕ → Result (Job T) PlanEnd → Result (Option (Job T)) Stop
or_unserved pc service (Ok job) = Ok (Some job)
or_unserved pc service (Err end) = Err (service_stop pc service end)

-- whether it is the work of a policy's service that nothing refuses
abbrev pub is_job : {T : Type 0} → Result (Option (Job T)) Stop → Bool
is_job (Ok (Some job)) = true
is_job (Ok None) = false
is_job (Err why) = false

-- ---- the core after the effect

-- after a service: the words are written, a0 has the answer, the pc goes on
unfoldable pub core_served : {T : Type 0} → CoreState T → ℕ → List (ℕ × ℕ × T) → Option (Answer T) → ℕ → T → CoreState T
core_served core h words answer next pc_tag =
    with_hart core h (moved_to (with_answer (hart_at core h) answer) next pc_tag) (with_words core.ram words)

-- after any other instruction: the exit service stops the hart
abbrev pub core_ended : {T : Type 0} → CoreState T → ℕ → Carried T → Done → CoreState T
core_ended core h carried (done.Stepped byte) = with_hart core h carried.hart carried.ram
core_ended core h carried done.Broke = with_hart core h carried.hart carried.ram
core_ended core h carried (done.Exited code) = stopping (with_hart core h carried.hart carried.ram) h (stop.Exit code)

-- how a turn ended whose instruction ended so
abbrev pub end_of : Done → TurnEnd
end_of (done.Stepped byte) = ends.Ran byte
end_of done.Broke = ends.Break
end_of (done.Exited code) = ends.Stopped (stop.Exit code)

-- what the instruction leaves of the hart, of memory and of the feed
unfoldable pub carried_at : {T : Type 0} → CoreState T → Tape → ℕ → Look → Outs T → Carried T
carried_at core feed h look outs = effect_result (hart_at core h) core.ram feed look outs

-- the core after that instruction
unfoldable pub core_effected : {T : Type 0} → CoreState T → Tape → ℕ → Look → Outs T → CoreState T
core_effected core feed h look outs = core_ended core h (carried_at core feed h look outs) (carried_at core feed h look outs).done

-- the machine with that hart stopped
abbrev pub stopped_at : {S T : Type 0} → Machine S T → ℕ → Stop → Machine S T
stopped_at s h why = record s { core = stopping s.core h why }

-- ---- the steps

-- the five tags that the rule of what a hart looks at is asked with, as the core stands
abbrev pub rule_inputs : {T : Type 0} → CoreState T → ℕ → Look → Ins T
rule_inputs core h look = inputs_on (hart_at core h) core.ram look.places look.effect.access

module _ {S T : Type 0} (m : PolicyModel T S) (s : Machine S T) where
  -- a call of a service other than exit, put and get is one of the policy's
  abbrev pub is_offered : Look → Bool
  is_offered look = not (is_call look.group) || m.knows s.policy look.service

  -- the look, or the fault of a call of a service that the policy doesn't know
  abbrev pub service_look : Look → Result Look Stop
  service_look look = if is_offered look then Ok look else Err (stop.Fault (NoService look.service))

  -- whether the policy lets the hart look at what its turn looks at before the rule
  abbrev pub may_look : ℕ → Result (Unit {0}) Refused
  may_look h = peeked (m.peek s.policy) (hart_at s.core h) s.core.ram

  -- The policy may refuse that the turn looks: at its word or its operands. Then fetch, decode, alignment and range of the access,
  -- alignment of the jump; then the service's number.
  unfoldable pub preparation : ℕ → Result Look Stop
  preparation h =
      or_violation (hart_at s.core h).pc (may_look h) >>= λ seen. or_fault (look_result (hart_at s.core h) s.core.ram) >>= service_look

  -- the rule
  unfoldable pub rule_answer : ℕ → Look → Result (Outs T) Stop
  rule_answer h look = or_violation (hart_at s.core h).pc (m.rule s.policy look.group (rule_inputs s.core h look))

  -- the answer of the rule, where the turn comes to one
  unfoldable pub rule_at : ℕ → Result (Outs T) Stop
  rule_at h = preparation h >>= rule_answer h

  -- what the policy's service that is called will do: its plan, and the words of the plan's range
  unfoldable pub service_on : ℕ → Look → Outs T → Result (Job T) PlanEnd
  service_on h look outs =
      service_job m s.policy (ram_word s.core.ram) (ram_tag s.core.ram) look.service (args_on (hart_at s.core h) s.core.ram) outs.pc

  -- the policy's service, where the instruction calls one
  unfoldable pub turn_job : ℕ → Look → Outs T → Result (Option (Job T)) Stop
  turn_job h look outs =
      if is_call look.group then or_unserved (hart_at s.core h).pc look.service (service_on h look outs) else Ok None

  -- the service's work, where the turn comes to it and nothing refuses; None for any other instruction
  unfoldable pub job_at : ℕ → Result (Option (Job T)) Stop
  job_at h = do
    look ← preparation h
    outs ← rule_answer h look
    turn_job h look outs

  -- the turn comes to a service of the policy that nothing refuses
  abbrev pub is_served : ℕ → Bool
  is_served h = is_job (job_at h)

module _ {S T : Type 0} (m : PolicyModel T S) (s : Machine S T) (feed : Tape) (h : ℕ) where
  -- the effect: that of the service, of which the policy takes note, or that of the instruction
  abbrev pub turn_effect : Look → Outs T → Option (Job T) → Turned S T
  turn_effect look outs (Some job) = record {
    machine = record {
      policy = m.commit s.policy job.plan;
      core = core_served s.core h job.words job.plan.answer look.effect.next outs.pc;
    };
    feed = feed;
    ended = ends.Ran None;
  }
  turn_effect look outs None = record {
    machine = record s { core = core_effected s.core feed h look outs };
    feed = (carried_at s.core feed h look outs).feed;
    ended = end_of (carried_at s.core feed h look outs).done;
  }

  -- the steps in a row: the first that fails decides
  unfoldable pub attempt : Result (Turned S T) Stop
  attempt = do
    look ← preparation m s h
    outs ← rule_answer m s h look
    job ← turn_job m s h look outs
    Ok (turn_effect look outs job)

  -- a failure sets that hart's stop, and changes nothing else
  abbrev pub settlement : Result (Turned S T) Stop → Turned S T
  settlement (Ok turned) = turned
  settlement (Err why) = record { machine = stopped_at s h why; feed = feed; ended = ends.Stopped why }

  -- the turn of a hart that is ready, or of one that is not
  abbrev pub turn_by : Bool → Turned S T
  turn_by true = settlement attempt
  turn_by false = record { machine = s; feed = feed; ended = ends.Idle }

  -- the turn of a hart that is not there or has stopped is idle
  unfoldable pub turn_of : Turned S T
  turn_of = turn_by (is_ready_in s.core h)
