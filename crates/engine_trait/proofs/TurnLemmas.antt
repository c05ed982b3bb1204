-- The turn that ends at each of its steps.
use Rattle.std.proofs.Common.{◌≡◌, ℕ, ◌≤◌, Bool, true, false, Option, Some, None, Result, Ok, Err, length, refl, ap, ◌∙◌, not, ◌&&◌, ◌||◌, if◌then◌else◌}
use Rattle.std.proofs.lemmas.Bool.{le-ltb}
use Rattle.policy_trait.specs.Model.{PolicyModel}
use Rattle.shared_terms.specs.Steps.{◌>>=◌}
use Rattle.policy_trait.specs.declared.rules.Outs.{Outs}
use Rattle.policy_trait.specs.declared.rules.Refused.{Refused}
use Rattle.monitor_calls.specs.Service.{Job}
use Rattle.turn_steps.specs.Feeds.{Tape}
use Rattle.rv_step.specs.declared.faults.Fault.TheVariants.{NoService}
use Rattle.turn_steps.specs.Looks.{is_call, is_system, look_result}
use Rattle.turn_steps.specs.declared.effects.Done.{Done}
use Rattle.turn_steps.specs.declared.effects.Done.TheVariants as done
use Rattle.turn_steps.specs.declared.look.Look.{Look}
use Rattle.turn_steps.specs.declared.stop.Stop.{Stop}
use Rattle.turn_steps.specs.declared.stop.Stop.TheVariants as stop
use Rattle.turn_steps.proofs.StepLemmas.{not_call}
use Rattle.engine_trait.specs.Events.{event_by, event_of, is_retiring, is_retirement}
use Rattle.engine_trait.specs.EngineLaws.{is_made}
use Rattle.engine_trait.specs.Machine.{CoreState, Machine, has_no_stop, hart_at, is_ready_in, stop_at}
use Rattle.engine_trait.specs.Turn.{Turned, rule_answer, rule_at, attempt, carried_at, turn_effect, end_of, job_at, may_look, or_fault, or_unserved, or_violation, service_look, turn_job, preparation, service_on, settlement, turn_by, turn_of, violation}
use Rattle.engine_trait.specs.declared.ends.TurnEnd.TheVariants as ends

pub absent_waits : {T : Type 0} (core : CoreState T) (h : ℕ) → length core.harts ≤ h → is_ready_in core h ≡ false
absent_waits core h past = ap (λ is_there. is_there && has_no_stop (stop_at core h)) (le-ltb h (length core.harts) past)

-- a turn that may look is prepared by what it looks at
pub seen_prepared : {S T : Type 0} (m : PolicyModel T S) (s : Machine S T) (h : ℕ) → may_look m s h ≡ Ok tt
    → preparation m s h ≡ (or_fault (look_result (hart_at s.core h) s.core.ram) >>= service_look m s)
unfolding preparation
seen_prepared m s h seen =
    ap (λ first. or_violation (hart_at s.core h).pc first >>= λ x. or_fault (look_result (hart_at s.core h) s.core.ram) >>= service_look m s) seen

-- one that may not stops
pub unseen_prepared : {S T : Type 0} (m : PolicyModel T S) (s : Machine S T) (h : ℕ) (refused : Refused) → may_look m s h ≡ Err refused
    → preparation m s h ≡ Err (violation (hart_at s.core h).pc refused)
unfolding preparation
unseen_prepared m s h refused seen =
    ap (λ first. or_violation (hart_at s.core h).pc first >>= λ x. or_fault (look_result (hart_at s.core h) s.core.ram) >>= service_look m s) seen

-- an instruction that is neither an ECALL nor an EBREAK comes to its rule once it is looked at
pub step_prepared : {S T : Type 0} (m : PolicyModel T S) (s : Machine S T) (h : ℕ) (look : Look) → may_look m s h ≡ Ok tt
    → look_result (hart_at s.core h) s.core.ram ≡ Ok look → is_system look.group ≡ false → preparation m s h ≡ Ok look
step_prepared m s h look seen looked plain =
    seen_prepared m s h seen
    ∙ ap (λ found. or_fault found >>= service_look m s) looked
    ∙ ap (λ (call : Bool). if not call || m.knows s.policy look.service then Ok look else Err (stop.Fault (NoService look.service))) (not_call look.group plain)

-- what a service will do, where the turn comes to it
pub job_ruled : {S T : Type 0} (m : PolicyModel T S) (s : Machine S T) (h : ℕ) (look : Look) (outs : Outs T) → preparation m s h ≡ Ok look → rule_answer m s h look ≡ Ok outs
    → job_at m s h ≡ turn_job m s h look outs
unfolding job_at
job_ruled m s h look outs looked ruled =
    ap (λ found. found >>= λ l. rule_answer m s h l >>= λ o. turn_job m s h l o) looked ∙ ap (λ answer. answer >>= λ o. turn_job m s h look o) ruled

-- the answer of the rule, where the turn comes to it
pub rule_looked : {S T : Type 0} (m : PolicyModel T S) (s : Machine S T) (h : ℕ) (look : Look) → preparation m s h ≡ Ok look → rule_at m s h ≡ rule_answer m s h look
unfolding rule_at
rule_looked m s h look looked = ap (λ found. found >>= rule_answer m s h) looked

-- an instruction that calls no service has no work of one
pub planned_own : {S T : Type 0} (m : PolicyModel T S) (s : Machine S T) (h : ℕ) (look : Look) (outs : Outs T) → is_call look.group ≡ false → turn_job m s h look outs ≡ Ok None
unfolding turn_job
planned_own m s h look outs own =
    ap (λ call. if call then or_unserved (hart_at s.core h).pc look.service (service_on m s h look outs) else Ok None) own

module _ {S T : Type 0} (m : PolicyModel T S) (s : Machine S T) (feed : Tape) (h : ℕ) where
  -- ---- what the event of a turn tells

  hart_by : (ready : Bool) → (event_by m s feed h ready).hart ≡ h
  hart_by true = refl
  hart_by false = refl

  ended_by : (ready : Bool) → (event_by m s feed h ready).ended ≡ (turn_of m s feed h).ended
  ended_by true = refl
  ended_by false = refl

  pub event_of-hart : (event_of m s feed h).hart ≡ h
  unfolding event_of
  event_of-hart = hart_by (is_ready_in s.core h)

  pub event_of-ended : (event_of m s feed h).ended ≡ (turn_of m s feed h).ended
  unfolding event_of
  event_of-ended = ended_by (is_ready_in s.core h)

  -- ---- a hart that is not there or has stopped

  pub turn_idle : is_ready_in s.core h ≡ false → turn_of m s feed h ≡ record { machine = s; feed = feed; ended = ends.Idle }
  unfolding turn_of
  turn_idle waits = ap (λ ready. turn_by m s feed h ready) waits

  pub event_idle : is_ready_in s.core h ≡ false → is_retirement (event_of m s feed h) ≡ false
  unfolding event_of
  event_idle waits = ap (λ ready. is_retirement (event_by m s feed h ready)) waits ∙ ap (λ turned. is_retiring turned.ended) (turn_idle waits)

  -- ---- a ready hart

  abbrev pub planned_turn : Look → Outs T → Result (Turned S T) Stop
  planned_turn look outs = turn_job m s h look outs >>= λ job. Ok (turn_effect m s feed h look outs job)

  abbrev pub allowed_turn : Look → Result (Turned S T) Stop
  allowed_turn look = rule_answer m s h look >>= planned_turn look

  pub turn_ready : is_ready_in s.core h ≡ true → turn_of m s feed h ≡ settlement m s feed h (attempt m s feed h)
  unfolding turn_of
  turn_ready ready = ap (λ is_ready. turn_by m s feed h is_ready) ready

  attempt_prepared : (look : Look) → preparation m s h ≡ Ok look → attempt m s feed h ≡ allowed_turn look
  unfolding attempt
  attempt_prepared look looked = ap (λ found. found >>= allowed_turn) looked

  attempt_allowed : (look : Look) (outs : Outs T) → preparation m s h ≡ Ok look → rule_answer m s h look ≡ Ok outs → attempt m s feed h ≡ planned_turn look outs
  attempt_allowed look outs looked ruled = attempt_prepared look looked ∙ ap (λ answer. answer >>= planned_turn look) ruled

  attempt_stopped : (why : Stop) → preparation m s h ≡ Err why → attempt m s feed h ≡ Err why
  unfolding attempt
  attempt_stopped why looked = ap (λ found. found >>= allowed_turn) looked

  pub turn_checked : (why : Stop) → is_ready_in s.core h ≡ true → preparation m s h ≡ Err why → turn_of m s feed h ≡ settlement m s feed h (Err why)
  turn_checked why ready looked = turn_ready ready ∙ ap (settlement m s feed h) (attempt_stopped why looked)

  pub turn_refused : (look : Look) (why : Stop) → is_ready_in s.core h ≡ true → preparation m s h ≡ Ok look → rule_answer m s h look ≡ Err why
      → turn_of m s feed h ≡ settlement m s feed h (Err why)
  turn_refused look why ready looked ruled =
      turn_ready ready ∙ ap (settlement m s feed h) (attempt_prepared look looked ∙ ap (λ answer. answer >>= planned_turn look) ruled)

  pub turn_ruled : (look : Look) (outs : Outs T) → is_ready_in s.core h ≡ true → preparation m s h ≡ Ok look → rule_answer m s h look ≡ Ok outs
      → turn_of m s feed h ≡ settlement m s feed h (planned_turn look outs)
  turn_ruled look outs ready looked ruled = turn_ready ready ∙ ap (settlement m s feed h) (attempt_allowed look outs looked ruled)

  -- ---- a ready hart has its turn

  ended_made : (end : Done) → is_made (end_of end) ≡ true
  ended_made (done.Stepped byte) = refl
  ended_made done.Broke = refl
  ended_made (done.Exited code) = refl

  effected_made : (look : Look) (outs : Outs T) (job : Option (Job T)) → is_made (turn_effect m s feed h look outs job).ended ≡ true
  effected_made look outs (Some job) = refl
  effected_made look outs None = ended_made (carried_at s.core feed h look outs).done

  steps_made : {A : Type 0} (first : Result A Stop) (rest : A → Result (Turned S T) Stop)
      → ((x : A) → is_made (settlement m s feed h (rest x)).ended ≡ true) → is_made (settlement m s feed h (first >>= rest)).ended ≡ true
  steps_made (Ok x) rest each = each x
  steps_made (Err why) rest each = refl

  attempt_made : is_made (settlement m s feed h (attempt m s feed h)).ended ≡ true
  unfolding attempt
  attempt_made =
      steps_made (preparation m s h) allowed_turn λ look.
      steps_made (rule_answer m s h look) (planned_turn look) λ outs.
      steps_made (turn_job m s h look outs) (λ job. Ok (turn_effect m s feed h look outs job)) (effected_made look outs)

  pub turn_made : is_ready_in s.core h ≡ true → is_made (turn_of m s feed h).ended ≡ true
  turn_made ready = ap (λ turned. is_made turned.ended) (turn_ready ready) ∙ attempt_made
