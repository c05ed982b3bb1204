-- A turn that fails at one of its steps stops its hart, and does not retire: an exit is an effect.
use Rattle.std.proofs.Common.{◌≡◌, ℕ, Bool, true, false, Option, None, Result, Ok, Err, refl, subst, if◌then◌else◌}
use Rattle.rv_step.specs.declared.faults.Fault.{Fault}
use Rattle.rv_step.specs.declared.faults.Fault.TheVariants.{NoService, Spent}
use Rattle.policy_trait.specs.Model.{PolicyModel}
use Rattle.shared_terms.specs.Steps.{◌>>=◌}
use Rattle.policy_trait.specs.declared.rules.Outs.{Outs}
use Rattle.policy_trait.specs.declared.rules.Refused.{Refused}
use Rattle.policy_trait.specs.declared.services.PlanEnd.{PlanEnd}
use Rattle.policy_trait.specs.declared.services.PlanEnd.TheVariants as plan_end
use Rattle.monitor_calls.specs.Service.{Job}
use Rattle.turn_steps.specs.Looks.{is_call, look_result}
use Rattle.turn_steps.specs.declared.look.Look.{Look}
use Rattle.turn_steps.specs.declared.stop.Stop.{Stop}
use Rattle.turn_steps.specs.declared.stop.Stop.TheVariants as stop
use Rattle.engine_trait.specs.Events.{is_retiring}
use Rattle.engine_trait.specs.Machine.{Machine, hart_at}
use Rattle.engine_trait.specs.Turn.{rule_answer, rule_inputs, is_offered, may_look, service_look, or_fault, or_unserved, or_violation, turn_job, preparation, service_on, service_stop, violation}
use Rattle.engine_trait.specs.declared.ends.TurnEnd.TheVariants as ends

-- a turn that stops so does not retire
abbrev pub StopsUnretired : Stop → Type 0
StopsUnretired why = is_retiring (ends.Stopped why) ≡ false

abbrev failed : (A : Type 0) → Stop → Result A Stop
failed A why = Err why

-- a step that failed so, of which that is known
stops_as : (A : Type 0) (given why : Stop) → StopsUnretired given → failed A given ≡ failed A why → StopsUnretired why
stops_as A given why unretired e = subst StopsUnretired (let same : given ≡ why = cc in same) unretired

violated : {A : Type 0} (pc : ℕ) (answer : Result A Refused) (why : Stop) → or_violation pc answer ≡ Err why → StopsUnretired why
violated pc (Ok x) why e = absurd cc
violated {A} pc (Err refused) why e = stops_as A (violation pc refused) why refl e

module _ {S T : Type 0} (w : PolicyModel T S) (s : Machine S T) (h : ℕ) (why : Stop) where
  by_offer : (look : Look) (is_so : Bool) → (if is_so then Ok look else Err (stop.Fault (NoService look.service))) ≡ Err why → StopsUnretired why
  by_offer look true e = absurd cc
  by_offer look false e = stops_as Look (stop.Fault (NoService look.service)) why refl e

  by_check : (found : Result Look Fault) → (or_fault found >>= service_look w s) ≡ Err why → StopsUnretired why
  by_check (Ok look) e = by_offer look (is_offered w s look) e
  by_check (Err fault) e = stops_as Look (stop.Fault fault) why refl e

  by_look : (pc : ℕ) (seen : Result (Unit {0}) Refused) (found : Result Look Fault)
      → (or_violation pc seen >>= λ x. or_fault found >>= service_look w s) ≡ Err why → StopsUnretired why
  by_look pc (Ok x) found e = by_check found e
  by_look pc (Err refused) found e = stops_as Look (violation pc refused) why refl e

  pub checked_stops : preparation w s h ≡ Err why → StopsUnretired why
  unfolding preparation
  checked_stops e = by_look (hart_at s.core h).pc (may_look w s h) (look_result (hart_at s.core h) s.core.ram) e

  pub refused_stops : (look : Look) → rule_answer w s h look ≡ Err why → StopsUnretired why
  unfolding rule_answer
  refused_stops look e = violated (hart_at s.core h).pc (w.rule s.policy look.group (rule_inputs s.core h look)) why e

  by_end : (pc service : ℕ) (end : PlanEnd) → failed (Option (Job T)) (service_stop pc service end) ≡ Err why → StopsUnretired why
  by_end pc service (plan_end.Refused refused) e = stops_as (Option (Job T)) (violation pc refused) why refl e
  by_end pc service plan_end.Spent e = stops_as (Option (Job T)) (stop.Fault (Spent service)) why refl e

  by_call : (pc service : ℕ) (is_so : Bool) (given : Result (Job T) PlanEnd)
      → (if is_so then or_unserved pc service given else Ok None) ≡ Err why → StopsUnretired why
  by_call pc service true (Ok job) e = absurd cc
  by_call pc service true (Err end) e = by_end pc service end e
  by_call pc service false given e = absurd cc

  pub unserved_stops : (look : Look) (outs : Outs T) → turn_job w s h look outs ≡ Err why → StopsUnretired why
  unfolding turn_job
  unserved_stops look outs e = by_call (hart_at s.core h).pc look.service (is_call look.group) (service_on w s h look outs) e
