-- How the turn of a ready hart ends, and that a call of a policy's service which retired was served.
use Rattle.std.proofs.Common.{◌≡◌, ◌⊎◌, inl, inr, ℕ, Bool, true, false, Option, Some, None, Result, Ok, Err, refl, sym, ap, ◌∙◌, subst, if◌then◌else◌}
use Rattle.std.proofs.lemmas.Option.{same_Some}
use Rattle.policy_trait.specs.Model.{PolicyModel}
use Rattle.shared_terms.specs.Steps.{◌>>=◌}
use Rattle.policy_trait.specs.declared.rules.Outs.{Outs}
use Rattle.policy_trait.specs.declared.services.Args.{Args}
use Rattle.policy_trait.specs.declared.services.Plan.{Plan}
use Rattle.policy_trait.specs.declared.services.PlanEnd.{PlanEnd}
use Rattle.monitor_calls.proofs.JobLemmas.{is_job}
use Rattle.monitor_calls.specs.Service.{Job}
use Rattle.tag_memory.specs.Ram.{ram_tag, ram_word}
use Rattle.turn_steps.specs.Feeds.{Tape}
use Rattle.turn_steps.specs.Looks.{is_call}
use Rattle.turn_steps.specs.Services.{args_on}
use Rattle.turn_steps.specs.declared.look.Look.{Look}
use Rattle.turn_steps.specs.declared.stop.Stop.{Stop}
use Rattle.turn_steps.specs.declared.stop.Stop.TheVariants as stop
use Rattle.engine_trait.proofs.TurnLemmas.{event_of-ended, job_ruled, turn_made, turn_refused, turn_ruled}
use Rattle.engine_trait.specs.Events.{Call, Event, called_in, event_by, event_of, is_retiring, is_retirement, work_in}
use Rattle.engine_trait.specs.EngineLaws.{is_made}
use Rattle.engine_trait.specs.Machine.{Machine, hart_at, is_ready_in}
use Rattle.engine_trait.specs.Turn.{Turned, rule_answer, turn_effect, or_unserved, turn_job, preparation, service_on, settlement, turn_of}
use Rattle.engine_trait.specs.declared.ends.TurnEnd.{TurnEnd}
use Rattle.engine_trait.specs.declared.ends.TurnEnd.TheVariants as ends
use Rattle.part_turns.proofs.StopLemmas.{StopsUnretired, refused_stops, unserved_stops}
use Rattle.run_props.specs.Ends.{IsStopped}

-- ---- the end

module _ {T : Type 0} (event : Event T) where
  abbrev EndsWell : Type 0
  EndsWell = (is_retirement event ≡ true) ⊎ IsStopped event

  ends_so : (end : TurnEnd) → event.ended ≡ end → is_made end ≡ true → EndsWell
  ends_so (ends.Ran byte) is made = inl (ap is_retiring is)
  ends_so ends.Break is made = inl (ap is_retiring is)
  ends_so (ends.Stopped (stop.Exit code)) is made = inl (ap is_retiring is)
  ends_so (ends.Stopped (stop.Fault fault)) is made = inr (record { why = stop.Fault fault; ended = is; failure = tt })
  ends_so (ends.Stopped (stop.Violation part why pc)) is made = inr (record { why = stop.Violation part why pc; ended = is; failure = tt })
  ends_so ends.Idle is made = absurd (cc made)
  ends_so ends.TagsOut is made = absurd (cc made)
  ends_so ends.Memory is made = absurd (cc made)

module _ {S T : Type 0} (m : PolicyModel T S) (s : Machine S T) (feed : Tape) (h : ℕ) where
  -- a ready hart's turn retires, or ends in a stop that is no exit
  pub ready_ends : is_ready_in s.core h ≡ true → (is_retirement (event_of m s feed h) ≡ true) ⊎ IsStopped (event_of m s feed h)
  ready_ends ready = ends_so (event_of m s feed h) (turn_of m s feed h).ended (event_of-ended m s feed h) (turn_made m s feed h ready)

  -- ---- a call that retired

  abbrev arguments : Args T
  arguments = args_on (hart_at s.core h) s.core.ram

  -- it was served: the event tells what the policy's plan of it did
  pub record IsServed (call : Call T) : Type 0 where
    pub plan : Plan T
    pub pc : T
    pub planned : m.plan s.policy call.number call.arguments pc ≡ Ok plan
    pub told : (event_of m s feed h).work ≡ Some (record { range = plan.range; zero = plan.zero; answer = plan.answer })

  -- the call that a look makes
  abbrev call_by_look : Look → Call T
  call_by_look look = record { number = look.service; arguments = arguments }

  plan_on : (look : Look) (outs : Outs T) (job : Job T) → service_on m s h look outs ≡ Ok job → m.plan s.policy look.service arguments outs.pc ≡ Ok job.plan
  unfolding service_on
  plan_on look outs job e = (is_job m s.policy (ram_word s.core.ram) (ram_tag s.core.ram) look.service arguments outs.pc job e).planned

  abbrev given_as : Job T → Result (Job T) PlanEnd
  given_as job = Ok job

  same_job : (pc service : ℕ) (job given : Job T) → or_unserved pc service (Ok given) ≡ Ok (Some job) → given_as given ≡ given_as job
  same_job pc service job given e = cc

  module _ (ready : is_ready_in s.core h ≡ true) (call : Call T) (called : (event_of m s feed h).call ≡ Some call) (done : is_retirement (event_of m s feed h) ≡ true) where
    event_ready : event_of m s feed h ≡ event_by m s feed h true
    unfolding event_of
    event_ready = ap (event_by m s feed h) ready

    call_is : called_in arguments (preparation m s h) ≡ Some call
    call_is = sym (ap (λ (e : Event T). e.call) event_ready) ∙ called

    retires : is_retiring (turn_of m s feed h).ended ≡ true
    retires = sym (ap is_retiring (event_of-ended m s feed h)) ∙ done

    unretired : (why : Stop) → StopsUnretired why → (turn_of m s feed h).ended ≡ ends.Stopped why → (look : Look) → IsServed (call_by_look look)
    unretired why fails ended look = absurd (let is : is_retiring (ends.Stopped why) ≡ true = sym (ap is_retiring ended) ∙ retires in cc (is, fails))

    -- a call that is served, or ends the turn
    by_given : (look : Look) (outs : Outs T) → preparation m s h ≡ Ok look → rule_answer m s h look ≡ Ok outs → is_call look.group ≡ true
        → (job : Result (Option (Job T)) Stop) → turn_job m s h look outs ≡ job
        → (given : Result (Job T) PlanEnd) → service_on m s h look outs ≡ given → or_unserved (hart_at s.core h).pc look.service given ≡ job
        → IsServed (call_by_look look)
    by_given look outs looked ruled calls (Ok (Some job)) is (Ok given) given_is e = record {
      plan = job.plan;
      pc = outs.pc;
      planned = plan_on look outs job (given_is ∙ same_job (hart_at s.core h).pc look.service job given e);
      told = ap (λ (e : Event T). e.work) event_ready ∙ ap work_in (job_ruled m s h look outs looked ruled ∙ is);
    }
    by_given look outs looked ruled calls (Ok (Some job)) is (Err end) given_is e = absurd cc
    by_given look outs looked ruled calls (Ok None) is (Ok given) given_is e = absurd cc
    by_given look outs looked ruled calls (Ok None) is (Err end) given_is e = absurd cc
    by_given look outs looked ruled calls (Err why) is given given_is e =
        unretired why (unserved_stops m s h why look outs is)
        (ap (λ (turned : Turned S T). turned.ended) (turn_ruled m s feed h look outs ready looked ruled)
        ∙ ap (λ job. (settlement m s feed h (job >>= λ j. Ok (turn_effect m s feed h look outs j))).ended) is) look

    planned_call : (look : Look) (outs : Outs T) → is_call look.group ≡ true
        → or_unserved (hart_at s.core h).pc look.service (service_on m s h look outs) ≡ turn_job m s h look outs
    unfolding turn_job
    planned_call look outs calls =
        ap (λ test. if test then or_unserved (hart_at s.core h).pc look.service (service_on m s h look outs) else Ok None) (sym calls)

    by_outs : (look : Look) → preparation m s h ≡ Ok look → is_call look.group ≡ true → (answer : Result (Outs T) Stop) → rule_answer m s h look ≡ answer
        → IsServed (call_by_look look)
    by_outs look looked calls (Ok outs) ruled =
        by_given look outs looked ruled calls (turn_job m s h look outs) refl (service_on m s h look outs) refl (planned_call look outs calls)
    by_outs look looked calls (Err why) ruled =
        unretired why (refused_stops m s h why look ruled) (ap (λ (turned : Turned S T). turned.ended) (turn_refused m s feed h look why ready looked ruled)) look

    by_group : (look : Look) → preparation m s h ≡ Ok look → (test : Bool) → is_call look.group ≡ test
        → (if test then Some (call_by_look look) else None) ≡ Some call → IsServed call
    by_group look looked true calls e = subst IsServed (same_Some (call_by_look look) call e) (by_outs look looked calls (rule_answer m s h look) refl)
    by_group look looked false calls e = absurd cc

    by_look : (found : Result Look Stop) → preparation m s h ≡ found → called_in arguments found ≡ Some call → IsServed call
    by_look (Ok look) looked e = by_group look looked (is_call look.group) refl e
    by_look (Err why) looked e = absurd cc

    pub retired_call : IsServed call
    retired_call = by_look (preparation m s h) refl call_is
