-- A turn under a whole policy is, for a part of it that is on, one of those that the part allows.
use Rattle.std.specs.Option.{ForSome}
use Rattle.std.proofs.Common.{◌≡◌, ℕ, Bool, true, false, Option, Some, None, Result, Ok, Err, option_map, refl, ap, sym, subst, ◌∙◌, if◌then◌else◌}
use Rattle.rv_decode.specs.declared.groups.Group.{Group}
use Rattle.rv_decode.specs.declared.groups.Group.TheVariants as group
use Rattle.rv_step.specs.declared.accesses.Access.TheVariants as access
use Rattle.policy_trait.specs.PolicyLaws.{IsRange, KeepsLaws}
use Rattle.policy_trait.specs.Maps.{args_by, ins_by, outs_by, plan_by}
use Rattle.policy_trait.specs.Model.{PolicyModel}
use Rattle.shared_terms.specs.Steps.{◌>>=◌}
use Rattle.policy_trait.specs.declared.rules.Ins.{Ins}
use Rattle.policy_trait.specs.declared.rules.Outs.{Outs}
use Rattle.policy_trait.specs.declared.rules.Refused.{Refused}
use Rattle.policy_trait.specs.declared.services.Args.{Args}
use Rattle.policy_trait.specs.declared.services.Plan.{Plan}
use Rattle.tag_memory.specs.Hart.{HartState}
use Rattle.tag_memory.specs.Maps.{hart_by}
use Rattle.tag_memory.specs.Ram.{ram_bytes, ram_tag, ram_word}
use Rattle.tag_memory.proofs.MapLemmas.{ram_tag_by}
use Rattle.monitor_calls.specs.Ranges.{IsJobOf}
use Rattle.monitor_calls.specs.Service.{Job, retagged_range}
use Rattle.monitor_calls.proofs.JobLemmas.{is_job}
use Rattle.turn_steps.specs.Effects.{result_value}
use Rattle.turn_steps.specs.Feeds.{Tape}
use Rattle.turn_steps.specs.Looks.{is_call, look_result}
use Rattle.turn_steps.specs.Services.{args_on}
use Rattle.turn_steps.specs.declared.look.Look.{Look}
use Rattle.turn_steps.specs.declared.stop.Stop.{Stop}
use Rattle.turn_steps.proofs.MapLemmas.{looked_by}
use Rattle.engine_trait.specs.Events.{Call, Event, asked_in, called_in, event_by, event_of, is_retiring, touched_in, work_in}
use Rattle.engine_trait.specs.Machine.{CoreState, IsMachine, Machine, hart_at, is_ready_in}
use Rattle.engine_trait.specs.Maps.{core_by, words_by}
use Rattle.engine_trait.specs.Turn.{Turned, rule_answer, carried_at, core_effected, turn_effect, job_at, or_violation, turn_job, preparation, rule_inputs, service_on, settlement, turn_of}
use Rattle.engine_trait.specs.declared.ends.TurnEnd.{TurnEnd}
use Rattle.engine_trait.specs.declared.ends.TurnEnd.TheVariants as ends
use Rattle.engine_trait.proofs.MachineLemmas.{Prepares, can_plan, known_call, plans, prepared_is}
use Rattle.engine_trait.proofs.MapLemmas.{args_on_by, core_effected_by, core_served_by, hart_at_by, rule_inputs_by}
use Rattle.engine_trait.proofs.MirrorLemmas.{ready_by}
use Rattle.engine_trait.proofs.TurnLemmas.{event_idle, job_ruled, turn_checked, turn_idle, turn_refused, turn_ruled}
use Rattle.policy_parts.specs.Part.{IsPart, Planned, beside_others}
use Rattle.policy_parts.specs.Lens.{Lens}
use Rattle.part_turns.specs.Maps.{call_by, event_with, seen_by}
use Rattle.part_turns.specs.Moments.{Service, service_by, service_of}
use Rattle.part_turns.specs.Turns.{Allows, Turns, after_service, exits, goes, idles, is_computing, serves, stops}
use Rattle.part_turns.proofs.EffectLemmas.{Leaves, halts, leaves, moves_on, no_access, retires}
use Rattle.part_turns.proofs.LookLemmas.{Looks, looks}
use Rattle.part_turns.proofs.ServiceLemmas.{job_seen, number_is}
use Rattle.part_turns.proofs.StopLemmas.{StopsUnretired, checked_stops, refused_stops, unserved_stops}

-- ---- what a turn that came so far knows

ruled : {A : Type 0} (pc : ℕ) (answer : Result A Refused) (given : A) → or_violation pc answer ≡ Ok given → answer ≡ Ok given
ruled pc (Ok x) given e = cc
ruled pc (Err refused) given e = absurd cc

call_is : (called_group : Group) → is_call called_group ≡ true → called_group ≡ group.Call
call_is group.Call e = refl
call_is _ e = absurd cc

no_work : {T : Type 0} (call : Option (Call T)) → service_by call None ≡ None
no_work None = refl
no_work (Some call) = refl

-- ---- the turn

module _ {T S U V : Type 0} (w : PolicyModel T S) (m : PolicyModel U V) (l : Lens T S U V) (holds : S → Type 0) (s : Machine S T) (h : ℕ) where
  -- what the part sees of an event and of the machine that is left: one of its turns, where the machine is sound
  pub record Shown (e : Event T) (left : Machine S T) : Type 0 where
    pub turns : IsMachine w s → holds s.policy → Turns m (seen_by l s) h (event_with l.tag e) (seen_by l left)
    pub stays_on : l.is_on left.policy ≡ true

module _ {T S U V : Type 0} (w : PolicyModel T S) (m : PolicyModel U V) (l : Lens T S U V) (holds : S → Type 0) (laws : KeepsLaws w holds)
    (part : IsPart w m l) (s : Machine S T) (on : l.is_on s.policy ≡ true) (feed : Tape) (h : ℕ) where
  abbrev own : Machine V U
  own = seen_by l s

  abbrev hart : HartState T
  hart = hart_at s.core h

  abbrev own_hart : HartState U
  own_hart = hart_at own.core h

  hart_is : own_hart ≡ hart_by l.tag hart
  hart_is = hart_at_by l.tag s.core h

  abbrev arguments : Args T
  arguments = args_on hart s.core.ram

  -- the event of a ready hart
  abbrev event_as : TurnEnd → Result Look Stop → Result (Option (Job T)) Stop → Event T
  event_as ended found job = record {
    hart = h;
    pc = hart.pc;
    word = ram_word s.core.ram hart.pc;
    ended = ended;
    asked = asked_in s.core h found;
    access = touched_in found;
    call = called_in arguments found;
    work = work_in job;
  }

  abbrev ShownTurn : Type 0
  ShownTurn = Shown w m l holds s h (event_of w s feed h) (turn_of w s feed h).machine

  -- the same of a turn whose steps are known
  abbrev ShownAs : Turned S T → Result Look Stop → Result (Option (Job T)) Stop → Type 0
  ShownAs turned found job = Shown w m l holds s h (event_as turned.ended found job) turned.machine

  -- ---- a hart that waits

  idle_hart : is_ready_in s.core h ≡ false → (event_of w s feed h).hart ≡ h
  unfolding event_of
  idle_hart waits = ap (λ ready. (event_by w s feed h ready).hart) waits

  idle_serves_none : is_ready_in s.core h ≡ false → service_of (event_with l.tag (event_of w s feed h)) ≡ None
  unfolding event_of
  idle_serves_none waits = ap (λ ready. service_of (event_with l.tag (event_by w s feed h ready))) waits

  idle_shown : is_ready_in s.core h ≡ false → ShownTurn
  idle_shown waits =
      let left : (turn_of w s feed h).machine ≡ s = ap (λ (turned : Turned S T). turned.machine) (turn_idle w s feed h waits) in
      record {
        turns = λ sound valid. idles (ready_by l.tag s.core h ∙ waits) (idle_hart waits) (event_idle w s feed h waits) (idle_serves_none waits) (ap (seen_by l) left);
        stays_on = ap (λ (machine : Machine S T). l.is_on machine.policy) left ∙ on;
      }

  -- ---- a ready hart

  module _ (ready : is_ready_in s.core h ≡ true) where
    own_ready : is_ready_in own.core h ≡ true
    own_ready = ready_by l.tag s.core h ∙ ready

    event_is : event_of w s feed h ≡ event_as (turn_of w s feed h).ended (preparation w s h) (job_at w s h)
    unfolding event_of
    event_is = ap (event_by w s feed h) ready

    shown : (turned : Turned S T) (found : Result Look Stop) (job : Result (Option (Job T)) Stop)
        → turn_of w s feed h ≡ turned → preparation w s h ≡ found → job_at w s h ≡ job → ShownAs turned found job → ShownTurn
    shown turned found job turned_is found_is job_is given =
        subst (λ (after : Turned S T). Shown w m l holds s h (event_of w s feed h) after.machine) (sym turned_is)
        (subst (λ e. Shown w m l holds s h e turned.machine) (sym (event_is ∙ (λ j. event_as (turned_is j).ended (found_is j) (job_is j)))) given)

    stop_shown : (why : Stop) (found : Result Look Stop) → StopsUnretired why → ShownAs (settlement w s feed h (Err why)) found (Err why)
    stop_shown why found unretired = record {
      turns = λ sound valid. stops why own_ready refl unretired (no_work (option_map (call_by l.tag) (called_in arguments found))) refl;
      stays_on = on;
    }

    -- ---- that the rule allows

    module _ (look : Look) (outs : Outs T) (look_is : preparation w s h ≡ Ok look) (outs_are : rule_answer w s h look ≡ Ok outs) where
      abbrev own_outs : Outs U
      own_outs = outs_by l.tag outs

      found : Prepares w s h look
      found = prepared_is w s h look look_is

      facts : Looks own_hart own.core.ram look
      facts =
          looks own_hart own.core.ram look
          (ap (λ (seen : HartState U). look_result seen own.core.ram) hart_is
          ∙ looked_by l.tag hart s.core.ram
          ∙ found.looked_is)

      abbrev inputs : Ins T
      inputs = rule_inputs s.core h look

      inputs_are : rule_inputs own.core h look ≡ ins_by l.tag inputs
      inputs_are = rule_inputs_by l.tag s.core h look

      rule_is : w.rule s.policy look.group inputs ≡ Ok outs
      unfolding rule_answer
      rule_is = ruled hart.pc (w.rule s.policy look.group inputs) outs outs_are

      allows : (ended : TurnEnd) (job : Result (Option (Job T)) Stop) → is_retiring ended ≡ true
          → Allows m own h look own_outs (event_with l.tag (event_as ended (Ok look) job))
      allows ended job retiring = record {
        ready = own_ready;
        seen = facts.seen;
        rule = ap (m.rule own.policy look.group) inputs_are ∙ part.rule s.policy look.group inputs outs on rule_is;
        is_retired = retiring;
        hart = refl;
        pc = ap (λ (seen : HartState U). seen.pc) (sym hart_is);
        word = ap (λ (seen : HartState U). ram_word s.core.ram seen.pc) (sym hart_is) ∙ sym facts.seen.word;
        asked = ap (λ (given : Ins U). Some (record { group = look.group; inputs = given })) (sym inputs_are);
        access = refl;
      }

      -- ---- an instruction that calls no service of a policy

      abbrev own_left : CoreState U
      own_left = core_by l.tag (core_effected s.core feed h look outs)

      left_is : Leaves own.core h look own_outs own_left
      left_is =
          subst (Leaves own.core h look own_outs) (core_effected_by l.tag s.core feed h look outs)
          (leaves own.core h look own_outs feed facts.does)

      abbrev effect_event : Event U
      effect_event = event_with l.tag (event_as (turn_effect w s feed h look outs None).ended (Ok look) (Ok None))

      allows_effect : Allows m own h look own_outs effect_event
      allows_effect = allows (turn_effect w s feed h look outs None).ended (Ok None) (retires (carried_at s.core feed h look outs).done)

      serves_none : service_of effect_event ≡ None
      serves_none = no_work (option_map (call_by l.tag) (called_in arguments (Ok look)))

      effect_turns : Leaves own.core h look own_outs own_left → Turns m own h effect_event (record own { core = own_left })
      effect_turns (halts code is none left) =
          exits look own_outs code allows_effect serves_none is none (ap (λ (core : CoreState U). record own { core = core }) left)
      effect_turns (moves_on register value does left) =
          goes look own_outs register value allows_effect serves_none does (ap (λ (core : CoreState U). record own { core = core }) left)

      effect_shown : ShownAs (turn_effect w s feed h look outs None) (Ok look) (Ok None)
      effect_shown = record { turns = λ sound valid. effect_turns left_is; stays_on = on }

      -- ---- a call of a policy's service

      args_are : args_by l.tag arguments ≡ args_on own_hart own.core.ram
      args_are = sym (args_on_by l.tag hart s.core.ram) ∙ ap (λ (seen : HartState U). args_on seen own.core.ram) (sym hart_is)

      module _ (job : Job T) (call : is_call look.group ≡ true)
          (is : IsJobOf w s.policy (ram_word s.core.ram) (ram_tag s.core.ram) look.service arguments outs.pc job) where
        abbrev own_plan : Plan U
        own_plan = plan_by l.tag job.plan

        plan_is : Planned m own.policy look.service (args_by l.tag arguments) own_outs.pc own_plan
        plan_is = part.plan s.policy look.service arguments outs.pc job.plan on (known_call w s h look found call) is.planned

        known : w.knows s.policy job.plan.service ≡ true
        known =
            ap (w.knows s.policy) (number_is m own.policy look.service (args_by l.tag arguments) own_outs.pc own_plan plan_is)
            ∙ known_call w s h look found call

        ranged : IsMachine w s → holds s.policy → ForSome job.plan.range (IsRange (ram_bytes s.core.ram))
        ranged sound valid = laws.ranges s.policy look.service arguments outs.pc job.plan (can_plan w s h sound look found call) valid is.planned

        abbrev job_event : Event U
        job_event = event_with l.tag (event_as (ends.Ran None) (Ok look) (Ok (Some job)))

        abbrev service_with : Args U → Option (Service U)
        service_with asked =
            Some (record { number = look.service; arguments = asked; range = own_plan.range; zero = own_plan.zero; answer = own_plan.answer })

        abbrev call_if : Bool → Option (Call T)
        call_if is_so = if is_so then Some (record { number = look.service; arguments = arguments }) else None

        service_is : service_of job_event ≡ service_with (args_on own_hart own.core.ram)
        service_is = ap (λ is_so. service_by (option_map (call_by l.tag) (call_if is_so)) job_event.work) call ∙ ap service_with args_are

        served_is : seen_by l (turn_effect w s feed h look outs (Some job)).machine
            ≡ after_service m own h look own_outs own_plan (words_by l.tag job.words)
        served_is = λ j. record {
          policy = part.commit s.policy job.plan on known j;
          core = sym (core_served_by l.tag s.core h job.words job.plan.answer look.effect.next outs.pc) j;
        }

        no_store : look.effect.access ≡ access.None
        no_store =
            no_access own_hart own.core.ram look look.places.result (result_value own.core.ram look.effect.value look.effect.access)
            (ap is_computing (call_is look.group call)) facts.does

        words_are : retagged_range (beside_others m) own.policy (ram_word own.core.ram) (ram_tag own.core.ram) own_plan own_plan.range
            ≡ Ok (words_by l.tag job.words)
        words_are =
            job_seen w m l part s.policy on (ram_word s.core.ram) (ram_tag s.core.ram) (ram_tag own.core.ram) (ram_tag_by l.tag s.core.ram)
            job.plan known look.service arguments outs.pc job.words is

        job_turns : IsMachine w s → holds s.policy → Turns m own h job_event (seen_by l (turn_effect w s feed h look outs (Some job)).machine)
        job_turns sound valid =
            serves look own_outs own_plan (words_by l.tag job.words) (allows (ends.Ran None) (Ok (Some job)) refl)
            (call_is look.group call) no_store service_is
            (subst (λ (asked : Args U). Planned m own.policy look.service asked own_outs.pc own_plan) args_are plan_is)
            (ranged sound valid) words_are served_is

        job_shown : ShownAs (turn_effect w s feed h look outs (Some job)) (Ok look) (Ok (Some job))
        job_shown = record { turns = job_turns; stays_on = part.stays s.policy job.plan on known }

      call_shown : (job : Job T) → turn_job w s h look outs ≡ Ok (Some job)
          → ShownAs (turn_effect w s feed h look outs (Some job)) (Ok look) (Ok (Some job))
      unfolding turn_job service_on
      call_shown job e =
          let parts = plans (is_call look.group) (service_on w s h look outs) hart.pc look.service job e in
          job_shown job parts.0 (is_job w s.policy (ram_word s.core.ram) (ram_tag s.core.ram) look.service arguments outs.pc job parts.1)

      -- ---- each end of the plan

      abbrev turned_with : Result (Option (Job T)) Stop → Turned S T
      turned_with job = settlement w s feed h (job >>= λ j. Ok (turn_effect w s feed h look outs j))

      by_end : (job : Result (Option (Job T)) Stop) → turn_job w s h look outs ≡ job → ShownAs (turned_with job) (Ok look) job → ShownTurn
      by_end job is given =
          shown (turned_with job) (Ok look) job (turn_ruled w s feed h look outs ready look_is outs_are ∙ ap turned_with is) look_is
          (job_ruled w s h look outs look_is outs_are ∙ is) given

      by_plan : (job : Result (Option (Job T)) Stop) → turn_job w s h look outs ≡ job → ShownTurn
      by_plan (Ok None) is = by_end (Ok None) is effect_shown
      by_plan (Ok (Some job)) is = by_end (Ok (Some job)) is (call_shown job is)
      by_plan (Err why) is = by_end (Err why) is (stop_shown why (Ok look) (unserved_stops w s h why look outs is))

    -- ---- each end of the steps before

    by_rule : (look : Look) → preparation w s h ≡ Ok look → (answer : Result (Outs T) Stop) → rule_answer w s h look ≡ answer → ShownTurn
    unfolding job_at
    by_rule look look_is (Ok outs) is = by_plan look outs look_is is (turn_job w s h look outs) refl
    by_rule look look_is (Err why) is =
        shown (settlement w s feed h (Err why)) (Ok look) (Err why) (turn_refused w s feed h look why ready look_is is) look_is
        (ap (λ found. found >>= λ l. rule_answer w s h l >>= λ o. turn_job w s h l o) look_is ∙ ap (λ answer. answer >>= λ o. turn_job w s h look o) is)
        (stop_shown why (Ok look) (refused_stops w s h why look is))

    by_look : (found : Result Look Stop) → preparation w s h ≡ found → ShownTurn
    unfolding job_at
    by_look (Ok look) is = by_rule look is (rule_answer w s h look) refl
    by_look (Err why) is =
        shown (settlement w s feed h (Err why)) (Err why) (Err why) (turn_checked w s feed h why ready is) is
        (ap (λ found. found >>= λ l. rule_answer w s h l >>= λ o. turn_job w s h l o) is)
        (stop_shown why (Err why) (checked_stops w s h why is))

  by_ready : (ready : Bool) → is_ready_in s.core h ≡ ready → ShownTurn
  by_ready true ready = by_look ready (preparation w s h) refl
  by_ready false waits = idle_shown waits

  pub turn_shown : ShownTurn
  turn_shown = by_ready (is_ready_in s.core h) refl
