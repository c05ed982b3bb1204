-- A turn in two worlds, under a policy that hides what its tags call secret.
use Rattle.std.proofs.Common.{◌≡◌, ℕ, ◌*◌, Bool, true, false, not, nat_lt, ◌&&◌, ◌||◌, Option, Some, None, Result, Ok, Err, slice_index_or, slice_set, refl, sym, ap, ◌∙◌, subst, if◌then◌else◌}
use Rattle.shared_terms.specs.Steps.{◌>>=◌}
use Rattle.policy_trait.specs.Model.{PolicyModel}
use Rattle.policy_trait.specs.declared.services.Plan.{Plan}
use Rattle.policy_trait.specs.declared.rules.Outs.{Outs}
use Rattle.policy_trait.specs.declared.rules.Refused.{Refused}
use Rattle.policy_trait.specs.declared.services.PlanEnd.{PlanEnd}
use Rattle.monitor_calls.specs.Service.{Job, service_job}
use Rattle.rv_decode.specs.Groups.{a0, a1, a2, a7}
use Rattle.rv_step.specs.declared.faults.Fault.{Fault}
use Rattle.rv_step.specs.declared.faults.Fault.TheVariants.{NoService}
use Rattle.tag_memory.specs.Hart.{HartState, moved_to, reg_value}
use Rattle.tag_memory.specs.Ram.{RamState, ram_tag, ram_word}
use Rattle.turn_steps.specs.Effects.{Carried, effect_result}
use Rattle.turn_steps.specs.Feeds.{Tape}
use Rattle.turn_steps.specs.Looks.{is_call, look_at, look_result}
use Rattle.turn_steps.specs.Services.{args_on, with_answer, with_words}
use Rattle.turn_steps.specs.declared.effects.Done.{Done}
use Rattle.turn_steps.specs.declared.effects.Done.TheVariants as done
use Rattle.turn_steps.specs.declared.look.Look.{Look}
use Rattle.turn_steps.specs.declared.stop.Stop.{Stop}
use Rattle.turn_steps.specs.declared.stop.Stop.TheVariants as stop
use Rattle.engine_trait.specs.Machine.{CoreState, Machine, has_no_stop, hart_at, is_ready_in, stopping, with_hart}
use Rattle.engine_trait.specs.Turn.{Turned, attempt, carried_at, core_effected, core_ended, core_served, end_of, may_look, or_fault, or_unserved, or_violation, preparation, rule_answer, rule_inputs, service_look, service_on, service_stop, settlement, turn_by, turn_effect, turn_job, turn_of, violation}
use Rattle.secret_runs.specs.Alike.{AlikeCores, AlikeHarts, AlikeMachines, AlikeRams}
use Rattle.secret_runs.specs.Hides.{AlikeArgs, ComesOfOpen, Hides, OkBy}
use Rattle.secret_runs.proofs.CarryLemmas as carry
use Rattle.secret_runs.proofs.LookLemmas.{AlikeLooks, call_shape, group_same, harts, looks_alike, number_same, rams}
use Rattle.secret_runs.proofs.ServiceLemmas.{AlikeJobs, answered_alike, service_alike, words_alike}
use Rattle.secret_runs.proofs.ValueLemmas.{counts_alike, harts_count, moved_alike, ram_tags_same, tags_same, value_same, with_hart_alike, word_same}

-- ---- arguments and stops

args_alike : {T : Type 0} (is_open : T → Bool) (a b : HartState T) (ra rb : RamState T) → AlikeHarts is_open a b → AlikeRams is_open ra rb → AlikeArgs is_open (args_on a ra) (args_on b rb)
args_alike is_open a b ra rb harts rams = record {
  t0 = tags_same is_open a b harts a0;
  t1 = tags_same is_open a b harts a1;
  t2 = tags_same is_open a b harts a2;
  ram = ap (λ (n : ℕ). 4 * n) (counts_alike is_open ra.tags ra.words rb.words rams.words);
  a0 = value_same is_open a b harts a0;
  a1 = value_same is_open a b harts a1;
  a2 = value_same is_open a b harts a2;
}

module _ {S T : Type 0} (is_open : T → Bool) (m : PolicyModel T S) (like : S → S → Type 0) (kin : S → Plan T → Plan T → Type 0) (hides : Hides is_open m like kin)
    (s t : Machine S T) (alike : AlikeMachines is_open like s t) (h : ℕ) where
  abbrev pub Looks : Look → Look → Type 0
  Looks = AlikeLooks is_open m like kin hides s t alike h

  abbrev a : HartState T
  a = hart_at s.core h

  abbrev b : HartState T
  b = hart_at t.core h

  -- ---- the checks

  -- a call's number is the same
  pub services_same : (l k : Look) → Looks l k → is_call l.group ≡ true → k.service ≡ l.service
  services_same l k looks calls =
      let shaped = call_shape looks.it (reg_value a a7) (subst (λ (look : Look). is_call look.group ≡ true) looks.first_is calls) in
      ap (λ (look : Look). look.service) looks.second_is
      ∙ number_same is_open m like kin hides s t alike h looks.it looks.seen shaped
      ∙ sym (ap (λ (look : Look). look.service) looks.first_is)

  pub groups_same : (l k : Look) → Looks l k → k.group ≡ l.group
  groups_same l k looks =
      ap (λ (look : Look). look.group) looks.second_is
      ∙ group_same looks.it (reg_value a a7) (reg_value b a7) (number_same is_open m like kin hides s t alike h looks.it looks.seen)
      ∙ sym (ap (λ (look : Look). look.group) looks.first_is)

  -- a service that is offered in one world is offered in the other
  by_call : (l k : Look) (call : Bool) → Looks l k → is_call l.group ≡ call → (call ≡ true → k.service ≡ l.service)
      → OkBy Looks (if not call || m.knows s.policy l.service then Ok l else Err (stop.Fault (NoService l.service)))
      (if not call || m.knows t.policy k.service then Ok k else Err (stop.Fault (NoService k.service)))
  by_call l k false looks is service = looks
  by_call l k true looks is service =
      subst (λ (known : Bool). OkBy Looks (if m.knows s.policy l.service then Ok l else Err (stop.Fault (NoService l.service))) (if known then Ok k else Err (stop.Fault (NoService k.service))))
      (sym (ap (m.knows t.policy) (service refl) ∙ hides.knows s.policy t.policy alike.policy l.service)) (by_known (m.knows s.policy l.service))
    where
      by_known : (known : Bool) → OkBy Looks (if known then Ok l else Err (stop.Fault (NoService l.service))) (if known then Ok k else Err (stop.Fault (NoService k.service)))
      by_known true = looks
      by_known false = ap (λ (n : ℕ). stop.Fault (NoService n)) (service refl)

  offered_alike : (l k : Look) → Looks l k → OkBy Looks (service_look m s l) (service_look m t k)
  offered_alike l k looks =
      subst (λ (call : Bool). OkBy Looks (service_look m s l) (if not call || m.knows t.policy k.service then Ok k else Err (stop.Fault (NoService k.service))))
      (sym (ap is_call (groups_same l k looks))) (by_call l k (is_call l.group) looks refl (services_same l k looks))

  by_found : (found other : Result Look Fault) → OkBy Looks found other → OkBy Looks (or_fault found >>= service_look m s) (or_fault other >>= service_look m t)
  by_found (Ok l) (Ok k) looks = offered_alike l k looks
  by_found (Err e) (Err f) looks = ap (λ (fault : Fault). stop.Fault fault) looks
  by_found (Ok l) (Err f) looks = absurd looks
  by_found (Err e) (Ok k) looks = absurd looks

  by_seen : (seen : Result (Unit {0}) Refused) (found other : Result Look Fault) → (seen ≡ Ok tt → OkBy Looks found other)
      → OkBy Looks (or_violation a.pc seen >>= λ x. or_fault found >>= service_look m s) (or_violation b.pc seen >>= λ x. or_fault other >>= service_look m t)
  by_seen (Ok x) found other looks = by_found found other (looks refl)
  by_seen (Err refused) found other looks = ap (λ (pc : ℕ). violation pc refused) (harts is_open m like kin hides s t alike h).pc

  pub prepared_alike : OkBy Looks (preparation m s h) (preparation m t h)
  unfolding preparation
  prepared_alike =
      let both = looks_alike is_open m like kin hides s t alike h in
      subst (λ (seen : Result (Unit {0}) Refused). OkBy Looks (or_violation a.pc (may_look m s h) >>= λ x. or_fault (look_result a s.core.ram) >>= service_look m s)
      (or_violation b.pc seen >>= λ x. or_fault (look_result b t.core.ram) >>= service_look m t))
      (sym both.0) (by_seen (may_look m s h) (look_result a s.core.ram) (look_result b t.core.ram) both.1)

  -- ---- the rule

  pub inputs_same : (l k : Look) → Looks l k → rule_inputs t.core h k ≡ rule_inputs s.core h l
  inputs_same l k looks =
      ap (rule_inputs t.core h) looks.second_is
      ∙ carry.inputs_same is_open a b s.core.ram t.core.ram (harts is_open m like kin hides s t alike h) (rams is_open m like kin hides s t alike h) looks.word looks.it looks.e looks.d looks.effects
      (number_same is_open m like kin hides s t alike h looks.it looks.seen)
      ∙ sym (ap (rule_inputs s.core h) looks.first_is)

  pub ruled_same : (l k : Look) → Looks l k → rule_answer m t h k ≡ rule_answer m s h l
  unfolding rule_answer
  ruled_same l k looks =
      (λ j. or_violation ((harts is_open m like kin hides s t alike h).pc j) (m.rule t.policy (groups_same l k looks j) (inputs_same l k looks j)))
      ∙ ap (or_violation a.pc) (hides.rule s.policy t.policy alike.policy l.group (rule_inputs s.core h l))

  -- an allowed rule gives what comes of what is open
  comes_of : (l : Look) (outs : Outs T) → rule_answer m s h l ≡ Ok outs → ComesOfOpen is_open l.group (rule_inputs s.core h l) outs
  unfolding rule_answer
  comes_of l outs ruled = by (m.rule s.policy l.group (rule_inputs s.core h l)) refl ruled
    where
      by : (answer : Result (Outs T) Refused) → m.rule s.policy l.group (rule_inputs s.core h l) ≡ answer → or_violation a.pc answer ≡ Ok outs
          → ComesOfOpen is_open l.group (rule_inputs s.core h l) outs
      by (Ok given) is e =
          let same : given ≡ outs = cc in
          subst (ComesOfOpen is_open l.group (rule_inputs s.core h l)) same (hides.results s.policy t.policy alike.policy l.group (rule_inputs s.core h l) given is)
      by (Err refused) is e = absurd cc

  -- ---- the service

  abbrev pub AlikeWork : Option (Job T) → Option (Job T) → Type 0
  AlikeWork None None = Unit {0}
  AlikeWork (Some j) (Some k) = AlikeJobs is_open (kin s.policy) j k
  AlikeWork _ _ = ⊥

  served_alike : (l k : Look) (outs : Outs T) → k.service ≡ l.service → OkBy (AlikeJobs is_open (kin s.policy)) (service_on m s h l outs) (service_on m t h k outs)
  unfolding service_on
  served_alike l k outs same =
      subst (λ (number : ℕ). OkBy (AlikeJobs is_open (kin s.policy)) (service_job m s.policy (ram_word s.core.ram) (ram_tag s.core.ram) l.service (args_on a s.core.ram) outs.pc)
      (service_job m t.policy (ram_word t.core.ram) (ram_tag t.core.ram) number (args_on b t.core.ram) outs.pc)) (sym same)
      (service_alike is_open m like kin hides s.policy t.policy alike.policy (ram_word s.core.ram) (ram_word t.core.ram) (ram_tag s.core.ram) (ram_tag t.core.ram)
      (ram_tags_same is_open s.core.ram t.core.ram alike.core.ram) (word_same is_open s.core.ram t.core.ram alike.core.ram) l.service
      (args_on a s.core.ram) (args_on b t.core.ram) outs.pc
      (args_alike is_open a b s.core.ram t.core.ram (harts is_open m like kin hides s t alike h) alike.core.ram))

  by_served : (pc place number other : ℕ) (given also : Result (Job T) PlanEnd) → place ≡ pc → other ≡ number → OkBy (AlikeJobs is_open (kin s.policy)) given also
      → OkBy AlikeWork (or_unserved pc number given) (or_unserved place other also)
  by_served pc place number other (Ok j) (Ok k) same is jobs = jobs
  by_served pc place number other (Err e) (Err f) same is jobs = λ j. service_stop (same j) (is j) (jobs j)
  by_served pc place number other (Ok j) (Err f) same is jobs = absurd jobs
  by_served pc place number other (Err e) (Ok k) same is jobs = absurd jobs

  pub job_alike : (l k : Look) (outs : Outs T) → Looks l k → OkBy AlikeWork (turn_job m s h l outs) (turn_job m t h k outs)
  unfolding turn_job
  job_alike l k outs looks =
      subst (λ (call : Bool). OkBy AlikeWork (if is_call l.group then or_unserved a.pc l.service (service_on m s h l outs) else Ok None)
      (if call then or_unserved b.pc k.service (service_on m t h k outs) else Ok None))
      (sym (ap is_call (groups_same l k looks))) (by (is_call l.group) refl)
    where
      by : (call : Bool) → is_call l.group ≡ call → OkBy AlikeWork (if call then or_unserved a.pc l.service (service_on m s h l outs) else Ok None)
          (if call then or_unserved b.pc k.service (service_on m t h k outs) else Ok None)
      by false is = tt
      by true is =
          by_served a.pc b.pc l.service k.service (service_on m s h l outs) (service_on m t h k outs) (harts is_open m like kin hides s t alike h).pc (services_same l k looks is)
          (served_alike l k outs (services_same l k looks is))

  -- ---- the effect

  module _ (feed : Tape) where
    pub record AlikeTurned (x y : Turned S T) : Type 0 where
      pub machine : AlikeMachines is_open like x.machine y.machine
      pub feed_is : y.feed ≡ x.feed
      pub ended : y.ended ≡ x.ended

    ended_alike : (x y : Carried T) (d : Done) → AlikeHarts is_open x.hart y.hart → AlikeRams is_open x.ram y.ram
        → AlikeCores is_open (core_ended s.core h x d) (core_ended t.core h y d)
    ended_alike x y (done.Stepped byte) hart ram = with_hart_alike is_open s.core t.core alike.core h x.hart y.hart x.ram y.ram hart ram
    ended_alike x y done.Broke hart ram = with_hart_alike is_open s.core t.core alike.core h x.hart y.hart x.ram y.ram hart ram
    ended_alike x y (done.Exited code) hart ram =
        stopped_alike (with_hart s.core h x.hart x.ram) (with_hart t.core h y.hart y.ram) (stop.Exit code) (with_hart_alike is_open s.core t.core alike.core h x.hart y.hart x.ram y.ram hart ram)
      where
        stopped_alike : (c d : CoreState T) (why : Stop) → AlikeCores is_open c d → AlikeCores is_open (stopping c h why) (stopping d h why)
        stopped_alike c d why cores = record { harts = cores.harts; stops = ap (λ stops. slice_set stops h (Some why)) cores.stops; ram = cores.ram }

    abbrev carried_s : Look → Outs T → Carried T
    carried_s l outs = effect_result a s.core.ram feed l outs

    abbrev carried_t : Look → Outs T → Carried T
    carried_t k outs = effect_result b t.core.ram feed k outs

    both_carried : (l k : Look) (outs : Outs T) → Looks l k → rule_answer m s h l ≡ Ok outs
        → carry.AlikeCarried is_open a b s.core.ram t.core.ram (harts is_open m like kin hides s t alike h) (rams is_open m like kin hides s t alike h) (carried_s l outs) (carried_t k outs)
    both_carried l k outs looks ruled =
        let comes = subst (λ (look : Look). ComesOfOpen is_open look.group (rule_inputs s.core h look) outs) looks.first_is (comes_of l outs ruled) in
        let there = carry.carried_alike is_open a b s.core.ram t.core.ram (harts is_open m like kin hides s t alike h) (rams is_open m like kin hides s t alike h) looks.word looks.it looks.e looks.d looks.effects
        (number_same is_open m like kin hides s t alike h looks.it looks.seen) outs comes feed in
        subst (λ (look : Look). carry.AlikeCarried is_open a b s.core.ram t.core.ram (harts is_open m like kin hides s t alike h) (rams is_open m like kin hides s t alike h) (carried_s l outs) (carried_t look outs))
        (sym looks.second_is)
        (subst (λ (look : Look). carry.AlikeCarried is_open a b s.core.ram t.core.ram (harts is_open m like kin hides s t alike h) (rams is_open m like kin hides s t alike h) (carried_s look outs)
        (carried_t (look_at b looks.word looks.it looks.d) outs)) (sym looks.first_is) there)

    effect_by : (l k : Look) (outs : Outs T) (j i : Option (Job T)) → Looks l k → rule_answer m s h l ≡ Ok outs → AlikeWork j i
        → AlikeTurned (turn_effect m s feed h l outs j) (turn_effect m t feed h k outs i)
    unfolding core_served core_effected carried_at
    effect_by l k outs None None looks ruled work =
        let both = both_carried l k outs looks ruled in
        record {
          machine = record {
            policy = alike.policy;
            core = subst (λ (d : Done). AlikeCores is_open (core_ended s.core h (carried_s l outs) (carried_s l outs).done) (core_ended t.core h (carried_t k outs) d)) (sym both.done)
                (ended_alike (carried_s l outs) (carried_t k outs) (carried_s l outs).done both.hart both.ram);
          };
          feed_is = both.feed;
          ended = ap end_of both.done;
        }
    effect_by l k outs (Some j) (Some i) looks ruled work =
        let answered = answered_alike is_open j.plan.answer i.plan.answer a b work.plan.answer (harts is_open m like kin hides s t alike h) in
        let next = ap (λ (look : Look). look.effect.next) looks.second_is ∙ looks.effects.next ∙ sym (ap (λ (look : Look). look.effect.next) looks.first_is) in
        let moved = subst (λ (pc : ℕ). AlikeHarts is_open (moved_to (with_answer a j.plan.answer) l.effect.next outs.pc) (moved_to (with_answer b i.plan.answer) pc outs.pc)) (sym next)
        (moved_alike is_open (with_answer a j.plan.answer) (with_answer b i.plan.answer) answered l.effect.next outs.pc) in
        record {
          machine = record {
            policy = hides.commit s.policy t.policy alike.policy j.plan i.plan work.kins;
            core = with_hart_alike is_open s.core t.core alike.core h (moved_to (with_answer a j.plan.answer) l.effect.next outs.pc) (moved_to (with_answer b i.plan.answer) k.effect.next outs.pc)
                (with_words s.core.ram j.words) (with_words t.core.ram i.words) moved (words_alike is_open j.words i.words s.core.ram t.core.ram work.words alike.core.ram);
          };
          feed_is = refl;
          ended = refl;
        }
    effect_by l k outs None (Some i) looks ruled work = absurd work
    effect_by l k outs (Some j) None looks ruled work = absurd work

    -- ---- the turn

    stop_by : (why : Stop) → AlikeTurned (settlement m s feed h (Err why)) (settlement m t feed h (Err why))
    stop_by why = record {
      machine = record { policy = alike.policy; core = record { harts = alike.core.harts; stops = ap (λ stops. slice_set stops h (Some why)) alike.core.stops; ram = alike.core.ram } };
      feed_is = refl;
      ended = refl;
    }

    stopped_by : (why other : Stop) → other ≡ why → AlikeTurned (settlement m s feed h (Err why)) (settlement m t feed h (Err other))
    stopped_by why other same = subst (λ (x : Stop). AlikeTurned (settlement m s feed h (Err why)) (settlement m t feed h (Err x))) (sym same) (stop_by why)

    abbrev from_job : (s : Machine S T) → Look → Outs T → Result (Option (Job T)) Stop → Result (Turned S T) Stop
    from_job s l outs job = job >>= λ j. Ok (turn_effect m s feed h l outs j)

    by_job : (l k : Look) (outs : Outs T) (job other : Result (Option (Job T)) Stop) → Looks l k → rule_answer m s h l ≡ Ok outs → OkBy AlikeWork job other
        → AlikeTurned (settlement m s feed h (from_job s l outs job)) (settlement m t feed h (from_job t k outs other))
    by_job l k outs (Ok j) (Ok i) looks ruled work = effect_by l k outs j i looks ruled work
    by_job l k outs (Err why) (Err other) looks ruled work = stopped_by why other work
    by_job l k outs (Ok j) (Err other) looks ruled work = absurd work
    by_job l k outs (Err why) (Ok i) looks ruled work = absurd work

    abbrev from_rule : (s : Machine S T) → Look → Result (Outs T) Stop → Result (Turned S T) Stop
    from_rule s l answer = answer >>= λ outs. from_job s l outs (turn_job m s h l outs)

    by_rule : (l k : Look) (answer : Result (Outs T) Stop) → Looks l k → rule_answer m s h l ≡ answer
        → AlikeTurned (settlement m s feed h (from_rule s l answer)) (settlement m t feed h (from_rule t k answer))
    by_rule l k (Ok outs) looks ruled = by_job l k outs (turn_job m s h l outs) (turn_job m t h k outs) looks ruled (job_alike l k outs looks)
    by_rule l k (Err why) looks ruled = stop_by why

    abbrev from_look : (s : Machine S T) → Result Look Stop → Result (Turned S T) Stop
    from_look s found = found >>= λ l. from_rule s l (rule_answer m s h l)

    by_look : (found other : Result Look Stop) → OkBy Looks found other → AlikeTurned (settlement m s feed h (from_look s found)) (settlement m t feed h (from_look t other))
    by_look (Ok l) (Ok k) looks =
        subst (λ (answer : Result (Outs T) Stop). AlikeTurned (settlement m s feed h (from_rule s l (rule_answer m s h l))) (settlement m t feed h (from_rule t k answer)))
        (sym (ruled_same l k looks)) (by_rule l k (rule_answer m s h l) looks refl)
    by_look (Err why) (Err other) looks = stopped_by why other looks
    by_look (Ok l) (Err other) looks = absurd looks
    by_look (Err why) (Ok k) looks = absurd looks

    attempt_alike : AlikeTurned (settlement m s feed h (attempt m s feed h)) (settlement m t feed h (attempt m t feed h))
    unfolding attempt
    attempt_alike = by_look (preparation m s h) (preparation m t h) prepared_alike

    pub ready_same : is_ready_in t.core h ≡ is_ready_in s.core h
    ready_same = λ j. nat_lt h (harts_count is_open s.core.harts t.core.harts alike.core.harts j) && has_no_stop (slice_index_or (alike.core.stops j) h None)

    by_ready : (ready : Bool) → AlikeTurned (turn_by m s feed h ready) (turn_by m t feed h ready)
    by_ready true = attempt_alike
    by_ready false = record { machine = alike; feed_is = refl; ended = refl }

    pub turn_alike : AlikeTurned (turn_of m s feed h) (turn_of m t feed h)
    unfolding turn_of
    turn_alike =
        subst (λ (ready : Bool). AlikeTurned (turn_by m s feed h (is_ready_in s.core h)) (turn_by m t feed h ready)) (sym ready_same) (by_ready (is_ready_in s.core h))
