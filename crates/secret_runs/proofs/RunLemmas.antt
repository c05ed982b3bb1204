-- Turns, steps, runs and rounds in two worlds: what they tell is the same.
use Rattle.std.proofs.Common.{◌≡◌, ℕ, Bool, true, false, ◌&&◌, List, [], ◌∷◌, map, Option, Some, None, option_map, Result, Ok, Err, refl, sym, ap, ◌∙◌, subst, if◌then◌else◌}
use Rattle.policy_trait.specs.Model.{PolicyModel}
use Rattle.policy_trait.specs.declared.services.Plan.{Plan}
use Rattle.policy_trait.specs.declared.services.Answer.{Answer}
use Rattle.policy_trait.specs.declared.services.Args.{Args}
use Rattle.monitor_calls.specs.Service.{Job}
use Rattle.rv_step.specs.declared.accesses.Access.{Access}
use Rattle.rv_step.specs.declared.accesses.Access.TheVariants as access
use Rattle.turn_steps.specs.Feeds.{Tape, with_fed}
use Rattle.turn_steps.specs.Looks.{is_call}
use Rattle.turn_steps.specs.Services.{args_on}
use Rattle.turn_steps.specs.declared.look.Look.{Look}
use Rattle.turn_steps.specs.declared.stop.Stop.{Stop}
use Rattle.undo_log.specs.Past.{past_of}
use Rattle.engine_trait.specs.Accounts.{Account, account_after_turn, account_out, is_over, remembering}
use Rattle.engine_trait.specs.Events.{asked_in, called_in, event_by, event_of, touch_of, touched_in, work_in}
use Rattle.engine_trait.specs.History.{record_of}
use Rattle.engine_trait.specs.Machine.{Machine, hart_at, is_ready_in}
use Rattle.engine_trait.specs.Runs.{Item, Trace, fed, run_along, turn}
use Rattle.engine_trait.specs.Standing.{Standing, is_ready, is_running, step, step_by}
use Rattle.engine_trait.specs.Turn.{job_at, preparation, turn_of}
use Rattle.engine_trait.specs.declared.ends.Halt.TheVariants as halt
use Rattle.engine_trait.proofs.AccountLemmas.{accounted_past, out_past}
use Rattle.engine_trait.proofs.PastLemmas.{remembering_none}
use Rattle.rv_decode.specs.Groups.{a0, a1, a2, group_of}
use Rattle.secret_runs.specs.Alike.{AlikeMachines}
use Rattle.secret_runs.specs.Hides.{AlikeAnswers, Hides, OkBy}
use Rattle.secret_runs.specs.Outlines.{CallOutline, call_outline, outline_of, work_outline}
use Rattle.secret_runs.specs.Same.{AlikeStandings, RunsAlike, StepsAlike}
use Rattle.secret_runs.proofs.AccountLemmas.{accounts_same, jobs_alike, outs_same}
use Rattle.secret_runs.proofs.EffectLemmas.{AlikeAccesses}
use Rattle.secret_runs.proofs.LookLemmas.{harts}
use Rattle.secret_runs.proofs.TurnLemmas.{AlikeWork, Looks, groups_same, inputs_same, prepared_alike, ready_same, services_same, turn_alike}
use Rattle.secret_runs.proofs.ValueLemmas.{tags_same}

-- the same access touches the same
touches_same : (Second : Type 0) (g : _) (e d : Access) → AlikeAccesses Second g e d → touch_of d ≡ touch_of e
touches_same Second g access.None access.None alike = refl
touches_same Second g (access.Load addr width signed) (access.Load other wide has_sign) alike = λ j. touch_of (access.Load (alike.0 j) (alike.1.0 j) (alike.1.1.0 j))
touches_same Second g (access.Store addr width value) (access.Store other wide also) alike = λ j. touch_of (access.Store (alike.0 j) (alike.1.0 j) value)
touches_same Second g access.None (access.Load _ _ _) alike = absurd alike
touches_same Second g access.None (access.Store _ _ _) alike = absurd alike
touches_same Second g (access.Load _ _ _) access.None alike = absurd alike
touches_same Second g (access.Load _ _ _) (access.Store _ _ _) alike = absurd alike
touches_same Second g (access.Store _ _ _) access.None alike = absurd alike
touches_same Second g (access.Store _ _ _) (access.Load _ _ _) alike = absurd alike

module _ {S T : Type 0} (is_open : T → Bool) (m : PolicyModel T S) (like : S → S → Type 0) (kin : S → Plan T → Plan T → Type 0) (hides : Hides is_open m like kin) where
  -- ---- what a turn tells

  module _ (s t : Machine S T) (alike : AlikeMachines is_open like s t) (feed : Tape) (h : ℕ) where
    abbrev AreLooks : Look → Look → Type 0
    AreLooks = Looks is_open m like kin hides s t alike h

    asked_by : (found other : Result Look Stop) → OkBy AreLooks found other → asked_in t.core h other ≡ asked_in s.core h found
    asked_by (Ok l) (Ok k) looks = λ j. Some (record { group = groups_same is_open m like kin hides s t alike h l k looks j; inputs = inputs_same is_open m like kin hides s t alike h l k looks j })
    asked_by (Err why) (Err other) looks = refl
    asked_by (Ok l) (Err other) looks = absurd looks
    asked_by (Err why) (Ok k) looks = absurd looks

    touched_by : (found other : Result Look Stop) → OkBy AreLooks found other → touched_in other ≡ touched_in found
    touched_by (Ok l) (Ok k) looks =
        ap (λ (look : Look). touch_of look.effect.access) looks.second_is
        ∙ touches_same _ (group_of looks.it _) looks.e.access looks.d.access looks.effects.access
        ∙ sym (ap (λ (look : Look). touch_of look.effect.access) looks.first_is)
    touched_by (Err why) (Err other) looks = refl
    touched_by (Ok l) (Err other) looks = absurd looks
    touched_by (Err why) (Ok k) looks = absurd looks

    abbrev call_told : Args T → Bool → ℕ → Option (CallOutline T)
    call_told arguments call number = option_map call_outline (if call then Some (record { number = number; arguments = arguments }) else None)

    call_by : (l k : Look) → AreLooks l k → (call : Bool) → is_call l.group ≡ call
        → call_told (args_on (hart_at t.core h) t.core.ram) call k.service ≡ call_told (args_on (hart_at s.core h) s.core.ram) call l.service
    call_by l k looks false is = refl
    call_by l k looks true is = λ j. Some (record {
      number = services_same is_open m like kin hides s t alike h l k looks is j;
      t0 = tags_same is_open (hart_at s.core h) (hart_at t.core h) (harts is_open m like kin hides s t alike h) a0 j;
      t1 = tags_same is_open (hart_at s.core h) (hart_at t.core h) (harts is_open m like kin hides s t alike h) a1 j;
      t2 = tags_same is_open (hart_at s.core h) (hart_at t.core h) (harts is_open m like kin hides s t alike h) a2 j;
    })

    called_by : (found other : Result Look Stop) → OkBy AreLooks found other
        → option_map call_outline (called_in (args_on (hart_at t.core h) t.core.ram) other) ≡ option_map call_outline (called_in (args_on (hart_at s.core h) s.core.ram) found)
    called_by (Ok l) (Ok k) looks =
        ap (λ call. call_told (args_on (hart_at t.core h) t.core.ram) (is_call call) k.service) (groups_same is_open m like kin hides s t alike h l k looks)
        ∙ call_by l k looks (is_call l.group) refl
    called_by (Err why) (Err other) looks = refl
    called_by (Ok l) (Err other) looks = absurd looks
    called_by (Err why) (Ok k) looks = absurd looks

    answers_told : (x y : Option (Answer T)) → AlikeAnswers is_open x y → option_map (λ (answer : Answer T). answer.tag) y ≡ option_map (λ (answer : Answer T). answer.tag) x
    answers_told None None answers = refl
    answers_told (Some x) (Some y) answers = ap (λ tag. Some tag) answers.0
    answers_told None (Some y) answers = absurd answers
    answers_told (Some x) None answers = absurd answers

    work_by : (job other : Result (Option (Job T)) Stop) → OkBy (AlikeWork is_open m like kin hides s t alike h) job other
        → option_map work_outline (work_in other) ≡ option_map work_outline (work_in job)
    work_by (Ok (Some j)) (Ok (Some k)) work = λ i. Some (record {
      range = (work.plan.same i).range;
      zero = (work.plan.same i).zero;
      tag = answers_told j.plan.answer k.plan.answer work.plan.answer i;
    })
    work_by (Ok None) (Ok None) work = refl
    work_by (Err why) (Err other) work = refl
    work_by (Ok None) (Ok (Some k)) work = absurd work
    work_by (Ok (Some j)) (Ok None) work = absurd work
    work_by (Ok job) (Err other) work = absurd work
    work_by (Err why) (Ok other) work = absurd work

    told_by : (ready : Bool) → outline_of (event_by m t feed h ready) ≡ outline_of (event_by m s feed h ready)
    told_by true =
        let found = prepared_alike is_open m like kin hides s t alike h in
        λ j. record {
          hart = h;
          pc = (harts is_open m like kin hides s t alike h).pc j;
          ended = (turn_alike is_open m like kin hides s t alike h feed).ended j;
          asked = asked_by (preparation m s h) (preparation m t h) found j;
          access = touched_by (preparation m s h) (preparation m t h) found j;
          call = called_by (preparation m s h) (preparation m t h) found j;
          work = work_by (job_at m s h) (job_at m t h) (jobs_alike is_open (λ x y. true) m like kin hides s t alike h) j;
        }
    told_by false = λ j. record {
      hart = h;
      pc = (harts is_open m like kin hides s t alike h).pc j;
      ended = (turn_alike is_open m like kin hides s t alike h feed).ended j;
      asked = None;
      access = None;
      call = None;
      work = None;
    }

    pub outline_same : outline_of (event_of m t feed h) ≡ outline_of (event_of m s feed h)
    unfolding event_of
    outline_same =
        ap (λ ready. outline_of (event_by m t feed h ready)) (ready_same is_open m like kin hides s t alike h feed)
        ∙ told_by (is_ready_in s.core h)

  -- ---- runs

  pub run_alike : (items : List Item) (s t : Machine S T) (feed : Tape) → AlikeMachines is_open like s t → RunsAlike is_open like (run_along m s feed items) (run_along m t feed items)
  run_alike [] s t feed alike = record { machine = alike; feed = refl; told = refl }
  run_alike (turn h ∷ items) s t feed alike =
      let turned = turn_alike is_open m like kin hides s t alike h feed in
      let rest = run_alike items (turn_of m s feed h).machine (turn_of m t feed h).machine (turn_of m s feed h).feed turned.machine in
      let same = ap (λ (fed : Tape). run_along m (turn_of m t feed h).machine fed items) turned.feed_is in
      record {
        machine = subst (λ (trace : Trace S T). AlikeMachines is_open like (run_along m (turn_of m s feed h).machine (turn_of m s feed h).feed items).machine trace.machine) (sym same) rest.machine;
        feed = ap (λ (trace : Trace S T). trace.feed) same ∙ rest.feed;
        told = λ j. outline_same s t alike feed h j ∷ (ap (λ (trace : Trace S T). map outline_of trace.events) same ∙ rest.told) j;
      }
  run_alike (fed byte ∷ items) s t feed alike = run_alike items s t (with_fed feed (byte ∷ [])) alike

  -- ---- steps, with their accounts

  module _ (eq : T → T → Bool) where
    module _ (e d : Standing S T) (alike : AlikeStandings is_open like e d) (feed : Tape) (h : ℕ) where
      after_same : account_after_turn eq m d.machine h d.account ≡ account_after_turn eq m e.machine h e.account
      after_same = ap (account_after_turn eq m d.machine h) alike.account ∙ accounts_same is_open eq m like kin hides e.machine d.machine alike.machine h e.account

      out_same : account_out eq m d.machine h d.account ≡ account_out eq m e.machine h e.account
      out_same = ap (account_out eq m d.machine h) alike.account ∙ outs_same is_open eq m like kin hides e.machine d.machine alike.machine h e.account

      -- no turn is remembered
      after_forgets : (account_after_turn eq m e.machine h e.account).past ≡ past_of [] 0
      after_forgets = accounted_past eq m e.machine h e.account ∙ alike.forgets

      unremembered : remembering (record_of m e.machine feed h) (account_after_turn eq m e.machine h e.account) ≡ account_after_turn eq m e.machine h e.account
      unremembered = remembering_none (record_of m e.machine feed h) (account_after_turn eq m e.machine h e.account) after_forgets

      unremembered_other : remembering (record_of m d.machine feed h) (account_after_turn eq m d.machine h d.account) ≡ account_after_turn eq m d.machine h d.account
      unremembered_other =
          remembering_none (record_of m d.machine feed h) (account_after_turn eq m d.machine h d.account)
          (ap (λ (account : Account T). account.past) after_same ∙ after_forgets)

      ready_alike : is_ready d h ≡ is_ready e h
      ready_alike = λ j. is_running (alike.account j).halt && ready_same is_open m like kin hides e.machine d.machine alike.machine h feed j

      step_by_alike : (ready over : Bool) → StepsAlike is_open like (step_by eq m e feed h ready over) (step_by eq m d feed h ready over)
      step_by_alike false over = record { standing = alike; feed = refl; ended = refl }
      step_by_alike true true = record {
        standing = record {
          machine = alike.machine;
          account = ap (λ (account : Account T). record account { halt = Some halt.TagNumbers }) out_same;
          forgets = out_past eq m e.machine h e.account ∙ alike.forgets;
        };
        feed = refl;
        ended = refl;
      }
      step_by_alike true false =
          let turned = turn_alike is_open m like kin hides e.machine d.machine alike.machine h feed in
          record {
            standing = record { machine = turned.machine; account = unremembered_other ∙ after_same ∙ sym unremembered; forgets = ap (λ (account : Account T). account.past) unremembered ∙ after_forgets };
            feed = turned.feed_is;
            ended = turned.ended;
          }

      pub step_alike : StepsAlike is_open like (step eq m e feed h) (step eq m d feed h)
      unfolding step
      step_alike =
          let over = ap is_over after_same in
          subst (λ (ready : Bool). StepsAlike is_open like (step_by eq m e feed h (is_ready e h) (is_over (account_after_turn eq m e.machine h e.account)))
          (step_by eq m d feed h ready (is_over (account_after_turn eq m d.machine h d.account)))) (sym ready_alike)
          (subst (λ (is : Bool). StepsAlike is_open like (step_by eq m e feed h (is_ready e h) (is_over (account_after_turn eq m e.machine h e.account)))
          (step_by eq m d feed h (is_ready e h) is)) (sym over) (step_by_alike (is_ready e h) (is_over (account_after_turn eq m e.machine h e.account))))
