-- Runs of one policy from two values that answer alike, but that one service may be spent under the first of them alone.
use Rattle.std.proofs.Common.{◌≡◌, ◌⊎◌, inl, inr, ℕ, zero, suc, ◌+◌, ◌/◌, slice_index, Bool, true, false, not, ◌||◌, List, [], ◌∷◌, Option, Some, None, Result, Ok, Err, refl, ap, sym, subst, ◌∙◌, if◌then◌else◌}
use Rattle.std.specs.List.{AllByRecursion}
use Rattle.policy_trait.specs.Model.{PolicyModel}
use Rattle.policy_trait.specs.declared.rules.Ins.{Ins}
use Rattle.policy_trait.specs.declared.rules.Shape.{Shape}
use Rattle.policy_trait.specs.declared.rules.Outs.{Outs}
use Rattle.policy_trait.specs.declared.services.Args.{Args}
use Rattle.policy_trait.specs.declared.services.Plan.{Plan}
use Rattle.policy_trait.specs.declared.services.PlanEnd.{PlanEnd}
use Rattle.policy_trait.specs.declared.services.PlanEnd.TheVariants as plan_end
use Rattle.policy_trait.specs.declared.services.Words.{Words}
use Rattle.rv_decode.specs.declared.groups.Group.{Group}
use Rattle.rv_step.specs.declared.faults.Fault.TheVariants.{NoService, Spent}
use Rattle.shared_terms.specs.Steps.{◌>>=◌}
use Rattle.monitor_calls.specs.Service.{Job, job_of, new_tags, new_word, retagged_range, service_job, served_plan, tag_or_end}
use Rattle.tag_memory.specs.Ram.{ram_tag, ram_word}
use Rattle.turn_steps.specs.Feeds.{Tape, with_fed}
use Rattle.turn_steps.specs.Looks.{is_call, look_result}
use Rattle.turn_steps.specs.Peeks.{peeked}
use Rattle.turn_steps.specs.Services.{args_on}
use Rattle.turn_steps.specs.declared.look.Look.{Look}
use Rattle.turn_steps.specs.declared.stop.Stop.{Stop}
use Rattle.turn_steps.specs.declared.stop.Stop.TheVariants as stop
use Rattle.engine_trait.specs.Events.{Event, asked_in, called_in, event_by, event_of, touched_in, work_in}
use Rattle.engine_trait.specs.Machine.{CoreState, Machine, hart_at, is_ready_in}
use Rattle.engine_trait.specs.Runs.{Item, fed, run_along, turn}
use Rattle.engine_trait.specs.Turn.{Turned, attempt, job_at, or_fault, or_unserved, or_violation, preparation, rule_answer, rule_inputs, service_look, service_on, settlement, turn_by, turn_effect, turn_job, turn_of}
use Rattle.engine_trait.specs.declared.ends.TurnEnd.TheVariants as ends
use Rattle.run_props.specs.Migration.{IsUnspent}
use Rattle.engine_trait.proofs.TurnLemmas.{allowed_turn, event_of-ended, planned_turn, turn_idle, turn_ready}

-- a plan of a service is the same under both, unless it is this service, and spent under the first
abbrev pub IsSameOrSpent : {A : Type 0} → ℕ → ℕ → Result A PlanEnd → Result A PlanEnd → Type 0
IsSameOrSpent service number first second = ((number ≡ service) × (first ≡ Err plan_end.Spent)) ⊎ (second ≡ first)

-- what a turn asks of a policy has the same answers under both values, but that the service may be spent under the first
pub record AnswersAlike {S T : Type 0} (m : PolicyModel T S) (service : ℕ) (s t : S) : Type 0 where
  pub rule : (g : Group) (x : Ins T) → m.rule t g x ≡ m.rule s g x
  pub peek : (shape : Shape) (first second : T) → m.peek t shape first second ≡ m.peek s shape first second
  pub knows : (number : ℕ) → m.knows t number ≡ m.knows s number
  pub plan : (number : ℕ) (a : Args T) (pc : T) → IsSameOrSpent service number (m.plan s number a pc) (m.plan t number a pc)
  pub retag : (p : Plan T) (old : T) → m.retag t p old ≡ m.retag s p old

module _ {S T : Type 0} (m : PolicyModel T S) (service : ℕ) (Alike : S → S → Type 0) (answers : (s t : S) → Alike s t → AnswersAlike m service s t)
    (commits : (s t : S) (p : Plan T) → Alike s t → Alike (m.commit s p) (m.commit t p)) where
  -- what two turns leave is the same but for the policy's values, which are alike
  record GoAlike (first second : Turned S T) : Type 0 where
    policy : Alike first.machine.policy second.machine.policy
    core : second.machine.core ≡ first.machine.core
    feed : second.feed ≡ first.feed
    ended : second.ended ≡ first.ended

  module _ (p q : S) (core : CoreState T) (alike : Alike p q) where
    abbrev first : Machine S T
    first = record { policy = p; core = core }

    abbrev second : Machine S T
    second = record { policy = q; core = core }

    all_answers : AnswersAlike m service p q
    all_answers = answers p q alike

    -- ---- the steps of a turn

    looked_alike : (look : Look) → service_look m second look ≡ service_look m first look
    looked_alike look =
        ap (λ (known : Bool). if not (is_call look.group) || known then Ok look else Err (stop.Fault (NoService look.service))) (all_answers.knows look.service)

    prepared_alike : (h : ℕ) → preparation m second h ≡ preparation m first h
    unfolding preparation
    prepared_alike h = λ j.
        or_violation (hart_at core h).pc (peeked (λ shape x y. all_answers.peek shape x y j) (hart_at core h) core.ram) >>= λ seen.
        or_fault (look_result (hart_at core h) core.ram) >>= λ look. looked_alike look j

    ruled_alike : (h : ℕ) (look : Look) → rule_answer m second h look ≡ rule_answer m first h look
    unfolding rule_answer
    ruled_alike h look = ap (or_violation (hart_at core h).pc) (all_answers.rule look.group (rule_inputs core h look))

    module _ (word_at : ℕ → ℕ) (tag_at : ℕ → T) where
      tags_alike : (plan : Plan T) (base count : ℕ) → new_tags m q word_at tag_at plan base count ≡ new_tags m p word_at tag_at plan base count
      tags_alike plan base zero = refl
      tags_alike plan base (suc count) = λ j. tag_or_end (all_answers.retag plan (tag_at base) j) >>= λ tag.
          tags_alike plan (base + 4) count j >>= λ rest.
          Ok ((base, new_word plan (word_at base), tag) ∷ rest)

      range_alike : (plan : Plan T) (range : Option Words) → retagged_range m q word_at tag_at plan range ≡ retagged_range m p word_at tag_at plan range
      range_alike plan None = refl
      range_alike plan (Some range) = tags_alike plan range.base range.count

      served_alike : (given : Result (Plan T) PlanEnd) → served_plan m q word_at tag_at given ≡ served_plan m p word_at tag_at given
      served_alike (Ok plan) = ap (job_of plan) (range_alike plan plan.range)
      served_alike (Err end) = refl

      job_by : (number : ℕ) (given other : Result (Plan T) PlanEnd) → IsSameOrSpent service number given other
          → IsSameOrSpent service number (served_plan m p word_at tag_at given) (served_plan m q word_at tag_at other)
      job_by number given other (inl (is, spent)) = inl (is, ap (served_plan m p word_at tag_at) spent)
      job_by number given other (inr same) = inr (ap (served_plan m q word_at tag_at) same ∙ served_alike given)

    on_alike : (h : ℕ) (look : Look) (outs : Outs T) → IsSameOrSpent service look.service (service_on m first h look outs) (service_on m second h look outs)
    unfolding service_on service_job
    on_alike h look outs =
        let args = args_on (hart_at core h) core.ram in
        job_by (ram_word core.ram) (ram_tag core.ram) look.service (m.plan p look.service args outs.pc) (m.plan q look.service args outs.pc) (all_answers.plan look.service args outs.pc)

    -- the service's work is the same, or the service is spent
    abbrev IsSpentStop : {A : Type 0} → Result A Stop → Type 0
    IsSpentStop answer = answer ≡ Err (stop.Fault (Spent service))

    unserved_by : (pc number : ℕ) (given other : Result (Job T) PlanEnd) → IsSameOrSpent service number given other
        → IsSpentStop (or_unserved pc number given) ⊎ (or_unserved pc number other ≡ or_unserved pc number given)
    unserved_by pc number given other (inl (is, spent)) = inl (ap (or_unserved pc number) spent ∙ ap (λ (n : ℕ). Err (stop.Fault (Spent n))) is)
    unserved_by pc number given other (inr same) = inr (ap (or_unserved pc number) same)

    job_alike : (h : ℕ) (look : Look) (outs : Outs T)
        → IsSpentStop (turn_job m first h look outs) ⊎ (turn_job m second h look outs ≡ turn_job m first h look outs)
    unfolding turn_job
    job_alike h look outs = by (is_call look.group)
      where
        by : (call : Bool)
            → IsSpentStop (if call then or_unserved (hart_at core h).pc look.service (service_on m first h look outs) else Ok None)
            ⊎ ((if call then or_unserved (hart_at core h).pc look.service (service_on m second h look outs) else Ok None)
            ≡ (if call then or_unserved (hart_at core h).pc look.service (service_on m first h look outs) else Ok None))
        by true = unserved_by (hart_at core h).pc look.service (service_on m first h look outs) (service_on m second h look outs) (on_alike h look outs)
        by false = inr refl

    module _ (feed : Tape) (h : ℕ) where
      -- ---- the turn

      effect_alike : (look : Look) (outs : Outs T) (job : Option (Job T)) → GoAlike (turn_effect m first feed h look outs job) (turn_effect m second feed h look outs job)
      effect_alike look outs (Some job) = record { policy = commits p q job.plan alike; core = refl; feed = refl; ended = refl }
      effect_alike look outs None = record { policy = alike; core = refl; feed = refl; ended = refl }

      -- the spent service ended the first, or both leave the same, and come to the same work of a service
      abbrev AreAlike : Result (Turned S T) Stop → Result (Turned S T) Stop → Result (Option (Job T)) Stop → Result (Option (Job T)) Stop → Type 0
      AreAlike turned other job work = IsSpentStop turned ⊎ (GoAlike (settlement m first feed h turned) (settlement m second feed h other) × (work ≡ job))

      stopped_alike : (why : Stop) → AreAlike (Err why) (Err why) (Err why) (Err why)
      stopped_alike why = inr (record { policy = alike; core = refl; feed = refl; ended = refl }, refl)

      abbrev with_effect : Machine S T → Look → Outs T → Result (Option (Job T)) Stop → Result (Turned S T) Stop
      with_effect s look outs job = job >>= λ work. Ok (turn_effect m s feed h look outs work)

      settled_alike : (look : Look) (outs : Outs T) (job : Result (Option (Job T)) Stop) → AreAlike (with_effect first look outs job) (with_effect second look outs job) job job
      settled_alike look outs (Ok work) = inr (effect_alike look outs work, refl)
      settled_alike look outs (Err why) = stopped_alike why

      planned_alike : (look : Look) (outs : Outs T)
          → AreAlike (planned_turn m first feed h look outs) (planned_turn m second feed h look outs) (turn_job m first h look outs) (turn_job m second h look outs)
      planned_alike look outs = by (job_alike h look outs)
        where
          by : (IsSpentStop (turn_job m first h look outs) ⊎ (turn_job m second h look outs ≡ turn_job m first h look outs))
              → AreAlike (planned_turn m first feed h look outs) (planned_turn m second feed h look outs) (turn_job m first h look outs) (turn_job m second h look outs)
          by (inl spent) = inl (ap (with_effect first look outs) spent)
          by (inr same) =
              subst (λ job. AreAlike (planned_turn m first feed h look outs) (with_effect second look outs job) (turn_job m first h look outs) job) (sym same)
              (settled_alike look outs (turn_job m first h look outs))

      answered_alike : (look : Look) (answer : Result (Outs T) Stop)
          → AreAlike (answer >>= planned_turn m first feed h look) (answer >>= planned_turn m second feed h look) (answer >>= turn_job m first h look) (answer >>= turn_job m second h look)
      answered_alike look (Ok outs) = planned_alike look outs
      answered_alike look (Err why) = stopped_alike why

      abbrev job_from : Machine S T → Look → Result (Option (Job T)) Stop
      job_from s look = rule_answer m s h look >>= turn_job m s h look

      allowed_alike : (look : Look) → AreAlike (allowed_turn m first feed h look) (allowed_turn m second feed h look) (job_from first look) (job_from second look)
      allowed_alike look =
          subst (λ answer. AreAlike (allowed_turn m first feed h look) (answer >>= planned_turn m second feed h look) (job_from first look) (answer >>= turn_job m second h look))
          (sym (ruled_alike h look)) (answered_alike look (rule_answer m first h look))

      found_alike : (found : Result Look Stop)
          → AreAlike (found >>= allowed_turn m first feed h) (found >>= allowed_turn m second feed h) (found >>= job_from first) (found >>= job_from second)
      found_alike (Ok look) = allowed_alike look
      found_alike (Err why) = stopped_alike why

      attempt_alike : AreAlike (attempt m first feed h) (attempt m second feed h) (job_at m first h) (job_at m second h)
      unfolding attempt job_at
      attempt_alike =
          subst (λ found. AreAlike (attempt m first feed h) (found >>= allowed_turn m second feed h) (job_at m first h) (found >>= job_from second))
          (sym (prepared_alike h)) (found_alike (preparation m first h))

      -- ---- and its event

      abbrev EndsUnspent : Turned S T → Type 0
      EndsUnspent turned = turned.ended ≡ ends.Stopped (stop.Fault (Spent service)) → ⊥

      abbrev TurnsAlike : Bool → Type 0
      TurnsAlike ready = GoAlike (turn_by m first feed h ready) (turn_by m second feed h ready)

      ready_alike : EndsUnspent (turn_by m first feed h true) → TurnsAlike true × (job_at m second h ≡ job_at m first h)
      ready_alike unspent = by attempt_alike
        where
          by : AreAlike (attempt m first feed h) (attempt m second feed h) (job_at m first h) (job_at m second h) → TurnsAlike true × (job_at m second h ≡ job_at m first h)
          by (inl spent) = absurd (unspent (ap (λ turned. (settlement m first feed h turned).ended) spent))
          by (inr same) = same

      told_alike : (turn_of m second feed h).ended ≡ (turn_of m first feed h).ended → job_at m second h ≡ job_at m first h
          → event_by m second feed h true ≡ event_by m first feed h true
      told_alike ended job = λ j. record {
        hart = h;
        pc = (hart_at core h).pc;
        word = slice_index core.ram.words ((hart_at core h).pc / 4);
        ended = ended j;
        asked = asked_in core h (prepared_alike h j);
        access = touched_in (prepared_alike h j);
        call = called_in (args_on (hart_at core h) core.ram) (prepared_alike h j);
        work = work_in (job j);
      }

      idle_alike : (turn_of m second feed h).ended ≡ (turn_of m first feed h).ended → event_by m second feed h false ≡ event_by m first feed h false
      idle_alike ended = λ j. record {
        hart = h;
        pc = (hart_at core h).pc;
        word = slice_index core.ram.words ((hart_at core h).pc / 4);
        ended = ended j;
        asked = None;
        access = None;
        call = None;
        work = None;
      }

      event_told : (s : Machine S T) (ready : Bool) → is_ready_in s.core h ≡ ready → event_of m s feed h ≡ event_by m s feed h ready
      unfolding event_of
      event_told s ready is = ap (event_by m s feed h) is

      -- both as they are told, where what they are is alike
      goes_by : (left right : Turned S T) → turn_of m first feed h ≡ left → turn_of m second feed h ≡ right → GoAlike left right
          → GoAlike (turn_of m first feed h) (turn_of m second feed h)
      goes_by left right left_is right_is goes =
          subst (λ turned. GoAlike turned (turn_of m second feed h)) (sym left_is) (subst (λ turned. GoAlike left turned) (sym right_is) goes)

      abbrev GoesOn : Type 0
      GoesOn = GoAlike (turn_of m first feed h) (turn_of m second feed h) × (event_of m second feed h ≡ event_of m first feed h)

      goes_ready : is_ready_in core h ≡ true → IsUnspent service (event_of m first feed h) → GoesOn
      goes_ready is unspent =
          let left = turn_ready m first feed h is in
          let both = ready_alike (λ ended. unspent (event_of-ended m first feed h ∙ ap (λ turned. turned.ended) left ∙ ended)) in
          let goes = goes_by (turn_by m first feed h true) (turn_by m second feed h true) left (turn_ready m second feed h is) both.0 in
          (goes, event_told second true is ∙ told_alike goes.ended both.1 ∙ sym (event_told first true is))

      goes_idle : is_ready_in core h ≡ false → GoesOn
      goes_idle is =
          let goes = goes_by (turn_by m first feed h false) (turn_by m second feed h false) (turn_idle m first feed h is) (turn_idle m second feed h is)
          (record { policy = alike; core = refl; feed = refl; ended = refl }) in
          (goes, event_told second false is ∙ idle_alike goes.ended ∙ sym (event_told first false is))

      -- where the spent service didn't end the first turn, the second leaves the same, and has the same event
      turn_alike : IsUnspent service (event_of m first feed h) → GoesOn
      turn_alike unspent = by (is_ready_in core h) refl
        where
          by : (ready : Bool) → is_ready_in core h ≡ ready → GoesOn
          by true is = goes_ready is unspent
          by false is = goes_idle is

  -- ---- along a list of turns

  abbrev GoesAlike : Machine S T → Machine S T → Tape → ℕ → Type 0
  GoesAlike s t feed h = GoAlike (turn_of m s feed h) (turn_of m t feed h) × (event_of m t feed h ≡ event_of m s feed h)

  turned_alike : (s t : Machine S T) (feed : Tape) (h : ℕ) → Alike s.policy t.policy → t.core ≡ s.core → IsUnspent service (event_of m s feed h) → GoesAlike s t feed h
  turned_alike s t feed h alike same unspent =
      subst (λ (core : CoreState T). GoesAlike s (record { policy = t.policy; core = core }) feed h) (sym same) (turn_alike s.policy t.policy s.core alike feed h unspent)

  -- where no event tells of the spent service, the events are the same
  pub events_alike : (s t : Machine S T) (feed : Tape) (items : List Item) → Alike s.policy t.policy → t.core ≡ s.core
      → AllByRecursion (IsUnspent service) (run_along m s feed items).events → (run_along m t feed items).events ≡ (run_along m s feed items).events
  events_alike s t feed [] alike same unspent = refl
  events_alike s t feed (turn h ∷ items) alike same unspent =
      let goes = turned_alike s t feed h alike same unspent.0 in
      let turned = turn_of m s feed h in
      let other = turn_of m t feed h in
      let rest = ap (λ (tape : Tape). (run_along m other.machine tape items).events) goes.0.feed
      ∙ events_alike turned.machine other.machine turned.feed items goes.0.policy goes.0.core unspent.1 in
      λ j. goes.1 j ∷ rest j
  events_alike s t feed (fed byte ∷ items) alike same unspent = events_alike s t (with_fed feed (byte ∷ [])) items alike same unspent
