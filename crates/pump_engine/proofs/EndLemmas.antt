-- How a turn of words ended: what a failure and an idle turn leave, a service of the policy, and running out of memory.
use Rattle.std.proofs.Common.{length, map}
use Rattle.std.proofs.Common.{◌≡◌, ℕ, Bool, true, false, ◌&&◌, ◌||◌, not, Option, Some, None, Result, Ok, Err, IsOk, is_ok, ◌≢◌, refl, sym, ap, ◌∙◌, subst}
use Rattle.std.proofs.lemmas.Bool.{false≢true}
use Rattle.std.proofs.lemmas.List.{length-map}
use Rattle.policy_trait.specs.Model.{PolicyModel}
use Rattle.shared_terms.specs.Steps.{◌>>=◌}
use Rattle.policy_trait.specs.declared.rules.Outs.{Outs}
use Rattle.policy_trait.specs.declared.services.PlanEnd.{PlanEnd}
use Rattle.tag_memory.specs.Maps.{hart_by}
use Rattle.tag_memory.specs.Ram.{ram_bytes}
use Rattle.monitor_calls.specs.Service.{Job}
use Rattle.turn_steps.specs.Feeds.{Tape}
use Rattle.turn_steps.specs.Looks.{is_call}
use Rattle.turn_steps.specs.declared.effects.Done.{Done}
use Rattle.turn_steps.specs.declared.effects.Done.TheVariants as done
use Rattle.turn_steps.specs.declared.look.Look.{Look}
use Rattle.turn_steps.specs.declared.stop.Stop.{Stop}
use Rattle.turn_steps.specs.declared.stop.Stop.TheVariants as stop
use Rattle.engine_trait.specs.Accounts.{is_kept}
use Rattle.engine_trait.specs.EngineLaws.{is_made}
use Rattle.engine_trait.specs.Machine.{CoreState, Machine, is_ready_in}
use Rattle.engine_trait.specs.Standing.{GivesUp, IsFailure, Standing, Stepped, StopsOnly, Unchanged, is_ready, step}
use Rattle.engine_trait.specs.Turn.{Turned, rule_answer, rule_at, attempt, carried_at, turn_effect, end_of, is_served, turn_job, preparation, settlement, stopped_at, turn_by, turn_of}
use Rattle.engine_trait.specs.declared.ends.TurnEnd.{TurnEnd}
use Rattle.engine_trait.specs.declared.ends.TurnEnd.TheVariants as ends
use Rattle.engine_trait.proofs.StepLemmas.{step_follows, step_stays_idle}
use Rattle.engine_trait.proofs.TurnLemmas.{allowed_turn, planned_turn}
use Rattle.miss_handler.specs.declared.ends.AskEnd.{AskEnd}
use Rattle.miss_handler.specs.declared.ends.AskEnd.TheVariants as ask_end
use Rattle.pump_engine.specs.Pump.{PumpState, account_by_words, machine_by_words, standing_by_words}
use Rattle.pump_engine.specs.Steps.{after_stop}
use Rattle.pump_engine.specs.Steps.{Allows, EndsService, HasParts, answer_in, finds_rule, key_in, service_in, takes_memory, unanswered_end}
use Rattle.pump_engine.proofs.CountLemmas.{key_by_words, rule_allows}
use Rattle.pump_engine.proofs.TurnLemmas.{StepsTo, served_gives_up, served_now, served_turn, unserved_turn}

-- ---- a failure

module _ {S T : Type 0} (m : PolicyModel T S) (s : Machine S T) (feed : Tape) (h : ℕ) (why : Stop) (failing : IsFailure why) where
  -- after it, the hart has the stop alone
  abbrev HasFailed : Turned S T → Type 0
  HasFailed turned = (turned.machine ≡ stopped_at s h why) × (turned.feed ≡ feed)

  end_fails : (end : Done) → end_of end ≡ ends.Stopped why → ⊥
  end_fails (done.Stepped byte) is = cc
  end_fails done.Broke is = cc
  end_fails (done.Exited code) is = let exits : why ≡ stop.Exit code = cc in subst IsFailure exits failing

  effect_fails : (look : Look) (outs : Outs T) (job : Option (Job T)) → (turn_effect m s feed h look outs job).ended ≡ ends.Stopped why
      → HasFailed (turn_effect m s feed h look outs job)
  effect_fails look outs (Some job) is = absurd cc
  effect_fails look outs None is = absurd (end_fails (carried_at s.core feed h look outs).done is)

  stop_fails : (other : Stop) → (settlement m s feed h (Err other)).ended ≡ ends.Stopped why → HasFailed (settlement m s feed h (Err other))
  stop_fails other is = let same : other ≡ why = cc in (ap (stopped_at s h) same, refl)

  steps_fail : {A : Type 0} (first : Result A Stop) (rest : A → Result (Turned S T) Stop)
      → ((x : A) → (settlement m s feed h (rest x)).ended ≡ ends.Stopped why → HasFailed (settlement m s feed h (rest x)))
      → (settlement m s feed h (first >>= rest)).ended ≡ ends.Stopped why → HasFailed (settlement m s feed h (first >>= rest))
  steps_fail (Ok x) rest each is = each x is
  steps_fail (Err other) rest each is = stop_fails other is

  attempt_fails : (settlement m s feed h (attempt m s feed h)).ended ≡ ends.Stopped why → HasFailed (settlement m s feed h (attempt m s feed h))
  unfolding attempt
  attempt_fails =
      steps_fail (preparation m s h) (allowed_turn m s feed h) λ look.
      steps_fail (rule_answer m s h look) (planned_turn m s feed h look) λ outs.
      steps_fail (turn_job m s h look outs) (λ job. Ok (turn_effect m s feed h look outs job)) (effect_fails look outs)

  turn_fails_by : (ready : Bool) → (turn_by m s feed h ready).ended ≡ ends.Stopped why → HasFailed (turn_by m s feed h ready)
  turn_fails_by true is = attempt_fails is
  turn_fails_by false is = absurd cc

  turn_fails : (turn_of m s feed h).ended ≡ ends.Stopped why → HasFailed (turn_of m s feed h)
  unfolding turn_of
  turn_fails = turn_fails_by (is_ready_in s.core h)

module _ {S T : Type 0} (eq : T → T → Bool) (m : PolicyModel T S) (e : Standing S T) (feed : Tape) (h : ℕ) (f : Standing S T) (fed : Tape) (ended : TurnEnd)
    (steps : step eq m e feed h ≡ record { standing = f; feed = fed; ended = ended }) where
  -- a failed turn leaves the stop alone
  pub fails_alone : (why : Stop) → IsFailure why → ended ≡ ends.Stopped why → StopsOnly e feed h why f fed
  fails_alone why failing stops =
      let stopped : (step eq m e feed h).ended ≡ ends.Stopped why = ap (λ (s : Stepped S T). s.ended) steps ∙ stops in
      let follows = step_follows eq m e feed h (ap is_made stopped) in
      let failed = turn_fails m e.machine feed h why failing (sym follows.ended ∙ stopped) in
      record {
        machine = sym (ap (λ (s : Stepped S T). s.standing.machine) steps) ∙ follows.machine ∙ failed.0;
        unfed = sym (ap (λ (s : Stepped S T). s.feed) steps) ∙ follows.fed ∙ failed.1;
      }

  -- an idle turn leaves all as it was
  pub idles_alone : ended ≡ ends.Idle → Unchanged e feed f fed
  idles_alone idle =
      let stays = step_stays_idle eq m e feed h (ap (λ (s : Stepped S T). s.ended) steps ∙ idle) in
      record {
        same = sym (ap (λ (s : Stepped S T). s.standing) steps) ∙ ap (λ (s : Stepped S T). s.standing) stays.idle;
        unfed = sym (ap (λ (s : Stepped S T). s.feed) steps) ∙ ap (λ (s : Stepped S T). s.feed) stays.idle;
      }

-- running out of memory is told of nothing else
pub memory_unanswered : (pc : ℕ) (end : AskEnd) → unanswered_end pc end ≡ ends.Memory → end ≡ ask_end.Memory
memory_unanswered pc (ask_end.Stopped refusal) is = absurd cc
memory_unanswered pc ask_end.TagsOut is = absurd cc
memory_unanswered pc ask_end.Memory is = refl

-- ---- a service of the policy, however it ended

module _ {S T : Type 0} (eq : T → T → Bool) (m : PolicyModel T S) (p : PumpState S T) (feed : Tape) (h : ℕ) (ready : is_ready (standing_by_words m p) h ≡ true)
    (q : PumpState S T) (look : Look) (found : preparation m (machine_by_words m p) h ≡ Ok look) (parts : HasParts p q) (outs : Outs ℕ) (rule : Allows eq m p h look q outs)
    (call : is_call look.group ≡ true) (f : PumpState S T) (ended : TurnEnd) (served : EndsService eq m q h look outs f ended) where
  service_turn_by : (given : Result (Job T) PlanEnd) → service_in eq m q h look outs ≡ given → ended ≢ ends.Memory → StepsTo eq m p feed h f feed ended
  service_turn_by (Ok job) is has_memory =
      served_turn eq m p feed h ready q look found parts outs rule call f job is ended (served.served job is) has_memory
  service_turn_by (Err end) is has_memory =
      let stopped = served.stopped end is in
      unserved_turn eq m p feed h ready q look found parts outs rule call f end ended is stopped.0 stopped.1

  pub service_turn : ended ≢ ends.Memory → StepsTo eq m p feed h f feed ended
  service_turn = service_turn_by (service_in eq m q h look outs) refl

  service_gives_up_by : (given : Result (Job T) PlanEnd) → service_in eq m q h look outs ≡ given → ended ≡ ends.Memory
      → GivesUp eq m (standing_by_words m p) feed h (standing_by_words m f) feed
  service_gives_up_by (Ok job) is out =
      served_gives_up eq m p feed h ready q look found parts outs rule call f job is ended (served.served job is) out
  service_gives_up_by (Err end) is out = let stopped : ended ≡ ends.Stopped _ = (served.stopped end is).1 in absurd (cc (out, stopped))

  pub service_gives_up : ended ≡ ends.Memory → GivesUp eq m (standing_by_words m p) feed h (standing_by_words m f) feed
  service_gives_up = service_gives_up_by (service_in eq m q h look outs) refl

  service_there_by : (given : Result (Job T) PlanEnd) → service_in eq m q h look outs ≡ given → ended ≡ ends.Memory → is_served m (machine_by_words m p) h ≡ true
  service_there_by (Ok job) is out = served_now eq m p feed h ready q look found parts outs rule call f job is
  service_there_by (Err end) is out = let stopped : ended ≡ ends.Stopped _ = (served.stopped end is).1 in absurd (cc (out, stopped))

  pub service_there : ended ≡ ends.Memory → is_served m (machine_by_words m p) h ≡ true
  service_there = service_there_by (service_in eq m q h look outs) refl

-- ---- turns that may take memory

by_service : (allows kept serves : Bool) → serves ≡ true → ((allows && not kept) || serves) ≡ true
by_service true true serves is = is
by_service true false serves is = refl
by_service false kept serves is = is

by_miss : (allows kept serves : Bool) → allows ≡ true → (kept ≡ true → ⊥) → ((allows && not kept) || serves) ≡ true
by_miss true true serves is missed = absurd (missed refl)
by_miss true false serves is missed = refl
by_miss false kept serves is missed = absurd (false≢true is)

module _ {S T : Type 0} (eq : T → T → Bool) (m : PolicyModel T S) (p : PumpState S T) (h : ℕ) where
  abbrev allowing : Bool
  allowing = is_ok (rule_at m (machine_by_words m p) h)

  abbrev finding : Bool
  finding = finds_rule eq m (standing_by_words m p) h (preparation m (machine_by_words m p) h)

  pub service_grows : is_served m (machine_by_words m p) h ≡ true → takes_memory eq m (standing_by_words m p) h ≡ true
  service_grows serves = by_service allowing finding (is_served m (machine_by_words m p) h) serves

  pub missed_grows : (look : Look) → preparation m (machine_by_words m p) h ≡ Ok look → IsOk (answer_in eq m p h look) → (is_kept eq (key_in eq m p h look) (account_by_words m p) ≡ true → ⊥)
      → takes_memory eq m (standing_by_words m p) h ≡ true
  missed_grows look found allows missed =
      by_miss allowing finding (is_served m (machine_by_words m p) h) (rule_allows m p h look eq found allows)
      (λ kept. missed (ap (λ key. is_kept eq key (account_by_words m p)) (sym (key_by_words m p h look eq))
      ∙ sym (ap (finds_rule eq m (standing_by_words m p) h) found)
      ∙ kept))

-- ---- what no turn changes

-- an instruction that was carried out ended neither for running out of memory nor idle
pub ends_made : (d : Done) → (end_of d ≢ ends.Memory) × (end_of d ≢ ends.Idle)
ends_made (done.Stepped byte) = (λ out. cc, λ idle. cc)
ends_made done.Broke = (λ out. cc, λ idle. cc)
ends_made (done.Exited code) = (λ out. cc, λ idle. cc)

pub count_stays : {T U : Type 0} (new mid old : CoreState T) → length mid.harts ≡ length old.harts → (f g : T → U) → length new.harts ≡ length mid.harts
    → length (map (hart_by f) new.harts) ≡ length (map (hart_by g) old.harts)
count_stays new mid old same f g count = length-map new.harts (hart_by f) ∙ count ∙ same ∙ sym (length-map old.harts (hart_by g))

module _ {S T : Type 0} (p q : PumpState S T) (h : ℕ) (why : Stop) (state : q ≡ after_stop p h why) where
  pub stopped_count : length q.core.harts ≡ length p.core.harts
  stopped_count = ap (λ (s : PumpState S T). length s.core.harts) state

  pub stopped_bytes : ram_bytes q.core.ram ≡ ram_bytes p.core.ram
  stopped_bytes = ap (λ (s : PumpState S T). ram_bytes s.core.ram) state
