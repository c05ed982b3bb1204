-- A turn that stops no hart leaves who is ready, and one that stops its hart leaves why.
use Rattle.std.proofs.Common.{◌≡◌, ℕ, ◌<◌, Bool, true, false, List, length, Option, Some, None, Result, Ok, Err, refl, ap, sym, ◌∙◌, arith}
use Rattle.std.proofs.lemmas.List.{get_or-set_same, length-set}
use Rattle.policy_trait.specs.Model.{PolicyModel}
use Rattle.shared_terms.specs.Steps.{◌>>=◌}
use Rattle.policy_trait.specs.declared.rules.Outs.{Outs}
use Rattle.policy_trait.specs.declared.services.Answer.{Answer}
use Rattle.monitor_calls.specs.Service.{Job}
use Rattle.turn_steps.specs.Effects.{Carried}
use Rattle.turn_steps.specs.Feeds.{Tape}
use Rattle.turn_steps.specs.declared.effects.Done.{Done}
use Rattle.turn_steps.specs.declared.effects.Done.TheVariants as done
use Rattle.turn_steps.specs.declared.look.Look.{Look}
use Rattle.turn_steps.specs.declared.stop.Stop.{Stop}
use Rattle.turn_steps.specs.declared.stop.Stop.TheVariants as stop
use Rattle.engine_trait.specs.Accounts.{account_after_turn, is_over}
use Rattle.engine_trait.specs.Machine.{CoreState, IsMachine, Machine, is_ready_in, stop_at, stopping}
use Rattle.engine_trait.specs.Standing.{Standing, Stepped, is_ready, step, step_by}
use Rattle.engine_trait.specs.declared.ends.TurnEnd.{TurnEnd}
use Rattle.engine_trait.specs.declared.ends.TurnEnd.TheVariants as ends
use Rattle.engine_trait.specs.Turn.{Turned, rule_answer, attempt, carried_at, core_effected, core_ended, core_served, turn_effect, end_of, turn_job, preparation, settlement, turn_by, turn_of}
use Rattle.engine_trait.proofs.TurnLemmas.{allowed_turn, planned_turn}
use Rattle.rounds.specs.Course.{is_stop, order_in}
use Rattle.rounds.proofs.ReadinessLemmas.{order_same}

-- as many harts, with the same stops
record StaysReady {T : Type 0} (core other : CoreState T) : Type 0 where
  stops : other.stops ≡ core.stops
  count : length other.harts ≡ length core.harts

-- ---- a turn

served_stays : {T : Type 0} (core : CoreState T) (h : ℕ) (words : List (ℕ × ℕ × T)) (answer : Option (Answer T)) (next : ℕ) (pc_tag : T)
    → StaysReady core (core_served core h words answer next pc_tag)
unfolding core_served
served_stays core h words answer next pc_tag = record { stops = refl; count = length-set core.harts h _ }

ended_stays : {T : Type 0} (core : CoreState T) (h : ℕ) (carried : Carried T) (end : Done) → is_stop (end_of end) ≡ false → StaysReady core (core_ended core h carried end)
ended_stays core h carried (done.Stepped byte) goes_on = record { stops = refl; count = length-set core.harts h carried.hart }
ended_stays core h carried done.Broke goes_on = record { stops = refl; count = length-set core.harts h carried.hart }
ended_stays core h carried (done.Exited code) goes_on = absurd (cc goes_on)

module _ {S T : Type 0} (m : PolicyModel T S) (s : Machine S T) (feed : Tape) (h : ℕ) where
  abbrev StaysUnlessStopped : Turned S T → Type 0
  StaysUnlessStopped turned = is_stop turned.ended ≡ false → StaysReady s.core turned.machine.core

  effect_stays : (look : Look) (outs : Outs T) → is_stop (end_of (carried_at s.core feed h look outs).done) ≡ false
      → StaysReady s.core (core_effected s.core feed h look outs)
  unfolding core_effected
  effect_stays look outs goes_on = ended_stays s.core h (carried_at s.core feed h look outs) (carried_at s.core feed h look outs).done goes_on

  effected_stays : (look : Look) (outs : Outs T) (job : Option (Job T)) → StaysUnlessStopped (turn_effect m s feed h look outs job)
  effected_stays look outs (Some job) goes_on = served_stays s.core h job.words job.plan.answer look.effect.next outs.pc
  effected_stays look outs None goes_on = effect_stays look outs goes_on

  steps_stay : {A : Type 0} (first : Result A Stop) (rest : A → Result (Turned S T) Stop)
      → ((x : A) → StaysUnlessStopped (settlement m s feed h (rest x))) → StaysUnlessStopped (settlement m s feed h (first >>= rest))
  steps_stay (Ok x) rest each goes_on = each x goes_on
  steps_stay (Err why) rest each goes_on = absurd (cc goes_on)

  attempt_stays : StaysUnlessStopped (settlement m s feed h (attempt m s feed h))
  unfolding attempt
  attempt_stays =
      steps_stay (preparation m s h) (allowed_turn m s feed h) λ look.
      steps_stay (rule_answer m s h look) (planned_turn m s feed h look) λ outs.
      steps_stay (turn_job m s h look outs) (λ job. Ok (turn_effect m s feed h look outs job)) (effected_stays look outs)

  turn_if : (ready : Bool) → StaysUnlessStopped (turn_by m s feed h ready)
  turn_if true goes_on = attempt_stays goes_on
  turn_if false goes_on = record { stops = refl; count = refl }

  turn_stays : StaysUnlessStopped (turn_of m s feed h)
  unfolding turn_of
  turn_stays = turn_if (is_ready_in s.core h)

-- ---- a step

module _ {S T : Type 0} (eq : T → T → Bool) (m : PolicyModel T S) (e : Standing S T) (feed : Tape) (h : ℕ) where
  step_if : (ready over : Bool) → is_stop (step_by eq m e feed h ready over).ended ≡ false
      → StaysReady e.machine.core (step_by eq m e feed h ready over).standing.machine.core
  step_if false over goes_on = record { stops = refl; count = refl }
  step_if true true goes_on = record { stops = refl; count = refl }
  step_if true false goes_on = turn_stays m e.machine feed h goes_on

  step_stays : is_stop (step eq m e feed h).ended ≡ false → StaysReady e.machine.core (step eq m e feed h).standing.machine.core
  unfolding step
  step_stays goes_on = step_if (is_ready e h) (is_over (account_after_turn eq m e.machine h e.account)) goes_on

  -- the order of turns is what it was
  pub order_stays : (order : List (Option ℕ)) (f : Standing S T) → order ≡ order_in e.machine.core → f ≡ (step eq m e feed h).standing
      → is_stop (step eq m e feed h).ended ≡ false → order ≡ order_in f.machine.core
  order_stays order f kept is goes_on =
      let stays = step_stays goes_on in
      kept
      ∙ sym (order_same e.machine.core (step eq m e feed h).standing.machine.core stays.stops stays.count)
      ∙ sym (ap (λ (g : Standing S T). order_in g.machine.core) is)

-- ---- the stop of a turn that stopped its hart

-- the stop stands in the core
stop_stands : {T : Type 0} (core : CoreState T) (h : ℕ) (why : Stop) → h < length core.stops → stop_at (stopping core h why) h ≡ Some why
stop_stands core h why there = get_or-set_same core.stops h (Some why) None there

module _ {T : Type 0} (core : CoreState T) (h : ℕ) (there : h < length core.stops) where
  ended_tells : (carried : Carried T) (end : Done) (why : Stop) → end_of end ≡ ends.Stopped why → stop_at (core_ended core h carried end) h ≡ Some why
  ended_tells carried (done.Stepped byte) why is = absurd (cc is)
  ended_tells carried done.Broke why is = absurd (cc is)
  ended_tells carried (done.Exited code) why is =
      let same : stop.Exit code ≡ why = cc is in
      stop_stands core h (stop.Exit code) there ∙ ap Some same

module _ {S T : Type 0} (m : PolicyModel T S) (s : Machine S T) (feed : Tape) (h : ℕ) (there : h < length s.core.stops) where
  abbrev TellsStop : Turned S T → Type 0
  TellsStop turned = (why : Stop) → turned.ended ≡ ends.Stopped why → stop_at turned.machine.core h ≡ Some why

  own_tells : (look : Look) (outs : Outs T) → TellsStop (turn_effect m s feed h look outs None)
  unfolding core_effected
  own_tells look outs why is = ended_tells s.core h there (carried_at s.core feed h look outs) (carried_at s.core feed h look outs).done why is

  effect_tells : (look : Look) (outs : Outs T) (job : Option (Job T)) → TellsStop (turn_effect m s feed h look outs job)
  effect_tells look outs (Some job) why is = absurd (cc is)
  effect_tells look outs None why is = own_tells look outs why is

  steps_tell : {A : Type 0} (first : Result A Stop) (rest : A → Result (Turned S T) Stop)
      → ((x : A) → TellsStop (settlement m s feed h (rest x))) → TellsStop (settlement m s feed h (first >>= rest))
  steps_tell (Ok x) rest each why is = each x why is
  steps_tell (Err refused) rest each why is =
      let same : refused ≡ why = cc is in
      stop_stands s.core h refused there ∙ ap Some same

  attempt_tells : TellsStop (settlement m s feed h (attempt m s feed h))
  unfolding attempt
  attempt_tells =
      steps_tell (preparation m s h) (allowed_turn m s feed h) λ look.
      steps_tell (rule_answer m s h look) (planned_turn m s feed h look) λ outs.
      steps_tell (turn_job m s h look outs) (λ job. Ok (turn_effect m s feed h look outs job)) (effect_tells look outs)

  turn_if_tells : (ready : Bool) → TellsStop (turn_by m s feed h ready)
  turn_if_tells true why is = attempt_tells why is
  turn_if_tells false why is = absurd (cc is)

  turn_tells : TellsStop (turn_of m s feed h)
  unfolding turn_of
  turn_tells why is = turn_if_tells (is_ready_in s.core h) why is

module _ {S T : Type 0} (eq : T → T → Bool) (m : PolicyModel T S) (e : Standing S T) (feed : Tape) (h : ℕ) where
  step_if_tells : h < length e.machine.core.stops → (ready over : Bool) (why : Stop) → (step_by eq m e feed h ready over).ended ≡ ends.Stopped why
      → stop_at (step_by eq m e feed h ready over).standing.machine.core h ≡ Some why
  step_if_tells there false over why is = absurd (cc is)
  step_if_tells there true true why is = absurd (cc is)
  step_if_tells there true false why is = turn_tells m e.machine feed h there why is

  step_tells : h < length e.machine.core.stops → (why : Stop) → (step eq m e feed h).ended ≡ ends.Stopped why
      → stop_at (step eq m e feed h).standing.machine.core h ≡ Some why
  unfolding step
  step_tells there why is = step_if_tells there (is_ready e h) (is_over (account_after_turn eq m e.machine h e.account)) why is

  -- where the hart stopped in this step, its stop is that which the step ended with
  pub stop_left : IsMachine m e.machine → h < length e.machine.core.harts → (f : Standing S T) (fed : Tape) (ended : TurnEnd)
      → step eq m e feed h ≡ record { standing = f; feed = fed; ended = ended } → (why : Stop) → ended ≡ ends.Stopped why → stop_at f.machine.core h ≡ Some why
  stop_left machine here f fed ended is why stopped =
      let few = machine.core.few in
      let stops = machine.core.stops in
      let there : h < length e.machine.core.stops = omega (arith, few, stops, here) in
      ap (λ (g : Stepped S T). stop_at g.standing.machine.core h) (sym is) ∙ step_tells there why (ap (λ (g : Stepped S T). g.ended) is ∙ stopped)
