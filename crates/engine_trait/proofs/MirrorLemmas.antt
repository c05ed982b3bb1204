-- The turn of a machine with changed tags, under a policy that mirrors the machine's.
use Rattle.std.proofs.Common.{◌≡◌, ℕ, Bool, true, false, ◌||◌, not, nat_lt, Option, None, Result, Ok, Err, refl, ap, sym, subst, ◌∙◌, ◌&&◌, if◌then◌else◌}
use Rattle.std.proofs.lemmas.List.{length-map}
use Rattle.policy_trait.specs.Maps.{ok_by, outs_by}
use Rattle.policy_trait.specs.Mirrors.{Mirrors}
use Rattle.policy_trait.specs.Model.{PolicyModel}
use Rattle.shared_terms.specs.Steps.{◌>>=◌}
use Rattle.policy_trait.specs.declared.rules.Outs.{Outs}
use Rattle.policy_trait.specs.declared.rules.Refused.{Refused}
use Rattle.monitor_calls.specs.Service.{Job}
use Rattle.rv_step.specs.declared.faults.Fault.TheVariants.{NoService}
use Rattle.tag_memory.specs.Hart.{HartState}
use Rattle.tag_memory.specs.Maps.{hart_by, ram_by}
use Rattle.turn_steps.specs.Feeds.{Tape}
use Rattle.turn_steps.specs.Looks.{is_call, look_result}
use Rattle.turn_steps.specs.Peeks.{Peek, peeked}
use Rattle.rv_step.specs.declared.faults.Fault.{Fault}
use Rattle.turn_steps.specs.declared.look.Look.{Look}
use Rattle.turn_steps.specs.declared.stop.Stop.{Stop}
use Rattle.turn_steps.specs.declared.stop.Stop.TheVariants as stop
use Rattle.turn_steps.proofs.MapLemmas.{looked_by}
use Rattle.turn_steps.proofs.PeekLemmas.{peeked_by}
use Rattle.engine_trait.specs.Accounts.{IsUncached}
use Rattle.engine_trait.specs.Machine.{CoreState, Machine, has_no_stop, hart_at, is_ready_in, stop_at}
use Rattle.engine_trait.specs.Maps.{core_by, machine_by, turned_by}
use Rattle.engine_trait.specs.Mirrored.{IsMirrored, StepsMirrored}
use Rattle.engine_trait.specs.Standing.{Standing, Stepped, idle, is_ready, is_running, made_step, step}
use Rattle.engine_trait.specs.Turn.{Turned, attempt, end_of, may_look, or_fault, or_violation, preparation, rule_answer, rule_inputs, service_look, settlement, turn_by, turn_effect, turn_of}
use Rattle.engine_trait.specs.declared.ends.Halt.{Halt}
use Rattle.engine_trait.proofs.AccountLemmas.{accounted_halt}
use Rattle.engine_trait.proofs.MapLemmas.{carried_at_by, core_effected_by, hart_at_by, rule_inputs_by}
use Rattle.engine_trait.proofs.StepLemmas.{plain_stays, plain_step, step_idle}
use Rattle.engine_trait.proofs.TurnLemmas.{allowed_turn, planned_own, planned_turn}

-- ---- steps in a row

-- the first step gives what changes too
both_by : {A B C D E : Type 0} (turn : A → B) (change : C → D) (first : Result A E) (changed_first : Result B E) (rest : A → Result C E) (changed : B → Result D E)
    → changed_first ≡ ok_by turn first → ((x : A) → first ≡ Ok x → changed (turn x) ≡ ok_by change (rest x))
    → (changed_first >>= changed) ≡ ok_by change (first >>= rest)
both_by turn change (Ok x) changed_first rest changed is each = ap (λ r. r >>= changed) is ∙ each x refl
both_by turn change (Err e) changed_first rest changed is each = ap (λ r. r >>= changed) is

-- the first step gives what doesn't change
then_by : {A B C E : Type 0} (change : B → C) (first : Result A E) (rest : A → Result B E) (changed : A → Result C E)
    → ((x : A) → first ≡ Ok x → changed x ≡ ok_by change (rest x)) → (first >>= changed) ≡ ok_by change (first >>= rest)
then_by change (Ok x) rest changed each = each x refl
then_by change (Err e) rest changed each = refl

-- ---- the core

module _ {T U : Type 0} (f : T → U) where
  pub ready_by : (core : CoreState T) (h : ℕ) → is_ready_in (core_by f core) h ≡ is_ready_in core h
  ready_by core h = ap (λ (n : ℕ). nat_lt h n && has_no_stop (stop_at core h)) (length-map core.harts (hart_by f))

-- ---- a policy that offers no service

module _ {S T : Type 0} (m : PolicyModel T S) (s : Machine S T) (none : (k : ℕ) → m.knows s.policy k ≡ false) where
  abbrev found : Look → Result Look Stop
  found look = Ok look

  own_if : (call known : Bool) (look given : Look) (fault : Stop) → known ≡ false → is_call look.group ≡ call
      → (if not call || known then found look else Err fault) ≡ Ok given → is_call given.group ≡ false
  own_if true known look given fault unknown is e = absurd cc
  own_if false known look given fault unknown is e = cc

  offered_own : (look given : Look) → service_look m s look ≡ Ok given → is_call given.group ≡ false
  offered_own look given e = own_if (is_call look.group) (m.knows s.policy look.service) look given (stop.Fault (NoService look.service)) (none look.service) refl e

  first_own : (first : Result Look Stop) (look : Look) → (first >>= service_look m s) ≡ Ok look → is_call look.group ≡ false
  first_own (Ok found) look e = offered_own found look e
  first_own (Err why) look e = absurd cc

  seen_own : (seen : Result (Unit {0}) Stop) (first : Result Look Stop) (look : Look) → (seen >>= λ x. first >>= service_look m s) ≡ Ok look → is_call look.group ≡ false
  seen_own (Ok x) first look e = first_own first look e
  seen_own (Err why) first look e = absurd cc

  -- a turn that comes to its rule calls no service of the policy
  pub prepared_own : (h : ℕ) (look : Look) → preparation m s h ≡ Ok look → is_call look.group ≡ false
  unfolding preparation
  prepared_own h look e = seen_own (or_violation (hart_at s.core h).pc (may_look m s h)) (or_fault (look_result (hart_at s.core h) s.core.ram)) look e

module _ {S T : Type 0} (m : PolicyModel T S) (s : Machine S T) (feed : Tape) (h : ℕ) (none : (k : ℕ) → m.knows s.policy k ≡ false) where
  abbrev KeepsPolicy : Result (Turned S T) Stop → Type 0
  KeepsPolicy result = (settlement m s feed h result).machine.policy ≡ s.policy

  steps_keep : {A : Type 0} (first : Result A Stop) (rest : A → Result (Turned S T) Stop) → ((x : A) → first ≡ Ok x → KeepsPolicy (rest x)) → KeepsPolicy (first >>= rest)
  steps_keep (Ok x) rest each = each x refl
  steps_keep (Err why) rest each = refl

  attempt_keeps : KeepsPolicy (attempt m s feed h)
  unfolding attempt
  attempt_keeps =
      steps_keep (preparation m s h) _ λ look look-is.
      steps_keep (rule_answer m s h look) _ λ outs outs-is.
      ap (λ job. (settlement m s feed h (job >>= λ j. Ok (turn_effect m s feed h look outs j))).machine.policy)
      (planned_own m s h look outs (prepared_own m s none h look look-is))

  turn_keeps_if : (ready : Bool) → (turn_by m s feed h ready).machine.policy ≡ s.policy
  turn_keeps_if true = attempt_keeps
  turn_keeps_if false = refl

  -- its value stays
  pub turn_keeps_policy : (turn_of m s feed h).machine.policy ≡ s.policy
  unfolding turn_of
  turn_keeps_policy = turn_keeps_if (is_ready_in s.core h)

-- ---- the turn

or_violation_by : {A B : Type 0} (change : A → B) (pc : ℕ) (r : Result A Refused) → or_violation pc (ok_by change r) ≡ ok_by change (or_violation pc r)
or_violation_by change pc (Ok x) = refl
or_violation_by change pc (Err refused) = refl

module _ {S T U V : Type 0} (f : T → U) (m : PolicyModel T S) (n : PolicyModel U V) (s : Machine S T) (t : V) (mirrors : Mirrors f m s.policy n t) where
  abbrev mirror : Machine V U
  mirror = machine_by f t s

  offered_by : (look : Look) → service_look n mirror look ≡ service_look m s look
  offered_by look =
      ap (λ (known : Bool). if not (is_call look.group) || known then Ok look else Err (stop.Fault (NoService look.service)))
      (mirrors.mirror_offers_none look.service ∙ sym (mirrors.offers_none look.service))

  -- it refuses the same looks
  seen_by : (h : ℕ) → peeked (n.peek t) (hart_by f (hart_at s.core h)) (ram_by f s.core.ram) ≡ may_look m s h
  seen_by h =
      peeked_by f (n.peek t) (hart_at s.core h) s.core.ram
      ∙ ap (λ (peek : Peek T). peeked peek (hart_at s.core h) s.core.ram) (λ j look first second. mirrors.peek look first second j)

  -- what is looked at, by whether the turn may look
  abbrev after_seen : ℕ → Result (Unit {0}) Refused → Result Look Fault → (Look → Result Look Stop) → Result Look Stop
  after_seen pc seen found offered = or_violation pc seen >>= λ x. or_fault found >>= offered

  -- no tag decides the other checks
  prepared_by : (h : ℕ) → preparation n mirror h ≡ preparation m s h
  unfolding preparation
  prepared_by h =
      let pc = (hart_at s.core h).pc in
      ap (λ (hart : HartState U). after_seen hart.pc (peeked (n.peek t) hart (ram_by f s.core.ram)) (look_result hart (ram_by f s.core.ram)) (service_look n mirror)) (hart_at_by f s.core h)
      ∙ (λ j. after_seen pc (seen_by h j) (looked_by f (hart_at s.core h) s.core.ram j) (λ look. offered_by look j))

  allowed_by : (h : ℕ) (look : Look) → rule_answer n mirror h look ≡ ok_by (outs_by f) (rule_answer m s h look)
  unfolding rule_answer
  allowed_by h look =
      (λ j. or_violation (hart_at_by f s.core h j).pc (n.rule t look.group (rule_inputs_by f s.core h look j)))
      ∙ ap (or_violation (hart_at s.core h).pc) (mirrors.rule look.group (rule_inputs s.core h look))
      ∙ or_violation_by (outs_by f) (hart_at s.core h).pc (m.rule s.policy look.group (rule_inputs s.core h look))

  module _ (feed : Tape) (h : ℕ) where
    effected_by : (look : Look) (outs : Outs T) → turn_effect n mirror feed h look (outs_by f outs) None ≡ turned_by f t (turn_effect m s feed h look outs None)
    effected_by look outs = λ j. record {
      machine = record { policy = t; core = core_effected_by f s.core feed h look outs j };
      feed = (carried_at_by f s.core feed h look outs j).feed;
      ended = end_of (carried_at_by f s.core feed h look outs j).done;
    }

    abbrev ends_by : Look → Outs T → Option (Job U) → Result (Turned V U) Stop
    ends_by look outs job = Ok (turn_effect n mirror feed h look (outs_by f outs) job)

    planned_by : (look : Look) (outs : Outs T) → is_call look.group ≡ false
        → planned_turn n mirror feed h look (outs_by f outs) ≡ ok_by (turned_by f t) (planned_turn m s feed h look outs)
    planned_by look outs own =
        ap (λ job. job >>= ends_by look outs) (planned_own n mirror h look (outs_by f outs) own)
        ∙ ap (λ turned. Ok turned) (effected_by look outs)
        ∙ sym (ap (λ job. ok_by (turned_by f t) (job >>= λ j. Ok (turn_effect m s feed h look outs j))) (planned_own m s h look outs own))

    attempt_by : attempt n mirror feed h ≡ ok_by (turned_by f t) (attempt m s feed h)
    unfolding attempt
    attempt_by =
        ap (λ found. found >>= allowed_turn n mirror feed h) (prepared_by h)
        ∙ then_by (turned_by f t) (preparation m s h) (allowed_turn m s feed h) (allowed_turn n mirror feed h) λ look look-is.
        both_by (outs_by f) (turned_by f t) (rule_answer m s h look) (rule_answer n mirror h look) (planned_turn m s feed h look) (planned_turn n mirror feed h look)
        (allowed_by h look) λ outs outs-is.
        planned_by look outs (prepared_own m s mirrors.offers_none h look look-is)

    settled_by : (result : Result (Turned S T) Stop) → settlement n mirror feed h (ok_by (turned_by f t) result) ≡ turned_by f t (settlement m s feed h result)
    settled_by (Ok turned) = refl
    settled_by (Err why) = refl

    turn_if : (ready : Bool) → turn_by n mirror feed h ready ≡ turned_by f t (turn_by m s feed h ready)
    turn_if true = ap (settlement n mirror feed h) attempt_by ∙ settled_by (attempt m s feed h)
    turn_if false = refl

    pub turn_by_mirror : turn_of n mirror feed h ≡ turned_by f t (turn_of m s feed h)
    unfolding turn_of
    turn_by_mirror = ap (turn_by n mirror feed h) (ready_by f s.core h) ∙ turn_if (is_ready_in s.core h)

-- ---- the step

module _ {S T U V : Type 0} (same_tag : T → T → Bool) (same_mirror : U → U → Bool) (f : T → U) (m : PolicyModel T S) (n : PolicyModel U V)
    (e : Standing S T) (d : Standing V U) (feed : Tape) (h : ℕ) (mirrored : IsMirrored f m n e d) where
  turn_is : turn_of n d.machine feed h ≡ turned_by f d.machine.policy (turn_of m e.machine feed h)
  turn_is =
      ap (λ (core : CoreState U). turn_of n (record { policy = d.machine.policy; core = core }) feed h) mirrored.core
      ∙ turn_by_mirror f m n e.machine d.machine.policy mirrored.policy feed h

  ready_is : is_ready d h ≡ is_ready e h
  ready_is =
      ap (λ (halt : Option Halt). is_running halt && is_ready_in d.machine.core h) mirrored.halt
      ∙ ap (λ (core : CoreState U). is_running e.account.halt && is_ready_in core h) mirrored.core
      ∙ ap (λ ready. is_running e.account.halt && ready) (ready_by f e.machine.core h)

  policy_is : Mirrors f m (turn_of m e.machine feed h).machine.policy n (turn_of n d.machine feed h).machine.policy
  policy_is =
      subst (λ s. Mirrors f m s n (turn_of n d.machine feed h).machine.policy) (sym (turn_keeps_policy m e.machine feed h mirrored.policy.offers_none))
      (subst (λ t. Mirrors f m e.machine.policy n t) (sym (ap (λ (turned : Turned V U). turned.machine.policy) turn_is)) mirrored.policy)

  made_mirrored : is_ready e h ≡ true → is_ready d h ≡ true → StepsMirrored f m n (made_step same_tag m e feed h) (made_step same_mirror n d feed h)
  made_mirrored ready mirror_ready = record {
    standing = record {
      policy = policy_is;
      core = ap (λ (turned : Turned V U). turned.machine.core) turn_is;
      halt = accounted_halt same_mirror n d.machine h d.account ∙ mirrored.halt ∙ sym (accounted_halt same_tag m e.machine h e.account);
      uncached = subst (λ (stepped : Stepped S T). IsUncached stepped.standing.account) (plain_step same_tag m e feed h mirrored.uncached ready) (plain_stays same_tag m e feed h mirrored.uncached);
      mirror_uncached = subst (λ (stepped : Stepped V U). IsUncached stepped.standing.account) (plain_step same_mirror n d feed h mirrored.mirror_uncached mirror_ready) (plain_stays same_mirror n d feed h mirrored.mirror_uncached);
    };
    feed = ap (λ (turned : Turned V U). turned.feed) turn_is;
    ended = ap (λ (turned : Turned V U). turned.ended) turn_is;
  }

  abbrev GoesAlong : Type 0
  GoesAlong = StepsMirrored f m n (step same_tag m e feed h) (step same_mirror n d feed h)

  step_if : (ready : Bool) → is_ready e h ≡ ready → GoesAlong
  step_if true ready =
      let mirror_ready : is_ready d h ≡ true = ready_is ∙ ready in
      subst (λ a. StepsMirrored f m n a (step same_mirror n d feed h)) (sym (plain_step same_tag m e feed h mirrored.uncached ready))
      (subst (λ b. StepsMirrored f m n (made_step same_tag m e feed h) b) (sym (plain_step same_mirror n d feed h mirrored.mirror_uncached mirror_ready))
      (made_mirrored ready mirror_ready))
  step_if false waits =
      subst (λ a. StepsMirrored f m n a (step same_mirror n d feed h)) (sym (step_idle same_tag m e feed h waits))
      (subst (λ b. StepsMirrored f m n (idle same_tag m e feed h) b) (sym (step_idle same_mirror n d feed h (ready_is ∙ waits)))
      (record { standing = mirrored; feed = refl; ended = refl }))

  pub step_mirrored : GoesAlong
  step_mirrored = step_if (is_ready e h) refl
