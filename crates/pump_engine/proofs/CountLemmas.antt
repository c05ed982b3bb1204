-- Checks, look-ups and rules where tags are words are those of the tags that the words stand for.
use Rattle.std.proofs.Common.{◌≡◌, ℕ, Bool, true, false, not, ◌&&◌, ◌||◌, Result, Ok, Err, IsOk, if◌then◌else◌, refl, ap, sym, ◌∙◌, subst}
use Rattle.std.proofs.lemmas.Bool.{false≢true}
use Rattle.policy_trait.specs.Model.{PolicyModel, masked_inputs}
use Rattle.shared_terms.specs.Steps.{◌>>=◌}
use Rattle.policy_trait.specs.declared.rules.Ins.{Ins}
use Rattle.policy_trait.specs.declared.rules.Outs.{Outs}
use Rattle.policy_trait.specs.declared.rules.Refused.{Refused}
use Rattle.rv_step.specs.declared.faults.Fault.{Fault}
use Rattle.rv_step.specs.declared.faults.Fault.TheVariants.{NoService}
use Rattle.tag_memory.specs.Hart.{HartState}
use Rattle.tag_memory.specs.Maps.{ram_by}
use Rattle.turn_steps.specs.Looks.{is_system, look_result}
use Rattle.turn_steps.specs.Peeks.{peek_by, peeked}
use Rattle.turn_steps.specs.declared.look.Look.{Look}
use Rattle.turn_steps.specs.declared.stop.Stop.TheVariants as stop
use Rattle.turn_steps.proofs.StepLemmas.{not_call}
use Rattle.turn_steps.proofs.MapLemmas.{looked_by}
use Rattle.turn_steps.proofs.PeekLemmas.{peeked_by}
use Rattle.engine_trait.specs.Accounts.{Account, Key, key_of, look_counted, looked_up, rule_counted, rule_kept}
use Rattle.engine_trait.specs.Machine.{hart_at, is_ready_in}
use Rattle.engine_trait.specs.Standing.{is_ready, is_running}
use Rattle.engine_trait.specs.Turn.{is_offered, may_look, or_fault, or_violation, preparation, rule_answer, rule_at, service_look, violation}
use Rattle.engine_trait.proofs.MapLemmas.{hart_at_by, rule_inputs_by}
use Rattle.engine_trait.proofs.MirrorLemmas.{ready_by}
use Rattle.engine_trait.proofs.TurnLemmas.{rule_looked, seen_prepared, unseen_prepared}
use Rattle.pump_engine.specs.Pump.{PumpState, account_by_words, decode, machine_by_words, standing_by_words}
use Rattle.pump_engine.specs.Steps.{answer_in, key_in, looked_in, ruled_in, ruling_in}
use Rattle.pump_engine.proofs.StepLemmas.{look_counted_at, rule_counted_at}

-- a rule that allows has no stop
allows_still : {T : Type 0} (pc : ℕ) (answer : Result (Outs T) Refused) → IsOk answer → IsOk (or_violation pc answer)
allows_still pc (Ok outs) allows = refl
allows_still pc (Err refused) allows = absurd (false≢true allows)

-- a rule that is refused as a stop is kept as little as one that is refused
kept_alike : {T : Type 0} (eq : T → T → Bool) (key : Key T) (pc : ℕ) (answer : Result (Outs T) Refused) (a : Account T)
    → rule_kept eq key (or_violation pc answer) a ≡ rule_kept eq key answer a
kept_alike eq key pc (Ok outs) a = refl
kept_alike eq key pc (Err refused) a = refl

module _ {S T : Type 0} (m : PolicyModel T S) (p : PumpState S T) where
  -- ---- whether a hart is ready

  pub ready_by_words : (h : ℕ) → is_ready (standing_by_words m p) h ≡ (is_running p.halt && is_ready_in p.core h)
  ready_by_words h = ap (λ ready. is_running p.halt && ready) (ready_by (decode m p) p.core h)

  -- ---- whether the turn may look, asked by the words

  pub seen_by_words : (h : ℕ) → peeked (peek_by (decode m p) (m.peek p.policy)) (hart_at p.core h) p.core.ram ≡ may_look m (machine_by_words m p) h
  seen_by_words h =
      sym (ap (λ (hart : HartState T). peeked (m.peek p.policy) hart (ram_by (decode m p) p.core.ram)) (hart_at_by (decode m p) p.core h)
      ∙ peeked_by (decode m p) (m.peek p.policy) (hart_at p.core h) p.core.ram)

  -- the stop of a turn that may not
  pub unseen_by_words : (h : ℕ) (refused : Refused) → may_look m (machine_by_words m p) h ≡ Err refused
      → preparation m (machine_by_words m p) h ≡ Err (violation (hart_at p.core h).pc refused)
  unseen_by_words h refused seen =
      unseen_prepared m (machine_by_words m p) h refused seen
      ∙ ap (λ (hart : HartState T). Err (violation hart.pc refused)) (hart_at_by (decode m p) p.core h)

  -- ---- the other checks, which no tag decides

  pub prepared_by_words : (h : ℕ) (found : Result Look Fault) → may_look m (machine_by_words m p) h ≡ Ok tt → look_result (hart_at p.core h) p.core.ram ≡ found
      → preparation m (machine_by_words m p) h ≡ (or_fault found >>= service_look m (machine_by_words m p))
  prepared_by_words h found seen looked =
      seen_prepared m (machine_by_words m p) h seen
      ∙ ap (λ (hart : HartState T). or_fault (look_result hart (ram_by (decode m p) p.core.ram)) >>= service_look m (machine_by_words m p)) (hart_at_by (decode m p) p.core h)
      ∙ ap (λ look. or_fault look >>= service_look m (machine_by_words m p)) (looked_by (decode m p) (hart_at p.core h) p.core.ram ∙ looked)

  pub offered_by_words : (h : ℕ) (look : Look) (offered : Bool) → may_look m (machine_by_words m p) h ≡ Ok tt → look_result (hart_at p.core h) p.core.ram ≡ Ok look → is_offered m (machine_by_words m p) look ≡ offered
      → preparation m (machine_by_words m p) h ≡ (if offered then Ok look else Err (stop.Fault (NoService look.service)))
  offered_by_words h look offered seen looked is =
      prepared_by_words h (Ok look) seen looked ∙ ap (λ test. if test then Ok look else Err (stop.Fault (NoService look.service))) is

  -- an instruction that is neither an ECALL nor an EBREAK comes to its rule once it is looked at
  pub step_by_words : (h : ℕ) (look : Look) → may_look m (machine_by_words m p) h ≡ Ok tt → look_result (hart_at p.core h) p.core.ram ≡ Ok look → is_system look.group ≡ false
      → preparation m (machine_by_words m p) h ≡ Ok look
  step_by_words h look seen looked plain =
      offered_by_words h look true seen looked (ap (λ (call : Bool). not call || m.knows p.policy look.service) (not_call look.group plain))

  -- ---- the rule

  module _ (h : ℕ) (look : Look) (eq : T → T → Bool) where
    pub key_by_words : key_of eq m (machine_by_words m p) h look ≡ key_in eq m p h look
    key_by_words =
        ap (λ (inputs : Ins T). record { group = look.group; inputs = masked_inputs (m.ignores p.policy look.group) (m.plain p.policy) inputs })
        (rule_inputs_by (decode m p) p.core h look)

    pub allowed_at : rule_answer m (machine_by_words m p) h look ≡ or_violation (hart_at p.core h).pc (answer_in eq m p h look)
    unfolding rule_answer
    allowed_at = λ j. or_violation (hart_at_by (decode m p) p.core h j).pc (m.rule p.policy look.group (rule_inputs_by (decode m p) p.core h look j))

    -- what the rule adds to an account, as the words have it
    pub ruling_by_words : (account : Account T) → ruling_in eq m p h look account ≡ rule_kept eq (key_in eq m p h look) (answer_in eq m p h look) account
    ruling_by_words account =
        (λ j. rule_kept eq (key_by_words j) (allowed_at j) account)
        ∙ kept_alike eq (key_in eq m p h look) (hart_at p.core h).pc (answer_in eq m p h look) account

    module _ (found : preparation m (machine_by_words m p) h ≡ Ok look) where
      pub rule_allows : IsOk (answer_in eq m p h look) → IsOk (rule_at m (machine_by_words m p) h)
      rule_allows allows =
          subst IsOk (sym (rule_looked m (machine_by_words m p) h look found ∙ allowed_at))
          (allows_still (hart_at p.core h).pc (answer_in eq m p h look) allows)

      pub look_counted_by_words : look_counted eq m (machine_by_words m p) h (account_by_words m p) ≡ looked_in eq m p h look
      look_counted_by_words =
          look_counted_at eq m (machine_by_words m p) h look found (account_by_words m p)
          ∙ ap (λ key. looked_up eq key (account_by_words m p)) key_by_words

      pub rule_counted_by_words : rule_counted eq m (machine_by_words m p) h (account_by_words m p) ≡ ruled_in eq m p h look
      rule_counted_by_words =
          rule_counted_at eq m (machine_by_words m p) h look found (account_by_words m p) (looked_in eq m p h look) look_counted_by_words
