-- Looks at words that are known to be open: the policy allows them.
use Rattle.std.proofs.Common.{◌≡◌, ℕ, ◌<◌, Bool, true, List, Ok, length, ap, sym, subst, ◌∙◌}
use Rattle.std.proofs.lemmas.List.{length-map}
use Rattle.policy_trait.specs.Model.{PolicyModel}
use Rattle.policy_trait.specs.PolicyLaws.{KeepsLaws}
use Rattle.tag_memory.specs.Hart.{HartState}
use Rattle.tag_memory.specs.Maps.{hart_by}
use Rattle.turn_steps.specs.Looks.{look_result}
use Rattle.turn_steps.specs.Peeks.{looks_of, peek_by}
use Rattle.turn_steps.specs.declared.look.Look.{Look}
use Rattle.turn_steps.proofs.SeenLemmas.{looked_is_peeked}
use Rattle.engine_trait.specs.Machine.{hart_at}
use Rattle.engine_trait.specs.Turn.{may_look}
use Rattle.engine_trait.proofs.MachineLemmas.{hart_is}
use Rattle.engine_trait.proofs.MapLemmas.{hart_at_by}
use Rattle.open_words.specs.Open.{AreOpen, opens}
use Rattle.open_words.proofs.OpenLemmas.{allowed}
use Rattle.pump_engine.specs.Pump.{IsPump, PumpState, decode, machine_by_words}
use Rattle.pump_engine.proofs.CountLemmas.{seen_by_words}

module _ {S T : Type 0} (m : PolicyModel T S) (holds : S → Type 0) (laws : KeepsLaws m holds) (p : PumpState S T) (is : IsPump m p) (h : ℕ)
    (there : h < length p.core.harts) where
  -- the word that stands for an absent operand is that of the plain tag
  plain_word : decode m p (hart_at p.core h).plain ≡ m.plain p.policy
  plain_word =
      sym (ap (λ (hart : HartState T). hart.plain) (hart_at_by (decode m p) p.core h))
      ∙ (hart_is m (machine_by_words m p) is.machine h (subst (λ n. h < n) (sym (length-map p.core.harts (hart_by (decode m p)))) there)).plain

  -- a turn that looks at such words alone may look
  pub open_seen : (known : List Bool) → AreOpen m p.policy p.table.tags known → (look : Look) → look_result (hart_at p.core h) p.core.ram ≡ Ok look
      → opens known (looks_of (hart_at p.core h) p.core.ram look) ≡ true → may_look m (machine_by_words m p) h ≡ Ok tt
  open_seen known are look looked told =
      sym (seen_by_words m p h)
      ∙ looked_is_peeked (peek_by (decode m p) (m.peek p.policy)) (hart_at p.core h) p.core.ram look looked
      ∙ allowed m holds laws p.policy p.table.tags known are (hart_at p.core h).plain plain_word (looks_of (hart_at p.core h) p.core.ram look) told
