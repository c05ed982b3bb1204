-- An instruction that goes on: it stores by right, and the word's tag stays.
use Rattle.std.proofs.Common.{◌≡◌, ℕ, ◌/◌, ◌<◌, length, None, refl, sym, ap, ◌∙◌, subst}
use Rattle.std.specs.Prelude.{slice_index_or}
use Rattle.policy_trait.specs.declared.rules.Outs.{Outs}
use Rattle.tag_memory.specs.Hart.{moved_to}
use Rattle.tag_memory.specs.Ram.{RamState}
use Rattle.turn_steps.specs.declared.look.Look.{Look}
use Rattle.turn_steps.specs.Effects.{with_store, with_tagged}
use Rattle.engine_trait.specs.Events.{Event}
use Rattle.engine_trait.specs.Machine.{Machine, hart_at}
use Rattle.compartment_policy.specs.Compartments.{CompartmentState, compartments, may_write}
use Rattle.compartment_policy.specs.declared.tag.CompartmentTag.{CompartmentTag}
use Rattle.part_turns.specs.Moments.{service_of}
use Rattle.part_turns.specs.Turns.{Allows, Does, after_step}
use Rattle.part_turns.proofs.PlaceLemmas.{nth_tag}
use Rattle.comp_runs.specs.CompInvariant.{Standing, stands_after}
use Rattle.comp_runs.specs.CompSafe.{WritesByRight}
use Rattle.comp_runs.specs.OwnerBook.{OwnerBook}
use Rattle.comp_runs.proofs.ServiceLemmas.{IsKnown}
use Rattle.comp_runs.proofs.AccessLemmas.{KeepsTags, does_keep_tags, does_store}
use Rattle.comp_runs.proofs.InvariantLemmas.{IsKept, Stands, same_owners}
use Rattle.comp_runs.proofs.AllowedLemmas.{executed, obeys_rule, pcs_after, permitted, guaranteed}

module _ (old : Standing) (s : Machine CompartmentState CompartmentTag) (invariant : Stands old s) (h : ℕ) (look : Look)
    (outs : Outs CompartmentTag) (e : Event CompartmentTag)
    (allows : Allows compartments s h look outs e) where
  store_writes : (register value : ℕ) → Does (hart_at s.core h) s.core.ram look register value → service_of e ≡ None → WritesByRight old.owners e
  store_writes register value does no_call = record {
    stores = λ touch touches storing.
        let st = does_store (hart_at s.core h) s.core.ram look register value touch does allows.seen.in_memory (sym allows.access ∙ touches) storing in
        permitted old s invariant h look outs e allows (touch.address / 4)
        (ap (may_write (executed old s invariant h look outs e allows).owner) (sym (st.tag ∙ (invariant.words (touch.address / 4) st.within).tag_is))
        ∙ (obeys_rule old s invariant h look outs e allows).stores st.is_storing);
    zeroes = λ x range n called zeroed range_is covered. absurd cc;
  }

  same_words : (ram : RamState CompartmentTag) → KeepsTags s.core.ram ram → service_of e ≡ None
      → (n : ℕ) → n < length ram.words → IsKnown s.policy.count (nth_tag ram n) ((stands_after old e).owners n)
  same_words ram keeps no_call n within =
      let same : nth_tag ram n ≡ nth_tag s.core.ram n =
      ap (λ tags. slice_index_or tags n ram.plain) keeps.tags ∙ ap (λ plain. slice_index_or s.core.ram.tags n plain) keeps.plain in
      subst (λ (owners : OwnerBook). IsKnown s.policy.count (nth_tag ram n) (owners n)) (sym (same_owners old e no_call))
      (subst (λ tag. IsKnown s.policy.count tag (old.owners n)) (sym same) (invariant.words n (subst (λ count. n < count) keeps.count within)))

  pub went : (register value : ℕ) → service_of e ≡ None → Does (hart_at s.core h) s.core.ram look register value
      → IsKept old e (after_step compartments s h look outs register value)
  went register value no_call does =
      let keeps = does_keep_tags (hart_at s.core h) s.core.ram look register value outs.result (obeys_rule old s invariant h look outs e allows).result does in
      record {
        guarantees = guaranteed old s invariant h look outs e allows (store_writes register value does no_call);
        stands = record {
          words = same_words (with_store s.core.ram look.effect.access outs.result) keeps no_call;
          pcs = pcs_after old s invariant h look outs e allows (moved_to (with_tagged (hart_at s.core h) register value outs.result) look.effect.next outs.pc)
              (with_store s.core.ram look.effect.access outs.result) refl keeps.plain;
        };
      }
