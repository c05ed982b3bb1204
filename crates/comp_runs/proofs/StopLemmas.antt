-- A turn that stops its hart, at a failure or by an exit.
use Rattle.std.proofs.Common.{◌≡◌, ◌≢◌, ℕ, ◌<◌, true, length, Some, None, sym, ap, ◌∙◌, subst, arith, nat_lt}
use Rattle.std.proofs.lemmas.Bool.{and_parts}
use Rattle.std.proofs.lemmas.List.{get_or-set_same}
use Rattle.rv_step.specs.declared.accesses.Access.TheVariants as access
use Rattle.policy_trait.specs.declared.rules.Outs.{Outs}
use Rattle.turn_steps.specs.declared.look.Look.{Look}
use Rattle.turn_steps.specs.declared.stop.Stop.{Stop}
use Rattle.turn_steps.specs.declared.stop.Stop.TheVariants as stop
use Rattle.engine_trait.specs.Events.{Event}
use Rattle.engine_trait.specs.Machine.{CoreState, IsMachine, Machine, has_no_stop, hart_at, is_ready_in, stop_at, stopping}
use Rattle.engine_trait.specs.Turn.{stopped_at}
use Rattle.compartment_policy.specs.Compartments.{CompartmentState, compartments}
use Rattle.compartment_policy.specs.declared.tag.CompartmentTag.{CompartmentTag}
use Rattle.compartment_policy.specs.declared.tag.CompartmentTag.TheVariants.{Pc}
use Rattle.part_turns.specs.Moments.{service_of}
use Rattle.part_turns.specs.Turns.{Allows}
use Rattle.part_turns.proofs.PlaceLemmas.{nth_tag, there, ready_after}
use Rattle.comp_runs.specs.CompInvariant.{Last, Standing, stands_after}
use Rattle.comp_runs.specs.OwnerBook.{OwnerBook}
use Rattle.comp_runs.proofs.ServiceLemmas.{IsKnown}
use Rattle.comp_runs.proofs.InvariantLemmas.{IsKept, Stands, same_owners}
use Rattle.comp_runs.proofs.AllowedLemmas.{last_elsewhere, guaranteed, stores_nothing}

module _ (old : Standing) (s : Machine CompartmentState CompartmentTag) (invariant : Stands old s) (h : ℕ) where
  -- a failure leaves what stands
  pub stopped_stands : (why : Stop) → Stands old (stopped_at s h why)
  stopped_stands why = record { words = invariant.words; pcs = λ n ready. invariant.pcs n (ready_after s.core h n why ready) }

-- the hart that stops is not ready
stopped_not_ready : {T : Type 0} (core : CoreState T) (h : ℕ) (why : Stop) → h < length core.stops → is_ready_in (stopping core h why) h ≡ true → ⊥
stopped_not_ready core h why within ready =
    let stopped : stop_at (stopping core h why) h ≡ Some why = get_or-set_same core.stops h (Some why) None within in
    let going = (and_parts (nat_lt h (length core.harts)) (has_no_stop (stop_at (stopping core h why) h)) ready).1 in
    cc

module _ (old : Standing) (s : Machine CompartmentState CompartmentTag) (invariant : Stands old s) (h : ℕ) (look : Look)
    (outs : Outs CompartmentTag) (e : Event CompartmentTag)
    (allows : Allows compartments s h look outs e) where
  pcs_stopped : IsMachine compartments s → (why : Stop) (n : ℕ) → is_ready_in (stopping s.core h why) n ≡ true
      → (hart_at s.core n).pc_tag ≡ Pc ((stands_after old e).last n).jumped ((stands_after old e).last n).owner
  pcs_stopped is why n ready =
      let within : h < length s.core.stops = let below = there s.core h allows.ready in omega (arith, below, is.core.few, is.core.stops) in
      let differs : n ≢ h = λ same. stopped_not_ready s.core h why within (subst (λ m. is_ready_in (stopping s.core h why) m ≡ true) same ready) in
      invariant.pcs n (ready_after s.core h n why ready)
      ∙ ap (λ (last : Last). Pc last.jumped last.owner) (sym (last_elsewhere old s invariant h look outs e allows n differs))

  pub exited : IsMachine compartments s → (code : ℕ) → service_of e ≡ None → look.effect.access ≡ access.None
      → IsKept old e (stopped_at s h (stop.Exit code))
  exited is code no_call none = record {
    guarantees = guaranteed old s invariant h look outs e allows (record {
      stores = stores_nothing old s invariant h look outs e allows none;
      zeroes = λ x range n called zeroed range_is covered. absurd cc;
    });
    stands = record {
      words = λ n within.
          subst (λ (owners : OwnerBook). IsKnown s.policy.count (nth_tag s.core.ram n) (owners n)) (sym (same_owners old e no_call)) (invariant.words n within);
      pcs = pcs_stopped is (stop.Exit code);
    };
  }
