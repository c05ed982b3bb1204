-- The invariant holds at the start.
use Rattle.std.proofs.Common.{◌≡◌, ℕ, ◌*◌, ◌<◌, true, List, [], length, ap, subst, arith, nat_lt}
use Rattle.std.proofs.lemmas.Bool.{and_parts, ltb-true}
use Rattle.std.proofs.lemmas.List.{get_or-map, length-map}
use Rattle.std.proofs.lemmas.List.FromFn.{get_or-map-range_with_len}
use Rattle.policy_trait.specs.declared.birth.Birth.{Birth}
use Rattle.tag_memory.specs.Hart.{HartState, fresh_hart}
use Rattle.engine_trait.specs.Machine.{Machine, has_no_stop, is_ready_in, stop_at}
use Rattle.compartment_policy.specs.Compartments.{CompartmentState, compartments}
use Rattle.compartment_policy.specs.declared.tag.CompartmentTag.{CompartmentTag}
use Rattle.compartment_policy.specs.declared.tag.CompartmentTag.TheVariants.{Plain}
use Rattle.part_turns.specs.Start.{first_hart, first_machine}
use Rattle.comp_runs.specs.CompInvariant.{CompInvariant, place_of, standing_of}
use Rattle.comp_runs.specs.OwnerBook.{first_owners}

module _ (birth : ℕ → Birth) (words entries : List ℕ) (state : CompartmentState) (few : (n : ℕ) → n < length words → (birth (4 * n)).owner < state.count) where
  abbrev machine : Machine CompartmentState CompartmentTag
  machine = first_machine compartments state birth words entries

  abbrev starting : ℕ → HartState CompartmentTag
  starting entry = first_hart compartments state birth words entries entry

  hart_there : (h : ℕ) → is_ready_in machine.core h ≡ true → h < length entries
  hart_there h ready =
      subst (λ (n : ℕ). h < n) (length-map entries starting)
      (ltb-true h (length machine.core.harts) (and_parts (nat_lt h (length machine.core.harts)) (has_no_stop (stop_at machine.core h)) ready).0)

  pub starts : CompInvariant birth entries [] machine
  unfolding standing_of
  starts = record {
    tags = λ n there. get_or-map-range_with_len (λ k. place_of (first_owners birth k)) 0 (length words) n n Plain there (omega arith);
    few = few;
    pcs = λ h ready.
        ap (λ (hart : HartState CompartmentTag). hart.pc_tag)
        (get_or-map starting entries h 0 (fresh_hart 0 Plain Plain) (hart_there h ready));
  }
