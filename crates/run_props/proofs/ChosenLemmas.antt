-- The chosen policies at the start of an image: what each keeps of its value, their sound machine, and each one's value.
use Rattle.std.proofs.Common.{◌≡◌, Bool, true, false, [], map, ap, arith}
use Rattle.std.specs.Option.{is_some, unwrap_or}
use Rattle.image_format.specs.Conditions.{IsImage}
use Rattle.image_format.specs.Picture.{Picture}
use Rattle.sealing_policy.specs.Sealing.{HasFewKeys}
use Rattle.compartment_policy.specs.Compartments.{IsCount, first_compartments}
use Rattle.flow_policy.specs.Flow.{HoldsAlways}
use Rattle.heap_policy.specs.Heap.{IsHeap, empty_heap}
use Rattle.policy_product.specs.Maybe.{MaybeHolds}
use Rattle.policy_choice.specs.All.{all, choice_state, compartments_of, heap_of, pair_of, part_if}
use Rattle.policy_choice.specs.declared.basis.Basis.{Basis}
use Rattle.policy_choice.proofs.AllLemmas.{room_of_chosen}
use Rattle.engine_trait.specs.Machine.{IsMachine}
use Rattle.tag_loader.specs.Start.{start_machine}
use Rattle.run_props.specs.Lenses.{comp_lens, flow_lens, heap_lens, seal_lens}
use Rattle.run_props.proofs.BirthLemmas.{count_is, ends_inside, heap_is}
use Rattle.policy_choice.specs.AllLaws.{AllHold}
use Rattle.run_props.proofs.StartLemmas.{sound_start}

-- ---- a policy that may be chosen

module _ {S : Type 0} (s : S) where
  holds_if : (holds : S → Type 0) (on : Bool) → holds s → MaybeHolds holds (part_if on s)
  holds_if holds true held = held
  holds_if holds false held = tt

  on_if : (on : Bool) → on ≡ true → is_some (part_if on s).part ≡ true
  on_if on is = ap (λ (b : Bool). is_some (part_if b s).part) is

  value_if : (on : Bool) (absent : S) → on ≡ true → unwrap_or (part_if on s).part absent ≡ s
  value_if on absent is = ap (λ (b : Bool). unwrap_or (part_if b s).part absent) is

-- ---- all of them

module _ (basis : Basis) (g : Picture) where
  pub start_holds : IsImage g → AllHold (choice_state basis g)
  start_holds is = (
    holds_if 0 HasFewKeys basis.choice.seal (omega arith),
    (
      holds_if (compartments_of g) IsCount basis.choice.comp (count_is g is),
      (holds_if (map pair_of g.edges) HoldsAlways basis.choice.flow tt, holds_if (heap_of g) IsHeap basis.choice.heap (heap_is g is)),
    ),
  )

  pub start_sound : IsImage g → IsMachine all (start_machine all (choice_state basis g) g)
  start_sound is = sound_start all (choice_state basis g) g is (room_of_chosen basis g (ends_inside g is))

  -- ---- each of them, where it is chosen

  pub seal_on : basis.choice.seal ≡ true → seal_lens.is_on (choice_state basis g) ≡ true
  seal_on on = on_if 0 basis.choice.seal on

  pub seal_value : basis.choice.seal ≡ true → seal_lens.value (choice_state basis g) ≡ 0
  seal_value on = value_if 0 basis.choice.seal 0 on

  pub comp_on : basis.choice.comp ≡ true → comp_lens.is_on (choice_state basis g) ≡ true
  comp_on on = on_if (compartments_of g) basis.choice.comp on

  pub comp_value : basis.choice.comp ≡ true → comp_lens.value (choice_state basis g) ≡ compartments_of g
  comp_value on = value_if (compartments_of g) basis.choice.comp (first_compartments 0) on

  pub flow_on : basis.choice.flow ≡ true → flow_lens.is_on (choice_state basis g) ≡ true
  flow_on on = on_if (map pair_of g.edges) basis.choice.flow on

  pub flow_value : basis.choice.flow ≡ true → flow_lens.value (choice_state basis g) ≡ map pair_of g.edges
  flow_value on = value_if (map pair_of g.edges) basis.choice.flow [] on

  pub heap_on : basis.choice.heap ≡ true → heap_lens.is_on (choice_state basis g) ≡ true
  heap_on on = on_if (heap_of g) basis.choice.heap on

  pub heap_value : basis.choice.heap ≡ true → heap_lens.value (choice_state basis g) ≡ heap_of g
  heap_value on = value_if (heap_of g) basis.choice.heap (empty_heap 0 0) on
