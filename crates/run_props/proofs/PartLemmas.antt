-- Each of the four policies is a part of all of them together, and so of what has one policy more beside these.
use Rattle.std.proofs.Common.{[], refl}
use Rattle.policy_trait.specs.Model.{PolicyModel}
use Rattle.policy_trait.specs.PolicyLaws.{KeepsLaws}
use Rattle.sealing_policy.specs.Sealing.{HasFewKeys, sealing}
use Rattle.sealing_policy.specs.SealingLaws.{sealing_laws}
use Rattle.sealing_policy.specs.declared.tag.SealTag.TheVariants.{Data}
use Rattle.compartment_policy.specs.CompartmentLaws.{compartment_laws}
use Rattle.compartment_policy.specs.Compartments.{IsCount, compartments, first_compartments}
use Rattle.compartment_policy.specs.declared.tag.CompartmentTag.TheVariants as compartment_tag
use Rattle.flow_policy.specs.Flow.{HoldsAlways, flow}
use Rattle.flow_policy.specs.FlowLaws.{flow_laws}
use Rattle.flow_policy.specs.declared.tag.FlowTag.TheVariants as flow_tag
use Rattle.heap_policy.specs.Heap.{IsHeap, empty_heap, heap}
use Rattle.heap_policy.specs.HeapLaws.{heap_laws}
use Rattle.heap_policy.specs.declared.tag.HeapTag.TheVariants.{Val}
use Rattle.policy_product.specs.Both.{both}
use Rattle.policy_product.specs.Maybe.{maybe}
use Rattle.policy_choice.specs.All.{AllState, AllTag, all}
use Rattle.policy_choice.specs.AllLaws.{AllHold, CompHolds, FlowHolds, HeapHolds, LastHold, RestHold, SealHolds, all_laws, comp_keeps, flow_keeps, heap_keeps, last_keep, rest_keep, seal_keeps}
use Rattle.policy_choice.proofs.AllLemmas.{comp_apart, flow_apart, seal_apart}
use Rattle.policy_parts.specs.Part.{IsPart}
use Rattle.policy_parts.specs.Lens.{Lens, left_lens, on_lens, right_lens}
use Rattle.policy_parts.proofs.OnLemmas.{part_of_itself}
use Rattle.policy_parts.proofs.PairLemmas.{part_of_left, part_of_right}
use Rattle.run_props.specs.Lenses.{comp_lens, flow_lens, heap_lens, seal_lens}

pub seal_is_part : IsPart all sealing seal_lens
seal_is_part =
    part_of_left (maybe sealing) (both (maybe compartments) (both (maybe flow) (maybe heap))) SealHolds RestHold seal_keeps rest_keep sealing (on_lens Data 0)
    (part_of_itself sealing HasFewKeys sealing_laws Data 0 (λ v. refl))

pub comp_is_part : IsPart all compartments comp_lens
comp_is_part =
    part_of_right (maybe sealing) (both (maybe compartments) (both (maybe flow) (maybe heap))) SealHolds RestHold seal_keeps rest_keep seal_apart
    compartments (left_lens (on_lens compartment_tag.Plain (first_compartments 0)))
    (part_of_left (maybe compartments) (both (maybe flow) (maybe heap)) CompHolds LastHold comp_keeps last_keep
    compartments (on_lens compartment_tag.Plain (first_compartments 0))
    (part_of_itself compartments IsCount compartment_laws compartment_tag.Plain (first_compartments 0) (λ v. refl)))

pub flow_is_part : IsPart all flow flow_lens
flow_is_part =
    part_of_right (maybe sealing) (both (maybe compartments) (both (maybe flow) (maybe heap))) SealHolds RestHold seal_keeps rest_keep seal_apart
    flow (right_lens (left_lens (on_lens flow_tag.Plain [])))
    (part_of_right (maybe compartments) (both (maybe flow) (maybe heap)) CompHolds LastHold comp_keeps last_keep comp_apart
    flow (left_lens (on_lens flow_tag.Plain []))
    (part_of_left (maybe flow) (maybe heap) FlowHolds HeapHolds flow_keeps heap_keeps
    flow (on_lens flow_tag.Plain [])
    (part_of_itself flow HoldsAlways flow_laws flow_tag.Plain [] (λ v. refl))))

pub heap_is_part : IsPart all heap heap_lens
heap_is_part =
    part_of_right (maybe sealing) (both (maybe compartments) (both (maybe flow) (maybe heap))) SealHolds RestHold seal_keeps rest_keep seal_apart
    heap (right_lens (right_lens (on_lens Val (empty_heap 0 0))))
    (part_of_right (maybe compartments) (both (maybe flow) (maybe heap)) CompHolds LastHold comp_keeps last_keep comp_apart
    heap (right_lens (on_lens Val (empty_heap 0 0)))
    (part_of_right (maybe flow) (maybe heap) FlowHolds HeapHolds flow_keeps heap_keeps flow_apart
    heap (on_lens Val (empty_heap 0 0))
    (part_of_itself heap IsHeap heap_laws Val (empty_heap 0 0) (λ v. refl))))

-- ---- within a whole policy

-- one of the four, read off what the four are read off
abbrev pub within : {T S U V : Type 0} → (T → AllTag) → (S → AllState) → Lens AllTag AllState U V → Lens T S U V
within tags values l = record { tag = λ tag. l.tag (tags tag); value = λ s. l.value (values s); is_on = λ s. l.is_on (values s) }

-- each of the four is a part of this policy
pub record HasFour {T S : Type 0} (w : PolicyModel T S) (tags : T → AllTag) (values : S → AllState) : Type 0 where
  pub seal : IsPart w sealing (within tags values seal_lens)
  pub comp : IsPart w compartments (within tags values comp_lens)
  pub flow : IsPart w flow (within tags values flow_lens)
  pub heap : IsPart w heap (within tags values heap_lens)

pub all_has_four : HasFour all (λ tag. tag) (λ s. s)
all_has_four = record { seal = seal_is_part; comp = comp_is_part; flow = flow_is_part; heap = heap_is_part }

pub beside_has_four : {U V : Type 0} (own : PolicyModel U V) (holds : V → Type 0) → KeepsLaws own holds
    → HasFour (both all own) (λ (tags : AllTag × U). tags.0) (λ (s : AllState × V). s.0)
beside_has_four own holds laws = record {
  seal = part_of_left all own AllHold holds all_laws laws sealing seal_lens seal_is_part;
  comp = part_of_left all own AllHold holds all_laws laws compartments comp_lens comp_is_part;
  flow = part_of_left all own AllHold holds all_laws laws flow flow_lens flow_is_part;
  heap = part_of_left all own AllHold holds all_laws laws heap heap_lens heap_is_part;
}
