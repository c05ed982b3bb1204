-- How each of the four policies is read off all of them together, and the events of a run as each sees them.
use Rattle.std.specs.Prelude.{ℕ, List, [], map}
use Rattle.engine_trait.specs.Events.{Event}
use Rattle.policy_parts.specs.Lens.{Lens, left_lens, on_lens, right_lens}
use Rattle.part_turns.specs.Maps.{event_with}
use Rattle.sealing_policy.specs.declared.tag.SealTag.{SealTag}
use Rattle.sealing_policy.specs.declared.tag.SealTag.TheVariants.{Data}
use Rattle.compartment_policy.specs.Compartments.{CompartmentState, first_compartments}
use Rattle.compartment_policy.specs.declared.tag.CompartmentTag.{CompartmentTag}
use Rattle.compartment_policy.specs.declared.tag.CompartmentTag.TheVariants as compartment_tag
use Rattle.flow_policy.specs.declared.tag.FlowTag.{FlowTag}
use Rattle.flow_policy.specs.declared.tag.FlowTag.TheVariants as flow_tag
use Rattle.heap_policy.specs.Heap.{HeapState, empty_heap}
use Rattle.heap_policy.specs.declared.tag.HeapTag.{HeapTag}
use Rattle.heap_policy.specs.declared.tag.HeapTag.TheVariants.{Val}
use Rattle.policy_choice.specs.All.{AllState, AllTag}

abbrev pub seal_lens : Lens AllTag AllState SealTag ℕ
seal_lens = left_lens (on_lens Data 0)

abbrev pub comp_lens : Lens AllTag AllState CompartmentTag CompartmentState
comp_lens = right_lens (left_lens (on_lens compartment_tag.Plain (first_compartments 0)))

abbrev pub flow_lens : Lens AllTag AllState FlowTag (List (ℕ × ℕ))
flow_lens = right_lens (right_lens (left_lens (on_lens flow_tag.Plain [])))

abbrev pub heap_lens : Lens AllTag AllState HeapTag HeapState
heap_lens = right_lens (right_lens (right_lens (on_lens Val (empty_heap 0 0))))

-- the events as one policy sees them
abbrev pub events_by : {S U V : Type 0} → Lens AllTag S U V → List (Event AllTag) → List (Event U)
events_by l events = map (event_with l.tag) events
