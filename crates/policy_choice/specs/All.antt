-- All policies together: their tags, their value and their meaning as one policy; and the chosen ones at an image's start.
use Rattle.std.specs.Prelude.{ℕ, ◌+◌, max, Bool, ◌&&◌, List, Option, Some, None, Result, map, if◌then◌else◌}
use Rattle.std.specs.List.{fold}
use Rattle.std.specs.Option.{option_eq}
use Rattle.image_format.specs.Conditions.{compartment_limit}
use Rattle.image_format.specs.Picture.{CompartmentRow, Picture}
use Rattle.image_format.specs.declared.rows.Edge.{Edge}
use Rattle.policy_trait.specs.Model.{PolicyModel}
use Rattle.policy_trait.specs.declared.services.Args.{Args}
use Rattle.policy_trait.specs.declared.services.Plan.{Plan}
use Rattle.policy_trait.specs.declared.services.PlanEnd.{PlanEnd}
use Rattle.sealing_policy.specs.Sealing.{sealing}
use Rattle.sealing_policy.specs.contracts.tag.SealTagPartialEq.TheImpl as seal_tag
use Rattle.sealing_policy.specs.declared.tag.SealTag.{SealTag}
use Rattle.compartment_policy.specs.Compartments.{CompartmentState, compartments}
use Rattle.compartment_policy.specs.contracts.tag.CompartmentTagPartialEq.TheImpl as compartment_tag
use Rattle.compartment_policy.specs.declared.tag.CompartmentTag.{CompartmentTag}
use Rattle.flow_policy.specs.Flow.{flow}
use Rattle.flow_policy.specs.contracts.tag.FlowTagPartialEq.TheImpl as flow_tag
use Rattle.flow_policy.specs.declared.tag.FlowTag.{FlowTag}
use Rattle.heap_policy.specs.Heap.{HeapState, empty_heap, heap}
use Rattle.heap_policy.specs.contracts.tag.HeapTagPartialEq.TheImpl as heap_tag
use Rattle.heap_policy.specs.declared.tag.HeapTag.{HeapTag}
use Rattle.policy_product.specs.Both.{both}
use Rattle.policy_product.specs.Maybe.{maybe}
use Rattle.policy_product.specs.declared.maybe.Maybe.{Maybe}
use Rattle.policy_choice.specs.declared.basis.Basis.{Basis}
use Rattle.policy_choice.specs.Flat.{Four, flat, flat_lent, owner_plan}

abbrev pub AllTag : Type 0
AllTag = Option SealTag × (Option CompartmentTag × (Option FlowTag × Option HeapTag))

abbrev pub AllState : Type 0
AllState = Maybe ℕ × (Maybe CompartmentState × (Maybe (List (ℕ × ℕ)) × Maybe HeapState))

-- sealing, compartments, control flow and heap safety
abbrev pub all : PolicyModel AllTag AllState
all = both (maybe sealing) (both (maybe compartments) (both (maybe flow) (maybe heap)))

-- whether two tags are the same
abbrev pub all_eq : AllTag → AllTag → Bool
all_eq x y =
    option_eq seal_tag.eq-value.it x.0 y.0 && (option_eq flow_tag.eq-value.it x.1.1.0 y.1.1.0
    && (option_eq heap_tag.eq-value.it x.1.1.1 y.1.1.1 && option_eq compartment_tag.eq-value.it x.1.0 y.1.0))

-- ---- the start

-- one more than the greatest owner, or 1
abbrev pub compartment_count : List CompartmentRow → ℕ
compartment_count rows = fold (λ (count : ℕ) (row : CompartmentRow). max count (row.owner + 1)) 1 rows

-- the image's compartments, before words were split off; there may be as many as its version allows
abbrev pub compartments_of : Picture → CompartmentState
compartments_of g = record { count = compartment_count g.compartments; limit = compartment_limit g.version }

abbrev pub pair_of : Edge → ℕ × ℕ
pair_of edge = (edge.source, edge.target)

-- the heap region, before a block was handed out
abbrev pub heap_of : Picture → HeapState
heap_of g = empty_heap g.heap_base g.heap_bytes

abbrev pub part_if : {S : Type 0} → Bool → S → Maybe S
part_if chosen s = record { part = if chosen then Some s else None }

-- the chosen policies at the start of an image, before anything was asked of them
abbrev pub choice_state : Basis → Picture → AllState
choice_state basis g = (
  part_if basis.choice.seal 0,
  (
    part_if basis.choice.comp (compartments_of g),
    (part_if basis.choice.flow (map pair_of g.edges), part_if basis.choice.heap (heap_of g)),
  ),
)

-- ---- the same, told flat

abbrev pub TagParts : Type 0
TagParts = Four (Option SealTag) (Option CompartmentTag) (Option FlowTag) (Option HeapTag)

abbrev pub StateParts : Type 0
StateParts = Four (Maybe ℕ) (Maybe CompartmentState) (Maybe (List (ℕ × ℕ))) (Maybe HeapState)

abbrev pub flat_all : PolicyModel TagParts StateParts
flat_all = flat (maybe sealing) (maybe compartments) (maybe flow) (maybe heap)

-- each policy but the owner lends the arguments that the service uses
abbrev pub all_lent : StateParts → ℕ → Args TagParts → Result (Unit {0}) PlanEnd
all_lent s number a = flat_lent (maybe sealing) (maybe compartments) (maybe flow) (maybe heap) s number (flat_all.uses s number) a

-- the plan of the owner, among the components of all
abbrev pub all_owner_plan : StateParts → ℕ → Args TagParts → TagParts → Result (Plan TagParts) PlanEnd
all_owner_plan = owner_plan (maybe sealing) (maybe compartments) (maybe flow) (maybe heap)
