-- All policies together keep the laws of every policy.
use Rattle.std.specs.Prelude.{ℕ, List}
use Rattle.policy_trait.specs.PolicyLaws.{KeepsLaws}
use Rattle.sealing_policy.specs.Sealing.{HasFewKeys, sealing}
use Rattle.sealing_policy.specs.SealingLaws.{sealing_laws}
use Rattle.compartment_policy.specs.Compartments.{CompartmentState, IsCount, compartments}
use Rattle.compartment_policy.specs.CompartmentLaws.{compartment_laws}
use Rattle.flow_policy.specs.Flow.{HoldsAlways, flow}
use Rattle.flow_policy.specs.FlowLaws.{flow_laws}
use Rattle.heap_policy.specs.Heap.{HeapState, IsHeap, heap}
use Rattle.heap_policy.specs.HeapLaws.{heap_laws}
use Rattle.policy_product.specs.Both.{BothHold, both}
use Rattle.policy_product.specs.BothLaws.{both_laws}
use Rattle.policy_product.specs.Maybe.{MaybeHolds, maybe}
use Rattle.policy_product.specs.MaybeLaws.{maybe_laws}
use Rattle.policy_product.specs.declared.maybe.Maybe.{Maybe}
use Rattle.policy_choice.specs.All.{AllState, all}

-- ---- the invariant of each policy that is on

abbrev pub SealHolds : Maybe ℕ → Type 0
SealHolds = MaybeHolds HasFewKeys

abbrev pub CompHolds : Maybe CompartmentState → Type 0
CompHolds = MaybeHolds IsCount

abbrev pub FlowHolds : Maybe (List (ℕ × ℕ)) → Type 0
FlowHolds = MaybeHolds HoldsAlways

abbrev pub HeapHolds : Maybe HeapState → Type 0
HeapHolds = MaybeHolds IsHeap

-- of control flow and heap safety
abbrev pub LastHold : Maybe (List (ℕ × ℕ)) × Maybe HeapState → Type 0
LastHold = BothHold FlowHolds HeapHolds

-- of all but sealing
abbrev pub RestHold : Maybe CompartmentState × (Maybe (List (ℕ × ℕ)) × Maybe HeapState) → Type 0
RestHold = BothHold CompHolds LastHold

abbrev pub AllHold : AllState → Type 0
AllHold = BothHold SealHolds RestHold

-- ---- the laws, of each and of all of them

pub seal_keeps : KeepsLaws (maybe sealing) SealHolds
seal_keeps = maybe_laws sealing HasFewKeys sealing_laws

pub comp_keeps : KeepsLaws (maybe compartments) CompHolds
comp_keeps = maybe_laws compartments IsCount compartment_laws

pub flow_keeps : KeepsLaws (maybe flow) FlowHolds
flow_keeps = maybe_laws flow HoldsAlways flow_laws

pub heap_keeps : KeepsLaws (maybe heap) HeapHolds
heap_keeps = maybe_laws heap IsHeap heap_laws

pub last_keep : KeepsLaws (both (maybe flow) (maybe heap)) LastHold
last_keep = both_laws (maybe flow) (maybe heap) FlowHolds HeapHolds flow_keeps heap_keeps

pub rest_keep : KeepsLaws (both (maybe compartments) (both (maybe flow) (maybe heap))) RestHold
rest_keep = both_laws (maybe compartments) (both (maybe flow) (maybe heap)) CompHolds LastHold comp_keeps last_keep

pub all_laws : KeepsLaws all AllHold
all_laws = both_laws (maybe sealing) (both (maybe compartments) (both (maybe flow) (maybe heap))) SealHolds RestHold seal_keeps rest_keep
