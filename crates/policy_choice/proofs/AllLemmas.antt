-- All policies together: no service is known to two of them, and only sealing ever declines to lend.
use Rattle.std.proofs.Common.{◌≡◌, ℕ, ◌≤◌, Bool, true, false, ◌||◌, List, Option, Some, None, Ok, if◌then◌else◌, map, refl, ap, ◌∙◌, arith}
use Rattle.std.proofs.lemmas.Bool.Decides.{nat_tests}
use Rattle.image_format.specs.Picture.{Picture}
use Rattle.sealing_policy.specs.Sealing.{sealing, sealing_knows}
use Rattle.policy_trait.specs.declared.services.Args.{Args}
use Rattle.compartment_policy.specs.Compartments.{CompartmentState, compartment_knows, compartments}
use Rattle.compartment_policy.specs.declared.tag.CompartmentTag.{CompartmentTag}
use Rattle.flow_policy.specs.Flow.{flow}
use Rattle.flow_policy.specs.declared.tag.FlowTag.{FlowTag}
use Rattle.heap_policy.specs.Heap.{HeapState, heap, heap_knows}
use Rattle.heap_policy.specs.declared.tag.HeapTag.{HeapTag}
use Rattle.policy_product.specs.Both.{IsApart, both, lent_to_left}
use Rattle.policy_product.specs.Maybe.{knows_in, lend_in, maybe, room_in}
use Rattle.policy_product.specs.declared.maybe.Maybe.{Maybe}
use Rattle.policy_choice.specs.All.{all, choice_state, compartments_of, flat_all, heap_of, pair_of}
use Rattle.policy_choice.specs.declared.basis.Basis.{Basis}
use Rattle.policy_choice.specs.Flat.{parts_of}
use Rattle.policy_choice.specs.Told.{IsToldAs}
use Rattle.policy_choice.proofs.FlatLemmas.{left_lent, lends_both, told_flat}

-- ---- who offers which service

not_comp : (k : ℕ) → sealing_knows k ≡ true → compartment_knows k ≡ false
not_comp k known = grind (arith, nat_tests)

not_heap : (k : ℕ) → sealing_knows k ≡ true → heap_knows k ≡ false
not_heap k known = grind (arith, nat_tests)

neither : (k : ℕ) → compartment_knows k ≡ true → heap_knows k ≡ false
neither k known = grind (arith, nat_tests)

-- what a policy that may be off offers, at most
comp_offers : (part : Option CompartmentState) (k : ℕ) → compartment_knows k ≡ false → knows_in compartments part k ≡ false
comp_offers None k not = refl
comp_offers (Some state) k not = not

heap_offers : (part : Option HeapState) (k : ℕ) → heap_knows k ≡ false → knows_in heap part k ≡ false
heap_offers None k not = refl
heap_offers (Some state) k not = not

-- control flow offers none
pub flow_offers_none : (part : Option (List (ℕ × ℕ))) (k : ℕ) → knows_in flow part k ≡ false
flow_offers_none None k = refl
flow_offers_none (Some edges) k = refl

abbrev Others : Type 0
Others = Maybe (List (ℕ × ℕ)) × Maybe HeapState

others_offer : (r : Others) (k : ℕ) → heap_knows k ≡ false → (both (maybe flow) (maybe heap)).knows r k ≡ false
others_offer r k not = ap (λ first. first || knows_in heap r.1.part k) (flow_offers_none r.0.part k) ∙ heap_offers r.1.part k not

sealing_apart : (part : Option ℕ) (r : Maybe CompartmentState × Others) (k : ℕ) → knows_in sealing part k ≡ true
    → (both (maybe compartments) (both (maybe flow) (maybe heap))).knows r k ≡ false
sealing_apart None r k known = absurd (cc known)
sealing_apart (Some keys) r k known =
    ap (λ first. first || (both (maybe flow) (maybe heap)).knows r.1 k) (comp_offers r.0.part k (not_comp k known)) ∙ others_offer r.1 k (not_heap k known)

comp_apart_in : (part : Option CompartmentState) (r : Others) (k : ℕ) → knows_in compartments part k ≡ true → (both (maybe flow) (maybe heap)).knows r k ≡ false
comp_apart_in None r k known = absurd (cc known)
comp_apart_in (Some state) r k known = others_offer r k (neither k known)

pub seal_apart : (s : Maybe ℕ) (r : Maybe CompartmentState × Others) → IsApart (maybe sealing) (both (maybe compartments) (both (maybe flow) (maybe heap))) s r
seal_apart s r k known = sealing_apart s.part r k known

pub comp_apart : (s : Maybe CompartmentState) (r : Others) → IsApart (maybe compartments) (both (maybe flow) (maybe heap)) s r
comp_apart s r k known = comp_apart_in s.part r k known

pub flow_apart : (s : Maybe (List (ℕ × ℕ))) (r : Maybe HeapState) → IsApart (maybe flow) (maybe heap) s r
flow_apart s r k known = let none = flow_offers_none s.part k in absurd (cc (none, known))

-- ---- who lends

comp_lends : (part : Option CompartmentState) (tag : _) → lend_in compartments part tag ≡ Ok tt
comp_lends None tag = refl
comp_lends (Some count) tag = refl

flow_lends : (part : Option (List (ℕ × ℕ))) (tag : _) → lend_in flow part tag ≡ Ok tt
flow_lends None tag = refl
flow_lends (Some edges) tag = refl

heap_lends : (part : Option HeapState) (tag : _) → lend_in heap part tag ≡ Ok tt
heap_lends None tag = refl
heap_lends (Some state) tag = refl

-- the others lend each argument to a service of compartments
pub lent_to_compartments : (s : Maybe CompartmentState × Others) (k : ℕ) (a : Args (Option CompartmentTag × (Option FlowTag × Option HeapTag))) (pc : Option CompartmentTag)
    → lent_to_left (maybe compartments) (both (maybe flow) (maybe heap)) s k a pc ≡ Ok tt
lent_to_compartments s k a pc =
    left_lent (maybe compartments) (both (maybe flow) (maybe heap)) s
    (lends_both (maybe flow) (maybe heap) s.1.0 s.1.1 (flow_lends s.1.0.part) (heap_lends s.1.1.part)) k a pc

pub all_told_flat : IsToldAs parts_of parts_of all flat_all
all_told_flat =
    told_flat (maybe sealing) (maybe compartments) (maybe flow) (maybe heap) seal_apart comp_apart flow_apart
    (λ s. comp_lends s.part) (λ s. flow_lends s.part) (λ s. heap_lends s.part)

-- ---- the bytes that the policies count on

seal_room : (on : Bool) → room_in sealing (if on then Some 0 else None) ≡ 0
seal_room true = refl
seal_room false = refl

comp_room : (on : Bool) (state : CompartmentState) → room_in compartments (if on then Some state else None) ≡ 0
comp_room true count = refl
comp_room false count = refl

flow_room : (on : Bool) (edges : List (ℕ × ℕ)) → room_in flow (if on then Some edges else None) ≡ 0
flow_room true edges = refl
flow_room false edges = refl

heap_room : (on : Bool) (state : HeapState) (ram : ℕ) → heap.room state ≤ ram → room_in heap (if on then Some state else None) ≤ ram
heap_room true state ram fits = fits
heap_room false state ram fits = omega arith

pub room_of_chosen : (basis : Basis) (g : Picture) → heap.room (heap_of g) ≤ g.ram → all.room (choice_state basis g) ≤ g.ram
room_of_chosen basis g fits =
    let seal = seal_room basis.choice.seal in
    let comp = comp_room basis.choice.comp (compartments_of g) in
    let flow_is = flow_room basis.choice.flow (map pair_of g.edges) in
    let last = heap_room basis.choice.heap (heap_of g) g.ram fits in
    grind (arith, seal, comp, flow_is, last)
