-- Tags of all policies together are told apart, since those of each are.
use Rattle.std.proofs.Common.{Bool, Some, None, refl, ap}
use Rattle.std.proofs.lemmas.Bool.{and_parts}
use Rattle.std.specs.Option.{option_eq}
use Rattle.pump_words.specs.Same.{TellsApart}
use Rattle.sealing_policy.specs.contracts.tag.SealTagSame.TheImpl.Laws as seal_tag
use Rattle.compartment_policy.specs.contracts.tag.CompartmentTagSame.TheImpl.Laws as compartment_tag
use Rattle.flow_policy.specs.contracts.tag.FlowTagSame.TheImpl.Laws as flow_tag
use Rattle.heap_policy.specs.contracts.tag.HeapTagSame.TheImpl.Laws as heap_tag
use Rattle.policy_choice.specs.All.{all_eq}

option_tells : {T : Type 0} (eq : T → T → Bool) → TellsApart eq → TellsApart (option_eq eq)
option_tells eq tells None None same = refl
option_tells eq tells (Some x) (Some y) same = ap (λ z. Some z) (tells x y same)
option_tells eq tells None (Some y) same = absurd (cc same)
option_tells eq tells (Some x) None same = absurd (cc same)

pub all_tell : TellsApart all_eq
all_tell a b same =
    let first = and_parts _ _ same in
    let second = and_parts _ _ first.1 in
    let third = and_parts _ _ second.1 in
    let seal = option_tells _ seal_tag.same-law a.0 b.0 first.0 in
    let comp = option_tells _ compartment_tag.same-law a.1.0 b.1.0 third.1 in
    let flow = option_tells _ flow_tag.same-law a.1.1.0 b.1.1.0 second.0 in
    let heap = option_tells _ heap_tag.same-law a.1.1.1 b.1.1.1 third.0 in
    λ i. (seal i, (comp i, (flow i, heap i)))
