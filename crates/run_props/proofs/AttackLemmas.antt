-- Attacks end in a stop: a turn that retired would have been as its policy guarantees.
use Rattle.std.proofs.Common.{◌≡◌, inl, inr, ℕ, Bool, true, false, List, Option, Some, None, option_map, refl, sym, ap, ◌∙◌}
use Rattle.policy_trait.specs.Model.{PolicyModel}
use Rattle.policy_trait.specs.declared.birth.Birth.{Birth}
use Rattle.sealing_policy.specs.Sealing.{sealing}
use Rattle.sealing_policy.specs.declared.tag.SealTag.{SealTag}
use Rattle.compartment_policy.specs.Compartments.{compartments}
use Rattle.compartment_policy.specs.declared.tag.CompartmentTag.{CompartmentTag}
use Rattle.flow_policy.specs.Flow.{flow}
use Rattle.flow_policy.specs.declared.tag.FlowTag.{FlowTag}
use Rattle.heap_policy.specs.Heap.{heap}
use Rattle.heap_policy.specs.declared.tag.HeapTag.{HeapTag}
use Rattle.policy_choice.specs.All.{AllState, AllTag, all}
use Rattle.turn_steps.specs.Feeds.{Tape}
use Rattle.engine_trait.specs.Events.{Call, Event, Work, event_of, is_retirement}
use Rattle.engine_trait.specs.Machine.{Machine, is_ready_in}
use Rattle.engine_trait.specs.Turn.{turn_of}
use Rattle.policy_parts.specs.Part.{IsPart}
use Rattle.policy_parts.specs.Lens.{Lens}
use Rattle.part_turns.proofs.MachineLemmas.{seen_sound, words_stay}
use Rattle.part_turns.proofs.TurnLemmas.{turn_shown}
use Rattle.part_turns.specs.Keeps.{Keeps}
use Rattle.part_turns.specs.Maps.{call_by, event_with, seen_by, work_by}
use Rattle.part_turns.specs.Moments.{Service, service_by}
use Rattle.seal_runs.proofs.TurnLemmas.{keeps_invariant}
use Rattle.seal_runs.specs.KeyBook.{key_book}
use Rattle.seal_runs.specs.SealInvariant.{SealInvariant}
use Rattle.seal_runs.specs.SealSafe.{SealTurn}
use Rattle.comp_runs.proofs.TurnLemmas.{comp_keeps}
use Rattle.comp_runs.specs.CompInvariant.{CompInvariant}
use Rattle.comp_runs.specs.CompTurn.{CompTurn}
use Rattle.flow_runs.proofs.KeepsLemmas.{turns_keep}
use Rattle.flow_runs.specs.FlowInvariant.{FlowInvariant}
use Rattle.flow_runs.specs.FlowTurn.{FlowTurn}
use Rattle.heap_runs.proofs.TurnLemmas.{keeps as heap_keeps}
use Rattle.heap_runs.specs.BlockBook.{block_book}
use Rattle.heap_runs.specs.HeapInvariant.{HeapInvariant}
use Rattle.heap_runs.specs.HeapSafe.{HeapTurn, is_in_heap}
use Rattle.run_props.proofs.EndLemmas.{ready_ends, retired_call}
use Rattle.run_props.proofs.PartLemmas.{comp_is_part, flow_is_part, heap_is_part, seal_is_part}
use Rattle.run_props.specs.Attacks.{GoesAstray, MissesBlock, Trespasses, UnsealsWithoutKey, enters, forged, outside, stores, unlisted, zeroes}
use Rattle.run_props.specs.Ends.{IsStopped}
use Rattle.policy_choice.specs.AllLaws.{AllHold, all_laws}
use Rattle.run_props.specs.Invariant.{MeetsInvariant}
use Rattle.run_props.specs.Lenses.{comp_lens, flow_lens, heap_lens, seal_lens}

module _ (s : Machine AllState AllTag) (feed : Tape) (h : ℕ) where
  abbrev turn : Event AllTag
  turn = event_of all s feed h

  module _ {U V : Type 0} (m : PolicyModel U V) (l : Lens AllTag AllState U V) (invariant : List (Event U) → Machine V U → Type 0)
      (guarantee : List (Event U) → Event U → Type 0) (part : IsPart all m l) (keeps : Keeps m invariant guarantee) (events : List (Event U))
      (stands : MeetsInvariant l invariant events s) (ready : is_ready_in s.core h ≡ true) where
    -- the turn is as the policy guarantees
    guaranteed : guarantee events (event_with l.tag turn)
    guaranteed =
        (keeps.turn events (seen_by l s) h (event_with l.tag turn) (seen_by l (turn_of all s feed h).machine)
        (seen_sound all m l part s stands.on stands.sound) stands.held
        ((turn_shown all m l AllHold all_laws part s stands.on feed h).turns stands.sound stands.valid)
        (words_stay all l AllHold all_laws s stands.sound stands.valid feed h)).0

    -- one that cannot have retired ended in a stop
    stopped_unless : (guarantee events (event_with l.tag turn) → is_retirement turn ≡ true → ⊥) → IsStopped turn
    stopped_unless never = elim (ready_ends all s feed h ready) [
      | inl done ↦ absurd (never guaranteed done)
      | inr stop ↦ stop
    ]

  -- a service as a policy sees it
  abbrev seen_service : {U : Type 0} → (AllTag → U) → Option (Call AllTag) → Option (Work AllTag) → Option (Service U)
  seen_service tag call work = service_by (option_map (call_by tag) call) (option_map (work_by tag) work)

  -- ---- sealing

  module _ (events : List (Event SealTag)) (stands : MeetsInvariant seal_lens SealInvariant events s) (ready : is_ready_in s.core h ≡ true)
      (attack : UnsealsWithoutKey (event_with seal_lens.tag turn)) where
    by_call : SealTurn (key_book events) (event_with seal_lens.tag turn) → is_retirement turn ≡ true
        → (call : Option (Call AllTag)) → turn.call ≡ call → option_map (call_by seal_lens.tag) call ≡ Some attack.call → ⊥
    by_call kept done None is same = absurd cc
    by_call kept done (Some call) is same =
        let served = retired_call all s feed h ready call is done in
        let seen : call_by seal_lens.tag call ≡ attack.call = cc in
        let service = ap (λ c. seen_service seal_lens.tag c turn.work) is ∙ ap (λ w. seen_service seal_lens.tag (Some call) w) served.told in
        let uses = kept.unseals _ service (ap (λ (c : Call SealTag). c.number) seen ∙ attack.unseals) in
        attack.without uses.key (sym (ap (λ (c : Call SealTag). c.arguments.t0) seen) ∙ uses.sealed) (sym (ap (λ (c : Call SealTag). c.arguments.t1) seen) ∙ uses.held)

    pub seal_stops : IsStopped turn
    seal_stops =
        stopped_unless sealing seal_lens SealInvariant (λ before event. SealTurn (key_book before) event) seal_is_part keeps_invariant events stands ready
        (λ kept done. by_call kept done turn.call refl attack.called)

  -- ---- compartments

  module _ (birth : ℕ → Birth) (entries : List ℕ) (events : List (Event CompartmentTag))
      (stands : MeetsInvariant comp_lens (CompInvariant birth entries) events s) (ready : is_ready_in s.core h ≡ true) where
    trespass_fails : Trespasses birth entries s.policy events turn → CompTurn birth entries events (event_with comp_lens.tag turn)
        → is_retirement turn ≡ true → ⊥
    trespass_fails (stores touch accessed is_store foreign) kept done =
        let permitted = (kept.writes done).stores touch accessed is_store in absurd (cc (permitted, foreign))
    trespass_fails (zeroes call range word called would covered foreign) kept done =
        let served = retired_call all s feed h ready call called done in
        let service = ap (λ c. seen_service comp_lens.tag c turn.work) called ∙ ap (λ w. seen_service comp_lens.tag (Some call) w) served.told in
        let plan = would served.pc served.plan served.planned in
        let permitted = (kept.writes done).zeroes _ range word service plan.0 plan.1 covered in absurd (cc (permitted, foreign))
    trespass_fails (enters without) kept done = without (kept.follows done)

    pub comp_stops : Trespasses birth entries s.policy events turn → IsStopped turn
    comp_stops attack =
        stopped_unless compartments comp_lens (CompInvariant birth entries) (CompTurn birth entries) comp_is_part (comp_keeps birth entries) events stands ready
        (trespass_fails attack)

  -- ---- control flow

  module _ (birth : ℕ → Birth) (words : List ℕ) (edges : List (ℕ × ℕ)) (events : List (Event FlowTag))
      (stands : MeetsInvariant flow_lens (FlowInvariant birth words edges) events s) (ready : is_ready_in s.core h ≡ true) where
    stray_fails : GoesAstray birth words edges events (event_with flow_lens.tag turn) → FlowTurn birth words edges events (event_with flow_lens.tag turn)
        → is_retirement turn ≡ true → ⊥
    stray_fails (outside no_code) kept done = let code = (kept.code done).code in absurd (cc (code, no_code))
    stray_fails (unlisted x last jumps without) kept done = without (kept.listed done x last jumps)

    pub flow_stops : GoesAstray birth words edges events (event_with flow_lens.tag turn) → IsStopped turn
    flow_stops attack =
        stopped_unless flow flow_lens (FlowInvariant birth words edges) (FlowTurn birth words edges) flow_is_part (turns_keep birth words edges) events stands ready
        (stray_fails attack)

  -- ---- heap safety

  module _ (base top : ℕ) (events : List (Event HeapTag))
      (stands : MeetsInvariant heap_lens (HeapInvariant base top) events s) (ready : is_ready_in s.core h ≡ true) where
    miss_fails : MissesBlock base top (block_book events) (event_with heap_lens.tag turn) → HeapTurn base top (block_book events) (event_with heap_lens.tag turn)
        → is_retirement turn ≡ true → ⊥
    miss_fails (outside touch asked number accessed asks pointer without) kept done = by_place (is_in_heap base top touch.address) refl
      where
        by_place : (inside : Bool) → is_in_heap base top touch.address ≡ inside → ⊥
        by_place true is = without (kept.inside touch asked done accessed asks is)
        by_place false is = let plain = kept.outside touch asked done accessed asks is in absurd (cc (plain, pointer))
    miss_fails (forged touch asked accessed asks inside without) kept done =
        let reaches = kept.inside touch asked done accessed asks inside in without reaches.block.number reaches.pointer

    pub heap_stops : MissesBlock base top (block_book events) (event_with heap_lens.tag turn) → IsStopped turn
    heap_stops attack =
        stopped_unless heap heap_lens (HeapInvariant base top) (λ before event. HeapTurn base top (block_book before) event) heap_is_part (heap_keeps base top) events stands ready
        (miss_fails attack)
