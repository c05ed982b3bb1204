-- Each turn that control flow alone allows keeps the invariant, and is as guaranteed.
use Rattle.std.proofs.Common.{◌≡◌, ℕ, ◌<◌, false, List, [], ◌∷◌, ◌++◌, length, Some, Ok, refl, sym, ap, ◌∙◌, subst, arith}
use Rattle.std.specs.Option.{ForSome}
use Rattle.std.proofs.lemmas.List.{length-set}
use Rattle.rv_decode.specs.declared.groups.Group.{Group}
use Rattle.rv_decode.specs.declared.groups.Group.TheVariants as group
use Rattle.rv_step.specs.declared.accesses.Access.{Access}
use Rattle.rv_step.specs.declared.accesses.Access.TheVariants as access
use Rattle.rv_step.specs.declared.accesses.Width.{Width}
use Rattle.rv_step.specs.declared.accesses.Width.TheVariants.{Full}
use Rattle.policy_trait.specs.PolicyLaws.{IsRange}
use Rattle.policy_trait.specs.declared.birth.Birth.{Birth}
use Rattle.policy_trait.specs.declared.rules.Outs.{Outs}
use Rattle.policy_trait.specs.declared.services.Plan.{Plan}
use Rattle.tag_memory.specs.Hart.{HartState, moved_to, reg_value}
use Rattle.tag_memory.specs.Ram.{RamState, ram_bytes, ram_tag, ram_word}
use Rattle.monitor_calls.specs.Service.{retagged_range}
use Rattle.turn_steps.proofs.KeptLemmas.{words_bytes}
use Rattle.turn_steps.specs.Effects.{with_store, with_tagged}
use Rattle.turn_steps.specs.Looks.{access_tag}
use Rattle.turn_steps.specs.Services.{with_answer, with_words}
use Rattle.turn_steps.specs.declared.look.Look.{Look}
use Rattle.turn_steps.specs.declared.stop.Stop.TheVariants as stop
use Rattle.engine_trait.specs.Events.{Event}
use Rattle.engine_trait.specs.Machine.{IsMachine, Machine, hart_at, with_hart}
use Rattle.engine_trait.specs.Turn.{core_served, stopped_at}
use Rattle.policy_parts.specs.Part.{beside_others}
use Rattle.part_turns.proofs.PlaceLemmas.{IsServed, each_served, kept, store_plain, there, words_plain, written}
use Rattle.part_turns.specs.Keeps.{Keeps}
use Rattle.part_turns.specs.Turns.{Allows, Does, Turns, after_service, after_step, computes, exits, goes, idles, loads, loads_part, moves, serves, stops, stores, stores_part}
use Rattle.flow_policy.specs.Flow.{effect_of, flow, outs_by}
use Rattle.flow_policy.specs.declared.tag.FlowTag.{FlowTag}
use Rattle.flow_policy.specs.declared.tag.FlowTag.TheVariants.{Data}
use Rattle.flow_runs.specs.EdgeWalk.{visit_of}
use Rattle.flow_runs.specs.FlowInvariant.{FlowInvariant, pc_after}
use Rattle.flow_runs.specs.FlowTurn.{FlowTurn}
use Rattle.flow_runs.proofs.ImageLemmas.{HoldsImage, IsAsBefore, image_stays, service_stays, store_stays}
use Rattle.flow_runs.proofs.InvariantLemmas.{exit_keeps, idle_keeps, image_of, move_keeps, stop_keeps}
use Rattle.flow_runs.proofs.RuleLemmas.{store_outs}
use Rattle.flow_runs.proofs.TurnLemmas.{does_as_guaranteed, entered, next_pc, no_guarantee}

-- ---- a word after a service of another policy

-- flow knows no service: its words are as another's service leaves them
each_as_before : (list : List (ℕ × ℕ)) (p : Plan FlowTag) (ram new : RamState FlowTag) (n : ℕ) → IsServed flow list p ram new n → IsAsBefore ram new n
each_as_before list p ram new n (written range ranged from within tag word) = service_stays list p ram new n tag word
each_as_before list p ram new n (kept outside tag word) = record { tag = tag; word = λ label code. word }

module _ (birth : ℕ → Birth) (words : List ℕ) (edges : List (ℕ × ℕ)) (before : List (Event FlowTag))
    (s : Machine (List (ℕ × ℕ)) FlowTag) (h : ℕ) (e : Event FlowTag) (is : IsMachine flow s) (invariant : FlowInvariant birth words edges before s) where
  abbrev Kept : Machine (List (ℕ × ℕ)) FlowTag → Type 0
  Kept t = FlowTurn birth words edges before e × FlowInvariant birth words edges (before ++ e ∷ []) t

  abbrev Image : RamState FlowTag → Type 0
  Image ram = HoldsImage birth words ram

  unstored : Image s.core.ram
  unstored = image_of birth words edges before s invariant

  -- a hart that is there has a place for its stop
  has_stop : h < length s.core.harts → h < length s.core.stops
  has_stop lt = omega (arith, is.core.few, is.core.stops)

  module _ (look : Look) (outs : Outs FlowTag) (allows : Allows flow s h look outs e) where
    guaranteed : FlowTurn birth words edges before e
    guaranteed = does_as_guaranteed birth words edges before s h is invariant look outs e allows

    after_exit : (code : ℕ) → Kept (stopped_at s h (stop.Exit code))
    after_exit code =
        (guaranteed, exit_keeps birth words edges before s h e invariant (stop.Exit code) (has_stop (there s.core h allows.ready)) allows.hart)

    after_move : (hart : HartState FlowTag) (ram : RamState FlowTag) → ram.plain ≡ s.core.ram.plain → hart.pc_tag ≡ outs.pc → Image ram
        → Kept (record s { core = with_hart s.core h hart ram })
    after_move hart ram plain goes_on image =
        let goes : hart.pc_tag ≡ pc_after birth words edges (Some (visit_of e)) =
        goes_on ∙ next_pc birth words edges before s h is invariant look outs e allows in
        (guaranteed, move_keeps birth words edges before s h e invariant hart ram plain allows.is_retired allows.hart goes image)

    -- ---- an instruction

    -- the tag of the word that is accessed
    abbrev word : FlowTag
    word = access_tag s.core.ram (hart_at s.core h).plain look.effect.access

    -- a store's word was data, and the result is data
    store_is : (g : Group) → look.group ≡ g → effect_of g ≡ effect_of group.StoreWord → (word ≡ Data) × (outs.result ≡ Data)
    store_is g grouped stores_so =
        let known = entered birth words edges before s h is invariant look outs e allows in
        let given = store_outs known.label word outs
        (ap (λ effect. outs_by effect known.label word) (sym (ap effect_of grouped ∙ stores_so)) ∙ known.outs_are) in
        (given.0, ap (λ (o : Outs FlowTag). o.result) (sym given.1))

    after_store : (place : ℕ) (width : Width) (value : ℕ) → ram_tag s.core.ram place ≡ Data → outs.result ≡ Data
        → Image (with_store s.core.ram (access.Store place width value) outs.result)
    after_store place width value old result =
        subst (λ (tag : FlowTag). Image (with_store s.core.ram (access.Store place width value) tag)) (sym result)
        (image_stays birth words s.core.ram (with_store s.core.ram (access.Store place width value) Data) unstored
        (length-set s.core.ram.words _ _) (store_stays s.core.ram place width value is.ram.shape old))

    word_is : {access : Access} → look.effect.access ≡ access → word ≡ access_tag s.core.ram (hart_at s.core h).plain access
    word_is accessed = ap (access_tag s.core.ram (hart_at s.core h).plain) accessed

    by_access : (access : Access) → look.effect.access ≡ access → Image (with_store s.core.ram access outs.result)
        → Image (with_store s.core.ram look.effect.access outs.result)
    by_access access accessed image = subst (λ (a : Access). Image (with_store s.core.ram a outs.result)) (sym accessed) image

    image_after : (register value : ℕ) → Does (hart_at s.core h) s.core.ram look register value
        → Image (with_store s.core.ram look.effect.access outs.result)
    image_after register value (moves grouped accessed moved) = by_access access.None accessed unstored
    image_after register value (computes computing accessed) = by_access access.None accessed unstored
    image_after register value (loads place grouped accessed loaded) = by_access (access.Load place Full false) accessed unstored
    image_after register value (loads_part place width signed grouped accessed) = by_access (access.Load place width signed) accessed unstored
    image_after register value (stores place grouped accessed no_register) =
        let known = store_is group.StoreWord grouped refl in
        let stored_value : ℕ = reg_value (hart_at s.core h) look.places.second in
        by_access (access.Store place Full stored_value) accessed (after_store place Full stored_value (sym (word_is accessed) ∙ known.0) known.1)
    image_after register value (stores_part place stored width grouped accessed no_register) =
        let known = store_is group.StorePart grouped refl in
        by_access (access.Store place width stored) accessed (after_store place width stored (sym (word_is accessed) ∙ known.0) known.1)

    after_instruction : (register value : ℕ) → Does (hart_at s.core h) s.core.ram look register value
        → Kept (after_step flow s h look outs register value)
    after_instruction register value does =
        after_move (moved_to (with_tagged (hart_at s.core h) register value outs.result) look.effect.next outs.pc)
        (with_store s.core.ram look.effect.access outs.result) (store_plain s.core.ram look.effect.access outs.result) refl (image_after register value does)

    -- ---- a service

    -- the words of the plan's range, which lies in memory
    record Retags (p : Plan FlowTag) (given : List (ℕ × ℕ × FlowTag)) : Type 0 where
      ranged : ForSome p.range (IsRange (ram_bytes s.core.ram))
      retagged : retagged_range (beside_others flow) s.policy (ram_word s.core.ram) (ram_tag s.core.ram) p p.range ≡ Ok given

    image_served : (p : Plan FlowTag) (given : List (ℕ × ℕ × FlowTag)) → Retags p given → Image (with_words s.core.ram given)
    image_served p given retags =
        image_stays birth words s.core.ram (with_words s.core.ram given) unstored (omega (arith, words_bytes s.core.ram given))
        (λ n lt.
        each_as_before s.policy p s.core.ram (with_words s.core.ram given) n
        (each_served flow s.policy p s.core.ram is.ram.shape given retags.ranged retags.retagged n))

    after_call : (p : Plan FlowTag) (given : List (ℕ × ℕ × FlowTag)) → Retags p given → Kept (after_service flow s h look outs p given)
    unfolding core_served
    after_call p given retags =
        after_move (moved_to (with_answer (hart_at s.core h) p.answer) look.effect.next outs.pc) (with_words s.core.ram given)
        (words_plain s.core.ram given) refl (image_served p given retags)

  -- ---- a turn

  after_turn : (t : Machine (List (ℕ × ℕ)) FlowTag) → Turns flow s h e t → Kept t
  after_turn t (idles waits own not_retired no_service same) =
      subst Kept (sym same) (no_guarantee birth words edges before e not_retired, idle_keeps birth words edges before s h e invariant not_retired)
  after_turn t (stops why ready own not_retired no_service same) =
      subst Kept (sym same) (no_guarantee birth words edges before e not_retired, stop_keeps birth words edges before s h e invariant why not_retired)
  after_turn t (exits look outs code allows no_service called accessed same) = subst Kept (sym same) (after_exit look outs allows code)
  after_turn t (goes look outs register value allows no_service does same) =
      subst Kept (sym same) (after_instruction look outs allows register value does)
  after_turn t (serves look outs p given allows called accessed service planned ranged retagged same) =
      subst Kept (sym same) (after_call look outs allows p given (record { ranged = ranged; retagged = retagged }))

pub turns_keep : (birth : ℕ → Birth) (words : List ℕ) (edges : List (ℕ × ℕ)) → Keeps flow (FlowInvariant birth words edges) (FlowTurn birth words edges)
turns_keep birth words edges = record { turn = λ before s h e t is invariant turn stay. after_turn birth words edges before s h e is invariant t turn }
