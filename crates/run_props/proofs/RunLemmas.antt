-- What each run of an image keeps of each chosen policy, whatever policy stands beside the four, and that it is safe.
use Rattle.std.proofs.Common.{◌≡◌, ℕ, ◌*◌, ◌≤◌, max, true, List, Option, Some, None, map, option_map, ap, refl, subst, sym, ◌∙◌, arith}
use Rattle.std.proofs.lemmas.Simd.{map-map}
use Rattle.image_format.specs.Conditions.{IsImage}
use Rattle.image_format.specs.Picture.{Picture}
use Rattle.sealing_policy.specs.Sealing.{sealing}
use Rattle.sealing_policy.specs.declared.tag.SealTag.{SealTag}
use Rattle.compartment_policy.specs.Compartments.{CompartmentState, compartments}
use Rattle.compartment_policy.specs.declared.tag.CompartmentTag.{CompartmentTag}
use Rattle.flow_policy.specs.Flow.{flow}
use Rattle.flow_policy.specs.declared.tag.FlowTag.{FlowTag}
use Rattle.heap_policy.specs.Heap.{HeapState, heap}
use Rattle.heap_policy.specs.declared.tag.HeapTag.{HeapTag}
use Rattle.policy_trait.specs.Maps.{answer_by}
use Rattle.policy_trait.specs.Model.{PolicyModel}
use Rattle.policy_trait.specs.PolicyLaws.{KeepsLaws}
use Rattle.policy_trait.specs.declared.services.Answer.{Answer}
use Rattle.policy_product.specs.Both.{both}
use Rattle.policy_choice.specs.AllLaws.{AllHold, all_laws}
use Rattle.policy_choice.proofs.AllLemmas.{room_of_chosen}
use Rattle.policy_product.specs.Both.{BothHold}
use Rattle.policy_product.specs.BothLaws.{both_laws}
use Rattle.policy_choice.specs.All.{AllState, AllTag, all, choice_state, compartments_of, heap_of, pair_of}
use Rattle.policy_parts.specs.Part.{IsPart}
use Rattle.policy_parts.specs.Lens.{Lens}
use Rattle.policy_choice.specs.declared.basis.Basis.{Basis}
use Rattle.turn_steps.specs.Feeds.{Tape}
use Rattle.engine_trait.specs.Events.{Asked, Call, Event, Work}
use Rattle.engine_trait.specs.Machine.{IsMachine, Machine}
use Rattle.engine_trait.specs.Runs.{Item, Trace, run_along}
use Rattle.part_turns.specs.Keeps.{RunKeeps}
use Rattle.part_turns.specs.Maps.{asked_by, call_by, event_with, work_by}
use Rattle.part_turns.specs.Moments.{Moment}
use Rattle.tag_loader.specs.Births.{birth_of}
use Rattle.tag_loader.specs.Start.{memory_of, start_machine}
use Rattle.tag_loader.proofs.MemoryLemmas.{memory_words}
use Rattle.seal_runs.specs.KeyBook.{key_book}
use Rattle.seal_runs.specs.SealInvariant.{SealInvariant}
use Rattle.seal_runs.specs.SealSafe.{SealTurn}
use Rattle.seal_runs.proofs.StartLemmas.{first_invariant as seal_starts}
use Rattle.seal_runs.proofs.TurnLemmas.{keeps_invariant as seal_keeps}
use Rattle.comp_runs.specs.CompInvariant.{CompInvariant}
use Rattle.comp_runs.specs.CompTurn.{CompTurn}
use Rattle.flow_runs.specs.FlowInvariant.{FlowInvariant}
use Rattle.flow_runs.specs.FlowTurn.{FlowTurn}
use Rattle.comp_runs.proofs.SafeLemmas.{comp_law}
use Rattle.comp_runs.proofs.StartLemmas.{starts as comp_starts}
use Rattle.comp_runs.proofs.TurnLemmas.{comp_keeps}
use Rattle.flow_runs.proofs.KeepsLemmas.{turns_keep as flow_keeps}
use Rattle.flow_runs.proofs.SafeLemmas.{run_is_safe as flow_law}
use Rattle.flow_runs.proofs.StartLemmas.{holds_at_the_start as flow_starts}
use Rattle.heap_runs.specs.BlockBook.{block_book}
use Rattle.heap_runs.specs.HeapInvariant.{HeapInvariant}
use Rattle.heap_runs.specs.HeapSafe.{HeapTurn}
use Rattle.heap_runs.proofs.StartLemmas.{starts as heap_starts}
use Rattle.heap_runs.proofs.TurnLemmas.{keeps as heap_keeps}
use Rattle.run_props.specs.Beside.{beside, beside_start, seen_by_four}
use Rattle.run_props.specs.Invariant.{MeetsInvariant}
use Rattle.run_props.specs.Safe.{MeetsInvariants, IsSafe, heap_top}
use Rattle.run_props.specs.Lenses.{comp_lens, events_by, flow_lens, heap_lens, seal_lens}
use Rattle.run_props.proofs.BirthLemmas.{ends_inside, heap_told, owner_below, region_is}
use Rattle.run_props.proofs.ChosenLemmas.{comp_on, comp_value, flow_on, flow_value, heap_on, heap_value, seal_on, seal_value, start_holds, start_sound}
use Rattle.run_props.proofs.PartLemmas.{HasFour, all_has_four, beside_has_four, comp_is_part, flow_is_part, heap_is_part, seal_is_part, within}
use Rattle.run_props.proofs.PartRunLemmas.{part_keeps}
use Rattle.run_props.proofs.StartLemmas.{sound_start}
use Rattle.run_props.proofs.StayLemmas.{run_stays}

-- ---- what is kept of each policy

module _ (basis : Basis) (g : Picture) where
  abbrev seal_guarantee : List (Event SealTag) → Event SealTag → Type 0
  seal_guarantee before event = SealTurn (key_book before) event

  abbrev comp_invariant : List (Event CompartmentTag) → Machine CompartmentState CompartmentTag → Type 0
  comp_invariant = CompInvariant (birth_of g) g.entries

  abbrev comp_guarantee : List (Event CompartmentTag) → Event CompartmentTag → Type 0
  comp_guarantee = CompTurn (birth_of g) g.entries

  abbrev edges : List (ℕ × ℕ)
  edges = map pair_of g.edges

  abbrev flow_invariant : List (Event FlowTag) → Machine (List (ℕ × ℕ)) FlowTag → Type 0
  flow_invariant = FlowInvariant (birth_of g) (memory_of g) edges

  abbrev flow_guarantee : List (Event FlowTag) → Event FlowTag → Type 0
  flow_guarantee = FlowTurn (birth_of g) (memory_of g) edges

  abbrev heap_invariant : List (Event HeapTag) → Machine HeapState HeapTag → Type 0
  heap_invariant = HeapInvariant g.heap_base (heap_top g)

  abbrev heap_guarantee : List (Event HeapTag) → Event HeapTag → Type 0
  heap_guarantee before event = HeapTurn g.heap_base (heap_top g) (block_book before) event

  -- a run keeps of each chosen policy what that keeps
  record KeepsFour {T S : Type 0} (tags : T → AllTag) (values : S → AllState) (run : Trace S T) : Type 0 where
    seal : basis.choice.seal ≡ true → RunKeeps (within tags values seal_lens) SealInvariant seal_guarantee run
    comp : basis.choice.comp ≡ true → RunKeeps (within tags values comp_lens) comp_invariant comp_guarantee run
    flow : basis.choice.flow ≡ true → RunKeeps (within tags values flow_lens) flow_invariant flow_guarantee run
    heap : basis.choice.heap ≡ true → RunKeeps (within tags values heap_lens) heap_invariant heap_guarantee run

  -- each run of the image does, under each whole policy in which the four are
  module _ {T S : Type 0} (w : PolicyModel T S) (holds : S → Type 0) (laws : KeepsLaws w holds) (tags : T → AllTag) (values : S → AllState)
      (four : HasFour w tags values) (is : IsImage g) (s : S) (chosen : values s ≡ choice_state basis g) (held : holds s)
      (sound : IsMachine w (start_machine w s g)) (feed : Tape) (items : List Item) where
    run_keeps : KeepsFour tags values (run_along w (start_machine w s g) feed items)
    run_keeps =
        record {
          seal = λ on. part_keeps w holds laws tags values basis g is s chosen held sound feed items sealing seal_lens SealInvariant seal_guarantee 0 four.seal seal_keeps
              (seal_on basis g on) (seal_value basis g on) (seal_starts (birth_of g) (memory_of g) g.entries (memory_words g is));
          comp = λ on. part_keeps w holds laws tags values basis g is s chosen held sound feed items compartments comp_lens comp_invariant comp_guarantee (compartments_of g) four.comp
              (comp_keeps (birth_of g) g.entries) (comp_on basis g on) (comp_value basis g on)
              (comp_starts (birth_of g) (memory_of g) g.entries (compartments_of g) (λ n below. owner_below g (4 * n)));
          flow = λ on. part_keeps w holds laws tags values basis g is s chosen held sound feed items flow flow_lens flow_invariant flow_guarantee edges four.flow
              (flow_keeps (birth_of g) (memory_of g) edges) (flow_on basis g on) (flow_value basis g on)
              (flow_starts (birth_of g) (memory_of g) g.entries edges);
          heap = λ on. let region = region_is g is in
              part_keeps w holds laws tags values basis g is s chosen held sound feed items heap heap_lens heap_invariant heap_guarantee (heap_of g) four.heap
              (heap_keeps g.heap_base (heap_top g)) (heap_on basis g on) (heap_value basis g on)
              (heap_starts (birth_of g) (memory_of g) g.entries g.heap_base g.heap_bytes region.aligned region.small (λ n below. heap_told g n));
        }

-- ---- all of them together

module _ (basis : Basis) (g : Picture) (feed : Tape) (items : List Item) (is : IsImage g) where
  abbrev run : Trace AllState AllTag
  run = run_along all (start_machine all (choice_state basis g) g) feed items

  all_kept : KeepsFour basis g (λ (tag : AllTag). tag) (λ (s : AllState). s) run
  all_kept =
      run_keeps basis g all AllHold all_laws (λ tag. tag) (λ s. s) all_has_four is (choice_state basis g) refl (start_holds basis g is)
      (start_sound basis g is) feed items

  pub run_is_safe : IsSafe basis g run.events
  run_is_safe = record {
    seal = λ on. (all_kept.seal on).guarantees;
    comp = λ on. comp_law (birth_of g) g.entries (events_by comp_lens run.events) (all_kept.comp on).guarantees;
    flow = λ on. flow_law (birth_of g) (memory_of g) (edges basis g) (events_by flow_lens run.events) (all_kept.flow on).guarantees;
    heap = λ on. (all_kept.heap on).guarantees;
  }

  meets_invariant : {U V : Type 0} (m : PolicyModel U V) (l : Lens AllTag AllState U V) (invariant : List (Event U) → Machine V U → Type 0)
      (guarantee : List (Event U) → Event U → Type 0) → IsPart all m l → l.is_on (choice_state basis g) ≡ true → RunKeeps l invariant guarantee run
      → MeetsInvariant l invariant (events_by l run.events) run.machine
  unfolding start_machine
  meets_invariant m l invariant guarantee part on kept =
      let stays = run_stays m l part (start_machine all (choice_state basis g) g) feed items
      (record { sound = start_sound basis g is; valid = start_holds basis g is; on = on }) in
      record { sound = stays.sound; valid = stays.valid; on = stays.on; held = kept.kept }

  pub run_meets_invariant : MeetsInvariants basis g run.events run.machine
  run_meets_invariant = record {
    seal = λ on. meets_invariant sealing seal_lens SealInvariant (seal_guarantee basis g) seal_is_part (seal_on basis g on) (all_kept.seal on);
    comp = λ on. meets_invariant compartments comp_lens (comp_invariant basis g) (comp_guarantee basis g) comp_is_part (comp_on basis g on) (all_kept.comp on);
    flow = λ on. meets_invariant flow flow_lens (flow_invariant basis g) (flow_guarantee basis g) flow_is_part (flow_on basis g on) (all_kept.flow on);
    heap = λ on. meets_invariant heap heap_lens (heap_invariant basis g) (heap_guarantee basis g) heap_is_part (heap_on basis g on) (all_kept.heap on);
  }

-- ---- an event with its tags changed twice

module _ {T W U : Type 0} (f : W → U) (h : T → W) where
  asked_twice : (asked : Option (Asked T)) → option_map (asked_by f) (option_map (asked_by h) asked) ≡ option_map (asked_by (λ tag. f (h tag))) asked
  asked_twice None = refl
  asked_twice (Some asked) = refl

  call_twice : (call : Option (Call T)) → option_map (call_by f) (option_map (call_by h) call) ≡ option_map (call_by (λ tag. f (h tag))) call
  call_twice None = refl
  call_twice (Some call) = refl

  answer_twice : (answer : Option (Answer T)) → option_map (answer_by f) (option_map (answer_by h) answer) ≡ option_map (answer_by (λ tag. f (h tag))) answer
  answer_twice None = refl
  answer_twice (Some answer) = refl

  work_twice : (work : Option (Work T)) → option_map (work_by f) (option_map (work_by h) work) ≡ option_map (work_by (λ tag. f (h tag))) work
  work_twice None = refl
  work_twice (Some work) = λ j. Some (record { range = work.range; zero = work.zero; answer = answer_twice work.answer j })

  event_twice : (event : Event T) → event_with f (event_with h event) ≡ event_with (λ tag. f (h tag)) event
  event_twice event = λ j. record {
    hart = event.hart;
    pc = event.pc;
    word = event.word;
    ended = event.ended;
    asked = asked_twice event.asked j;
    access = event.access;
    call = call_twice event.call j;
    work = work_twice event.work j;
  }

-- ---- beside one policy more

module _ {X Y : Type 0} (own : PolicyModel X Y) (holds : Y → Type 0) (laws : KeepsLaws own holds) (basis : Basis) (g : Picture) (v : Y) (feed : Tape)
    (items : List Item) (is : IsImage g) (held : holds v) (room : own.room v ≤ g.ram) where
  wide_room : (beside own).room (choice_state basis g, v) ≤ g.ram
  wide_room = let chosen = room_of_chosen basis g (ends_inside g is) in grind (arith, chosen, room)

  abbrev wide_run : Trace (AllState × Y) (AllTag × X)
  wide_run = run_along (beside own) (beside_start own basis g v) feed items

  wide_kept : KeepsFour basis g (λ (tags : AllTag × X). tags.0) (λ (s : AllState × Y). s.0) wide_run
  wide_kept =
      run_keeps basis g (beside own) (BothHold AllHold holds) (both_laws all own AllHold holds all_laws laws) (λ tags. tags.0) (λ s. s.0)
      (beside_has_four own holds laws) is (choice_state basis g, v) refl (start_holds basis g is, held)
      (sound_start (beside own) (choice_state basis g, v) g is wide_room) feed items

  -- what is guaranteed of the events as a part sees them, is of what it sees of those that the four see
  seen_so : {U V : Type 0} (l : Lens AllTag AllState U V) (invariant : List (Event U) → Machine V U → Type 0)
      (guarantee : List (Event U) → Event U → Type 0)
      → RunKeeps (within (λ (tags : AllTag × X). tags.0) (λ (s : AllState × Y). s.0) l) invariant guarantee wide_run
      → (x : Moment (events_by l (seen_by_four wide_run.events))) → guarantee x.before x.event
  seen_so {U} l invariant guarantee kept =
      let once : map (event_with (λ (tags : AllTag × X). l.tag tags.0)) wide_run.events ≡ events_by l (seen_by_four wide_run.events) =
      sym (map-map (event_with l.tag) (event_with (λ (tags : AllTag × X). tags.0)) wide_run.events
      ∙ (λ j. map (λ (event : Event (AllTag × X)). event_twice l.tag (λ (tags : AllTag × X). tags.0) event j) wide_run.events)) in
      subst (λ (events : List (Event U)). (x : Moment events) → guarantee x.before x.event) once kept.guarantees

  pub beside_is_safe : IsSafe basis g (seen_by_four wide_run.events)
  beside_is_safe = record {
    seal = λ on. seen_so seal_lens SealInvariant (seal_guarantee basis g) (wide_kept.seal on);
    comp = λ on. comp_law (birth_of g) g.entries (events_by comp_lens (seen_by_four wide_run.events))
        (seen_so comp_lens (comp_invariant basis g) (comp_guarantee basis g) (wide_kept.comp on));
    flow = λ on. flow_law (birth_of g) (memory_of g) (edges basis g) (events_by flow_lens (seen_by_four wide_run.events))
        (seen_so flow_lens (flow_invariant basis g) (flow_guarantee basis g) (wide_kept.flow on));
    heap = λ on. seen_so heap_lens (heap_invariant basis g) (heap_guarantee basis g) (wide_kept.heap on);
  }
