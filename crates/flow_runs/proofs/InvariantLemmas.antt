-- The invariant after a turn: of a hart that waits or stops, and of one that goes on in a memory that has the image still.
use Rattle.std.proofs.Common.{◌≡◌, ◌≢◌, ℕ, ◌<◌, ◌⊎◌, inl, inr, Bool, true, false, ◌&&◌, nat_lt, List, [], ◌∷◌, ◌++◌, length, Some, None, sym, ap, ◌∙◌, subst}
use Rattle.std.proofs.lemmas.Bool.{cases_eq}
use Rattle.std.proofs.lemmas.List.{get_or-set_same}
use Rattle.policy_trait.specs.declared.birth.Birth.{Birth}
use Rattle.tag_memory.specs.Hart.{HartState}
use Rattle.tag_memory.specs.Ram.{RamState}
use Rattle.turn_steps.specs.declared.stop.Stop.{Stop}
use Rattle.engine_trait.specs.Events.{Event, is_retirement}
use Rattle.engine_trait.specs.Machine.{CoreState, Machine, has_no_stop, hart_at, is_ready_in, stop_at, stopping, with_hart}
use Rattle.engine_trait.specs.Turn.{stopped_at}
use Rattle.part_turns.specs.Moments.{is_turn_of}
use Rattle.flow_policy.specs.declared.tag.FlowTag.{FlowTag}
use Rattle.flow_runs.specs.EdgeWalk.{Visit, visit_of, walk_of}
use Rattle.flow_runs.specs.FlowInvariant.{FlowInvariant, last_of, pc_after}
use Rattle.flow_runs.proofs.ImageLemmas.{HoldsImage}
use Rattle.part_turns.proofs.PlaceLemmas.{hart_other, hart_same, ready_after, ready_same, there}
use Rattle.flow_runs.proofs.WalkLemmas.{last_appended, not_retired, of_hart, of_other, walk_grows, walk_stays}

-- ---- a hart that stops is not ready

second_of : {P : Type 0} (first second : Bool) → second ≡ false → (first && second) ≡ true → P
second_of true second fails e = absurd cc
second_of false second fails e = absurd cc

stop_ends : {P : Type 0} {T : Type 0} (core : CoreState T) (h : ℕ) (why : Stop) → h < length core.stops
    → is_ready_in (stopping core h why) h ≡ true → P
stop_ends core h why lt ready =
    second_of (nat_lt h (length core.harts)) (has_no_stop (stop_at (stopping core h why) h))
    (ap has_no_stop (get_or-set_same core.stops h (Some why) None lt)) ready

-- ---- the invariant

module _ (birth : ℕ → Birth) (words : List ℕ) (edges : List (ℕ × ℕ)) where
  abbrev Invariant : List (Event FlowTag) → Machine (List (ℕ × ℕ)) FlowTag → Type 0
  Invariant events s = FlowInvariant birth words edges events s

  abbrev Image : RamState FlowTag → Type 0
  Image ram = HoldsImage birth words ram

  pub image_of : (events : List (Event FlowTag)) (s : Machine (List (ℕ × ℕ)) FlowTag) → Invariant events s → Image s.core.ram
  image_of events s invariant = record { count = invariant.count; tags = invariant.tags; code = invariant.code }

  -- a hart that is ready has the pc's tag that goes with its last retired turn
  abbrev PcFits : List (Event FlowTag) → CoreState FlowTag → ℕ → Type 0
  PcFits events core n = is_ready_in core n ≡ true → (hart_at core n).pc_tag ≡ pc_after birth words edges (last_of (walk_of n events))

  invariant_of : (events : List (Event FlowTag)) (s : Machine (List (ℕ × ℕ)) FlowTag) → Image s.core.ram → s.policy ≡ edges
      → ((n : ℕ) → PcFits events s.core n) → Invariant events s
  invariant_of events s image listed pcs = record { count = image.count; tags = image.tags; code = image.code; pcs = pcs; listed = listed }

  module _ (before : List (Event FlowTag)) (s : Machine (List (ℕ × ℕ)) FlowTag) (h : ℕ) (e : Event FlowTag) (invariant : Invariant before s) where
    abbrev after : List (Event FlowTag)
    after = before ++ e ∷ []

    -- the turn is none of that hart's
    unmoved : (n : ℕ) → is_turn_of n e ≡ false → PcFits after s.core n
    unmoved n is ready = invariant.pcs n ready ∙ ap (λ (walk : List Visit). pc_after birth words edges (last_of walk)) (sym (walk_stays n e before is))

    pub idle_keeps : is_retirement e ≡ false → Invariant after s
    idle_keeps waits = invariant_of after s (image_of before s invariant) invariant.listed (λ n. unmoved n (not_retired n e waits))

    pub stop_keeps : (why : Stop) → is_retirement e ≡ false → Invariant after (stopped_at s h why)
    stop_keeps why waits =
        invariant_of after (stopped_at s h why) (image_of before s invariant) invariant.listed
        (λ n ready. unmoved n (not_retired n e waits) (ready_after s.core h n why ready))

    exit_fits : (why : Stop) → h < length s.core.stops → e.hart ≡ h → (n : ℕ) → (n ≡ h) ⊎ (n ≢ h) → PcFits after (stopping s.core h why) n
    exit_fits why lt own n (inl same) ready = stop_ends s.core h why lt (ap (is_ready_in (stopping s.core h why)) (sym same) ∙ ready)
    exit_fits why lt own n (inr differs) ready = unmoved n (of_other n e (λ mine. differs (sym mine ∙ own))) (ready_after s.core h n why ready)

    pub exit_keeps : (why : Stop) → h < length s.core.stops → e.hart ≡ h → Invariant after (stopped_at s h why)
    exit_keeps why lt own =
        invariant_of after (stopped_at s h why) (image_of before s invariant) invariant.listed (λ n. exit_fits why lt own n (cases_eq n h))

    module _ (hart : HartState FlowTag) (ram : RamState FlowTag) (plain : ram.plain ≡ s.core.ram.plain) (is_retired : is_retirement e ≡ true)
        (own : e.hart ≡ h) (goes : hart.pc_tag ≡ pc_after birth words edges (Some (visit_of e))) where
      last_here : last_of (walk_of h after) ≡ Some (visit_of e)
      last_here = ap last_of (walk_grows h e before (of_hart h e is_retired own)) ∙ last_appended (walk_of h before) (visit_of e)

      here_fits : h < length s.core.harts → PcFits after (with_hart s.core h hart ram) h
      here_fits lt ready =
          ap (λ (x : HartState FlowTag). x.pc_tag) (hart_same s.core h hart ram lt)
          ∙ goes
          ∙ ap (pc_after birth words edges) (sym last_here)

      moved_fits : (n : ℕ) → (n ≡ h) ⊎ (n ≢ h) → PcFits after (with_hart s.core h hart ram) n
      moved_fits n (inl same) =
          let here : PcFits after (with_hart s.core h hart ram) h =
          λ ready. here_fits (there s.core h (sym (ready_same s.core h h hart ram) ∙ ready)) ready in
          subst (PcFits after (with_hart s.core h hart ram)) (sym same) here
      moved_fits n (inr differs) = λ ready.
          ap (λ (x : HartState FlowTag). x.pc_tag) (hart_other s.core h n hart ram differs plain)
          ∙ unmoved n (of_other n e (λ mine. differs (sym mine ∙ own))) (sym (ready_same s.core h n hart ram) ∙ ready)

      -- the hart went on, in a memory that has the image still
      pub move_keeps : Image ram → Invariant after (record s { core = with_hart s.core h hart ram })
      move_keeps image = invariant_of after (record s { core = with_hart s.core h hart ram }) image invariant.listed (λ n. moved_fits n (cases_eq n h))
