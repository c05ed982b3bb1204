-- The invariant holds at every start.
use Rattle.std.proofs.Common.{◌≡◌, ℕ, ◌*◌, ◌<◌, true, List, [], length, map, slice_index_or, refl, ap, arith}
use Rattle.std.proofs.lemmas.List.{get_or-map, length-map}
use Rattle.std.proofs.lemmas.List.FromFn.{get_or-map-range_with_len}
use Rattle.policy_trait.specs.declared.birth.Birth.{Birth}
use Rattle.flow_policy.specs.Flow.{flow, flow_start_word}
use Rattle.flow_policy.specs.declared.tag.FlowTag.{FlowTag}
use Rattle.flow_policy.specs.declared.tag.FlowTag.TheVariants.{Plain, Still}
use Rattle.tag_memory.specs.Hart.{HartState, fresh_hart}
use Rattle.engine_trait.specs.Machine.{Machine, hart_at, is_ready_in}
use Rattle.part_turns.specs.Start.{first_hart, first_machine}
use Rattle.flow_runs.specs.EdgeWalk.{walk_of}
use Rattle.flow_runs.specs.FlowInvariant.{FlowInvariant}
use Rattle.part_turns.proofs.PlaceLemmas.{there}

module _ (birth : ℕ → Birth) (words entries : List ℕ) (edges : List (ℕ × ℕ)) where
  abbrev start : Machine (List (ℕ × ℕ)) FlowTag
  start = first_machine flow edges birth words entries

  start_tag : (n : ℕ) → n < length words → slice_index_or start.core.ram.tags n Plain ≡ flow_start_word (birth (4 * n))
  start_tag n lt = get_or-map-range_with_len (λ (n : ℕ). flow_start_word (birth (4 * n))) 0 (length words) n n Plain lt (omega arith)

  start_pc : (h : ℕ) → is_ready_in start.core h ≡ true → (hart_at start.core h).pc_tag ≡ Still
  start_pc h ready =
      let first : ℕ → HartState FlowTag = first_hart flow edges birth words entries in
      let lt : h < length (map first entries) = there start.core h ready in
      ap (λ (hart : HartState FlowTag). hart.pc_tag)
      (get_or-map first entries h 0 (fresh_hart 0 Plain Plain) (omega (arith, length-map entries first)))

  pub holds_at_the_start : FlowInvariant birth words edges [] start
  unfolding walk_of
  holds_at_the_start = record {
    count = refl;
    tags = start_tag;
    code = λ n lt code. refl;
    pcs = start_pc;
    listed = refl;
  }
