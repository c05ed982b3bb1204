-- What a turn does under control flow, after the turns before it.
use Rattle.std.specs.Prelude.{◌≡◌, ℕ, true, List, Some}
use Rattle.policy_trait.specs.declared.birth.Birth.{Birth}
use Rattle.engine_trait.specs.Events.{Event, is_retirement}
use Rattle.part_turns.specs.Moments.{is_jalr}
use Rattle.flow_policy.specs.declared.tag.FlowTag.{FlowTag}
use Rattle.flow_runs.specs.EdgeWalk.{Visit, visit_of, walk_of}
use Rattle.flow_runs.specs.FlowInvariant.{last_of}
use Rattle.flow_runs.specs.FlowSafe.{HasLabel, IsCode, IsListed}

module _ (birth : ℕ → Birth) (words : List ℕ) (edges : List (ℕ × ℕ)) where
  -- a retired turn is one of the image's code, a jump by register is labelled, and after one an edge leads there
  pub record FlowTurn (before : List (Event FlowTag)) (event : Event FlowTag) : Type 0 where
    pub code : is_retirement event ≡ true → IsCode birth words edges (visit_of event)
    pub labelled : is_retirement event ≡ true → is_jalr event.word ≡ true → HasLabel birth words edges (visit_of event)
    pub listed : is_retirement event ≡ true → (x : Visit) → last_of (walk_of event.hart before) ≡ Some x → is_jalr x.word ≡ true
        → IsListed birth words edges x (visit_of event)
