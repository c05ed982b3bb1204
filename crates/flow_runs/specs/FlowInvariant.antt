-- What holds of control flow in each state that a run comes to.
use Rattle.std.specs.Prelude.{◌≡◌, ℕ, ◌*◌, ◌<◌, true, List, [], ◌∷◌, length, Option, Some, None, slice_index, slice_index_or, if◌then◌else◌}
use Rattle.policy_trait.specs.declared.birth.Birth.{Birth}
use Rattle.engine_trait.specs.Events.{Event}
use Rattle.engine_trait.specs.Machine.{Machine, hart_at, is_ready_in}
use Rattle.part_turns.specs.Moments.{is_jalr}
use Rattle.flow_policy.specs.Flow.{flow_start_word}
use Rattle.flow_policy.specs.declared.tag.FlowTag.{FlowTag}
use Rattle.flow_policy.specs.declared.tag.FlowTag.TheVariants.{From, Plain, Still}
use Rattle.flow_runs.specs.EdgeWalk.{Visit, walk_of}

-- the last one of a list, if there is one
abbrev pub last_of : List Visit → Option Visit
last_of [] = None
last_of (x ∷ []) = Some x
last_of (x ∷ (y ∷ rest)) = last_of (y ∷ rest)

-- the pc's tag after a jump from a word with that label; without one there is no such jump, and the plain tag enters nothing
abbrev pub from_label : Option ℕ → FlowTag
from_label None = Plain
from_label (Some label) = From label

module _ (birth : ℕ → Birth) (words : List ℕ) (edges : List (ℕ × ℕ)) where
  -- the pc's tag of a hart whose last retired turn was there
  abbrev pub pc_after : Option Visit → FlowTag
  pc_after None = Still
  pc_after (Some x) = if is_jalr x.word then from_label (birth x.address).label else Still

  -- A word is tagged as code, with its label, exactly where the image says so, and is then the image's; all others are data.
  -- A ready hart comes from a label exactly where its last retired turn was a jump by register there. The edges stay.
  pub record FlowInvariant (events : List (Event FlowTag)) (s : Machine (List (ℕ × ℕ)) FlowTag) : Type 0 where
    pub count : length s.core.ram.words ≡ length words
    pub tags : (n : ℕ) → n < length words → slice_index_or s.core.ram.tags n s.core.ram.plain ≡ flow_start_word (birth (4 * n))
    pub code : (n : ℕ) → n < length words → (birth (4 * n)).code ≡ true → slice_index s.core.ram.words n ≡ slice_index words n
    pub pcs : (h : ℕ) → is_ready_in s.core h ≡ true → (hart_at s.core h).pc_tag ≡ pc_after (last_of (walk_of h events))
    pub listed : s.policy ≡ edges
