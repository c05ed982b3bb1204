-- Control flow on a run: each hart runs the image's code alone, and each indirect jump is a listed edge.
use Rattle.std.specs.Prelude.{◌≡◌, ℕ, suc, ◌/◌, true, List, Some, slice_get, slice_index}
use Rattle.std.specs.List.{Contains}
use Rattle.policy_trait.specs.declared.birth.Birth.{Birth}
use Rattle.engine_trait.specs.Events.{Event}
use Rattle.part_turns.specs.Moments.{is_jalr}
use Rattle.flow_runs.specs.EdgeWalk.{Visit, walk_of}

-- What an image says of the word at an address, its words, and its edges.
module _ (birth : ℕ → Birth) (words : List ℕ) (edges : List (ℕ × ℕ)) where
  -- the word of a code range, as the image has it there
  pub record IsCode (x : Visit) : Type 0 where
    pub code : (birth x.address).code ≡ true
    pub word : x.word ≡ slice_index words (x.address / 4)

  -- both addresses are labelled, and an edge leads from the first label to the second
  pub record IsListed (x y : Visit) : Type 0 where
    pub source : ℕ
    pub target : ℕ
    pub labelled : (birth x.address).label ≡ Some source
    pub target_labelled : (birth y.address).label ≡ Some target
    pub listed : Contains edges (source, target)

  abbrev pub HasLabel : Visit → Type 0
  HasLabel x = (label : ℕ) × ((birth x.address).label ≡ Some label)

  -- One hart's walk. A jump by register is labelled, and where the hart went on, an edge led there.
  pub record IsWalk (walk : List Visit) : Type 0 where
    pub code : (n : ℕ) (x : Visit) → slice_get walk n ≡ Some x → IsCode x
    pub labelled : (n : ℕ) (x : Visit) → slice_get walk n ≡ Some x → is_jalr x.word ≡ true → HasLabel x
    pub listed : (n : ℕ) (x y : Visit) → slice_get walk n ≡ Some x → slice_get walk (suc n) ≡ Some y → is_jalr x.word ≡ true → IsListed x y

  abbrev pub FlowSafe : {T : Type 0} → List (Event T) → Type 0
  FlowSafe events = (h : ℕ) → IsWalk (walk_of h events)
