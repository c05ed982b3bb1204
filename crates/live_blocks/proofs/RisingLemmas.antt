-- What the order of blocks by their addresses says of where they begin and end.
use Rattle.std.proofs.Common.{◌⊎◌, ℕ, zero, suc, ◌^◌, ◌<◌, ◌≤◌, List, ◌∷◌, get_or, subst, inl, inr, arith}
use Rattle.std.specs.List.{All, Contains}
use Rattle.std.specs.List.Sorted.{IsNonDecreasingBy}
use Rattle.std.proofs.lemmas.Bool.{cases_lt}
use Rattle.std.proofs.lemmas.List.Elements.{All-contains}
use Rattle.live_blocks.specs.declared.block.Block.{Block}
use Rattle.live_blocks.specs.Run.{IsRising}
use Rattle.live_blocks.specs.Space.{IsSpace, IsWithin, Space, end_of}
use Rattle.live_blocks.proofs.ListLemmas.{pairs_head}

-- a block begins no later than those after it
pub begins_rise : (blocks : List Block) → IsRising blocks → IsNonDecreasingBy (λ block. block.base) blocks
begins_rise blocks rising i j d le in_range = elim (cases_lt i j) [
  | inl earlier ↦ omega (arith, rising i j d earlier in_range)
  | inr same ↦ subst (λ k. (get_or blocks i d).base ≤ (get_or blocks k d).base) {x = i} {y = j} (omega arith) (omega arith)
]

module _ (head : Block) (blocks : List Block) where
  -- those after the head begin where it ends or later
  pub after_head : IsRising (head ∷ blocks) → (block : Block) → Contains blocks block → end_of head ≤ block.base
  after_head rising block has =
      All-contains (λ other. end_of head ≤ other.base) blocks block (pairs_head (λ x y. end_of x ≤ y.base) head blocks rising) has

  -- what the head has before it, every block has
  pub begins_after : (from : ℕ) → IsRising (head ∷ blocks) → from ≤ head.base → (block : Block) → Contains (head ∷ blocks) block → from ≤ block.base
  begins_after from rising before block (zero, in_range, is) = subst (λ (other : Block). from ≤ other.base) is before
  begins_after from rising before block (suc k, in_range, is) = omega (arith, after_head rising block (k, omega arith, is))

  -- a block ends where the head does, or is after it
  pub ended_or_after : (block : Block) → Contains (head ∷ blocks) block → (end_of block ≤ end_of head) ⊎ Contains blocks block
  ended_or_after block (zero, in_range, is) = inl (subst (λ (other : Block). end_of other ≤ end_of head) is (omega arith))
  ended_or_after block (suc k, in_range, is) = inr (k, omega arith, is)

-- each block of a list ends where a word can tell, if it is one of a region
pub small_ends : (space : Space) (blocks : List Block) → IsSpace space → All (Contains space.live) blocks → All (λ block. end_of block < 2 ^ 32) blocks
small_ends space blocks is known k d lower =
    omega (arith, (All-contains (IsWithin space.base space.top) space.live (get_or blocks k d) is.within (known k d lower)).to, is.small)
