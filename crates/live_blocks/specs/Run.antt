-- Blocks in the order of their addresses, and what a walk over them finds.
use Rattle.std.specs.Prelude.{◌≡◌, ℕ, ◌+◌, ◌*◌, ◌%◌, ◌<◌, ◌≤◌, ◌==◌, nat_le, List, [], ◌∷◌, length, if◌then◌else◌}
use Rattle.std.specs.List.{All, AllPairs, AllWithin, Contains, HoldsAt}
use Rattle.live_blocks.specs.declared.block.Block.{Block}
use Rattle.live_blocks.specs.Space.{IsApart, IsSpace, LiesFree, Space, end_of}

-- where a walk over blocks stops that looks for so many words: it begins at an address, and leaves each block that
-- comes too soon for them by its end
abbrev pub gap_at : List Block → ℕ → ℕ → ℕ
gap_at [] words at = at
gap_at (block ∷ blocks) words at =
    if nat_le (at + 4 * words) block.base then at else gap_at blocks words (end_of block)

-- the end of the blocks at the head of a list that follow each other from an address on without a gap
abbrev pub run_end : List Block → ℕ → ℕ
run_end [] from = from
run_end (block ∷ blocks) from = if block.base == from then run_end blocks (end_of block) else from

-- the block at that place has that number
pub record IsPlaceOf (live : List Block) (number place : ℕ) : Type 0 where
  pub in_range : place < length live
  pub has_number : HoldsAt (λ block. block.number ≡ number) live place

-- numbers rise along the list
abbrev pub AreNumbered : List Block → Type 0
AreNumbered live = AllPairs (λ x y. x.number < y.number) live

-- so many blocks at the head of a list have a number below this one, and no others
pub record AreEarlier (live : List Block) (number count : ℕ) : Type 0 where
  pub within : count ≤ length live
  pub below : AllWithin (λ block. block.number < number) live 0 count
  pub others : AllWithin (λ block. number ≤ block.number) live count (length live)

-- each block ends before the next begins
abbrev pub IsRising : List Block → Type 0
IsRising blocks = AllPairs (λ x y. end_of x ≤ y.base) blocks

-- so many blocks at the head of a list begin below an address, and no others
pub record AreBegun (blocks : List Block) (base count : ℕ) : Type 0 where
  pub within : count ≤ length blocks
  pub below : AllWithin (λ block. block.base < base) blocks 0 count
  pub others : AllWithin (λ block. base ≤ block.base) blocks count (length blocks)

-- a list has the live blocks and no other, one after another by address
pub record IsByBase (live by_base : List Block) : Type 0 where
  pub listed : All (Contains by_base) live
  pub known : All (Contains live) by_base
  pub rising : IsRising by_base

-- an address of the region below which no word is free
pub record IsFull (space : Space) (full : ℕ) : Type 0 where
  pub aligned : full % 4 ≡ 0
  pub from : space.base ≤ full
  pub to : full ≤ space.top
  pub none : (lower : ℕ) → lower % 4 ≡ 0 → lower < full → LiesFree space 1 lower → ⊥

-- what a heap's live blocks keep: the same blocks in both orders, and the lowest address whose word is in no block
pub record IsKept (space : Space) (by_base : List Block) (full : ℕ) : Type 0 where
  pub sound : IsSpace space
  pub ordered : IsByBase space.live by_base
  pub filled : IsFull space full
  pub open_there : All (IsApart full 1) space.live
