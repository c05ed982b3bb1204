-- The live blocks of a region, and the room that is kept for them.
use Rattle.std.specs.Prelude.{◌≡◌, ℕ, ◌≤◌, List, length}
use Rattle.live_blocks.specs.declared.block.Block.{Block}
use Rattle.live_blocks.specs.Run.{IsKept}
use Rattle.live_blocks.specs.Space.{Space}

-- a region with its live blocks, and how many can be live with the memory that was taken
pub record Blocks : Type 0 where
  pub space : Space
  pub room : ℕ

abbrev pub blocks_of : Space → ℕ → Blocks
blocks_of space room = record { space = space; room = room }

-- what is kept: the blocks in both orders, and in both so much capacity as there is room
pub record IsRoomy (blocks : Blocks) (by_base : List Block) (full number_capacity base_capacity : ℕ) : Type 0 where
  pub kept : IsKept blocks.space by_base full
  pub alike : length by_base ≡ length blocks.space.live
  pub few : length blocks.space.live ≤ blocks.room
  pub in_numbers : blocks.room ≤ number_capacity
  pub in_bases : blocks.room ≤ base_capacity
