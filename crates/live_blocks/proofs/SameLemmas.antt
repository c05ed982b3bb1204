-- What is kept, told by other names.
use Rattle.std.proofs.Common.{◌≡◌, ℕ, List}
use Rattle.live_blocks.specs.declared.block.Block.{Block}
use Rattle.live_blocks.specs.Run.{IsKept}
use Rattle.live_blocks.specs.Space.{Space}

pub kept_same : (space space' : Space) (blocks blocks' : List Block) (full full' : ℕ) → space' ≡ space → blocks' ≡ blocks → full' ≡ full
    → IsKept space blocks full → IsKept space' blocks' full'
kept_same space space' blocks blocks' full full' same same' same'' kept = rw (same, same', same'') kept
