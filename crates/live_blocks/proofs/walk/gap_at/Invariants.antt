-- The walk over the blocks that are left ends where the whole one does.
use Rattle.std.proofs.Common.{◌≡◌, drop}
use Rattle.live_blocks.specs.Run.{gap_at}
use Rattle.live_blocks.proofs.walk.gap_at.Given as goal

abbrev pub invariant-loop-block : goal.invariant-loop-block
invariant-loop-block l = gap_at (drop l.block-index l.blocks) l.words l.at ≡ gap_at l.blocks l.words l.from
