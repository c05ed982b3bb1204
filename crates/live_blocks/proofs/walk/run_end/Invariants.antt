-- The run over the blocks that are left ends where the whole one does.
use Rattle.std.proofs.Common.{◌≡◌, drop}
use Rattle.live_blocks.specs.Run.{run_end}
use Rattle.live_blocks.proofs.walk.run_end.Given as goal

abbrev pub invariant-loop-block : goal.invariant-loop-block
invariant-loop-block l = run_end (drop l.block-index l.blocks) l.end ≡ run_end l.blocks l.from
