-- The blocks' numbers are below the next one.
use Rattle.std.proofs.Common.{◌<◌}
use Rattle.std.specs.List.{All}
use Rattle.live_blocks.specs.declared.block.Block.{Block}
use Rattle.rule_tests.proofs.steps.go_as_stated.Given as goal

abbrev pub invariant-loop-step : goal.invariant-loop-step
invariant-loop-step l = All (λ (block : Block). block.number < l.number) l.blocks.space.live
