use Rattle.std.proofs.Common.{◌≡◌, drop}
use Rattle.clap.specs.Words.{app_of}
use Rattle.pump_line.specs.Leaf.{with_leaves}
use Rattle.pump_line.proofs.command.with_leaves.Given as goal

-- the subcommands that are left lead to the same
abbrev pub invariant-loop-leaf : goal.invariant-loop-leaf
invariant-loop-leaf l =
    with_leaves (app_of l.command) (drop l.leaf-index l.leaves) ≡ with_leaves (app_of l.fn.command) l.leaves
