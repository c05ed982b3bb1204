use Rattle.std.proofs.Common.{◌<◌, ◌∙◌, length, arith}
use Rattle.pump_line.proofs.CommandLemmas.{next_leaf}
use Rattle.pump_line.proofs.command.with_leaves.Goals as goal

pub loop-leaf-preserved : goal.loop-leaf-preserved
loop-leaf-preserved c =
    let i = c.loop-leaf.leaf-index in
    let leaves = c.args.leaves.now in
    let inside : i < length leaves = omega arith in
    next_leaf _ _ leaves i _ inside c.in_ok-command.ensures ∙ c.loop-leaf.invariant
