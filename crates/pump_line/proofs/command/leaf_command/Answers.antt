use Rattle.std.proofs.Common.{◌<◌, length, arith}
use Rattle.pump_line.specs.Leaf.{argument_rule}
use Rattle.pump_line.proofs.CommandLemmas.{leaf_with, rules_more}
use Rattle.pump_line.proofs.command.leaf_command.Goals as goal

pub loop-argument-preserved : goal.loop-argument-preserved
loop-argument-preserved c =
    let i = c.loop-argument.argument-index in
    let arguments = c.args.leaf.now.arguments.now in
    let inside : i < length arguments = omega arith in
    leaf_with c.loop-argument.command c.in_ok-command.command c.argument_of.result c.args.leaf.now.name.now _ _ _
    c.loop-argument.invariant c.in_ok-command.ensures c.argument_of.ensures.local c.argument_of.ensures.rule
    (rules_more argument_rule arguments i _ inside)
