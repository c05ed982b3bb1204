use Rattle.std.proofs.Common.{map, take}
use Rattle.pump_line.specs.Leaf.{IsLeaf, argument_rule}
use Rattle.pump_line.proofs.command.leaf_command.Given as goal

-- the command has the arguments so far
abbrev pub invariant-loop-argument : goal.invariant-loop-argument
invariant-loop-argument l = IsLeaf l.command l.leaf.name.now (map argument_rule (take l.argument-index l.leaf.arguments.now))
