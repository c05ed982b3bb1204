-- The subcommands, each with operands and options alone.
use Rattle.std.specs.Prelude.{◌≡◌, true, false, List, [], ◌∷◌, map}
use Rattle.clap.specs.Words.{App, Rule, Shape, Text, app_of, with_subcommand}
use Rattle.clap.specs.Simple.{new_app, new_shape, on_top}
use Rattle.clap.specs.declared.builder.command.Command.{Command}
use Rattle.clap.specs.declared.builder.command.Command.TheViews.{out-Command as fields_of}
use Rattle.pump_line.specs.declared.command.Argument.{Argument}
use Rattle.pump_line.specs.declared.command.Argument.TheVariants.{Operand, OptionValue}
use Rattle.pump_line.specs.declared.command.Leaf.{Leaf}
use Rattle.pump_line.specs.Line.{operand_rule, option_rule}

-- the rule of an operand or an option with its name
abbrev pub argument_rule : Argument → Rule
argument_rule (Operand name) = operand_rule name.now
argument_rule (OptionValue name) = option_rule name.now

-- a subcommand with its name and the rules of its arguments
abbrev pub leaf_shape : Leaf → Shape
leaf_shape leaf = record (new_shape leaf.name.now) { rules = map argument_rule leaf.arguments.now }

-- a command with these subcommands more, one behind the other
abbrev pub with_leaves : App → List Leaf → App
with_leaves app [] = app
with_leaves app (leaf ∷ leaves) = with_leaves (with_subcommand app (leaf_shape leaf)) leaves

-- a command above subcommands, one of which has to stand on the line, with no help
abbrev pub bare_app : Text → App
bare_app name = on_top (λ s. record s {
  disable_help_flag = true;
  disable_help_subcommand = true;
  subcommand_required = true;
}) (new_app name)

-- a command with this name and these rules, and no subcommand
abbrev pub leaf_app : Text → List Rule → App
leaf_app name rules = record { top = record (new_shape name) { rules = rules }; subs = [] }

-- the command has this name and these rules, and nothing else
pub record IsLeaf (command : Command) (name : Text) (rules : List Rule) : Type 0 where
  pub app : app_of command ≡ leaf_app name rules
  pub globals : (fields_of command).has_globals ≡ false
