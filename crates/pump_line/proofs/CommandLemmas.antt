-- How a command is put together.
use Rattle.std.proofs.Common.{◌≡◌, ◌∙◌, ◌<◌, ◌+◌, ◌++◌, ◌∷◌, ℕ, List, [], length, map, take, drop, ap, ap₂, refl, sym, true, false}
use Rattle.std.specs.Borrow.{Bor}
use Rattle.std.specs.Prelude.{Some}
use Rattle.std.specs.List.{slice_index_or}
use Rattle.std.proofs.lemmas.List.{drop_more, map-append, take_more}
use Rattle.clap.specs.Words.{AddsArg, AddsSubcommand, App, Rule, Shape, Text, app_of, new_rule, rule_of, with_rule, with_subcommand}
use Rattle.clap.specs.Simple.{app_of_fields, new_app, on_top}
use Rattle.clap.specs.declared.builder.arg.Arg.{Arg}
use Rattle.clap.specs.declared.builder.command.Command.{Command}
use Rattle.clap.specs.declared.builder.command.Command.TheOpen.{Command-F}
use Rattle.clap.specs.declared.builder.command.Command.TheViews.{out-Command as fields_of}
use Rattle.pump_line.specs.Leaf.{IsLeaf, bare_app, leaf_app, leaf_shape, with_leaves}
use Rattle.pump_line.specs.declared.command.Leaf.{Leaf}
use Rattle.pump_line.specs.Line.{operand_rule, option_rule}

-- the rule of an argument that is made required
pub operand_made : (made required : Arg) (name : Text) → rule_of made ≡ new_rule name
    → required ≡ record made { required = true } → rule_of required ≡ operand_rule name
operand_made made required name is e = ap rule_of e ∙ ap (λ (r : Rule). record r { required = true }) is

-- the rule of an argument that is given a long name
pub option_made : (made option : Arg) (name : Bor Text) → rule_of made ≡ new_rule name.now
    → option ≡ record made { long = Some name } → rule_of option ≡ option_rule name.now
option_made made option name is e = ap rule_of e ∙ ap (λ (r : Rule). record r { long = Some name.now }) is

-- the rules of one argument more
pub rules_more : {A : Type 0} (f : A → Rule) (arguments : List A) (i : ℕ) (d : A) → i < length arguments
    → map f (take (i + 1) arguments) ≡ map f (take i arguments) ++ f (slice_index_or arguments i d) ∷ []
rules_more f arguments i d h = ap (map f) (take_more arguments i d h)
    ∙ map-append f (take i arguments) (slice_index_or arguments i d ∷ [])

-- a subcommand with one argument more, whose rules are written in one way or another
pub leaf_with : (old new : Command) (a : Arg) (name : Text) (rules others : List Rule) (rule : Rule) → IsLeaf old name rules
    → AddsArg old a new → a.global ≡ false → rule_of a ≡ rule → others ≡ rules ++ rule ∷ [] → IsLeaf new name others
leaf_with old new a name rules others rule leaf added free is e = record {
  app = added.shape free ∙ ap₂ with_rule leaf.app is ∙ ap (leaf_app name) (sym e);
  globals = added.globals ∙ rw (leaf.globals, free) refl;
}

-- a command with one subcommand more
pub with_leaf_more : (old sub new : Command) (above : App) (name : Text) (rules : List Rule) → app_of old ≡ above
    → IsLeaf sub name rules → AddsSubcommand old sub new → app_of new ≡ with_subcommand above (leaf_app name rules).top
with_leaf_more old sub new above name rules is leaf added =
    added.shape leaf.globals ∙ ap₂ with_subcommand is (ap (λ (a : App). a.top) leaf.app)

-- a command with the next one of the subcommands
pub next_leaf : (old new : App) (leaves : List Leaf) (i : ℕ) (d : Leaf) → i < length leaves
    → new ≡ with_subcommand old (leaf_shape (slice_index_or leaves i d))
    → with_leaves new (drop (i + 1) leaves) ≡ with_leaves old (drop i leaves)
next_leaf old new leaves i d h e = ap (λ (app : App). with_leaves app (drop (i + 1) leaves)) e
    ∙ sym (ap (with_leaves old) (drop_more leaves i d h))

-- the calls that make a command above subcommands
pub bare_made : (new flag help top : Command) (name : Text) → app_of new ≡ new_app name
    → fields_of flag ≡ record (fields_of new) { disable_help_flag = true }
    → fields_of help ≡ record (fields_of flag) { disable_help_subcommand = true }
    → fields_of top ≡ record (fields_of help) { subcommand_required = true } → app_of top ≡ bare_app name
bare_made new flag help top name is no_flag no_help needs =
    ap app_of_fields needs
    ∙ ap (λ (f : Command-F Command). app_of_fields (record f { subcommand_required = true })) no_help
    ∙ ap (λ (f : Command-F Command). app_of_fields (record f {
      disable_help_subcommand = true;
      subcommand_required = true;
    })) no_flag
    ∙ ap (on_top (λ (s : Shape). record s {
      disable_help_flag = true;
      disable_help_subcommand = true;
      subcommand_required = true;
    })) is
