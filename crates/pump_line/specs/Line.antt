-- The command line of `pump` as data, and what `clap` states of a line of words. A word is the bytes of its text; the first
-- one is the program's name.
use Rattle.std.specs.Prelude.{◌≡◌, true, false, List, [], ◌∷◌, ◌++◌, map, codes, Option, Some}
use Rattle.clap.specs.Words.{App, Kinds, Row, Rule, Shape, Text, fault_of, new_rule, subcommand_of}
use Rattle.clap.specs.Simple.{new_shape}

-- an argument without a dash, which has to stand on the line
abbrev pub operand_rule : Text → Rule
operand_rule name = record (new_rule name) { required = true }

-- `--name TEXT` or `--name=TEXT`, at most once
abbrev pub option_rule : Text → Rule
option_rule name = record (new_rule name) { long = Some name }

-- a subcommand's name, operands and options
abbrev pub subcommand_shape : Text → List Text → List Text → Shape
subcommand_shape name operands options =
    record (new_shape name) { rules = map operand_rule operands ++ map option_rule options }

-- the operand of a subcommand that takes an image alone
abbrev pub image_operand : List Text
image_operand = codes "image" ∷ []

-- the options of each subcommand that keeps rules
abbrev pub limit_options : List Text
limit_options = codes "cache" ∷ codes "tags" ∷ []

-- the options of each subcommand that starts an image
abbrev pub start_options : List Text
start_options = codes "policy" ∷ codes "secret" ∷ limit_options

-- `run IMAGE [--policy LIST] [--secret FILE] [--cache SIZE] [--tags N] [--turns N]`
unfoldable pub run_shape : Shape
run_shape = subcommand_shape (codes "run") image_operand (start_options ++ codes "turns" ∷ [])

-- `shell IMAGE [--policy LIST] [--secret FILE] [--cache SIZE] [--tags N] [--history N]`
unfoldable pub shell_shape : Shape
shell_shape = subcommand_shape (codes "shell") image_operand (start_options ++ codes "history" ∷ [])

-- `asm SOURCE IMAGE`
unfoldable pub asm_shape : Shape
asm_shape = subcommand_shape (codes "asm") (codes "source" ∷ codes "image" ∷ []) []

-- `migrate IMAGE OUT`
unfoldable pub migrate_shape : Shape
migrate_shape = subcommand_shape (codes "migrate") (codes "image" ∷ codes "out" ∷ []) []

-- `elf ELF TAGS IMAGE`
unfoldable pub elf_shape : Shape
elf_shape = subcommand_shape (codes "elf") (codes "elf" ∷ codes "tags" ∷ codes "image" ∷ []) []

-- `dis IMAGE`
unfoldable pub dis_shape : Shape
dis_shape = subcommand_shape (codes "dis") image_operand []

-- `load N [--cache SIZE] [--tags N]`
unfoldable pub load_shape : Shape
load_shape = subcommand_shape (codes "load") (codes "count" ∷ []) limit_options

-- `pump SUBCOMMAND ..`, with no help and no version
unfoldable pub pump_app : App
pump_app = record {
  top = record (new_shape (codes "pump")) {
    is_leaf = false;
    disable_help_flag = true;
    disable_help_subcommand = true;
    subcommand_required = true;
  };
  subs = run_shape ∷ shell_shape ∷ asm_shape ∷ migrate_shape ∷ elf_shape ∷ dis_shape ∷ load_shape ∷ [];
}

-- the faults that `clap` may name for the words
unfoldable pub faults_of : List Text → Kinds
faults_of words = fault_of pump_app words

-- the words are a command line of `pump`, by their form: the values of options are judged apart
abbrev pub HasMatch : List Text → Type 0
HasMatch words = faults_of words ≡ []

-- the subcommand that the words name, with what stands there for each of its arguments
unfoldable pub match_of : List Text → Option (Text × List Row)
match_of words = subcommand_of pump_app words
