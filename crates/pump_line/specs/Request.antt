-- What a line asks for, its values as they are written.
use Rattle.std.specs.Prelude.{List, [], ◌∷◌, codes, Option, None, if◌then◌else◌, option_and_then, option_map}
use Rattle.std.specs.Str.{bytes_eq}
use Rattle.clap.specs.Words.{Kinds, Row, Text, first_of}
use Rattle.pump_line.specs.Line.{faults_of, match_of}
use Rattle.pump_line.specs.declared.task.Making.{Making}
use Rattle.pump_line.specs.declared.task.Making.TheVariants.{Assemble, Migrate}

-- a `run`: its image, and the values of the options that stand on the line
pub record RunRequest : Type 0 where
  pub image : Text
  pub policy : Option Text
  pub secret : Option Text
  pub cache : Option Text
  pub tags : Option Text
  pub turns : Option Text

-- a `shell`: the same, with the history for the turns
pub record ShellRequest : Type 0 where
  pub image : Text
  pub policy : Option Text
  pub secret : Option Text
  pub cache : Option Text
  pub tags : Option Text
  pub history : Option Text

-- an `asm` or a `migrate`: how an image is made, the name of the file that it is made from, and the name that its own file gets; no
-- value is left to read, so this is the task itself
pub record SaveTask : Type 0 where
  pub making : Making
  pub source : Text
  pub image : Text

-- an `elf`: the names of the ELF file and of the tag file, and the name that the image's file gets, which is the task itself too
pub record ElfTask : Type 0 where
  pub elf : Text
  pub tags : Text
  pub image : Text

-- a `dis`: the image's name, which is the task itself too
pub record DisassembleTask : Type 0 where
  pub image : Text

-- a `load`: how many blocks its workload has, and the values of the options that stand on the line
pub record LoadRequest : Type 0 where
  pub count : Text
  pub cache : Option Text
  pub tags : Option Text

-- what a line asks for, a case for each subcommand
pub data Request : Type 0 where
  run_asked : RunRequest → Request
  shell_asked : ShellRequest → Request
  save_asked : SaveTask → Request
  elf_asked : ElfTask → Request
  disassemble_asked : DisassembleTask → Request
  load_asked : LoadRequest → Request

-- the request of each subcommand, by what stands for its arguments; `None` where an operand is missing
unfoldable pub run_in : List Row → Option RunRequest
run_in rows = option_map (λ image. record {
  image = image;
  policy = first_of (codes "policy") rows;
  secret = first_of (codes "secret") rows;
  cache = first_of (codes "cache") rows;
  tags = first_of (codes "tags") rows;
  turns = first_of (codes "turns") rows;
}) (first_of (codes "image") rows)

unfoldable pub shell_in : List Row → Option ShellRequest
shell_in rows = option_map (λ image. record {
  image = image;
  policy = first_of (codes "policy") rows;
  secret = first_of (codes "secret") rows;
  cache = first_of (codes "cache") rows;
  tags = first_of (codes "tags") rows;
  history = first_of (codes "history") rows;
}) (first_of (codes "image") rows)

-- an image that is made so, by the operands that name its source and its file
unfoldable pub save_in : Making → Text → Text → List Row → Option SaveTask
save_in making source image rows = option_and_then (λ from. option_map (λ to. record {
  making = making;
  source = from;
  image = to;
}) (first_of image rows)) (first_of source rows)

unfoldable pub elf_in : List Row → Option ElfTask
elf_in rows = option_and_then (λ elf. option_and_then (λ tags. option_map (λ image. record {
  elf = elf;
  tags = tags;
  image = image;
}) (first_of (codes "image") rows)) (first_of (codes "tags") rows)) (first_of (codes "elf") rows)

unfoldable pub disassemble_in : List Row → Option DisassembleTask
disassemble_in rows = option_map (λ image. record { image = image }) (first_of (codes "image") rows)

unfoldable pub load_in : List Row → Option LoadRequest
load_in rows = option_map (λ count. record {
  count = count;
  cache = first_of (codes "cache") rows;
  tags = first_of (codes "tags") rows;
}) (first_of (codes "count") rows)

-- the request that a subcommand's name and rows make
unfoldable pub request_by : Text → List Row → Option Request
request_by name rows =
    if bytes_eq name (codes "run") then option_map run_asked (run_in rows)
    else (if bytes_eq name (codes "shell") then option_map shell_asked (shell_in rows)
    else (if bytes_eq name (codes "asm") then option_map save_asked (save_in Assemble (codes "source") (codes "image") rows)
    else (if bytes_eq name (codes "migrate") then option_map save_asked (save_in Migrate (codes "image") (codes "out") rows)
    else (if bytes_eq name (codes "elf") then option_map elf_asked (elf_in rows)
    else (if bytes_eq name (codes "dis") then option_map disassemble_asked (disassemble_in rows)
    else (if bytes_eq name (codes "load") then option_map load_asked (load_in rows) else None))))))

-- the request of the subcommand that is named, if one is
abbrev pub request_at : Option (Text × List Row) → Option Request
request_at = option_and_then (λ found. request_by found.0 found.1)

-- the request, unless `clap` names a fault
abbrev pub unless_faulty : Kinds → Option Request → Option Request
unless_faulty [] request = request
unless_faulty (kind ∷ more) request = None

-- what the words ask for; `None` where `clap` names a fault
unfoldable pub request_of : List Text → Option Request
request_of words = unless_faulty (faults_of words) (request_at (match_of words))
