-- Command lines, each with what it asks for or with the faults that `clap` names, computed by the definitions alone.
use Rattle.std.proofs.Common.{◌≡◌, List, [], ◌∷◌, ℕ, codes, map, true, refl}
use Rattle.std.specs.Prelude.{⊤, ◌==◌, Some, None}
use Rattle.std.specs.List.{slice_split}
use Rattle.clap.proofs.OnLiterals.{clap_on_literals}
use Rattle.clap.specs.Words.{Kinds, Text}
use Rattle.clap.specs.declared.error.kind.ErrorKind.TheVariants.{ArgumentConflict, InvalidSubcommand, InvalidValue, MissingRequiredArgument, MissingSubcommand, UnknownArgument}
use Rattle.cache_size.specs.Sizes.{one_set}
use Rattle.policy_choice.specs.Choice.{no_policy}
use Rattle.policy_choice.specs.declared.choice.Choice.{Choice}
use Rattle.pump_line.specs.Line.{asm_shape, dis_shape, elf_shape, faults_of, load_shape, match_of, migrate_shape, pump_app, run_shape, shell_shape}
use Rattle.pump_line.specs.Request.{disassemble_in, elf_in, load_in, request_by, request_of, run_in, save_in, shell_in}
use Rattle.pump_line.specs.Task.{Task, disassemble, elf, load, load_task_in, run, run_task_in, save, shell, shell_task_in, task_of}
use Rattle.pump_line.specs.declared.task.Making.TheVariants.{Assemble, Migrate}

-- what computes on words that are written out
unfoldable on_rows : ⊤
unfolding clap_on_literals faults_of match_of pump_app run_shape shell_shape asm_shape migrate_shape elf_shape dis_shape load_shape request_by request_of run_in shell_in save_in elf_in disassemble_in load_in run_task_in shell_task_in load_task_in task_of
on_rows = tt

-- the words of a line, with one space between each two; where two spaces stand together, or one at the end, a word is empty
abbrev words_of : Text → List Text
words_of = slice_split (λ byte. byte == 32)

-- each line asks for what stands beside it
abbrev Ask : List (Text × Task) → Type 0
Ask rows = map (λ row. task_of (words_of row.0)) rows ≡ map (λ row. Some row.1) rows

-- in each line `clap` names these faults
abbrev Name : Kinds → List Text → Type 0
Name faults lines = map (λ line. faults_of (words_of line)) lines ≡ map (λ line. faults) lines

-- in no line does `clap` name a fault, and still none asks for anything
abbrev AskNothing : List Text → Type 0
AskNothing lines = Name [] lines × (map (λ line. task_of (words_of line)) lines ≡ map (λ line. None) lines)

-- a run that keeps the most rules, and the most tags with words, that a line gives which says nothing of them
abbrev run_of : Text → Choice → ℕ → Task
run_of image choice turns = run (record { image = image; choice = choice; secret = None; cache = one_set 1024; tags = 65536; turns = turns })

-- a run of no policy that keeps so many rules, and so many tags with words
abbrev run_keeping : Text → ℕ → ℕ → Task
run_keeping image cache tags = run (record { image = image; choice = no_policy; secret = None; cache = one_set cache; tags = tags; turns = 1000000 })

-- a run of no policy that keeps rules in so many sets of so many ways
abbrev run_in_sets : Text → ℕ → ℕ → Task
run_in_sets image sets ways =
    run (record { image = image; choice = no_policy; secret = None; cache = record { sets = sets; ways = ways }; tags = 65536; turns = 1000000 })

-- a run under secrecy of the bytes of this file
abbrev run_hiding : Text → Text → Task
run_hiding image secret =
    run (record { image = image; choice = record no_policy { secret = true }; secret = Some secret; cache = one_set 1024; tags = 65536; turns = 1000000 })

-- a shell that keeps so many rules, and so many tags with words, and can take no turn back
abbrev shell_of : Text → Choice → ℕ → ℕ → Task
shell_of image choice cache tags = shell (record { image = image; choice = choice; secret = None; cache = one_set cache; tags = tags; history = 0 })

-- a shell of no policy that can take so many turns back
abbrev shell_remembering : Text → ℕ → Task
shell_remembering image history =
    shell (record { image = image; choice = no_policy; secret = None; cache = one_set 1024; tags = 65536; history = history })

-- an assembly of a source into an image
abbrev asm_of : Text → Text → Task
asm_of source image = save (record { making = Assemble; source = source; image = image })

-- an image that becomes one of version 2, saved under another name
abbrev migrate_of : Text → Text → Task
migrate_of image out = save (record { making = Migrate; source = image; image = out })

-- an image of an ELF file and a tag file
abbrev elf_of : Text → Text → Text → Task
elf_of file tags image = elf (record { elf = file; tags = tags; image = image })

-- a listing of an image
abbrev dis_of : Text → Task
dis_of image = disassemble (record { image = image })

-- a workload of so many blocks that keeps so many rules, and so many tags with words
abbrev load_of : ℕ → ℕ → ℕ → Task
load_of count cache tags = load (record { count = count; cache = one_set cache; tags = tags })

abbrev sealing_alone : Choice
sealing_alone = record no_policy { seal = true }

-- ---- lines that ask for a run

runs : Ask (
    (codes "pump run a.img", run_of (codes "a.img") no_policy 1000000) ∷  -- the image alone
    (codes "pump run a.img --policy none", run_of (codes "a.img") no_policy 1000000) ∷  -- `none` named
    (codes "pump run a.img --policy seal", run_of (codes "a.img") sealing_alone 1000000) ∷  -- sealing named
    (codes "pump run a.img --policy comp", run_of (codes "a.img") (record no_policy { comp = true }) 1000000) ∷  -- another policy named
    (codes "pump run a.img --policy heap,secret,flow,seal,comp", run_of (codes "a.img") (record { seal = true; comp = true; flow = true; heap = true; secret = true }) 1000000) ∷  -- all named, in another order
    (codes "pump run a.img --policy secret --secret a.bin", run_hiding (codes "a.img") (codes "a.bin")) ∷  -- secrecy of the bytes of a file
    (codes "pump run --secret=a.bin a.img --policy secret", run_hiding (codes "a.img") (codes "a.bin")) ∷  -- the file before the image
    (codes "pump run a.img --policy=seal", run_of (codes "a.img") sealing_alone 1000000) ∷  -- the value behind an equals sign
    (codes "pump run --policy seal a.img", run_of (codes "a.img") sealing_alone 1000000) ∷  -- the option before the image
    (codes "pump run --turns 5 a.img --policy seal", run_of (codes "a.img") sealing_alone 5) ∷  -- one option before and one after the image
    (codes "pump run a.img --policy seal --turns 5", run_of (codes "a.img") sealing_alone 5) ∷  -- both options after the image
    (codes "pump run a.img --turns=5", run_of (codes "a.img") no_policy 5) ∷  -- turns behind an equals sign
    (codes "pump run a.img --turns 1", run_of (codes "a.img") no_policy 1) ∷  -- the fewest turns
    (codes "pump run a.img --turns 1000000000", run_of (codes "a.img") no_policy 1000000000) ∷  -- the most turns
    (codes "pump run a.img --cache 0", run_keeping (codes "a.img") 0 65536) ∷  -- no rule is kept
    (codes "pump run a.img --cache 65536", run_keeping (codes "a.img") 65536 65536) ∷  -- the most kept rules
    (codes "pump run a.img --cache=5", run_keeping (codes "a.img") 5 65536) ∷  -- kept rules behind an equals sign
    (codes "pump run a.img --cache 3x5", run_in_sets (codes "a.img") 3 5) ∷  -- kept rules in sets
    (codes "pump run a.img --cache 1x7", run_keeping (codes "a.img") 7 65536) ∷  -- one set is what a number alone says
    (codes "pump run a.img --cache=64x1024", run_in_sets (codes "a.img") 64 1024) ∷  -- the most sets, of the most rules in all
    (codes "pump run a.img --cache 0000000002x0000000004", run_in_sets (codes "a.img") 2 4) ∷  -- ten digits on both sides
    (codes "pump run a.img --tags 1", run_keeping (codes "a.img") 1024 1) ∷  -- the fewest tags with words
    (codes "pump run a.img --tags 1048576", run_keeping (codes "a.img") 1024 1048576) ∷  -- the most tags with words
    (codes "pump run a.img --cache 5 --tags 6", run_keeping (codes "a.img") 5 6) ∷  -- kept rules before tags
    (codes "pump run --tags 6 a.img --cache 5", run_keeping (codes "a.img") 5 6) ∷  -- tags before kept rules
    (codes "pump run a.img --turns 0000000007", run_of (codes "a.img") no_policy 7) ∷  -- ten digits with zeros before
    (codes "pump run run", run_of (codes "run") no_policy 1000000) ∷  -- an image of a subcommand's name
    (codes "pump run -", run_of (codes "-") no_policy 1000000) ∷  -- a lone dash is an ordinary word
    (codes "pump run -- --policy", run_of (codes "--policy") no_policy 1000000) ∷  -- no option after two dashes
    (codes "pump run ", run_of [] no_policy 1000000) ∷  -- the empty name
    [])
unfolding on_rows
runs = refl

-- ---- lines that ask for a shell

shells : Ask (
    (codes "pump shell a.img", shell_of (codes "a.img") no_policy 1024 65536) ∷  -- the image alone
    (codes "pump shell a.img --policy seal", shell_of (codes "a.img") sealing_alone 1024 65536) ∷  -- a policy named
    (codes "pump shell a.img --cache 0", shell_of (codes "a.img") no_policy 0 65536) ∷  -- kept rules named
    (codes "pump shell a.img --cache=5", shell_of (codes "a.img") no_policy 5 65536) ∷  -- kept rules behind an equals sign
    (codes "pump shell a.img --tags 6", shell_of (codes "a.img") no_policy 1024 6) ∷  -- tags named
    (codes "pump shell --tags 6 a.img --cache 5 --policy seal", shell_of (codes "a.img") sealing_alone 5 6) ∷  -- options before and after the image
    (codes "pump shell a.img --history 0", shell_remembering (codes "a.img") 0) ∷  -- no turn can be taken back
    (codes "pump shell a.img --history 65536", shell_remembering (codes "a.img") 65536) ∷  -- the most turns back
    (codes "pump shell --history=5 a.img", shell_remembering (codes "a.img") 5) ∷  -- turns back behind an equals sign, before the image
    (codes "pump shell shell", shell_of (codes "shell") no_policy 1024 65536) ∷  -- an image of the subcommand's name
    [])
unfolding on_rows
shells = refl

-- ---- lines that ask for an assembly

assemblies : Ask (
    (codes "pump asm a.s a.img", asm_of (codes "a.s") (codes "a.img")) ∷  -- the source and the image
    (codes "pump asm a.img a.s", asm_of (codes "a.img") (codes "a.s")) ∷  -- the order of the words alone says which is which
    (codes "pump asm a a", asm_of (codes "a") (codes "a")) ∷  -- one name for both
    (codes "pump asm asm dis", asm_of (codes "asm") (codes "dis")) ∷  -- names of subcommands
    (codes "pump asm -- --cache -5", asm_of (codes "--cache") (codes "-5")) ∷  -- no option after two dashes
    (codes "pump asm a.s -- -a.img", asm_of (codes "a.s") (codes "-a.img")) ∷  -- two dashes between the names
    (codes "pump asm - a.img", asm_of (codes "-") (codes "a.img")) ∷  -- a lone dash is an ordinary word
    (codes "pump asm  ", asm_of [] []) ∷  -- empty names
    [])
unfolding on_rows
assemblies = refl

-- ---- lines that ask for a migration

migrations : Ask (
    (codes "pump migrate a.img b.img", migrate_of (codes "a.img") (codes "b.img")) ∷  -- the image and the name of the new one
    (codes "pump migrate a a", migrate_of (codes "a") (codes "a")) ∷  -- one name for both
    (codes "pump migrate -- --out -5", migrate_of (codes "--out") (codes "-5")) ∷  -- no option after two dashes
    (codes "pump migrate  ", migrate_of [] []) ∷  -- empty names
    [])
unfolding on_rows
migrations = refl

-- ---- lines that ask for an image of an ELF file

elf_files : Ask (
    (codes "pump elf a.elf a.tags a.img", elf_of (codes "a.elf") (codes "a.tags") (codes "a.img")) ∷  -- the ELF file, the tag file and the image
    (codes "pump elf a a a", elf_of (codes "a") (codes "a") (codes "a")) ∷  -- one name for all
    (codes "pump elf elf elf elf", elf_of (codes "elf") (codes "elf") (codes "elf")) ∷  -- the subcommand's name for each
    (codes "pump elf -- --tags -5 --image", elf_of (codes "--tags") (codes "-5") (codes "--image")) ∷  -- no option after two dashes
    (codes "pump elf   ", elf_of [] [] []) ∷  -- empty names
    [])
unfolding on_rows
elf_files = refl

-- ---- lines that ask for a listing

listings : Ask (
    (codes "pump dis a.img", dis_of (codes "a.img")) ∷  -- the image
    (codes "pump dis dis", dis_of (codes "dis")) ∷  -- an image of the subcommand's name
    (codes "pump dis -- --cache", dis_of (codes "--cache")) ∷  -- no option after two dashes
    (codes "pump dis -", dis_of (codes "-")) ∷  -- a lone dash is an ordinary word
    (codes "pump dis ", dis_of []) ∷  -- the empty name
    [])
unfolding on_rows
listings = refl

-- ---- lines that ask for a workload

workloads : Ask (
    (codes "pump load 25", load_of 25 1024 65536) ∷  -- the count alone
    (codes "pump load 1", load_of 1 1024 65536) ∷  -- the fewest blocks
    (codes "pump load 0000001000", load_of 1000 1024 65536) ∷  -- the most blocks, of ten digits
    (codes "pump load 2 --cache 0", load_of 2 0 65536) ∷  -- no rule is kept
    (codes "pump load --tags 6 2 --cache=5", load_of 2 5 6) ∷  -- tags before the count, kept rules behind it
    [])
unfolding on_rows
workloads = refl

-- ---- lines in which `clap` names a fault

-- no words at all
no_words : faults_of [] ≡ MissingSubcommand ∷ []
unfolding on_rows
no_words = refl

without_subcommand : Name (MissingSubcommand ∷ []) (
    codes "pump" ∷  -- the program's name alone
    [])
unfolding on_rows
without_subcommand = refl

without_operand : Name (MissingRequiredArgument ∷ []) (
    codes "pump run" ∷  -- a run of nothing
    codes "pump run --policy seal" ∷  -- a run with options and no image
    codes "pump shell" ∷  -- a shell of nothing
    codes "pump asm" ∷  -- an assembly of nothing
    codes "pump asm a.s" ∷  -- an assembly without the image
    codes "pump asm a.s --" ∷  -- two dashes are no name
    codes "pump migrate" ∷  -- a migration of nothing
    codes "pump migrate a.img" ∷  -- a migration that isn't saved
    codes "pump elf" ∷  -- an image of no ELF file
    codes "pump elf a.elf" ∷  -- without a tag file
    codes "pump elf a.elf a.tags" ∷  -- and one that isn't saved
    codes "pump dis" ∷  -- a listing of nothing
    codes "pump load" ∷  -- a workload of no count
    [])
unfolding on_rows
without_operand = refl

options_twice : Name (ArgumentConflict ∷ []) (
    codes "pump run a.img --policy seal --policy seal" ∷  -- an option that is repeated
    codes "pump run --turns 5 a.img --turns=5" ∷  -- turns named twice
    codes "pump run a.img --cache 5 --cache 5" ∷  -- kept rules named twice
    codes "pump run a.img --tags 5 --tags 6" ∷  -- tags named twice
    codes "pump shell a.img --tags 5 --tags=6" ∷  -- an option of a shell that is repeated
    codes "pump shell a.img --history 5 --history=5" ∷  -- turns back named twice
    codes "pump load 1 --cache 5 --cache=5" ∷  -- an option of a workload that is repeated
    [])
unfolding on_rows
options_twice = refl

without_value : Name (InvalidValue ∷ []) (
    codes "pump run a.img --policy" ∷  -- an option without its value
    codes "pump run a.img --policy --turns 5" ∷  -- an option in place of a value
    [])
unfolding on_rows
without_value = refl

unknown_arguments : Name (UnknownArgument ∷ []) (
    codes "pump run a.img b.img" ∷  -- two images
    codes "pump run a.img --rules 5" ∷  -- an option of no meaning
    codes "pump run a.img -p" ∷  -- a short option
    codes "pump run a.img --pol seal" ∷  -- an option that is shortened
    codes "pump run a.img --turns -5" ∷  -- a word with a dash for a value
    codes "pump run a.img --cache -1" ∷  -- the same for kept rules
    codes "pump --policy seal run a.img" ∷  -- an option before the subcommand
    codes "pump --help" ∷  -- a request for help
    codes "pump run a.img --help" ∷  -- a request for the help of `run`
    codes "pump --version" ∷  -- a request for the version
    codes "pump shell a.img b.img" ∷  -- a shell of two images
    codes "pump shell a.img --turns 5" ∷  -- a shell has no limit of turns
    codes "pump run a.img --history 5" ∷  -- a run takes no turn back
    codes "pump asm a.s a.img b.img" ∷  -- an assembly of three names
    codes "pump asm a.s a.img --policy seal" ∷  -- an assembly starts no image: it has no policy
    codes "pump asm --cache 5 a.s a.img" ∷  -- the same for kept rules, before the names
    codes "pump asm a.s --turns=5 a.img" ∷  -- and for turns, between them
    codes "pump asm --source a.s --image a.img" ∷  -- the operands are no options
    codes "pump asm a.s a.img --help" ∷  -- a request for the help of `asm`
    codes "pump migrate a.img b.img c.img" ∷  -- a migration of three names
    codes "pump migrate a.img b.img --policy seal" ∷  -- a migration starts no image
    codes "pump migrate a.img --out b.img" ∷  -- the operands are no options
    codes "pump elf a.elf a.tags a.img b.img" ∷  -- an ELF file with four names
    codes "pump elf a.elf a.tags a.img --policy seal" ∷  -- its image isn't started
    codes "pump elf a.elf a.img --tags a.tags" ∷  -- the operands are no options
    codes "pump dis a.img b.img" ∷  -- a listing of two images
    codes "pump dis a.img --policy seal" ∷  -- a listing starts no image: it has no policy
    codes "pump dis a.img --cache 5" ∷  -- the same for kept rules
    codes "pump dis --tags 5 a.img" ∷  -- for tags
    codes "pump dis a.img --turns 5" ∷  -- and for turns
    codes "pump dis a.img -p" ∷  -- a short option for a listing
    codes "pump dis --image=a.img" ∷  -- an option in place of the image
    codes "pump load 1 2" ∷  -- two counts
    codes "pump load -1" ∷  -- a count with a minus sign
    codes "pump load 1 --policy seal" ∷  -- a workload runs under every policy
    codes "pump load 1 --turns 5" ∷  -- and its turns follow from its count
    [])
unfolding on_rows
unknown_arguments = refl

unknown_subcommands : Name (UnknownArgument ∷ InvalidSubcommand ∷ []) (
    codes "pump walk a.img" ∷  -- a subcommand of no meaning
    codes "pump help" ∷  -- help as a subcommand
    codes "pump a.img" ∷  -- an image without a subcommand
    codes "pump Run a.img" ∷  -- a subcommand in upper case
    codes "pump assemble a.s a.img" ∷  -- a longer name of the subcommand
    codes "pump migrated a.img b.img" ∷  -- and of another
    codes "pump elfs a.elf a.tags a.img" ∷  -- and of another
    codes "pump disassemble a.img" ∷  -- and of another
    [])
unfolding on_rows
unknown_subcommands = refl

-- ---- lines without a fault, of which a value is refused

bad_values : AskNothing (
    codes "pump run a.img --policy seal,seal" ∷  -- a policy named twice
    codes "pump run a.img --policy Seal" ∷  -- a list in upper case
    codes "pump run a.img --policy=" ∷  -- an empty list
    codes "pump run a.img --policy none,comp" ∷  -- no policy, and one
    codes "pump run a.img --turns 0" ∷  -- no turn at all
    codes "pump run a.img --turns 1000000001" ∷  -- one turn more than the most
    codes "pump run a.img --cache 65537" ∷  -- one kept rule more than the most
    codes "pump run a.img --cache 0x4" ∷  -- no set
    codes "pump run a.img --cache 4x0" ∷  -- sets of no way
    codes "pump run a.img --cache 3x" ∷  -- no ways behind the sets
    codes "pump run a.img --cache x3" ∷  -- no sets before the ways
    codes "pump run a.img --cache 65x1" ∷  -- one set more than the most
    codes "pump run a.img --cache 64x1025" ∷  -- sets with more rules than the most in all
    codes "pump run a.img --cache 300x300" ∷  -- too much of both
    codes "pump run a.img --cache 1x65537" ∷  -- one way more than the most
    codes "pump run a.img --cache 2x3x4" ∷  -- three numbers
    codes "pump run a.img --cache 2X3" ∷  -- a letter in upper case
    codes "pump run a.img --tags 0" ∷  -- no tag at all
    codes "pump run a.img --tags 1048577" ∷  -- one tag more than the most
    codes "pump run a.img --turns 00000000007" ∷  -- eleven digits
    codes "pump run a.img --turns +5" ∷  -- a sign
    codes "pump run a.img --turns=-5" ∷  -- a minus sign behind an equals sign
    codes "pump run a.img --turns 0x5" ∷  -- a hexadecimal number
    codes "pump run a.img --turns " ∷  -- no digit
    codes "pump shell a.img --policy seal,seal" ∷  -- a policy named twice for a shell
    codes "pump shell a.img --tags 0" ∷  -- a shell with no tag at all
    codes "pump shell a.img --cache 65537" ∷  -- one kept rule more than the most for a shell
    codes "pump shell a.img --history 65537" ∷  -- one turn back more than the most
    codes "pump shell a.img --history 00000000005" ∷  -- turns back of eleven digits
    codes "pump load 0" ∷  -- a workload of no blocks
    codes "pump load 1001" ∷  -- one block more than the most
    codes "pump load 00000000001" ∷  -- a count of eleven digits
    codes "pump load two" ∷  -- a count that is no number
    codes "pump load 1 --tags 0" ∷  -- a workload with no tag at all
    [])
unfolding on_rows
bad_values = (refl, refl)

-- a word with a blank after its digits
abbrev blank_words : List Text
blank_words = codes "pump" ∷ codes "run" ∷ codes "a.img" ∷ codes "--turns" ∷ codes "5 " ∷ []

blank : (faults_of blank_words ≡ []) × (task_of blank_words ≡ None)
unfolding on_rows
blank = (refl, refl)
