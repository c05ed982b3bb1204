-- Which version of the image's file, how many harts and how many bytes of RAM a source asks for, wherever it does.
use Rattle.std.specs.Prelude.{ℕ, ℤ, pos, negsuc, Bool, List, [], ◌∷◌, Option, Some, None, Result, Ok, if◌then◌else◌}
use Rattle.std.specs.Option.{ok_or}
use Rattle.std.specs.Ordering.{int_eq}
use Rattle.image_format.specs.declared.version.Version.{Version}
use Rattle.image_format.specs.declared.version.Version.TheVariants.{One, Two}
use Rattle.image_format.specs.Conditions.{is_harts, is_ram}
use Rattle.asm_read.specs.declared.errors.AsmError.{AsmError}
use Rattle.asm_read.specs.declared.errors.AsmErrorKind.TheVariants as kinds
use Rattle.asm_read.specs.declared.statements.Line.{Line}
use Rattle.asm_read.specs.declared.statements.Statement.{Statement}
use Rattle.asm_read.specs.declared.statements.Statement.TheVariants as statements
use Rattle.asm_read.specs.Source.{at_line}

-- the number of a `.version`
abbrev pub version_in : Option Statement → Option ℤ
version_in (Some (statements.Version number)) = Some number
version_in _ = None

-- the number of a `.harts`
abbrev pub harts_in : Option Statement → Option ℤ
harts_in (Some (statements.Harts number)) = Some number
harts_in _ = None

-- the number of a `.ram`
abbrev pub ram_in : Option Statement → Option ℤ
ram_in (Some (statements.Ram number)) = Some number
ram_in _ = None

-- the version of the number
abbrev pub version_numbered : ℤ → Option Version
version_numbered number = if int_eq number (pos 1) then Some One else if int_eq number (pos 2) then Some Two else None

-- the number, where it isn't negative and meets the condition
abbrev pub natural_where : (ℕ → Bool) → ℤ → Option ℕ
natural_where fits (pos n) = if fits n then Some n else None
natural_where fits (negsuc n) = None

-- what the number of a line asks for, which must be in its range, or else what the others ask for
abbrev pub asked_from : {A : Type 0} → (ℤ → Option A) → ℕ → Option ℤ → Result A AsmError → Result A AsmError
asked_from within line None others = others
asked_from within line (Some number) others = at_line line (ok_or (within number) kinds.Range)

-- the version: that of the first `.version`, or 1
abbrev pub version_of : List Line → Result Version AsmError
version_of [] = Ok One
version_of (line ∷ lines) = asked_from version_numbered line.number (version_in line.statement) (version_of lines)

-- the number of harts: that of the first `.harts`, or 1
abbrev pub harts_of : List Line → Result ℕ AsmError
harts_of [] = Ok 1
harts_of (line ∷ lines) = asked_from (natural_where is_harts) line.number (harts_in line.statement) (harts_of lines)

-- the bytes of RAM: those of the first `.ram`, or 65536
abbrev pub ram_of : List Line → Result ℕ AsmError
ram_of [] = Ok 65536
ram_of (line ∷ lines) = asked_from (natural_where is_ram) line.number (ram_in line.statement) (ram_of lines)
