-- A source: its lines one after another, up to its first error.
use Rattle.std.specs.Prelude.{◌≡◌, ℕ, ◌+◌, List, [], ◌∷◌, ◌++◌, Bool, ◌||◌, is_some, Result, Ok, Err, if◌then◌else◌}
use Rattle.std.specs.Str.Lines.{lines}
use Rattle.asm_read.specs.declared.errors.AsmEnd.{AsmEnd}
use Rattle.asm_read.specs.declared.errors.AsmEnd.TheVariants as ends
use Rattle.asm_read.specs.declared.errors.AsmError.{AsmError}
use Rattle.asm_read.specs.declared.errors.AsmErrorKind.{AsmErrorKind}
use Rattle.asm_read.specs.declared.statements.Line.{Line}
use Rattle.asm_read.specs.Lines.{line_of}
use Rattle.asm_read.specs.Operands.{Text}
use Rattle.shared_terms.specs.Steps.{◌>>=◌}

-- an error of a line is told with the line's number
abbrev pub at_line : {A : Type 0} → ℕ → Result A AsmErrorKind → Result A AsmError
at_line number (Ok x) = Ok x
at_line number (Err kind) = Err (record { line = number; kind = kind })

-- a line that is blank, but for a comment, says nothing
abbrev pub is_said : Line → Bool
is_said line = is_some line.label || is_some line.statement

-- the line, where it says something
abbrev pub line_if_said : Line → List Line
line_if_said line = if is_said line then line ∷ [] else []

-- the lines that say something, numbered from the given number on
unfoldable pub lines_of : ℕ → List Text → Result (List Line) AsmError
lines_of number [] = Ok []
lines_of number (text ∷ more) = do
  line ← at_line number (line_of number text)
  others ← lines_of (number + 1) more
  Ok (line_if_said line ++ others)

-- a newline ends a line, which the last may lack; a carriage return right before a newline is dropped; lines count from 1
unfoldable pub source_of : List ℕ → Result (List Line) AsmError
source_of source = lines_of 1 (lines source)

-- ---- what a function returned

-- an early end is the error that reading gives, unless memory ran out
abbrev pub FailsAs : {Y : Type 0} → AsmEnd → Result Y AsmError → Type 0
FailsAs ends.Memory read = Unit {0}
FailsAs (ends.Bad error) read = read ≡ Err error

-- what a function returned, seen by view, is what reading gives, unless memory ran out
abbrev pub Gives : {X Y : Type 0} → (X → Y) → Result X AsmEnd → Result Y AsmError → Type 0
Gives view (Ok x) read = read ≡ Ok (view x)
Gives view (Err end) read = FailsAs end read
