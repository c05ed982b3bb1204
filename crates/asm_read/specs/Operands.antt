-- The operands of a statement as texts, with commas between them.
use Rattle.std.specs.Prelude.{ℕ, List, [], ◌∷◌, Option, Some, None, Result, Ok, Err}
use Rattle.asm_text.specs.Cuts.{after, before, without_blanks}
use Rattle.asm_read.specs.declared.errors.AsmErrorKind.{AsmErrorKind}
use Rattle.asm_read.specs.declared.errors.AsmErrorKind.TheVariants as kinds
use Rattle.shared_terms.specs.Steps.{◌>>=◌}

-- the bytes of a line or of a part of it
abbrev pub Text : Type 0
Text = List ℕ

-- the byte between two operands
abbrev pub comma : ℕ
comma = 44

-- an operand isn't empty
abbrev pub nonempty : Text → Result Text AsmErrorKind
nonempty [] = Err kinds.Operand
nonempty (byte ∷ more) = Ok (byte ∷ more)

-- the operand in front without the blanks at its ends, and what stands behind its comma, if it has one
unfoldable pub next_operand : Option Text → Result (Text × Option Text) AsmErrorKind
next_operand None = Err kinds.Operand
next_operand (Some text) = do
  operand ← nonempty (without_blanks (before comma text))
  Ok (operand, after comma text)

-- no comma stands behind the last one
abbrev pub no_more : Option Text → Result (Unit {0}) AsmErrorKind
no_more None = Ok tt
no_more (Some text) = Err kinds.Operand

-- no byte at all, else `Operand`
abbrev pub nothing : Text → Result (Unit {0}) AsmErrorKind
nothing [] = Ok tt
nothing (byte ∷ more) = Err kinds.Operand

-- exactly so many operands, none of them empty, else `Operand`; blanks at their ends are dropped
unfoldable pub no_operand : Text → Result (Unit {0}) AsmErrorKind
no_operand text = nothing (without_blanks text)

unfoldable pub one_operand : Text → Result Text AsmErrorKind
one_operand text = do
  only ← next_operand (Some text)
  end ← no_more only.1
  Ok only.0

unfoldable pub two_operands : Text → Result (Text × Text) AsmErrorKind
two_operands text = do
  first ← next_operand (Some text)
  second ← next_operand first.1
  end ← no_more second.1
  Ok (first.0, second.0)

unfoldable pub three_operands : Text → Result (Text × Text × Text) AsmErrorKind
three_operands text = do
  first ← next_operand (Some text)
  second ← next_operand first.1
  third ← next_operand second.1
  end ← no_more third.1
  Ok (first.0, second.0, third.0)
