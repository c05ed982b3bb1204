-- Operands of the form `n(r)`.
use Rattle.std.specs.Prelude.{ℕ, ℤ, ◌==◌, not, Bool, ◌&&◌, length, Result, Ok}
use Rattle.std.specs.List.{list_all}
use Rattle.std.specs.Option.{ok_or}
use Rattle.asm_text.specs.Cuts.{after, before}
use Rattle.asm_read.specs.declared.errors.AsmErrorKind.{AsmErrorKind}
use Rattle.asm_read.specs.declared.errors.AsmErrorKind.TheVariants as kinds
use Rattle.asm_read.specs.Operands.{Text, two_operands}
use Rattle.shared_terms.specs.Steps.{◌>>=◌, demand}
use Rattle.asm_read.specs.Values.{number_at, register_at}

-- the parentheses of `n(r)`, as bytes
abbrev pub opening : ℕ
opening = 40

abbrev pub closing : ℕ
closing = 41

-- no parenthesis
abbrev pub is_plain : ℕ → Bool
is_plain byte = not (byte == opening) && not (byte == closing)

-- the texts of n and r in `n(r)`, as they stand there; they may be empty, and have no parenthesis
unfoldable pub parts_at : Text → Result (Text × Text) AsmErrorKind
parts_at text = do
  inside ← ok_or (after opening text) kinds.Operand
  behind ← ok_or (after closing inside) kinds.Operand
  last ← demand (length behind == 0 && list_all is_plain (before opening text) && list_all is_plain (before closing inside)) kinds.Operand
  Ok (before opening text, before closing inside)

-- `r1, n(r2)`: both registers, and the number
unfoldable pub access : Text → Result (ℕ × ℕ × ℤ) AsmErrorKind
access text = do
  texts ← two_operands text
  place ← parts_at texts.1
  first ← register_at texts.0
  base ← register_at place.1
  offset ← number_at place.0
  Ok (first, base, offset)
