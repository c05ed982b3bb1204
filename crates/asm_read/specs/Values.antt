-- What an operand's text means.
use Rattle.std.specs.Prelude.{ℕ, ℤ, pos, negsuc, Option, Some, None, Result, Ok, Err, if◌then◌else◌}
use Rattle.std.specs.Option.{ok_or}
use Rattle.asm_text.specs.Bytes.{is_name}
use Rattle.asm_text.specs.Numbers.{number_of, wide_number_of}
use Rattle.asm_table.specs.Registers.{register_named}
use Rattle.asm_read.specs.declared.errors.AsmErrorKind.{AsmErrorKind}
use Rattle.asm_read.specs.declared.errors.AsmErrorKind.TheVariants as kinds
use Rattle.asm_read.specs.declared.statements.Target.{Target}
use Rattle.asm_read.specs.declared.statements.Target.TheVariants as targets
use Rattle.asm_read.specs.Operands.{Text}
use Rattle.shared_terms.specs.Steps.{◌>>=◌}

-- the number of a register
abbrev pub register_at : Text → Result ℕ AsmErrorKind
register_at text = ok_or (register_named text) kinds.Register

-- a number from -2^31 to 2^32 - 1, decimal or hexadecimal, else `Number`
abbrev pub number_at : Text → Result ℤ AsmErrorKind
number_at text = ok_or (number_of text) kinds.Number

-- a negative number is no set of compartments
abbrev pub mask_of_number : ℤ → Option ℕ
mask_of_number (pos n) = Some n
mask_of_number (negsuc n) = None

-- the wide number that the text writes, if it writes one, else what the text's number is as a set
abbrev pub mask_or_number : Option ℕ → Text → Result (Option ℕ) AsmErrorKind
mask_or_number (Some mask) text = Ok (Some mask)
mask_or_number None text = do
  number ← number_at text
  Ok (mask_of_number number)

-- a set of compartments, a bit for each, up to 2^128 - 1; none for a negative number down to -2^31, else `Number`
unfoldable pub mask_at : Text → Result (Option ℕ) AsmErrorKind
mask_at text = mask_or_number (wide_number_of text) text

-- a name by its bytes, else `Operand`
abbrev pub name_at : Text → Result Target AsmErrorKind
name_at text = if is_name text then Ok (targets.Name text) else Err kinds.Operand

-- the number that the text writes, if it writes one, else the text as a name
abbrev pub number_or_name : Option ℤ → Text → Result Target AsmErrorKind
number_or_name (Some number) text = Ok (targets.Number number)
number_or_name None text = name_at text

-- a number or a name; no text is both
unfoldable pub target_at : Text → Result Target AsmErrorKind
target_at text = number_or_name (number_of text) text
