-- A line: which bytes it may have, its comment, the name of its place, and its statement.
use Rattle.std.specs.Prelude.{ℕ, ◌==◌, [], ◌∷◌, Option, Some, None, Result, Ok, Err, if◌then◌else◌}
use Rattle.std.specs.List.{list_all}
use Rattle.std.specs.Option.{ok_or}
use Rattle.asm_text.specs.Bytes.{is_allowed, is_name}
use Rattle.asm_text.specs.Cuts.{after, after_word, before, first_word, without_blanks}
use Rattle.asm_table.specs.declared.forms.Form.{Form}
use Rattle.asm_table.specs.declared.forms.Form.TheVariants as forms
use Rattle.asm_table.specs.Words.{form_named}
use Rattle.asm_read.specs.declared.errors.AsmErrorKind.{AsmErrorKind}
use Rattle.asm_read.specs.declared.errors.AsmErrorKind.TheVariants as kinds
use Rattle.asm_read.specs.declared.statements.Line.{Line}
use Rattle.asm_read.specs.declared.statements.Statement.{Statement}
use Rattle.asm_read.specs.declared.statements.Statement.TheVariants as statements
use Rattle.asm_read.specs.Directives.{alone, directive_of}
use Rattle.asm_read.specs.Instructions.{branch, immediate, jump, jump_register, load, registers, shift, store, upper}
use Rattle.asm_read.specs.Operands.{Text}
use Rattle.asm_read.specs.Pseudo.{jump_alone, load_address, load_number, move_register, no_operation, return_jump}
use Rattle.shared_terms.specs.Steps.{◌>>=◌, demand}

-- the statement of the form, by the text behind its first word
unfoldable pub statement_of : Form → Text → Result Statement AsmErrorKind
statement_of (forms.Registers operation) text = registers operation text
statement_of (forms.Immediate operation) text = immediate operation text
statement_of (forms.Shift operation) text = shift operation text
statement_of (forms.Upper operation) text = upper operation text
statement_of (forms.Load operation) text = load operation text
statement_of (forms.Store operation) text = store operation text
statement_of (forms.Branch operation) text = branch operation text
statement_of forms.Jump text = jump text
statement_of forms.JumpRegister text = jump_register text
statement_of forms.Fence text = alone statements.Fence text
statement_of forms.Ecall text = alone statements.Ecall text
statement_of forms.Ebreak text = alone statements.Ebreak text
statement_of forms.Nothing text = no_operation text
statement_of forms.Move text = move_register text
statement_of forms.Return text = return_jump text
statement_of forms.JumpAlone text = jump_alone text
statement_of forms.LoadNumber text = load_number text
statement_of forms.LoadAddress text = load_address text
statement_of (forms.Directive directive) text = directive_of directive text

-- the bytes that begin a comment, begin a directive, and end a name
abbrev pub hash : ℕ
hash = 35

abbrev pub dot : ℕ
dot = 46

abbrev pub colon : ℕ
colon = 58

-- what an unknown first word is
abbrev pub unknown : Text → AsmErrorKind
unknown [] = kinds.Mnemonic
unknown (first ∷ more) = if first == dot then kinds.Directive else kinds.Mnemonic

-- the form of a first word; one that is unknown is `Directive` where it begins with a dot, else `Mnemonic`
abbrev pub form_at : Text → Result Form AsmErrorKind
form_at word = ok_or (form_named word) (unknown word)

-- blanks are no statement
unfoldable pub statement_in : Text → Result (Option Statement) AsmErrorKind
statement_in [] = Ok None
statement_in (byte ∷ more) = do
  form ← form_at (first_word (byte ∷ more))
  statement ← statement_of form (after_word (byte ∷ more))
  Ok (Some statement)

-- what stands before the first colon must be a name
abbrev pub label_and_rest : Text → Text → Result (Option Text × Text) AsmErrorKind
label_and_rest name rest = if is_name name then Ok (Some name, rest) else Err kinds.Mnemonic

-- the name and what is left of the text, by what stands behind the first colon; without a colon all is left
abbrev pub label_before : Text → Option Text → Result (Option Text × Text) AsmErrorKind
label_before text None = Ok (None, text)
label_before text (Some rest) = label_and_rest (without_blanks (before colon text)) rest

-- the name before the first colon, if there is one, and the text of the statement
unfoldable pub label_in : Text → Result (Option Text × Text) AsmErrorKind
label_in text = label_before text (after colon text)

-- what a line says, without what ends it; its number is handed through
unfoldable pub line_of : ℕ → Text → Result Line AsmErrorKind
line_of number text = do
  allowed ← demand (list_all is_allowed text) kinds.Byte
  label ← label_in (before hash text)
  statement ← statement_in (without_blanks label.1)
  Ok (record { number = number; label = label.0; statement = statement })
