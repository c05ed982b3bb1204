-- The directives, each by its operands.
use Rattle.std.specs.Prelude.{ℤ, Result, Ok}
use Rattle.asm_table.specs.declared.forms.Directive.{Directive}
use Rattle.asm_table.specs.declared.forms.Directive.TheVariants as directives
use Rattle.asm_read.specs.declared.errors.AsmErrorKind.{AsmErrorKind}
use Rattle.asm_read.specs.declared.statements.Statement.{Statement}
use Rattle.asm_read.specs.declared.statements.Statement.TheVariants as statements
use Rattle.asm_read.specs.Operands.{Text, no_operand, one_operand, three_operands, two_operands}
use Rattle.shared_terms.specs.Steps.{◌>>=◌}
use Rattle.asm_read.specs.Values.{mask_at, number_at, target_at}

-- one number, or two: `Operand` where their count is another or one is empty, `Number` where one is no number
unfoldable pub one_number : Text → Result ℤ AsmErrorKind
one_number text = do
  only ← one_operand text
  number_at only

unfoldable pub two_numbers : Text → Result (ℤ × ℤ) AsmErrorKind
two_numbers text = do
  texts ← two_operands text
  first ← number_at texts.0
  second ← number_at texts.1
  Ok (first, second)

-- `.version N`, `.harts N`, `.ram N`, `.org N`, `.zero N`, `.label ID`
abbrev pub of_number : (ℤ → Statement) → Text → Result Statement AsmErrorKind
of_number statement text = do
  n ← one_number text
  Ok (statement n)

-- `.heap B, N`, `.edge S, D`
abbrev pub of_numbers : (ℤ → ℤ → Statement) → Text → Result Statement AsmErrorKind
of_numbers statement text = do
  n ← two_numbers text
  Ok (statement n.0 n.1)

-- `.text`, `.data`
abbrev pub alone : Statement → Text → Result Statement AsmErrorKind
alone statement text = do
  end ← no_operand text
  Ok statement

-- `.entry H, T`
unfoldable pub entry : Text → Result Statement AsmErrorKind
entry text = do
  texts ← two_operands text
  hart ← number_at texts.0
  target ← target_at texts.1
  Ok (statements.Entry hart target)

-- `.word T`
unfoldable pub word : Text → Result Statement AsmErrorKind
word text = do
  only ← one_operand text
  target ← target_at only
  Ok (statements.Word target)

-- `.comp O, I, W`
unfoldable pub compartment : Text → Result Statement AsmErrorKind
compartment text = do
  texts ← three_operands text
  owner ← number_at texts.0
  into ← mask_at texts.1
  write ← mask_at texts.2
  Ok (statements.Compartment owner into write)

-- the statement of the directive, by the text behind its first word
unfoldable pub directive_of : Directive → Text → Result Statement AsmErrorKind
directive_of directives.Version text = of_number statements.Version text
directive_of directives.Harts text = of_number statements.Harts text
directive_of directives.Ram text = of_number statements.Ram text
directive_of directives.Heap text = of_numbers statements.Heap text
directive_of directives.Entry text = entry text
directive_of directives.Origin text = of_number statements.Origin text
directive_of directives.Word text = word text
directive_of directives.Zeros text = of_number statements.Zeros text
directive_of directives.Text text = alone statements.Text text
directive_of directives.Data text = alone statements.Data text
directive_of directives.Label text = of_number statements.Label text
directive_of directives.Edge text = of_numbers statements.Edge text
directive_of directives.Compartment text = compartment text
