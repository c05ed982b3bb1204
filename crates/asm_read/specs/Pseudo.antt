-- The forms that stand for instructions, each by its operands.
use Rattle.std.specs.Prelude.{pos, Result, Ok}
use Rattle.asm_table.specs.declared.forms.ImmediateOperation.TheVariants.{Addi}
use Rattle.asm_read.specs.declared.errors.AsmErrorKind.{AsmErrorKind}
use Rattle.asm_read.specs.declared.statements.Statement.{Statement}
use Rattle.asm_read.specs.declared.statements.Statement.TheVariants as statements
use Rattle.asm_read.specs.Operands.{Text, no_operand, one_operand, two_operands}
use Rattle.shared_terms.specs.Steps.{◌>>=◌}
use Rattle.asm_read.specs.Values.{number_at, register_at, target_at}

-- `li rd, n`
unfoldable pub load_number : Text → Result Statement AsmErrorKind
load_number text = do
  texts ← two_operands text
  rd ← register_at texts.0
  n ← number_at texts.1
  Ok (statements.LoadNumber rd n)

-- `la rd, T`
unfoldable pub load_address : Text → Result Statement AsmErrorKind
load_address text = do
  texts ← two_operands text
  rd ← register_at texts.0
  target ← target_at texts.1
  Ok (statements.LoadAddress rd target)

-- `mv rd, rs`, which is `addi rd, rs, 0`
unfoldable pub move_register : Text → Result Statement AsmErrorKind
move_register text = do
  texts ← two_operands text
  rd ← register_at texts.0
  rs ← register_at texts.1
  Ok (statements.Immediate Addi rd rs (pos 0))

-- `j T`, which is `jal x0, T`
unfoldable pub jump_alone : Text → Result Statement AsmErrorKind
jump_alone text = do
  only ← one_operand text
  target ← target_at only
  Ok (statements.Jump 0 target)

-- `nop`, which is `addi x0, x0, 0`
unfoldable pub no_operation : Text → Result Statement AsmErrorKind
no_operation text = do
  end ← no_operand text
  Ok (statements.Immediate Addi 0 0 (pos 0))

-- `ret`, which is `jalr x0, 0(x1)`
unfoldable pub return_jump : Text → Result Statement AsmErrorKind
return_jump text = do
  end ← no_operand text
  Ok (statements.JumpRegister 0 1 (pos 0))
