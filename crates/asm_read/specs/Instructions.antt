-- The instructions, each by its operands.
use Rattle.std.specs.Prelude.{Result, Ok}
use Rattle.asm_table.specs.declared.forms.RegisterOperation.{RegisterOperation}
use Rattle.asm_table.specs.declared.forms.ImmediateOperation.{ImmediateOperation}
use Rattle.asm_table.specs.declared.forms.ShiftOperation.{ShiftOperation}
use Rattle.asm_table.specs.declared.forms.UpperOperation.{UpperOperation}
use Rattle.asm_table.specs.declared.forms.LoadOperation.{LoadOperation}
use Rattle.asm_table.specs.declared.forms.StoreOperation.{StoreOperation}
use Rattle.asm_table.specs.declared.forms.BranchOperation.{BranchOperation}
use Rattle.asm_read.specs.declared.errors.AsmErrorKind.{AsmErrorKind}
use Rattle.asm_read.specs.declared.statements.Statement.{Statement}
use Rattle.asm_read.specs.declared.statements.Statement.TheVariants as statements
use Rattle.asm_read.specs.Addresses.{access}
use Rattle.asm_read.specs.Operands.{Text, three_operands, two_operands}
use Rattle.shared_terms.specs.Steps.{◌>>=◌}
use Rattle.asm_read.specs.Values.{number_at, register_at, target_at}

-- `add rd, rs1, rs2` and its like
unfoldable pub registers : RegisterOperation → Text → Result Statement AsmErrorKind
registers operation text = do
  texts ← three_operands text
  rd ← register_at texts.0
  rs1 ← register_at texts.1
  rs2 ← register_at texts.2
  Ok (statements.Registers operation rd rs1 rs2)

-- `addi rd, rs1, n` and its like
unfoldable pub immediate : ImmediateOperation → Text → Result Statement AsmErrorKind
immediate operation text = do
  texts ← three_operands text
  rd ← register_at texts.0
  rs1 ← register_at texts.1
  n ← number_at texts.2
  Ok (statements.Immediate operation rd rs1 n)

-- `slli rd, rs1, n` and its like
unfoldable pub shift : ShiftOperation → Text → Result Statement AsmErrorKind
shift operation text = do
  texts ← three_operands text
  rd ← register_at texts.0
  rs1 ← register_at texts.1
  n ← number_at texts.2
  Ok (statements.Shift operation rd rs1 n)

-- `lui rd, n` and its like
unfoldable pub upper : UpperOperation → Text → Result Statement AsmErrorKind
upper operation text = do
  texts ← two_operands text
  rd ← register_at texts.0
  n ← number_at texts.1
  Ok (statements.Upper operation rd n)

-- `lw rd, n(rs1)` and its like
unfoldable pub load : LoadOperation → Text → Result Statement AsmErrorKind
load operation text = do
  place ← access text
  Ok (statements.Load operation place.0 place.1 place.2)

-- `sw rs2, n(rs1)` and its like
unfoldable pub store : StoreOperation → Text → Result Statement AsmErrorKind
store operation text = do
  place ← access text
  Ok (statements.Store operation place.0 place.1 place.2)

-- `beq rs1, rs2, T` and its like
unfoldable pub branch : BranchOperation → Text → Result Statement AsmErrorKind
branch operation text = do
  texts ← three_operands text
  rs1 ← register_at texts.0
  rs2 ← register_at texts.1
  target ← target_at texts.2
  Ok (statements.Branch operation rs1 rs2 target)

-- `jal rd, T`
unfoldable pub jump : Text → Result Statement AsmErrorKind
jump text = do
  texts ← two_operands text
  rd ← register_at texts.0
  target ← target_at texts.1
  Ok (statements.Jump rd target)

-- `jalr rd, n(rs1)`
unfoldable pub jump_register : Text → Result Statement AsmErrorKind
jump_register text = do
  place ← access text
  Ok (statements.JumpRegister place.0 place.1 place.2)
