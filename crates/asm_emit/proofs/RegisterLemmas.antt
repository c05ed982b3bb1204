-- The registers of each statement that is read are numbers below 32.
use Rattle.std.proofs.Common.{◌≡◌, ℕ, ◌<◌, Bool, true, false, List, [], ◌∷◌, subst, arith, rules}
use Rattle.std.specs.Prelude.{nat_lt, ℤ, Option, Some, None, Ok, if◌then◌else◌}
use Rattle.std.specs.List.{list_all}
use Rattle.std.specs.Option.{option_or}
use Rattle.std.specs.Str.{bytes_eq}
use Rattle.std.proofs.lemmas.Bool.Decides.{nat_tests}
use Rattle.asm_table.specs.declared.forms.Directive.{Directive}
use Rattle.asm_table.specs.declared.forms.Directive.TheVariants as directives
use Rattle.asm_table.specs.declared.forms.Form.{Form}
use Rattle.asm_table.specs.declared.forms.Form.TheVariants as forms
use Rattle.asm_table.specs.declared.forms.BranchOperation.{BranchOperation}
use Rattle.asm_table.specs.declared.forms.ImmediateOperation.{ImmediateOperation}
use Rattle.asm_table.specs.declared.forms.LoadOperation.{LoadOperation}
use Rattle.asm_table.specs.declared.forms.RegisterOperation.{RegisterOperation}
use Rattle.asm_table.specs.declared.forms.ShiftOperation.{ShiftOperation}
use Rattle.asm_table.specs.declared.forms.StoreOperation.{StoreOperation}
use Rattle.asm_table.specs.declared.forms.UpperOperation.{UpperOperation}
use Rattle.asm_table.specs.Registers.{number_named, purpose_named, register_named}
use Rattle.asm_table.specs.Rows.{beside}
use Rattle.asm_read.specs.declared.errors.AsmErrorKind.TheVariants as kinds
use Rattle.asm_read.specs.declared.statements.Statement.{Statement}
use Rattle.asm_read.specs.declared.statements.Statement.TheVariants as statements
use Rattle.asm_read.specs.Addresses.{access, parts_at}
use Rattle.asm_read.specs.Directives.{alone, compartment, directive_of, entry, of_number, of_numbers, one_number, two_numbers, word}
use Rattle.asm_read.specs.Instructions.{branch, immediate, jump, jump_register, load, registers, shift, store, upper}
use Rattle.asm_read.specs.Lines.{statement_of}
use Rattle.asm_read.specs.Operands.{Text, no_operand, one_operand, three_operands, two_operands}
use Rattle.asm_read.specs.Pseudo.{jump_alone, load_address, load_number, move_register, no_operation, return_jump}
use Rattle.asm_read.specs.Values.{mask_at, number_at, register_at, target_at}
use Rattle.shared_terms.proofs.StepLemmas.{ok_is}
use Rattle.asm_emit.proofs.StepLemmas.{from_some, passes}

-- ---- registers

-- each row of a table has a number below 32
abbrev is_register_row : List ℕ × ℕ → Bool
is_register_row row = nat_lt row.1 32

beside_small : (text : List ℕ) (rows : List (List ℕ × ℕ)) (r : ℕ) → list_all is_register_row rows ≡ true → beside text rows ≡ Some r → r < 32
beside_small text [] r fit is = absurd cc
beside_small text (row ∷ rows) r fit is =
    let others : list_all is_register_row rows ≡ true = grind (arith, fit) in
    let below : row.1 < 32 = grind (arith, nat_tests, fit) in
    go below (beside_small text rows r others) (bytes_eq text row.0) is
  where
    go : row.1 < 32 → (beside text rows ≡ Some r → r < 32) → (t : Bool) → (if t then Some row.1 else beside text rows) ≡ Some r → r < 32
    go below more true found = let same : row.1 ≡ r = cc in omega (arith, same, below)
    go below more false found = more found

number_small : (text : List ℕ) (r : ℕ) → number_named text ≡ Some r → r < 32
unfolding number_named
number_small text r is = search (rules, beside_small)

purpose_small : (text : List ℕ) (r : ℕ) → purpose_named text ≡ Some r → r < 32
unfolding purpose_named
purpose_small text r is = search (rules, beside_small)

either_small : (a b : Option ℕ) (r : ℕ) → (a ≡ Some r → r < 32) → (b ≡ Some r → r < 32) → option_or a b ≡ Some r → r < 32
either_small (Some x) b r first second is = first is
either_small None b r first second is = second is

register_small : (text : Text) (r : ℕ) → register_at text ≡ Ok r → r < 32
register_small text r is =
    either_small (number_named text) (purpose_named text) r (number_small text r) (purpose_small text r) (from_some (register_named text) kinds.Register r is)

-- ---- statements

-- each register of the statement is a number below 32
abbrev pub HasRegisters : Statement → Type 0
HasRegisters (statements.Registers operation rd rs1 rs2) = (rd < 32) × (rs1 < 32) × (rs2 < 32)
HasRegisters (statements.Immediate operation rd rs1 n) = (rd < 32) × (rs1 < 32)
HasRegisters (statements.Shift operation rd rs1 n) = (rd < 32) × (rs1 < 32)
HasRegisters (statements.Upper operation rd n) = rd < 32
HasRegisters (statements.Load operation rd rs1 n) = (rd < 32) × (rs1 < 32)
HasRegisters (statements.Store operation rs2 rs1 n) = (rs2 < 32) × (rs1 < 32)
HasRegisters (statements.Branch operation rs1 rs2 target) = (rs1 < 32) × (rs2 < 32)
HasRegisters (statements.Jump rd target) = rd < 32
HasRegisters (statements.JumpRegister rd rs1 n) = (rd < 32) × (rs1 < 32)
HasRegisters (statements.LoadNumber rd n) = rd < 32
HasRegisters (statements.LoadAddress rd target) = rd < 32
HasRegisters _ = Unit {0}

-- ---- instructions

registers_read : (operation : RegisterOperation) (text : Text) (s : Statement) → registers operation text ≡ Ok s → HasRegisters s
unfolding registers
registers_read operation text s is =
    let texts = passes (three_operands text) _ s is in
    let rd = passes (register_at texts.value.0) _ s texts.rest in
    let rs1 = passes (register_at texts.value.1) _ s rd.rest in
    let rs2 = passes (register_at texts.value.2) _ s rs1.rest in
    subst HasRegisters (ok_is _ s rs2.rest) (register_small _ rd.value rd.first, register_small _ rs1.value rs1.first, register_small _ rs2.value rs2.first)

immediate_read : (operation : ImmediateOperation) (text : Text) (s : Statement) → immediate operation text ≡ Ok s → HasRegisters s
unfolding immediate
immediate_read operation text s is =
    let texts = passes (three_operands text) _ s is in
    let rd = passes (register_at texts.value.0) _ s texts.rest in
    let rs1 = passes (register_at texts.value.1) _ s rd.rest in
    let n = passes (number_at texts.value.2) _ s rs1.rest in
    subst HasRegisters (ok_is _ s n.rest) (register_small _ rd.value rd.first, register_small _ rs1.value rs1.first)

shift_read : (operation : ShiftOperation) (text : Text) (s : Statement) → shift operation text ≡ Ok s → HasRegisters s
unfolding shift
shift_read operation text s is =
    let texts = passes (three_operands text) _ s is in
    let rd = passes (register_at texts.value.0) _ s texts.rest in
    let rs1 = passes (register_at texts.value.1) _ s rd.rest in
    let n = passes (number_at texts.value.2) _ s rs1.rest in
    subst HasRegisters (ok_is _ s n.rest) (register_small _ rd.value rd.first, register_small _ rs1.value rs1.first)

upper_read : (operation : UpperOperation) (text : Text) (s : Statement) → upper operation text ≡ Ok s → HasRegisters s
unfolding upper
upper_read operation text s is =
    let texts = passes (two_operands text) _ s is in
    let rd = passes (register_at texts.value.0) _ s texts.rest in
    let n = passes (number_at texts.value.1) _ s rd.rest in
    subst HasRegisters (ok_is _ s n.rest) (register_small _ rd.value rd.first)

branch_read : (operation : BranchOperation) (text : Text) (s : Statement) → branch operation text ≡ Ok s → HasRegisters s
unfolding branch
branch_read operation text s is =
    let texts = passes (three_operands text) _ s is in
    let rs1 = passes (register_at texts.value.0) _ s texts.rest in
    let rs2 = passes (register_at texts.value.1) _ s rs1.rest in
    let target = passes (target_at texts.value.2) _ s rs2.rest in
    subst HasRegisters (ok_is _ s target.rest) (register_small _ rs1.value rs1.first, register_small _ rs2.value rs2.first)

jump_read : (text : Text) (s : Statement) → jump text ≡ Ok s → HasRegisters s
unfolding jump
jump_read text s is =
    let texts = passes (two_operands text) _ s is in
    let rd = passes (register_at texts.value.0) _ s texts.rest in
    let target = passes (target_at texts.value.1) _ s rd.rest in
    subst HasRegisters (ok_is _ s target.rest) (register_small _ rd.value rd.first)

-- both registers of `r1, n(r2)`
access_small : (text : Text) (place : ℕ × ℕ × ℤ) → access text ≡ Ok place → (place.0 < 32) × (place.1 < 32)
unfolding access
access_small text place is =
    let texts = passes (two_operands text) _ place is in
    let parts = passes (parts_at texts.value.1) _ place texts.rest in
    let first = passes (register_at texts.value.0) _ place parts.rest in
    let base = passes (register_at parts.value.1) _ place first.rest in
    let offset = passes (number_at parts.value.0) _ place base.rest in
    subst (λ (p : ℕ × ℕ × ℤ). (p.0 < 32) × (p.1 < 32)) (ok_is _ place offset.rest) (register_small _ first.value first.first, register_small _ base.value base.first)

load_read : (operation : LoadOperation) (text : Text) (s : Statement) → load operation text ≡ Ok s → HasRegisters s
unfolding load
load_read operation text s is =
    let place = passes (access text) _ s is in
    subst HasRegisters (ok_is _ s place.rest) (access_small text place.value place.first)

store_read : (operation : StoreOperation) (text : Text) (s : Statement) → store operation text ≡ Ok s → HasRegisters s
unfolding store
store_read operation text s is =
    let place = passes (access text) _ s is in
    subst HasRegisters (ok_is _ s place.rest) (access_small text place.value place.first)

jump_register_read : (text : Text) (s : Statement) → jump_register text ≡ Ok s → HasRegisters s
unfolding jump_register
jump_register_read text s is =
    let place = passes (access text) _ s is in
    subst HasRegisters (ok_is _ s place.rest) (access_small text place.value place.first)

-- ---- forms that stand for instructions

load_number_read : (text : Text) (s : Statement) → load_number text ≡ Ok s → HasRegisters s
unfolding load_number
load_number_read text s is =
    let texts = passes (two_operands text) _ s is in
    let rd = passes (register_at texts.value.0) _ s texts.rest in
    let n = passes (number_at texts.value.1) _ s rd.rest in
    subst HasRegisters (ok_is _ s n.rest) (register_small _ rd.value rd.first)

load_address_read : (text : Text) (s : Statement) → load_address text ≡ Ok s → HasRegisters s
unfolding load_address
load_address_read text s is =
    let texts = passes (two_operands text) _ s is in
    let rd = passes (register_at texts.value.0) _ s texts.rest in
    let target = passes (target_at texts.value.1) _ s rd.rest in
    subst HasRegisters (ok_is _ s target.rest) (register_small _ rd.value rd.first)

move_register_read : (text : Text) (s : Statement) → move_register text ≡ Ok s → HasRegisters s
unfolding move_register
move_register_read text s is =
    let texts = passes (two_operands text) _ s is in
    let rd = passes (register_at texts.value.0) _ s texts.rest in
    let rs = passes (register_at texts.value.1) _ s rd.rest in
    subst HasRegisters (ok_is _ s rs.rest) (register_small _ rd.value rd.first, register_small _ rs.value rs.first)

zero_small : 0 < 32
zero_small = omega arith

jump_alone_read : (text : Text) (s : Statement) → jump_alone text ≡ Ok s → HasRegisters s
unfolding jump_alone
jump_alone_read text s is =
    let only = passes (one_operand text) _ s is in
    let target = passes (target_at only.value) _ s only.rest in
    subst HasRegisters (ok_is _ s target.rest) zero_small

no_operation_read : (text : Text) (s : Statement) → no_operation text ≡ Ok s → HasRegisters s
unfolding no_operation
no_operation_read text s is =
    let end = passes (no_operand text) _ s is in
    subst HasRegisters (ok_is _ s end.rest) (zero_small, zero_small)

return_jump_read : (text : Text) (s : Statement) → return_jump text ≡ Ok s → HasRegisters s
unfolding return_jump
return_jump_read text s is =
    let end = passes (no_operand text) _ s is in
    subst HasRegisters (ok_is _ s end.rest) (zero_small, omega arith)

-- ---- statements without registers

alone_read : (statement : Statement) (text : Text) (s : Statement) → HasRegisters statement → alone statement text ≡ Ok s → HasRegisters s
alone_read statement text s has is =
    let end = passes (no_operand text) _ s is in
    subst HasRegisters (ok_is statement s end.rest) has

of_number_read : (statement : ℤ → Statement) (text : Text) (s : Statement) → ((n : ℤ) → HasRegisters (statement n)) → of_number statement text ≡ Ok s → HasRegisters s
of_number_read statement text s has is =
    let n = passes (one_number text) _ s is in
    subst HasRegisters (ok_is _ s n.rest) (has n.value)

of_numbers_read : (statement : ℤ → ℤ → Statement) (text : Text) (s : Statement) → ((m n : ℤ) → HasRegisters (statement m n)) → of_numbers statement text ≡ Ok s → HasRegisters s
of_numbers_read statement text s has is =
    let n = passes (two_numbers text) _ s is in
    subst HasRegisters (ok_is _ s n.rest) (has n.value.0 n.value.1)

entry_read : (text : Text) (s : Statement) → entry text ≡ Ok s → HasRegisters s
unfolding entry
entry_read text s is =
    let texts = passes (two_operands text) _ s is in
    let hart = passes (number_at texts.value.0) _ s texts.rest in
    let target = passes (target_at texts.value.1) _ s hart.rest in
    subst HasRegisters (ok_is _ s target.rest) tt

word_read : (text : Text) (s : Statement) → word text ≡ Ok s → HasRegisters s
unfolding word
word_read text s is =
    let only = passes (one_operand text) _ s is in
    let target = passes (target_at only.value) _ s only.rest in
    subst HasRegisters (ok_is _ s target.rest) tt

compartment_read : (text : Text) (s : Statement) → compartment text ≡ Ok s → HasRegisters s
unfolding compartment
compartment_read text s is =
    let texts = passes (three_operands text) _ s is in
    let owner = passes (number_at texts.value.0) _ s texts.rest in
    let into = passes (mask_at texts.value.1) _ s owner.rest in
    let write = passes (mask_at texts.value.2) _ s into.rest in
    subst HasRegisters (ok_is _ s write.rest) tt

directive_read : (directive : Directive) (text : Text) (s : Statement) → directive_of directive text ≡ Ok s → HasRegisters s
unfolding directive_of
directive_read directives.Version text s is = of_number_read statements.Version text s (λ n. tt) is
directive_read directives.Harts text s is = of_number_read statements.Harts text s (λ n. tt) is
directive_read directives.Ram text s is = of_number_read statements.Ram text s (λ n. tt) is
directive_read directives.Heap text s is = of_numbers_read statements.Heap text s (λ m n. tt) is
directive_read directives.Entry text s is = entry_read text s is
directive_read directives.Origin text s is = of_number_read statements.Origin text s (λ n. tt) is
directive_read directives.Word text s is = word_read text s is
directive_read directives.Zeros text s is = of_number_read statements.Zeros text s (λ n. tt) is
directive_read directives.Text text s is = alone_read statements.Text text s tt is
directive_read directives.Data text s is = alone_read statements.Data text s tt is
directive_read directives.Label text s is = of_number_read statements.Label text s (λ n. tt) is
directive_read directives.Edge text s is = of_numbers_read statements.Edge text s (λ m n. tt) is
directive_read directives.Compartment text s is = compartment_read text s is

-- ---- all forms

pub statement_read : (form : Form) (text : Text) (s : Statement) → statement_of form text ≡ Ok s → HasRegisters s
unfolding statement_of
statement_read (forms.Registers operation) text s is = registers_read operation text s is
statement_read (forms.Immediate operation) text s is = immediate_read operation text s is
statement_read (forms.Shift operation) text s is = shift_read operation text s is
statement_read (forms.Upper operation) text s is = upper_read operation text s is
statement_read (forms.Load operation) text s is = load_read operation text s is
statement_read (forms.Store operation) text s is = store_read operation text s is
statement_read (forms.Branch operation) text s is = branch_read operation text s is
statement_read forms.Jump text s is = jump_read text s is
statement_read forms.JumpRegister text s is = jump_register_read text s is
statement_read forms.Fence text s is = alone_read statements.Fence text s tt is
statement_read forms.Ecall text s is = alone_read statements.Ecall text s tt is
statement_read forms.Ebreak text s is = alone_read statements.Ebreak text s tt is
statement_read forms.Nothing text s is = no_operation_read text s is
statement_read forms.Move text s is = move_register_read text s is
statement_read forms.Return text s is = return_jump_read text s is
statement_read forms.JumpAlone text s is = jump_alone_read text s is
statement_read forms.LoadNumber text s is = load_number_read text s is
statement_read forms.LoadAddress text s is = load_address_read text s is
statement_read (forms.Directive directive) text s is = directive_read directive text s is
