-- The words that a statement emits at its place, or what is wrong with its operands.
use Rattle.std.specs.Prelude.{ℕ, ◌*◌, ◌^◌, ◌==◌, ℤ, pos, negsuc, List, [], ◌∷◌, replicate, Option, Some, None, Result, Ok, Err, if◌then◌else◌}
use Rattle.std.specs.Option.{ok_or}
use Rattle.rv_decode.specs.declared.instructions.Instr.{Instr}
use Rattle.rv_decode.specs.declared.instructions.Instr.TheVariants.{Lui, Jal, Jalr, Addi, Fence, Ecall, Ebreak}
use Rattle.asm_table.specs.declared.forms.ImmediateOperation.{ImmediateOperation}
use Rattle.asm_table.specs.declared.forms.ShiftOperation.{ShiftOperation}
use Rattle.asm_table.specs.declared.forms.UpperOperation.{UpperOperation}
use Rattle.asm_table.specs.declared.forms.LoadOperation.{LoadOperation}
use Rattle.asm_table.specs.declared.forms.StoreOperation.{StoreOperation}
use Rattle.asm_table.specs.declared.forms.BranchOperation.{BranchOperation}
use Rattle.asm_read.specs.declared.errors.AsmErrorKind.{AsmErrorKind}
use Rattle.asm_read.specs.declared.errors.AsmErrorKind.TheVariants as kinds
use Rattle.asm_read.specs.declared.statements.Statement.{Statement}
use Rattle.asm_read.specs.declared.statements.Statement.TheVariants as statements
use Rattle.asm_read.specs.declared.statements.Target.{Target}
use Rattle.asm_read.specs.declared.statements.Target.TheVariants as targets
use Rattle.shared_terms.specs.Steps.{◌>>=◌, result_view}
use Rattle.asm_words.specs.declared.emissions.Emission.{Emission}
use Rattle.asm_words.specs.declared.emissions.Emission.TheVariants as emissions
use Rattle.asm_words.specs.Encoding.{word_of_instr}
use Rattle.asm_words.specs.Instructions.{branch_of, load_of, store_of, with_amount, with_immediate, with_registers, with_upper}
use Rattle.asm_words.specs.Ranges.{amount_at, branch_offset, high_part, immediate_at, is_short, jump_offset, low_part, upper_at, word_modulo}

-- the words, in the order of their addresses
abbrev pub words_of : Emission → List ℕ
words_of emissions.Nothing = []
words_of (emissions.One word) = word ∷ []
words_of (emissions.Two first second) = first ∷ second ∷ []
words_of (emissions.Zeros count) = replicate count 0

-- names by their bytes, with the addresses that they stand for
abbrev pub Places : Type 0
Places = List ℕ → Option ℕ

-- ---- targets

-- the place of a name, or the number
abbrev pub value_of : Places → Target → Result ℤ AsmErrorKind
value_of places (targets.Name name) = result_view pos (ok_or (places name) kinds.NoName)
value_of places (targets.Number n) = Ok n

-- that modulo 2 ^ 32
unfoldable pub address_of : Places → Target → Result ℕ AsmErrorKind
address_of places target = result_view word_modulo (value_of places target)

-- ---- instructions

-- the word of one instruction, and the words of two, one behind the other
abbrev pub one : Instr → Emission
one instr = emissions.One (word_of_instr instr)

abbrev pub two : Instr → Instr → Emission
two first second = emissions.Two (word_of_instr first) (word_of_instr second)

-- `addi rd, rs1, n` and its like: n is -2048 to 2047, else `Range`
unfoldable pub immediate : ImmediateOperation → ℕ → ℕ → ℤ → Result Emission AsmErrorKind
immediate operation rd rs1 n = do
  imm ← immediate_at n
  Ok (one (with_immediate operation rd rs1 imm))

-- `slli rd, rs1, n` and its like: n is 0 to 31, else `Range`
unfoldable pub shift : ShiftOperation → ℕ → ℕ → ℤ → Result Emission AsmErrorKind
shift operation rd rs1 n = do
  amount ← amount_at n
  Ok (one (with_amount operation rd rs1 amount))

-- `lui rd, n` and its like: n is that of the upper 20 bits, 0 to 1048575, else `Range`
unfoldable pub upper : UpperOperation → ℕ → ℤ → Result Emission AsmErrorKind
upper operation rd n = do
  imm ← upper_at n
  Ok (one (with_upper operation rd imm))

-- `lw rd, n(rs1)` and its like: n is -2048 to 2047, else `Range`
unfoldable pub load : LoadOperation → ℕ → ℕ → ℤ → Result Emission AsmErrorKind
load operation rd rs1 n = do
  imm ← immediate_at n
  Ok (one (load_of operation rd rs1 imm))

-- `sw rs2, n(rs1)` and its like: n is -2048 to 2047, else `Range`
unfoldable pub store : StoreOperation → ℕ → ℕ → ℤ → Result Emission AsmErrorKind
store operation rs2 rs1 n = do
  imm ← immediate_at n
  Ok (one (store_of operation rs1 rs2 imm))

-- `beq rs1, rs2, T` and its like: an even offset of -4096 to 4094 bytes, else `Range`; an unknown name is `NoName`
unfoldable pub branch : Places → ℕ → BranchOperation → ℕ → ℕ → Target → Result Emission AsmErrorKind
branch places place operation rs1 rs2 target = do
  address ← address_of places target
  offset ← branch_offset place address
  Ok (one (branch_of operation rs1 rs2 offset))

-- `jal rd, T`: an even offset of -1048576 to 1048574 bytes, else `Range`; an unknown name is `NoName`
unfoldable pub jump : Places → ℕ → ℕ → Target → Result Emission AsmErrorKind
jump places place rd target = do
  address ← address_of places target
  offset ← jump_offset place address
  Ok (one (Jal rd offset))

-- `jalr rd, n(rs1)`: n is -2048 to 2047, else `Range`
unfoldable pub jump_register : ℕ → ℕ → ℤ → Result Emission AsmErrorKind
jump_register rd rs1 n = do
  imm ← immediate_at n
  Ok (one (Jalr rd rs1 imm))

-- the FENCE of all reads and writes, and of all input and output, against all of them
abbrev pub fence : Emission
fence = one (Fence 0x0FF0000F)

-- ---- loads of numbers

-- both instructions, also where the lower part is 0
abbrev pub both_parts : ℕ → ℕ → Emission
both_parts rd word = two (Lui rd (high_part word * 2 ^ 12)) (Addi rd rd (low_part word))

-- one instruction, where one writes the word
abbrev pub load_word : ℕ → ℕ → Emission
load_word rd word =
    if is_short word then one (Addi rd 0 word) else
    if low_part word == 0 then one (Lui rd (high_part word * 2 ^ 12)) else
    both_parts rd word

-- `li rd, n`, which writes n modulo 2 ^ 32, in one word or two
unfoldable pub load_number : ℕ → ℤ → Emission
load_number rd n = load_word rd (word_modulo n)

-- `la rd, T`, always two words; an unknown name is `NoName`
unfoldable pub load_address : Places → ℕ → Target → Result Emission AsmErrorKind
load_address places rd target = do
  address ← address_of places target
  Ok (both_parts rd address)

-- ---- data

-- `.word T`: the number modulo 2 ^ 32, or the address of the name; an unknown name is `NoName`
unfoldable pub word : Places → Target → Result Emission AsmErrorKind
word places target = do
  address ← address_of places target
  Ok (emissions.One address)

-- `.zero n`: n words of 0; a negative n is `Range`
abbrev pub zeros : ℤ → Result Emission AsmErrorKind
zeros (pos count) = Ok (emissions.Zeros count)
zeros (negsuc n) = Err kinds.Range

-- ---- statements

-- the words of `.zero`; the other directives emit nothing
abbrev pub directive_emission : Statement → Result Emission AsmErrorKind
directive_emission (statements.Zeros n) = zeros n
directive_emission _ = Ok emissions.Nothing

-- the words of an instruction of registers and numbers alone; the rest is directives
abbrev pub computation_emission : Statement → Result Emission AsmErrorKind
computation_emission (statements.Registers operation rd rs1 rs2) = Ok (one (with_registers operation rd rs1 rs2))
computation_emission (statements.Immediate operation rd rs1 n) = immediate operation rd rs1 n
computation_emission (statements.Shift operation rd rs1 n) = shift operation rd rs1 n
computation_emission (statements.Upper operation rd n) = upper operation rd n
computation_emission statements.Fence = Ok fence
computation_emission statements.Ecall = Ok (one Ecall)
computation_emission statements.Ebreak = Ok (one Ebreak)
computation_emission (statements.LoadNumber rd n) = Ok (load_number rd n)
computation_emission statement = directive_emission statement

-- the words of the statement at the address `place`, which is below 2 ^ 32: here those that access memory, jump or name an address
unfoldable pub emission_of : Places → ℕ → Statement → Result Emission AsmErrorKind
emission_of places place (statements.Load operation rd rs1 n) = load operation rd rs1 n
emission_of places place (statements.Store operation rs2 rs1 n) = store operation rs2 rs1 n
emission_of places place (statements.Branch operation rs1 rs2 target) = branch places place operation rs1 rs2 target
emission_of places place (statements.Jump rd target) = jump places place rd target
emission_of places place (statements.JumpRegister rd rs1 n) = jump_register rd rs1 n
emission_of places place (statements.LoadAddress rd target) = load_address places rd target
emission_of places place (statements.Word target) = word places target
emission_of places place statement = computation_emission statement

-- ---- counts

-- how many instructions write the word
abbrev pub word_load_count : ℕ → ℕ
word_load_count word = if is_short word then 1 else if low_part word == 0 then 1 else 2

-- how many words a `.zero` of this number emits; `None` where it is negative
abbrev pub zero_count : ℤ → Option ℕ
zero_count (pos count) = Some count
zero_count (negsuc n) = None

-- how many words the statement emits, which the places of names don't change; none for a negative `.zero`
unfoldable pub count_of : Statement → Option ℕ
count_of (statements.Registers operation rd rs1 rs2) = Some 1
count_of (statements.Immediate operation rd rs1 n) = Some 1
count_of (statements.Shift operation rd rs1 n) = Some 1
count_of (statements.Upper operation rd n) = Some 1
count_of (statements.Load operation rd rs1 n) = Some 1
count_of (statements.Store operation rs2 rs1 n) = Some 1
count_of (statements.Branch operation rs1 rs2 target) = Some 1
count_of (statements.Jump rd target) = Some 1
count_of (statements.JumpRegister rd rs1 n) = Some 1
count_of statements.Fence = Some 1
count_of statements.Ecall = Some 1
count_of statements.Ebreak = Some 1
count_of (statements.LoadNumber rd n) = Some (word_load_count (word_modulo n))
count_of (statements.LoadAddress rd target) = Some 2
count_of (statements.Version n) = Some 0
count_of (statements.Harts n) = Some 0
count_of (statements.Ram n) = Some 0
count_of (statements.Heap base bytes) = Some 0
count_of (statements.Entry hart target) = Some 0
count_of (statements.Origin n) = Some 0
count_of (statements.Word target) = Some 1
count_of (statements.Zeros n) = zero_count n
count_of statements.Text = Some 0
count_of statements.Data = Some 0
count_of (statements.Label n) = Some 0
count_of (statements.Edge source destination) = Some 0
count_of (statements.Compartment owner into write) = Some 0
