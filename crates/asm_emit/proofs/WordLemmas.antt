-- Each word that a statement emits is below 2 ^ 32, where its registers are below 32.
use Rattle.std.proofs.Common.{◌≡◌, ℕ, zero, suc, ◌-◌, ◌*◌, ◌%◌, ◌^◌, ◌<◌, Bool, true, false, subst, arith}
use Rattle.std.specs.Prelude.{◌==◌, ℤ, pos, negsuc, replicate, Result, Ok, Err, if◌then◌else◌}
use Rattle.std.specs.List.{AllByRecursion}
use Rattle.rv_decode.specs.declared.instructions.Instr.TheVariants.{Lui, Jal, Jalr, Addi, Ecall, Ebreak}
use Rattle.asm_table.specs.declared.forms.RegisterOperation.{RegisterOperation}
use Rattle.asm_table.specs.declared.forms.RegisterOperation.TheVariants as register_operations
use Rattle.asm_table.specs.declared.forms.ImmediateOperation.{ImmediateOperation}
use Rattle.asm_table.specs.declared.forms.ImmediateOperation.TheVariants as immediate_operations
use Rattle.asm_table.specs.declared.forms.ShiftOperation.{ShiftOperation}
use Rattle.asm_table.specs.declared.forms.ShiftOperation.TheVariants as shift_operations
use Rattle.asm_table.specs.declared.forms.UpperOperation.{UpperOperation}
use Rattle.asm_table.specs.declared.forms.UpperOperation.TheVariants as upper_operations
use Rattle.asm_table.specs.declared.forms.LoadOperation.{LoadOperation}
use Rattle.asm_table.specs.declared.forms.LoadOperation.TheVariants as load_operations
use Rattle.asm_table.specs.declared.forms.StoreOperation.{StoreOperation}
use Rattle.asm_table.specs.declared.forms.StoreOperation.TheVariants as store_operations
use Rattle.asm_table.specs.declared.forms.BranchOperation.{BranchOperation}
use Rattle.asm_table.specs.declared.forms.BranchOperation.TheVariants as branch_operations
use Rattle.asm_read.specs.declared.errors.AsmErrorKind.{AsmErrorKind}
use Rattle.asm_read.specs.declared.statements.Statement.{Statement}
use Rattle.asm_read.specs.declared.statements.Statement.TheVariants as statements
use Rattle.asm_read.specs.declared.statements.Target.{Target}
use Rattle.shared_terms.specs.Steps.{result_view}
use Rattle.asm_words.specs.declared.emissions.Emission.{Emission}
use Rattle.asm_words.specs.declared.emissions.Emission.TheVariants as emissions
use Rattle.asm_words.specs.Emission.{Places, address_of, both_parts, branch, emission_of, fence, immediate, jump, jump_register, load, load_address, load_number, one, shift, store, upper, value_of, word, words_of, zeros}
use Rattle.asm_words.specs.Encoding.{branch_word, word_of_instr, immediate_word, jump_word, register_word, store_word, upper_word}
use Rattle.asm_words.specs.Instructions.{branch_of, load_of, store_of, with_amount, with_immediate, with_registers, with_upper}
use Rattle.asm_words.specs.Ranges.{amount_at, branch_offset, high_part, immediate_at, is_short, jump_offset, low_part, upper_at, word_modulo}
use Rattle.asm_words.proofs.RangeLemmas.{amount_kept}
use Rattle.asm_emit.proofs.RegisterLemmas.{HasRegisters}
use Rattle.shared_terms.proofs.StepLemmas.{ok_is}
use Rattle.asm_emit.proofs.StepLemmas.{passes}

-- ---- the formats

register_small : (opcode f3 f7 rd rs1 rs2 : ℕ) → opcode < 128 → f3 < 8 → f7 < 128 → rd < 32 → rs1 < 32 → rs2 < 32 → register_word opcode f3 f7 rd rs1 rs2 < 2 ^ 32
register_small opcode f3 f7 rd rs1 rs2 a b c d e f = omega arith

immediate_small : (opcode f3 rd rs1 imm : ℕ) → opcode < 128 → f3 < 8 → rd < 32 → rs1 < 32 → immediate_word opcode f3 rd rs1 imm < 2 ^ 32
immediate_small opcode f3 rd rs1 imm a b c d = omega arith

store_small : (opcode f3 rs1 rs2 imm : ℕ) → opcode < 128 → f3 < 8 → rs1 < 32 → rs2 < 32 → store_word opcode f3 rs1 rs2 imm < 2 ^ 32
store_small opcode f3 rs1 rs2 imm a b c d = omega arith

branch_small : (opcode f3 rs1 rs2 imm : ℕ) → opcode < 128 → f3 < 8 → rs1 < 32 → rs2 < 32 → branch_word opcode f3 rs1 rs2 imm < 2 ^ 32
branch_small opcode f3 rs1 rs2 imm a b c d = omega arith

upper_small : (opcode rd imm : ℕ) → opcode < 128 → rd < 32 → upper_word opcode rd imm < 2 ^ 32
upper_small opcode rd imm a b = omega arith

jump_small : (opcode rd imm : ℕ) → opcode < 128 → rd < 32 → jump_word opcode rd imm < 2 ^ 32
jump_small opcode rd imm a b = omega arith

-- ---- the operations

with_registers_small : (operation : RegisterOperation) (rd rs1 rs2 : ℕ) → rd < 32 → rs1 < 32 → rs2 < 32 → word_of_instr (with_registers operation rd rs1 rs2) < 2 ^ 32
unfolding word_of_instr
with_registers_small register_operations.Add rd rs1 rs2 a b c = register_small 0x33 0 0x00 rd rs1 rs2 (omega arith) (omega arith) (omega arith) a b c
with_registers_small register_operations.Sub rd rs1 rs2 a b c = register_small 0x33 0 0x20 rd rs1 rs2 (omega arith) (omega arith) (omega arith) a b c
with_registers_small register_operations.Sll rd rs1 rs2 a b c = register_small 0x33 1 0x00 rd rs1 rs2 (omega arith) (omega arith) (omega arith) a b c
with_registers_small register_operations.Slt rd rs1 rs2 a b c = register_small 0x33 2 0x00 rd rs1 rs2 (omega arith) (omega arith) (omega arith) a b c
with_registers_small register_operations.Sltu rd rs1 rs2 a b c = register_small 0x33 3 0x00 rd rs1 rs2 (omega arith) (omega arith) (omega arith) a b c
with_registers_small register_operations.Xor rd rs1 rs2 a b c = register_small 0x33 4 0x00 rd rs1 rs2 (omega arith) (omega arith) (omega arith) a b c
with_registers_small register_operations.Srl rd rs1 rs2 a b c = register_small 0x33 5 0x00 rd rs1 rs2 (omega arith) (omega arith) (omega arith) a b c
with_registers_small register_operations.Sra rd rs1 rs2 a b c = register_small 0x33 5 0x20 rd rs1 rs2 (omega arith) (omega arith) (omega arith) a b c
with_registers_small register_operations.Or rd rs1 rs2 a b c = register_small 0x33 6 0x00 rd rs1 rs2 (omega arith) (omega arith) (omega arith) a b c
with_registers_small register_operations.And rd rs1 rs2 a b c = register_small 0x33 7 0x00 rd rs1 rs2 (omega arith) (omega arith) (omega arith) a b c
with_registers_small register_operations.Mul rd rs1 rs2 a b c = register_small 0x33 0 0x01 rd rs1 rs2 (omega arith) (omega arith) (omega arith) a b c
with_registers_small register_operations.Mulh rd rs1 rs2 a b c = register_small 0x33 1 0x01 rd rs1 rs2 (omega arith) (omega arith) (omega arith) a b c
with_registers_small register_operations.Mulhsu rd rs1 rs2 a b c = register_small 0x33 2 0x01 rd rs1 rs2 (omega arith) (omega arith) (omega arith) a b c
with_registers_small register_operations.Mulhu rd rs1 rs2 a b c = register_small 0x33 3 0x01 rd rs1 rs2 (omega arith) (omega arith) (omega arith) a b c
with_registers_small register_operations.Div rd rs1 rs2 a b c = register_small 0x33 4 0x01 rd rs1 rs2 (omega arith) (omega arith) (omega arith) a b c
with_registers_small register_operations.Divu rd rs1 rs2 a b c = register_small 0x33 5 0x01 rd rs1 rs2 (omega arith) (omega arith) (omega arith) a b c
with_registers_small register_operations.Rem rd rs1 rs2 a b c = register_small 0x33 6 0x01 rd rs1 rs2 (omega arith) (omega arith) (omega arith) a b c
with_registers_small register_operations.Remu rd rs1 rs2 a b c = register_small 0x33 7 0x01 rd rs1 rs2 (omega arith) (omega arith) (omega arith) a b c

with_immediate_small : (operation : ImmediateOperation) (rd rs1 imm : ℕ) → rd < 32 → rs1 < 32 → word_of_instr (with_immediate operation rd rs1 imm) < 2 ^ 32
unfolding word_of_instr
with_immediate_small immediate_operations.Addi rd rs1 imm a b = immediate_small 0x13 0 rd rs1 imm (omega arith) (omega arith) a b
with_immediate_small immediate_operations.Slti rd rs1 imm a b = immediate_small 0x13 2 rd rs1 imm (omega arith) (omega arith) a b
with_immediate_small immediate_operations.Sltiu rd rs1 imm a b = immediate_small 0x13 3 rd rs1 imm (omega arith) (omega arith) a b
with_immediate_small immediate_operations.Xori rd rs1 imm a b = immediate_small 0x13 4 rd rs1 imm (omega arith) (omega arith) a b
with_immediate_small immediate_operations.Ori rd rs1 imm a b = immediate_small 0x13 6 rd rs1 imm (omega arith) (omega arith) a b
with_immediate_small immediate_operations.Andi rd rs1 imm a b = immediate_small 0x13 7 rd rs1 imm (omega arith) (omega arith) a b

with_amount_small : (operation : ShiftOperation) (rd rs1 amount : ℕ) → rd < 32 → rs1 < 32 → amount < 32 → word_of_instr (with_amount operation rd rs1 amount) < 2 ^ 32
unfolding word_of_instr
with_amount_small shift_operations.Slli rd rs1 amount a b c = register_small 0x13 1 0x00 rd rs1 amount (omega arith) (omega arith) (omega arith) a b c
with_amount_small shift_operations.Srli rd rs1 amount a b c = register_small 0x13 5 0x00 rd rs1 amount (omega arith) (omega arith) (omega arith) a b c
with_amount_small shift_operations.Srai rd rs1 amount a b c = register_small 0x13 5 0x20 rd rs1 amount (omega arith) (omega arith) (omega arith) a b c

with_upper_small : (operation : UpperOperation) (rd imm : ℕ) → rd < 32 → word_of_instr (with_upper operation rd imm) < 2 ^ 32
unfolding word_of_instr
with_upper_small upper_operations.Lui rd imm a = upper_small 0x37 rd imm (omega arith) a
with_upper_small upper_operations.Auipc rd imm a = upper_small 0x17 rd imm (omega arith) a

load_small : (operation : LoadOperation) (rd rs1 imm : ℕ) → rd < 32 → rs1 < 32 → word_of_instr (load_of operation rd rs1 imm) < 2 ^ 32
unfolding word_of_instr
load_small load_operations.Lb rd rs1 imm a b = immediate_small 0x03 0 rd rs1 imm (omega arith) (omega arith) a b
load_small load_operations.Lh rd rs1 imm a b = immediate_small 0x03 1 rd rs1 imm (omega arith) (omega arith) a b
load_small load_operations.Lw rd rs1 imm a b = immediate_small 0x03 2 rd rs1 imm (omega arith) (omega arith) a b
load_small load_operations.Lbu rd rs1 imm a b = immediate_small 0x03 4 rd rs1 imm (omega arith) (omega arith) a b
load_small load_operations.Lhu rd rs1 imm a b = immediate_small 0x03 5 rd rs1 imm (omega arith) (omega arith) a b

store_of_small : (operation : StoreOperation) (rs1 rs2 imm : ℕ) → rs1 < 32 → rs2 < 32 → word_of_instr (store_of operation rs1 rs2 imm) < 2 ^ 32
unfolding word_of_instr
store_of_small store_operations.Sb rs1 rs2 imm a b = store_small 0x23 0 rs1 rs2 imm (omega arith) (omega arith) a b
store_of_small store_operations.Sh rs1 rs2 imm a b = store_small 0x23 1 rs1 rs2 imm (omega arith) (omega arith) a b
store_of_small store_operations.Sw rs1 rs2 imm a b = store_small 0x23 2 rs1 rs2 imm (omega arith) (omega arith) a b

branch_of_small : (operation : BranchOperation) (rs1 rs2 imm : ℕ) → rs1 < 32 → rs2 < 32 → word_of_instr (branch_of operation rs1 rs2 imm) < 2 ^ 32
unfolding word_of_instr
branch_of_small branch_operations.Beq rs1 rs2 imm a b = branch_small 0x63 0 rs1 rs2 imm (omega arith) (omega arith) a b
branch_of_small branch_operations.Bne rs1 rs2 imm a b = branch_small 0x63 1 rs1 rs2 imm (omega arith) (omega arith) a b
branch_of_small branch_operations.Blt rs1 rs2 imm a b = branch_small 0x63 4 rs1 rs2 imm (omega arith) (omega arith) a b
branch_of_small branch_operations.Bge rs1 rs2 imm a b = branch_small 0x63 5 rs1 rs2 imm (omega arith) (omega arith) a b
branch_of_small branch_operations.Bltu rs1 rs2 imm a b = branch_small 0x63 6 rs1 rs2 imm (omega arith) (omega arith) a b
branch_of_small branch_operations.Bgeu rs1 rs2 imm a b = branch_small 0x63 7 rs1 rs2 imm (omega arith) (omega arith) a b

lui_small : (rd imm : ℕ) → rd < 32 → word_of_instr (Lui rd imm) < 2 ^ 32
unfolding word_of_instr
lui_small rd imm a = upper_small 0x37 rd imm (omega arith) a

addi_small : (rd rs1 imm : ℕ) → rd < 32 → rs1 < 32 → word_of_instr (Addi rd rs1 imm) < 2 ^ 32
unfolding word_of_instr
addi_small rd rs1 imm a b = immediate_small 0x13 0 rd rs1 imm (omega arith) (omega arith) a b

jal_small : (rd imm : ℕ) → rd < 32 → word_of_instr (Jal rd imm) < 2 ^ 32
unfolding word_of_instr
jal_small rd imm a = jump_small 0x6F rd imm (omega arith) a

jalr_small : (rd rs1 imm : ℕ) → rd < 32 → rs1 < 32 → word_of_instr (Jalr rd rs1 imm) < 2 ^ 32
unfolding word_of_instr
jalr_small rd rs1 imm a b = immediate_small 0x67 0 rd rs1 imm (omega arith) (omega arith) a b

-- ---- emissions

-- each of the words is below 2 ^ 32
abbrev AreSmall : Emission → Type 0
AreSmall emission = AllByRecursion (λ word. word < 2 ^ 32) (words_of emission)

-- what is emitted, if anything is, has such words
abbrev EmitsSmall : Result Emission AsmErrorKind → Type 0
EmitsSmall result = (emission : Emission) → result ≡ Ok emission → AreSmall emission

done : (x : Emission) → AreSmall x → EmitsSmall (Ok x)
done x small emission is = subst AreSmall (ok_is x emission is) small

nothing_small : EmitsSmall (Ok emissions.Nothing)
nothing_small = done emissions.Nothing tt

wrapped_small : (n : ℤ) → word_modulo n < 2 ^ 32
wrapped_small (pos m) = let word : m % 2 ^ 32 < 2 ^ 32 = omega arith in word
wrapped_small (negsuc m) = let word : 2 ^ 32 - 1 - m % 2 ^ 32 < 2 ^ 32 = omega arith in word

address_small : (places : Places) (target : Target) (address : ℕ) → address_of places target ≡ Ok address → address < 2 ^ 32
unfolding address_of
address_small places target address is = go (value_of places target) is
  where
    go : (r : Result ℤ AsmErrorKind) → result_view word_modulo r ≡ Ok address → address < 2 ^ 32
    go (Ok n) found = subst (λ (w : ℕ). w < 2 ^ 32) (ok_is (word_modulo n) address found) (wrapped_small n)
    go (Err kind) found = absurd cc

immediate_emits : (operation : ImmediateOperation) (rd rs1 : ℕ) (n : ℤ) → rd < 32 → rs1 < 32 → EmitsSmall (immediate operation rd rs1 n)
unfolding immediate
immediate_emits operation rd rs1 n a b emission is =
    let imm = passes (immediate_at n) _ emission is in
    done (one (with_immediate operation rd rs1 imm.value)) (with_immediate_small operation rd rs1 imm.value a b, tt) emission imm.rest

shift_emits : (operation : ShiftOperation) (rd rs1 : ℕ) (n : ℤ) → rd < 32 → rs1 < 32 → EmitsSmall (shift operation rd rs1 n)
unfolding shift
shift_emits operation rd rs1 n a b emission is =
    let amount = passes (amount_at n) _ emission is in
    done (one (with_amount operation rd rs1 amount.value)) (with_amount_small operation rd rs1 amount.value a b (amount_kept n amount.value amount.first), tt) emission amount.rest

upper_emits : (operation : UpperOperation) (rd : ℕ) (n : ℤ) → rd < 32 → EmitsSmall (upper operation rd n)
unfolding upper
upper_emits operation rd n a emission is =
    let imm = passes (upper_at n) _ emission is in
    done (one (with_upper operation rd imm.value)) (with_upper_small operation rd imm.value a, tt) emission imm.rest

load_emits : (operation : LoadOperation) (rd rs1 : ℕ) (n : ℤ) → rd < 32 → rs1 < 32 → EmitsSmall (load operation rd rs1 n)
unfolding load
load_emits operation rd rs1 n a b emission is =
    let imm = passes (immediate_at n) _ emission is in
    done (one (load_of operation rd rs1 imm.value)) (load_small operation rd rs1 imm.value a b, tt) emission imm.rest

store_emits : (operation : StoreOperation) (rs2 rs1 : ℕ) (n : ℤ) → rs2 < 32 → rs1 < 32 → EmitsSmall (store operation rs2 rs1 n)
unfolding store
store_emits operation rs2 rs1 n a b emission is =
    let imm = passes (immediate_at n) _ emission is in
    done (one (store_of operation rs1 rs2 imm.value)) (store_of_small operation rs1 rs2 imm.value b a, tt) emission imm.rest

branch_emits : (places : Places) (place : ℕ) (operation : BranchOperation) (rs1 rs2 : ℕ) (target : Target) → rs1 < 32 → rs2 < 32 → EmitsSmall (branch places place operation rs1 rs2 target)
unfolding branch
branch_emits places place operation rs1 rs2 target a b emission is =
    let address = passes (address_of places target) _ emission is in
    let offset = passes (branch_offset place address.value) _ emission address.rest in
    done (one (branch_of operation rs1 rs2 offset.value)) (branch_of_small operation rs1 rs2 offset.value a b, tt) emission offset.rest

jump_emits : (places : Places) (place rd : ℕ) (target : Target) → rd < 32 → EmitsSmall (jump places place rd target)
unfolding jump
jump_emits places place rd target a emission is =
    let address = passes (address_of places target) _ emission is in
    let offset = passes (jump_offset place address.value) _ emission address.rest in
    done (one (Jal rd offset.value)) (jal_small rd offset.value a, tt) emission offset.rest

jump_register_emits : (rd rs1 : ℕ) (n : ℤ) → rd < 32 → rs1 < 32 → EmitsSmall (jump_register rd rs1 n)
unfolding jump_register
jump_register_emits rd rs1 n a b emission is =
    let imm = passes (immediate_at n) _ emission is in
    done (one (Jalr rd rs1 imm.value)) (jalr_small rd rs1 imm.value a b, tt) emission imm.rest

both_small : (rd w : ℕ) → rd < 32 → AreSmall (both_parts rd w)
both_small rd w a = (lui_small rd (high_part w * 2 ^ 12) a, (addi_small rd rd (low_part w) a a, tt))

load_number_small : (rd : ℕ) (n : ℤ) → rd < 32 → AreSmall (load_number rd n)
unfolding load_number
load_number_small rd n a = go (is_short (word_modulo n)) (low_part (word_modulo n) == 0)
  where
    go : (short clear : Bool) → AreSmall (if short then one (Addi rd 0 (word_modulo n)) else if clear then one (Lui rd (high_part (word_modulo n) * 2 ^ 12)) else both_parts rd (word_modulo n))
    go true clear = (addi_small rd 0 (word_modulo n) a (omega arith), tt)
    go false true = (lui_small rd (high_part (word_modulo n) * 2 ^ 12) a, tt)
    go false false = both_small rd (word_modulo n) a

load_address_emits : (places : Places) (rd : ℕ) (target : Target) → rd < 32 → EmitsSmall (load_address places rd target)
unfolding load_address
load_address_emits places rd target a emission is =
    let address = passes (address_of places target) _ emission is in
    done (both_parts rd address.value) (both_small rd address.value a) emission address.rest

word_emits : (places : Places) (target : Target) → EmitsSmall (word places target)
unfolding word
word_emits places target emission is =
    let address = passes (address_of places target) _ emission is in
    done (emissions.One address.value) (address_small places target address.value address.first, tt) emission address.rest

zeros_small : (count : ℕ) → AllByRecursion (λ word. word < 2 ^ 32) (replicate count 0)
zeros_small zero = tt
zeros_small (suc count) = (omega arith, zeros_small count)

zeros_emit : (n : ℤ) → EmitsSmall (zeros n)
zeros_emit (pos count) emission is = done (emissions.Zeros count) (zeros_small count) emission is
zeros_emit (negsuc n) emission is = absurd cc

fence_small : AreSmall fence
unfolding word_of_instr
fence_small = (omega arith, tt)

alone_small : (w : ℕ) → w < 2 ^ 32 → AreSmall (emissions.One w)
alone_small w small = (small, tt)

ecall_small : word_of_instr Ecall < 2 ^ 32
unfolding word_of_instr
ecall_small = omega arith

ebreak_small : word_of_instr Ebreak < 2 ^ 32
unfolding word_of_instr
ebreak_small = omega arith

-- ---- statements

pub emits_small : (places : Places) (place : ℕ) (statement : Statement) → HasRegisters statement → EmitsSmall (emission_of places place statement)
unfolding emission_of
emits_small places place (statements.Registers operation rd rs1 rs2) has = done (one (with_registers operation rd rs1 rs2)) (with_registers_small operation rd rs1 rs2 has.0 has.1 has.2, tt)
emits_small places place (statements.Immediate operation rd rs1 n) has = immediate_emits operation rd rs1 n has.0 has.1
emits_small places place (statements.Shift operation rd rs1 n) has = shift_emits operation rd rs1 n has.0 has.1
emits_small places place (statements.Upper operation rd n) has = upper_emits operation rd n has
emits_small places place (statements.Load operation rd rs1 n) has = load_emits operation rd rs1 n has.0 has.1
emits_small places place (statements.Store operation rs2 rs1 n) has = store_emits operation rs2 rs1 n has.0 has.1
emits_small places place (statements.Branch operation rs1 rs2 target) has = branch_emits places place operation rs1 rs2 target has.0 has.1
emits_small places place (statements.Jump rd target) has = jump_emits places place rd target has
emits_small places place (statements.JumpRegister rd rs1 n) has = jump_register_emits rd rs1 n has.0 has.1
emits_small places place statements.Fence has = done fence fence_small
emits_small places place statements.Ecall has = done (one Ecall) (alone_small (word_of_instr Ecall) ecall_small)
emits_small places place statements.Ebreak has = done (one Ebreak) (alone_small (word_of_instr Ebreak) ebreak_small)
emits_small places place (statements.LoadNumber rd n) has = done (load_number rd n) (load_number_small rd n has)
emits_small places place (statements.LoadAddress rd target) has = load_address_emits places rd target has
emits_small places place (statements.Version n) has = nothing_small
emits_small places place (statements.Harts n) has = nothing_small
emits_small places place (statements.Ram n) has = nothing_small
emits_small places place (statements.Heap base bytes) has = nothing_small
emits_small places place (statements.Entry hart target) has = nothing_small
emits_small places place (statements.Origin n) has = nothing_small
emits_small places place (statements.Word target) has = word_emits places target
emits_small places place (statements.Zeros n) has = zeros_emit n
emits_small places place statements.Text has = nothing_small
emits_small places place statements.Data has = nothing_small
emits_small places place (statements.Label n) has = nothing_small
emits_small places place (statements.Edge source destination) has = nothing_small
emits_small places place (statements.Compartment owner into write) has = nothing_small
