-- The text of each format assembles to its word: one lemma a list of operands.
use Rattle.std.proofs.Common.{◌≡◌, ℕ, ◌+◌, ◌/◌, ◌%◌, ◌^◌, ◌<◌, true, [], ◌∷◌, ◌++◌, refl, arith}
use Rattle.std.specs.Prelude.{codes, ℤ, pos, Some, None, Ok}
use Rattle.pump_words.specs.Words.{signed}
use Rattle.rv_decode.specs.declared.instructions.Instr.TheVariants.{Jal, Jalr, Ecall, Ebreak, Fence}
use Rattle.asm_show.specs.Operands as shown
use Rattle.asm_show.specs.Statements as texts
use Rattle.asm_text.specs.Numbers.{number_of}
use Rattle.asm_table.specs.declared.forms.RegisterOperation.{RegisterOperation}
use Rattle.asm_table.specs.declared.forms.ImmediateOperation.{ImmediateOperation}
use Rattle.asm_table.specs.declared.forms.ShiftOperation.{ShiftOperation}
use Rattle.asm_table.specs.declared.forms.UpperOperation.{UpperOperation}
use Rattle.asm_table.specs.declared.forms.LoadOperation.{LoadOperation}
use Rattle.asm_table.specs.declared.forms.StoreOperation.{StoreOperation}
use Rattle.asm_table.specs.declared.forms.BranchOperation.{BranchOperation}
use Rattle.asm_table.specs.declared.forms.Directive.TheVariants as directives
use Rattle.asm_table.specs.declared.forms.Form.TheVariants as forms
use Rattle.asm_table.specs.Registers.{register_named}
use Rattle.asm_table.specs.Words.{arithmetic_named, branch_named, directive_named, form_named, immediate_named, instruction_named, load_named, other_named, pseudo_named, registers_named, shift_named, store_named, upper_named}
use Rattle.asm_read.specs.declared.statements.Statement.TheVariants as statements
use Rattle.asm_read.specs.declared.statements.Target.TheVariants as targets
use Rattle.asm_read.specs.Addresses.{access, is_plain}
use Rattle.asm_read.specs.Directives.{directive_of, word}
use Rattle.asm_read.specs.Instructions.{branch, immediate, jump, jump_register, load, registers, shift, store, upper}
use Rattle.asm_read.specs.Lines.{label_in, line_of, statement_in, statement_of}
use Rattle.asm_read.specs.Operands.{Text, no_operand}
use Rattle.asm_read.specs.Values.{target_at}
use Rattle.std.specs.List.{list_all}
use Rattle.asm_words.specs.declared.emissions.Emission.TheVariants.{One}
use Rattle.asm_words.specs.Emission as emission
use Rattle.asm_words.specs.Emission.{Places, address_of, emission_of}
use Rattle.asm_words.specs.Encoding.{word_of_instr}
use Rattle.asm_words.specs.Instructions.{branch_of, load_of, store_of, with_amount, with_immediate, with_registers, with_upper}
use Rattle.asm_words.specs.Ranges.{amount_at, branch_offset, immediate_at, jump_offset, upper_at}
use Rattle.asm_laws.specs.Reassembly.{Assembles}
use Rattle.asm_laws.proofs.OperandLemmas.{Named, Tail, line, one, parts, place_piece, tail_last, tail_next, three, two}
use Rattle.asm_laws.proofs.PieceLemmas.{Piece}
use Rattle.asm_laws.proofs.TargetLemmas as read
use Rattle.asm_laws.proofs.TargetLemmas.{branch_back, jump_back}
use Rattle.asm_laws.proofs.TextLemmas.{place_listed, placed, three_listed, two_listed}

-- ---- targets

target_read : (text : Text) (address : ℕ) → number_of text ≡ Some (pos address) → target_at text ≡ Ok (targets.Number (pos address))
unfolding target_at
target_read text address value = rw value refl

address_is : (places : Places) (address : ℕ) → address < 2 ^ 32 → address_of places (targets.Number (pos address)) ≡ Ok address
unfolding address_of
address_is places address fits = let same : address % 2 ^ 32 ≡ address = omega arith in rw same refl

-- ---- three registers

registers_read : (operation : RegisterOperation) (a b c : Text) (rd rs1 rs2 : ℕ) → Piece a → Piece b → Piece c → register_named a ≡ Some rd → register_named b ≡ Some rs1 → register_named c ≡ Some rs2
    → statement_of (forms.Registers operation) (32 ∷ (a ++ 44 ∷ 32 ∷ (b ++ 44 ∷ 32 ∷ c))) ≡ Ok (statements.Registers operation rd rs1 rs2)
unfolding statement_of registers
registers_read operation a b c rd rs1 rs2 first second third x y z = rw (three a b c first second third, x, y, z) refl

registers_emit : (places : Places) (pc w : ℕ) (operation : RegisterOperation) (rd rs1 rs2 : ℕ) → word_of_instr (with_registers operation rd rs1 rs2) ≡ w
    → emission_of places pc (statements.Registers operation rd rs1 rs2) ≡ Ok (One w)
unfolding emission_of
registers_emit places pc w operation rd rs1 rs2 is = rw is refl

pub registers_assemble : (number pc w : ℕ) (name : Text) (operation : RegisterOperation) → Named name (forms.Registers operation) → (rd rs1 rs2 : ℕ) → rd < 2 ^ 5 → rs1 < 2 ^ 5 → rs2 < 2 ^ 5
    → word_of_instr (with_registers operation rd rs1 rs2) ≡ w → Assembles number pc w (texts.with_registers name rd rs1 rs2)
registers_assemble number pc w name operation named rd rs1 rs2 rd_fits rs1_fits rs2_fits is =
    let a : read.Register rd = read.register rd rd_fits in
    let b : read.Register rs1 = read.register rs1 rs1_fits in
    let c : read.Register rs2 = read.register rs2 rs2_fits in
    record {
      statement = statements.Registers operation rd rs1 rs2;
      is_read = line number name (shown.register rd ++ 44 ∷ 32 ∷ (shown.register rs1 ++ 44 ∷ 32 ∷ shown.register rs2)) (forms.Registers operation) (statements.Registers operation rd rs1 rs2) (three_listed name (shown.register rd) (shown.register rs1) (shown.register rs2)) named
          (tail_next (shown.register rd) (shown.register rs1 ++ 44 ∷ 32 ∷ shown.register rs2) a.piece (tail_next (shown.register rs1) (shown.register rs2) b.piece (tail_last (shown.register rs2) c.piece)))
          (registers_read operation (shown.register rd) (shown.register rs1) (shown.register rs2) rd rs1 rs2 a.piece b.piece c.piece a.value b.value c.value);
      emits = λ places. registers_emit places pc w operation rd rs1 rs2 is;
    }

-- ---- two registers and an immediate

immediate_read : (operation : ImmediateOperation) (a b c : Text) (rd rs1 : ℕ) (n : ℤ) → Piece a → Piece b → Piece c → register_named a ≡ Some rd → register_named b ≡ Some rs1 → number_of c ≡ Some n
    → statement_of (forms.Immediate operation) (32 ∷ (a ++ 44 ∷ 32 ∷ (b ++ 44 ∷ 32 ∷ c))) ≡ Ok (statements.Immediate operation rd rs1 n)
unfolding statement_of immediate
immediate_read operation a b c rd rs1 n first second third x y z = rw (three a b c first second third, x, y, z) refl

immediate_emit : (places : Places) (pc w : ℕ) (operation : ImmediateOperation) (rd rs1 imm : ℕ) (n : ℤ) → immediate_at n ≡ Ok imm → word_of_instr (with_immediate operation rd rs1 imm) ≡ w
    → emission_of places pc (statements.Immediate operation rd rs1 n) ≡ Ok (One w)
unfolding emission_of emission.immediate
immediate_emit places pc w operation rd rs1 imm n back is = rw (back, is) refl

pub immediate_assemble : (number pc w : ℕ) (name : Text) (operation : ImmediateOperation) → Named name (forms.Immediate operation) → (rd rs1 imm : ℕ) → rd < 2 ^ 5 → rs1 < 2 ^ 5 → read.Immediate imm
    → word_of_instr (with_immediate operation rd rs1 imm) ≡ w → Assembles number pc w (texts.with_immediate name rd rs1 imm)
immediate_assemble number pc w name operation named rd rs1 imm rd_fits rs1_fits c is =
    let a : read.Register rd = read.register rd rd_fits in
    let b : read.Register rs1 = read.register rs1 rs1_fits in
    record {
      statement = statements.Immediate operation rd rs1 (signed imm);
      is_read = line number name (shown.register rd ++ 44 ∷ 32 ∷ (shown.register rs1 ++ 44 ∷ 32 ∷ shown.immediate imm)) (forms.Immediate operation) (statements.Immediate operation rd rs1 (signed imm)) (three_listed name (shown.register rd) (shown.register rs1) (shown.immediate imm)) named
          (tail_next (shown.register rd) (shown.register rs1 ++ 44 ∷ 32 ∷ shown.immediate imm) a.piece (tail_next (shown.register rs1) (shown.immediate imm) b.piece (tail_last (shown.immediate imm) c.piece)))
          (immediate_read operation (shown.register rd) (shown.register rs1) (shown.immediate imm) rd rs1 (signed imm) a.piece b.piece c.piece a.value b.value c.value);
      emits = λ places. immediate_emit places pc w operation rd rs1 imm (signed imm) c.back is;
    }

-- ---- two registers and the amount of a shift

shift_read : (operation : ShiftOperation) (a b c : Text) (rd rs1 : ℕ) (n : ℤ) → Piece a → Piece b → Piece c → register_named a ≡ Some rd → register_named b ≡ Some rs1 → number_of c ≡ Some n
    → statement_of (forms.Shift operation) (32 ∷ (a ++ 44 ∷ 32 ∷ (b ++ 44 ∷ 32 ∷ c))) ≡ Ok (statements.Shift operation rd rs1 n)
unfolding statement_of shift
shift_read operation a b c rd rs1 n first second third x y z = rw (three a b c first second third, x, y, z) refl

shift_emit : (places : Places) (pc w : ℕ) (operation : ShiftOperation) (rd rs1 amount : ℕ) (n : ℤ) → amount_at n ≡ Ok amount → word_of_instr (with_amount operation rd rs1 amount) ≡ w
    → emission_of places pc (statements.Shift operation rd rs1 n) ≡ Ok (One w)
unfolding emission_of emission.shift
shift_emit places pc w operation rd rs1 amount n back is = rw (back, is) refl

pub shift_assemble : (number pc w : ℕ) (name : Text) (operation : ShiftOperation) → Named name (forms.Shift operation) → (rd rs1 amount : ℕ) → rd < 2 ^ 5 → rs1 < 2 ^ 5 → read.Amount amount
    → word_of_instr (with_amount operation rd rs1 amount) ≡ w → Assembles number pc w (texts.with_amount name rd rs1 amount)
shift_assemble number pc w name operation named rd rs1 amount rd_fits rs1_fits c is =
    let a : read.Register rd = read.register rd rd_fits in
    let b : read.Register rs1 = read.register rs1 rs1_fits in
    record {
      statement = statements.Shift operation rd rs1 (pos amount);
      is_read = line number name (shown.register rd ++ 44 ∷ 32 ∷ (shown.register rs1 ++ 44 ∷ 32 ∷ shown.amount amount)) (forms.Shift operation) (statements.Shift operation rd rs1 (pos amount)) (three_listed name (shown.register rd) (shown.register rs1) (shown.amount amount)) named
          (tail_next (shown.register rd) (shown.register rs1 ++ 44 ∷ 32 ∷ shown.amount amount) a.piece (tail_next (shown.register rs1) (shown.amount amount) b.piece (tail_last (shown.amount amount) c.piece)))
          (shift_read operation (shown.register rd) (shown.register rs1) (shown.amount amount) rd rs1 (pos amount) a.piece b.piece c.piece a.value b.value c.value);
      emits = λ places. shift_emit places pc w operation rd rs1 amount (pos amount) c.back is;
    }

-- ---- a register and an upper part

upper_read : (operation : UpperOperation) (a b : Text) (rd : ℕ) (n : ℤ) → Piece a → Piece b → register_named a ≡ Some rd → number_of b ≡ Some n
    → statement_of (forms.Upper operation) (32 ∷ (a ++ 44 ∷ 32 ∷ b)) ≡ Ok (statements.Upper operation rd n)
unfolding statement_of upper
upper_read operation a b rd n first second x y = rw (two a b first second, x, y) refl

upper_emit : (places : Places) (pc w : ℕ) (operation : UpperOperation) (rd imm : ℕ) (n : ℤ) → upper_at n ≡ Ok imm → word_of_instr (with_upper operation rd imm) ≡ w
    → emission_of places pc (statements.Upper operation rd n) ≡ Ok (One w)
unfolding emission_of emission.upper
upper_emit places pc w operation rd imm n back is = rw (back, is) refl

pub upper_assemble : (number pc w : ℕ) (name : Text) (operation : UpperOperation) → Named name (forms.Upper operation) → (rd imm : ℕ) → rd < 2 ^ 5 → read.Upper imm
    → word_of_instr (with_upper operation rd imm) ≡ w → Assembles number pc w (texts.with_upper name rd imm)
upper_assemble number pc w name operation named rd imm rd_fits b is =
    let a : read.Register rd = read.register rd rd_fits in
    record {
      statement = statements.Upper operation rd (pos (imm / 2 ^ 12));
      is_read = line number name (shown.register rd ++ 44 ∷ 32 ∷ shown.upper imm) (forms.Upper operation) (statements.Upper operation rd (pos (imm / 2 ^ 12))) (two_listed name (shown.register rd) (shown.upper imm)) named
          (tail_next (shown.register rd) (shown.upper imm) a.piece (tail_last (shown.upper imm) b.piece))
          (upper_read operation (shown.register rd) (shown.upper imm) rd (pos (imm / 2 ^ 12)) a.piece b.piece a.value b.value);
      emits = λ places. upper_emit places pc w operation rd imm (pos (imm / 2 ^ 12)) b.back is;
    }

-- ---- a register and a place

access_read : (a offset base : Text) (r rs1 : ℕ) (n : ℤ) → Piece a → Piece offset → Piece base → list_all is_plain offset ≡ true → list_all is_plain base ≡ true → register_named a ≡ Some r → register_named base ≡ Some rs1
    → number_of offset ≡ Some n → access (32 ∷ (a ++ 44 ∷ 32 ∷ (offset ++ 40 ∷ (base ++ 41 ∷ [])))) ≡ Ok (r, rs1, n)
unfolding access
access_read a offset base r rs1 n first second third plain_offset plain_base x y z =
    rw (two a (offset ++ 40 ∷ (base ++ 41 ∷ [])) first (place_piece offset base second third), parts offset base plain_offset plain_base, x, y, z) refl

access_shown : (r rs1 imm : ℕ) → read.Register r → read.Register rs1 → read.Immediate imm → access (32 ∷ (shown.register r ++ 44 ∷ 32 ∷ placed imm rs1)) ≡ Ok (r, rs1, signed imm)
access_shown r rs1 imm a b c =
    access_read (shown.register r) (shown.immediate imm) (shown.register rs1) r rs1 (signed imm) a.piece c.piece b.piece c.plain b.plain a.value b.value c.value

place_tail : (r rs1 imm : ℕ) → read.Register r → read.Register rs1 → read.Immediate imm → Tail (shown.register r ++ 44 ∷ 32 ∷ placed imm rs1)
place_tail r rs1 imm a b c =
    tail_next (shown.register r) (placed imm rs1) a.piece (tail_last (placed imm rs1) (place_piece (shown.immediate imm) (shown.register rs1) c.piece b.piece))

load_read : (operation : LoadOperation) (text : Text) (rd rs1 : ℕ) (n : ℤ) → access text ≡ Ok (rd, rs1, n) → statement_of (forms.Load operation) text ≡ Ok (statements.Load operation rd rs1 n)
unfolding statement_of load
load_read operation text rd rs1 n here = rw here refl

load_emit : (places : Places) (pc w : ℕ) (operation : LoadOperation) (rd rs1 imm : ℕ) (n : ℤ) → immediate_at n ≡ Ok imm → word_of_instr (load_of operation rd rs1 imm) ≡ w
    → emission_of places pc (statements.Load operation rd rs1 n) ≡ Ok (One w)
unfolding emission_of emission.load
load_emit places pc w operation rd rs1 imm n back is = rw (back, is) refl

pub load_assemble : (number pc w : ℕ) (name : Text) (operation : LoadOperation) → Named name (forms.Load operation) → (rd rs1 imm : ℕ) → rd < 2 ^ 5 → rs1 < 2 ^ 5 → read.Immediate imm
    → word_of_instr (load_of operation rd rs1 imm) ≡ w → Assembles number pc w (texts.with_place name rd rs1 imm)
load_assemble number pc w name operation named rd rs1 imm r_fits rs1_fits c is =
    let a : read.Register rd = read.register rd r_fits in
    let b : read.Register rs1 = read.register rs1 rs1_fits in
    record {
      statement = statements.Load operation rd rs1 (signed imm);
      is_read = line number name (shown.register rd ++ 44 ∷ 32 ∷ placed imm rs1) (forms.Load operation) (statements.Load operation rd rs1 (signed imm)) (place_listed name rd rs1 imm) named (place_tail rd rs1 imm a b c)
          (load_read operation (32 ∷ (shown.register rd ++ 44 ∷ 32 ∷ placed imm rs1)) rd rs1 (signed imm) (access_shown rd rs1 imm a b c));
      emits = λ places. load_emit places pc w operation rd rs1 imm (signed imm) c.back is;
    }

store_read : (operation : StoreOperation) (text : Text) (rs2 rs1 : ℕ) (n : ℤ) → access text ≡ Ok (rs2, rs1, n) → statement_of (forms.Store operation) text ≡ Ok (statements.Store operation rs2 rs1 n)
unfolding statement_of store
store_read operation text rs2 rs1 n here = rw here refl

store_emit : (places : Places) (pc w : ℕ) (operation : StoreOperation) (rs2 rs1 imm : ℕ) (n : ℤ) → immediate_at n ≡ Ok imm → word_of_instr (store_of operation rs1 rs2 imm) ≡ w
    → emission_of places pc (statements.Store operation rs2 rs1 n) ≡ Ok (One w)
unfolding emission_of emission.store
store_emit places pc w operation rs2 rs1 imm n back is = rw (back, is) refl

pub store_assemble : (number pc w : ℕ) (name : Text) (operation : StoreOperation) → Named name (forms.Store operation) → (rs2 rs1 imm : ℕ) → rs2 < 2 ^ 5 → rs1 < 2 ^ 5 → read.Immediate imm
    → word_of_instr (store_of operation rs1 rs2 imm) ≡ w → Assembles number pc w (texts.with_place name rs2 rs1 imm)
store_assemble number pc w name operation named rs2 rs1 imm r_fits rs1_fits c is =
    let a : read.Register rs2 = read.register rs2 r_fits in
    let b : read.Register rs1 = read.register rs1 rs1_fits in
    record {
      statement = statements.Store operation rs2 rs1 (signed imm);
      is_read = line number name (shown.register rs2 ++ 44 ∷ 32 ∷ placed imm rs1) (forms.Store operation) (statements.Store operation rs2 rs1 (signed imm)) (place_listed name rs2 rs1 imm) named (place_tail rs2 rs1 imm a b c)
          (store_read operation (32 ∷ (shown.register rs2 ++ 44 ∷ 32 ∷ placed imm rs1)) rs2 rs1 (signed imm) (access_shown rs2 rs1 imm a b c));
      emits = λ places. store_emit places pc w operation rs2 rs1 imm (signed imm) c.back is;
    }

jump_register_read : (text : Text) (rd rs1 : ℕ) (n : ℤ) → access text ≡ Ok (rd, rs1, n) → statement_of forms.JumpRegister text ≡ Ok (statements.JumpRegister rd rs1 n)
unfolding statement_of jump_register
jump_register_read text rd rs1 n here = rw here refl

jump_register_emit : (places : Places) (pc w : ℕ) (rd rs1 imm : ℕ) (n : ℤ) → immediate_at n ≡ Ok imm → word_of_instr (Jalr rd rs1 imm) ≡ w
    → emission_of places pc (statements.JumpRegister rd rs1 n) ≡ Ok (One w)
unfolding emission_of emission.jump_register
jump_register_emit places pc w rd rs1 imm n back is = rw (back, is) refl

pub jump_register_assemble : (number pc w : ℕ) (name : Text) → Named name forms.JumpRegister → (rd rs1 imm : ℕ) → rd < 2 ^ 5 → rs1 < 2 ^ 5 → read.Immediate imm
    → word_of_instr (Jalr rd rs1 imm) ≡ w → Assembles number pc w (texts.with_place name rd rs1 imm)
jump_register_assemble number pc w name named rd rs1 imm r_fits rs1_fits c is =
    let a : read.Register rd = read.register rd r_fits in
    let b : read.Register rs1 = read.register rs1 rs1_fits in
    record {
      statement = statements.JumpRegister rd rs1 (signed imm);
      is_read = line number name (shown.register rd ++ 44 ∷ 32 ∷ placed imm rs1) forms.JumpRegister (statements.JumpRegister rd rs1 (signed imm)) (place_listed name rd rs1 imm) named (place_tail rd rs1 imm a b c)
          (jump_register_read (32 ∷ (shown.register rd ++ 44 ∷ 32 ∷ placed imm rs1)) rd rs1 (signed imm) (access_shown rd rs1 imm a b c));
      emits = λ places. jump_register_emit places pc w rd rs1 imm (signed imm) c.back is;
    }

-- ---- targets of branches and jumps

branch_read : (operation : BranchOperation) (a b c : Text) (rs1 rs2 address : ℕ) → Piece a → Piece b → Piece c → register_named a ≡ Some rs1 → register_named b ≡ Some rs2 → number_of c ≡ Some (pos address)
    → statement_of (forms.Branch operation) (32 ∷ (a ++ 44 ∷ 32 ∷ (b ++ 44 ∷ 32 ∷ c))) ≡ Ok (statements.Branch operation rs1 rs2 (targets.Number (pos address)))
unfolding statement_of branch
branch_read operation a b c rs1 rs2 address first second third x y z = rw (three a b c first second third, x, y, target_read c address z) refl

branch_emit : (places : Places) (pc w : ℕ) (operation : BranchOperation) (rs1 rs2 address imm : ℕ) → address < 2 ^ 32 → branch_offset pc address ≡ Ok imm → word_of_instr (branch_of operation rs1 rs2 imm) ≡ w
    → emission_of places pc (statements.Branch operation rs1 rs2 (targets.Number (pos address))) ≡ Ok (One w)
unfolding emission_of emission.branch
branch_emit places pc w operation rs1 rs2 address imm fits back is = rw (address_is places address fits, back, is) refl

pub branch_assemble : (number pc w : ℕ) (name : Text) (operation : BranchOperation) → Named name (forms.Branch operation) → (rs1 rs2 imm : ℕ) → rs1 < 2 ^ 5 → rs2 < 2 ^ 5
    → branch_offset pc ((pc + imm) % 2 ^ 32) ≡ Ok imm → word_of_instr (branch_of operation rs1 rs2 imm) ≡ w → Assembles number pc w (texts.branch name pc rs1 rs2 imm)
branch_assemble number pc w name operation named rs1 rs2 imm rs1_fits rs2_fits back is =
    let address : ℕ = (pc + imm) % 2 ^ 32 in
    let fits : (pc + imm) % 2 ^ 32 < 2 ^ 32 = omega arith in
    let a : read.Register rs1 = read.register rs1 rs1_fits in
    let b : read.Register rs2 = read.register rs2 rs2_fits in
    let c : read.Whole address = read.whole address fits in
    record {
      statement = statements.Branch operation rs1 rs2 (targets.Number (pos address));
      is_read = line number name (shown.register rs1 ++ 44 ∷ 32 ∷ (shown.register rs2 ++ 44 ∷ 32 ∷ shown.whole address)) (forms.Branch operation) (statements.Branch operation rs1 rs2 (targets.Number (pos address))) (three_listed name (shown.register rs1) (shown.register rs2) (shown.whole address)) named
          (tail_next (shown.register rs1) (shown.register rs2 ++ 44 ∷ 32 ∷ shown.whole address) a.piece (tail_next (shown.register rs2) (shown.whole address) b.piece (tail_last (shown.whole address) c.piece)))
          (branch_read operation (shown.register rs1) (shown.register rs2) (shown.whole address) rs1 rs2 address a.piece b.piece c.piece a.value b.value c.value);
      emits = λ places. branch_emit places pc w operation rs1 rs2 address imm fits back is;
    }

jump_read : (a b : Text) (rd address : ℕ) → Piece a → Piece b → register_named a ≡ Some rd → number_of b ≡ Some (pos address)
    → statement_of forms.Jump (32 ∷ (a ++ 44 ∷ 32 ∷ b)) ≡ Ok (statements.Jump rd (targets.Number (pos address)))
unfolding statement_of jump
jump_read a b rd address first second x y = rw (two a b first second, x, target_read b address y) refl

jump_emit : (places : Places) (pc w rd address imm : ℕ) → address < 2 ^ 32 → jump_offset pc address ≡ Ok imm → word_of_instr (Jal rd imm) ≡ w
    → emission_of places pc (statements.Jump rd (targets.Number (pos address))) ≡ Ok (One w)
unfolding emission_of emission.jump
jump_emit places pc w rd address imm fits back is = rw (address_is places address fits, back, is) refl

pub jump_assemble : (number pc w : ℕ) (name : Text) → Named name forms.Jump → (rd imm : ℕ) → rd < 2 ^ 5
    → jump_offset pc ((pc + imm) % 2 ^ 32) ≡ Ok imm → word_of_instr (Jal rd imm) ≡ w → Assembles number pc w (texts.jump name pc rd imm)
jump_assemble number pc w name named rd imm rd_fits back is =
    let address : ℕ = (pc + imm) % 2 ^ 32 in
    let fits : (pc + imm) % 2 ^ 32 < 2 ^ 32 = omega arith in
    let a : read.Register rd = read.register rd rd_fits in
    let b : read.Whole address = read.whole address fits in
    record {
      statement = statements.Jump rd (targets.Number (pos address));
      is_read = line number name (shown.register rd ++ 44 ∷ 32 ∷ shown.whole address) forms.Jump (statements.Jump rd (targets.Number (pos address))) (two_listed name (shown.register rd) (shown.whole address)) named
          (tail_next (shown.register rd) (shown.whole address) a.piece (tail_last (shown.whole address) b.piece))
          (jump_read (shown.register rd) (shown.whole address) rd address a.piece b.piece a.value b.value);
      emits = λ places. jump_emit places pc w rd address imm fits back is;
    }

-- ---- words alone

plain_named : Named (codes ".word") (forms.Directive directives.Word)
unfolding form_named instruction_named arithmetic_named registers_named immediate_named shift_named upper_named load_named store_named branch_named other_named pseudo_named directive_named
plain_named = record { piece = record { filled = refl; solid = refl }; found = refl }

plain_read : (a : Text) (w : ℕ) → Piece a → number_of a ≡ Some (pos w) → statement_of (forms.Directive directives.Word) (32 ∷ a) ≡ Ok (statements.Word (targets.Number (pos w)))
unfolding statement_of directive_of word
plain_read a w first x = rw (one a first, target_read a w x) refl

plain_emit : (places : Places) (pc w : ℕ) → w < 2 ^ 32 → emission_of places pc (statements.Word (targets.Number (pos w))) ≡ Ok (One w)
unfolding emission_of emission.word
plain_emit places pc w fits = rw (address_is places w fits) refl

pub plain_assembles : (number pc w : ℕ) → w < 2 ^ 32 → Assembles number pc w (texts.plain_word w)
plain_assembles number pc w fits =
    let a : read.Whole w = read.whole w fits in
    record {
      statement = statements.Word (targets.Number (pos w));
      is_read = line number (codes ".word") (shown.whole w) (forms.Directive directives.Word) (statements.Word (targets.Number (pos w))) refl plain_named
          (tail_last (shown.whole w) a.piece) (plain_read (shown.whole w) w a.piece a.value);
      emits = λ places. plain_emit places pc w fits;
    }

fence_read : (number : ℕ) → line_of number (codes "fence") ≡ Ok (record { number = number; label = None; statement = Some statements.Fence })
unfolding line_of label_in statement_in statement_of no_operand form_named instruction_named arithmetic_named registers_named immediate_named shift_named upper_named load_named store_named branch_named other_named
fence_read number = refl

fence_emit : (places : Places) (pc w : ℕ) → word_of_instr (Fence 0x0FF0000F) ≡ w → emission_of places pc statements.Fence ≡ Ok (One w)
unfolding emission_of
fence_emit places pc w is = rw is refl

pub fence_assembles : (number pc w : ℕ) → word_of_instr (Fence 0x0FF0000F) ≡ w → Assembles number pc w (codes "fence")
fence_assembles number pc w is = record { statement = statements.Fence; is_read = fence_read number; emits = λ places. fence_emit places pc w is }

ecall_read : (number : ℕ) → line_of number (codes "ecall") ≡ Ok (record { number = number; label = None; statement = Some statements.Ecall })
unfolding line_of label_in statement_in statement_of no_operand form_named instruction_named arithmetic_named registers_named immediate_named shift_named upper_named load_named store_named branch_named other_named
ecall_read number = refl

ecall_emit : (places : Places) (pc w : ℕ) → word_of_instr Ecall ≡ w → emission_of places pc statements.Ecall ≡ Ok (One w)
unfolding emission_of
ecall_emit places pc w is = rw is refl

pub ecall_assembles : (number pc w : ℕ) → word_of_instr Ecall ≡ w → Assembles number pc w (codes "ecall")
ecall_assembles number pc w is = record { statement = statements.Ecall; is_read = ecall_read number; emits = λ places. ecall_emit places pc w is }

ebreak_read : (number : ℕ) → line_of number (codes "ebreak") ≡ Ok (record { number = number; label = None; statement = Some statements.Ebreak })
unfolding line_of label_in statement_in statement_of no_operand form_named instruction_named arithmetic_named registers_named immediate_named shift_named upper_named load_named store_named branch_named other_named
ebreak_read number = refl

ebreak_emit : (places : Places) (pc w : ℕ) → word_of_instr Ebreak ≡ w → emission_of places pc statements.Ebreak ≡ Ok (One w)
unfolding emission_of
ebreak_emit places pc w is = rw is refl

pub ebreak_assembles : (number pc w : ℕ) → word_of_instr Ebreak ≡ w → Assembles number pc w (codes "ebreak")
ebreak_assembles number pc w is = record { statement = statements.Ebreak; is_read = ebreak_read number; emits = λ places. ebreak_emit places pc w is }
