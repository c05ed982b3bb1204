-- The lines of workloads as rows, and what each adds.
use Rattle.std.proofs.Common.{◌≡◌, ◌≤◌, ℕ, [], ◌∷◌, ◌++◌, refl, ap, arith}
use Rattle.std.specs.Prelude.{codes, ℤ, pos, Some, None, Ok}
use Rattle.std.specs.Fmt.{decimal}
use Rattle.asm_table.specs.declared.forms.ImmediateOperation.TheVariants.{Addi}
use Rattle.asm_table.specs.declared.forms.StoreOperation.TheVariants.{Sw}
use Rattle.asm_table.specs.declared.forms.LoadOperation.TheVariants.{Lw}
use Rattle.asm_table.specs.Registers.{number_named, purpose_named}
use Rattle.asm_table.specs.Words.{arithmetic_named, branch_named, directive_named, form_named, immediate_named, instruction_named, load_named, other_named, pseudo_named, registers_named, shift_named, store_named, upper_named}
use Rattle.asm_text.specs.Numbers.{number_of, numeral, unsigned_of, wide_number_of}
use Rattle.asm_read.specs.declared.statements.Statement.TheVariants as statements
use Rattle.asm_read.specs.declared.statements.Target.TheVariants.{Number}
use Rattle.asm_read.specs.Addresses.{access, parts_at}
use Rattle.asm_read.specs.Directives.{compartment, directive_of, one_number, two_numbers}
use Rattle.asm_read.specs.Instructions as instructions
use Rattle.asm_read.specs.Lines.{label_in, line_of, statement_in, statement_of}
use Rattle.asm_read.specs.Operands.{Text, next_operand, no_operand, nonempty, one_operand, three_operands, two_operands}
use Rattle.asm_read.specs.Pseudo as pseudo
use Rattle.asm_read.specs.Values.{mask_at, target_at}
use Rattle.rv_decode.specs.declared.instructions.Instr.{Instr}
use Rattle.rv_decode.specs.declared.instructions.Instr.TheVariants as instrs
use Rattle.asm_words.specs.declared.emissions.Emission.TheVariants.{One}
use Rattle.asm_words.specs.Emission.{address_of, count_of, emission_of}
use Rattle.asm_words.specs.Emission as words
use Rattle.asm_words.specs.Encoding.{word_of_instr}
use Rattle.asm_words.specs.Ranges.{distance, within}
use Rattle.asm_emit.specs.declared.values.Addition.{Addition}
use Rattle.asm_emit.specs.declared.values.Addition.TheVariants as additions
use Rattle.asm_emit.specs.Values.{addition_of, compartment_at, edge_at, label_at, words_at}
use Rattle.workload_laws.proofs.NumberLemmas.{Decimal, decimal_read, jump_in_ram, number_line, short_small, wrapped_small}
use Rattle.workload_laws.proofs.StatementLemmas.{Comment, IsGood, Row, Said, unnamed}

-- ---- rows

-- a word that is the same at each place
abbrev pub word_added : Instr → ℕ → Addition
word_added instr place = additions.Words (One (word_of_instr instr))

-- a jump to an address
abbrev pub jump_added : ℕ → ℕ → ℕ → Addition
jump_added rd target place = additions.Words (One (word_of_instr (instrs.Jal rd (distance place target))))

-- what adds no word
abbrev pub mark_added : Addition → ℕ → Addition
mark_added addition place = addition

abbrev pub ecall : Row
ecall = Said (codes "ecall") statements.Ecall 1 (word_added instrs.Ecall)

pub good_ecall : IsGood ecall
unfolding line_of label_in statement_in statement_of form_named instruction_named arithmetic_named registers_named immediate_named shift_named upper_named load_named store_named branch_named other_named pseudo_named directive_named no_operand number_named purpose_named number_of unsigned_of numeral next_operand count_of addition_of words_at emission_of
good_ecall = record { line = refl; read = λ number. refl; once = λ before. refl; onward = refl; unversioned = refl; count = refl; adds = λ names place aligned inside. refl }

abbrev pub li_a7_0 : Row
li_a7_0 = Said (codes "li a7, 0") (statements.LoadNumber 17 (pos 0)) 1 (word_added (instrs.Addi 17 0 0))

pub good_li_a7_0 : IsGood li_a7_0
unfolding line_of label_in statement_in statement_of form_named instruction_named arithmetic_named registers_named immediate_named shift_named upper_named load_named store_named branch_named other_named pseudo_named directive_named two_operands pseudo.load_number words.load_number number_named purpose_named number_of unsigned_of numeral next_operand count_of addition_of words_at emission_of
good_li_a7_0 = record { line = refl; read = λ number. refl; once = λ before. refl; onward = refl; unversioned = refl; count = refl; adds = λ names place aligned inside. refl }

abbrev pub li_a7_16 : Row
li_a7_16 = Said (codes "li a7, 16") (statements.LoadNumber 17 (pos 16)) 1 (word_added (instrs.Addi 17 0 16))

pub good_li_a7_16 : IsGood li_a7_16
unfolding line_of label_in statement_in statement_of form_named instruction_named arithmetic_named registers_named immediate_named shift_named upper_named load_named store_named branch_named other_named pseudo_named directive_named two_operands pseudo.load_number words.load_number number_named purpose_named number_of unsigned_of numeral next_operand count_of addition_of words_at emission_of
good_li_a7_16 = record { line = refl; read = λ number. refl; once = λ before. refl; onward = refl; unversioned = refl; count = refl; adds = λ names place aligned inside. refl }

abbrev pub li_a7_17 : Row
li_a7_17 = Said (codes "li a7, 17") (statements.LoadNumber 17 (pos 17)) 1 (word_added (instrs.Addi 17 0 17))

pub good_li_a7_17 : IsGood li_a7_17
unfolding line_of label_in statement_in statement_of form_named instruction_named arithmetic_named registers_named immediate_named shift_named upper_named load_named store_named branch_named other_named pseudo_named directive_named two_operands pseudo.load_number words.load_number number_named purpose_named number_of unsigned_of numeral next_operand count_of addition_of words_at emission_of
good_li_a7_17 = record { line = refl; read = λ number. refl; once = λ before. refl; onward = refl; unversioned = refl; count = refl; adds = λ names place aligned inside. refl }

abbrev pub li_a7_18 : Row
li_a7_18 = Said (codes "li a7, 18") (statements.LoadNumber 17 (pos 18)) 1 (word_added (instrs.Addi 17 0 18))

pub good_li_a7_18 : IsGood li_a7_18
unfolding line_of label_in statement_in statement_of form_named instruction_named arithmetic_named registers_named immediate_named shift_named upper_named load_named store_named branch_named other_named pseudo_named directive_named two_operands pseudo.load_number words.load_number number_named purpose_named number_of unsigned_of numeral next_operand count_of addition_of words_at emission_of
good_li_a7_18 = record { line = refl; read = λ number. refl; once = λ before. refl; onward = refl; unversioned = refl; count = refl; adds = λ names place aligned inside. refl }

abbrev pub li_a7_48 : Row
li_a7_48 = Said (codes "li a7, 48") (statements.LoadNumber 17 (pos 48)) 1 (word_added (instrs.Addi 17 0 48))

pub good_li_a7_48 : IsGood li_a7_48
unfolding line_of label_in statement_in statement_of form_named instruction_named arithmetic_named registers_named immediate_named shift_named upper_named load_named store_named branch_named other_named pseudo_named directive_named two_operands pseudo.load_number words.load_number number_named purpose_named number_of unsigned_of numeral next_operand count_of addition_of words_at emission_of
good_li_a7_48 = record { line = refl; read = λ number. refl; once = λ before. refl; onward = refl; unversioned = refl; count = refl; adds = λ names place aligned inside. refl }

abbrev pub li_a7_49 : Row
li_a7_49 = Said (codes "li a7, 49") (statements.LoadNumber 17 (pos 49)) 1 (word_added (instrs.Addi 17 0 49))

pub good_li_a7_49 : IsGood li_a7_49
unfolding line_of label_in statement_in statement_of form_named instruction_named arithmetic_named registers_named immediate_named shift_named upper_named load_named store_named branch_named other_named pseudo_named directive_named two_operands pseudo.load_number words.load_number number_named purpose_named number_of unsigned_of numeral next_operand count_of addition_of words_at emission_of
good_li_a7_49 = record { line = refl; read = λ number. refl; once = λ before. refl; onward = refl; unversioned = refl; count = refl; adds = λ names place aligned inside. refl }

abbrev pub li_a0_0 : Row
li_a0_0 = Said (codes "li a0, 0") (statements.LoadNumber 10 (pos 0)) 1 (word_added (instrs.Addi 10 0 0))

pub good_li_a0_0 : IsGood li_a0_0
unfolding line_of label_in statement_in statement_of form_named instruction_named arithmetic_named registers_named immediate_named shift_named upper_named load_named store_named branch_named other_named pseudo_named directive_named two_operands pseudo.load_number words.load_number number_named purpose_named number_of unsigned_of numeral next_operand count_of addition_of words_at emission_of
good_li_a0_0 = record { line = refl; read = λ number. refl; once = λ before. refl; onward = refl; unversioned = refl; count = refl; adds = λ names place aligned inside. refl }

abbrev pub li_a0_16 : Row
li_a0_16 = Said (codes "li a0, 16") (statements.LoadNumber 10 (pos 16)) 1 (word_added (instrs.Addi 10 0 16))

pub good_li_a0_16 : IsGood li_a0_16
unfolding line_of label_in statement_in statement_of form_named instruction_named arithmetic_named registers_named immediate_named shift_named upper_named load_named store_named branch_named other_named pseudo_named directive_named two_operands pseudo.load_number words.load_number number_named purpose_named number_of unsigned_of numeral next_operand count_of addition_of words_at emission_of
good_li_a0_16 = record { line = refl; read = λ number. refl; once = λ before. refl; onward = refl; unversioned = refl; count = refl; adds = λ names place aligned inside. refl }

abbrev pub li_t0_7 : Row
li_t0_7 = Said (codes "li t0, 7") (statements.LoadNumber 5 (pos 7)) 1 (word_added (instrs.Addi 5 0 7))

pub good_li_t0_7 : IsGood li_t0_7
unfolding line_of label_in statement_in statement_of form_named instruction_named arithmetic_named registers_named immediate_named shift_named upper_named load_named store_named branch_named other_named pseudo_named directive_named two_operands pseudo.load_number words.load_number number_named purpose_named number_of unsigned_of numeral next_operand count_of addition_of words_at emission_of
good_li_t0_7 = record { line = refl; read = λ number. refl; once = λ before. refl; onward = refl; unversioned = refl; count = refl; adds = λ names place aligned inside. refl }

abbrev pub li_t0_4 : Row
li_t0_4 = Said (codes "li t0, 4") (statements.LoadNumber 5 (pos 4)) 1 (word_added (instrs.Addi 5 0 4))

pub good_li_t0_4 : IsGood li_t0_4
unfolding line_of label_in statement_in statement_of form_named instruction_named arithmetic_named registers_named immediate_named shift_named upper_named load_named store_named branch_named other_named pseudo_named directive_named two_operands pseudo.load_number words.load_number number_named purpose_named number_of unsigned_of numeral next_operand count_of addition_of words_at emission_of
good_li_t0_4 = record { line = refl; read = λ number. refl; once = λ before. refl; onward = refl; unversioned = refl; count = refl; adds = λ names place aligned inside. refl }

abbrev pub mv_a1_a0 : Row
mv_a1_a0 = Said (codes "mv a1, a0") (statements.Immediate Addi 11 10 (pos 0)) 1 (word_added (instrs.Addi 11 10 0))

pub good_mv_a1_a0 : IsGood mv_a1_a0
unfolding line_of label_in statement_in statement_of form_named instruction_named arithmetic_named registers_named immediate_named shift_named upper_named load_named store_named branch_named other_named pseudo_named directive_named two_operands pseudo.move_register words.immediate within number_named purpose_named number_of unsigned_of numeral next_operand count_of addition_of words_at emission_of
good_mv_a1_a0 = record { line = refl; read = λ number. refl; once = λ before. refl; onward = refl; unversioned = refl; count = refl; adds = λ names place aligned inside. refl }

abbrev pub mv_s0_a0 : Row
mv_s0_a0 = Said (codes "mv s0, a0") (statements.Immediate Addi 8 10 (pos 0)) 1 (word_added (instrs.Addi 8 10 0))

pub good_mv_s0_a0 : IsGood mv_s0_a0
unfolding line_of label_in statement_in statement_of form_named instruction_named arithmetic_named registers_named immediate_named shift_named upper_named load_named store_named branch_named other_named pseudo_named directive_named two_operands pseudo.move_register words.immediate within number_named purpose_named number_of unsigned_of numeral next_operand count_of addition_of words_at emission_of
good_mv_s0_a0 = record { line = refl; read = λ number. refl; once = λ before. refl; onward = refl; unversioned = refl; count = refl; adds = λ names place aligned inside. refl }

abbrev pub mv_a0_s0 : Row
mv_a0_s0 = Said (codes "mv a0, s0") (statements.Immediate Addi 10 8 (pos 0)) 1 (word_added (instrs.Addi 10 8 0))

pub good_mv_a0_s0 : IsGood mv_a0_s0
unfolding line_of label_in statement_in statement_of form_named instruction_named arithmetic_named registers_named immediate_named shift_named upper_named load_named store_named branch_named other_named pseudo_named directive_named two_operands pseudo.move_register words.immediate within number_named purpose_named number_of unsigned_of numeral next_operand count_of addition_of words_at emission_of
good_mv_a0_s0 = record { line = refl; read = λ number. refl; once = λ before. refl; onward = refl; unversioned = refl; count = refl; adds = λ names place aligned inside. refl }

abbrev pub nop : Row
nop = Said (codes "nop") (statements.Immediate Addi 0 0 (pos 0)) 1 (word_added (instrs.Addi 0 0 0))

pub good_nop : IsGood nop
unfolding line_of label_in statement_in statement_of form_named instruction_named arithmetic_named registers_named immediate_named shift_named upper_named load_named store_named branch_named other_named pseudo_named directive_named no_operand pseudo.no_operation words.immediate within number_named purpose_named number_of unsigned_of numeral next_operand count_of addition_of words_at emission_of
good_nop = record { line = refl; read = λ number. refl; once = λ before. refl; onward = refl; unversioned = refl; count = refl; adds = λ names place aligned inside. refl }

abbrev pub ret : Row
ret = Said (codes "ret") (statements.JumpRegister 0 1 (pos 0)) 1 (word_added (instrs.Jalr 0 1 0))

pub good_ret : IsGood ret
unfolding line_of label_in statement_in statement_of form_named instruction_named arithmetic_named registers_named immediate_named shift_named upper_named load_named store_named branch_named other_named pseudo_named directive_named no_operand pseudo.return_jump words.jump_register within number_named purpose_named number_of unsigned_of numeral next_operand count_of addition_of words_at emission_of
good_ret = record { line = refl; read = λ number. refl; once = λ before. refl; onward = refl; unversioned = refl; count = refl; adds = λ names place aligned inside. refl }

abbrev pub sw : Row
sw = Said (codes "sw t0, 4(s0)") (statements.Store Sw 5 8 (pos 4)) 1 (word_added (instrs.Sw 8 5 4))

pub good_sw : IsGood sw
unfolding line_of label_in statement_in statement_of form_named instruction_named arithmetic_named registers_named immediate_named shift_named upper_named load_named store_named branch_named other_named pseudo_named directive_named instructions.store access parts_at two_operands words.store within number_named purpose_named number_of unsigned_of numeral next_operand count_of addition_of words_at emission_of
good_sw = record { line = refl; read = λ number. refl; once = λ before. refl; onward = refl; unversioned = refl; count = refl; adds = λ names place aligned inside. refl }

abbrev pub lw : Row
lw = Said (codes "lw t1, 4(s0)") (statements.Load Lw 6 8 (pos 4)) 1 (word_added (instrs.Lw 6 8 4))

pub good_lw : IsGood lw
unfolding line_of label_in statement_in statement_of form_named instruction_named arithmetic_named registers_named immediate_named shift_named upper_named load_named store_named branch_named other_named pseudo_named directive_named instructions.load access parts_at two_operands words.load within number_named purpose_named number_of unsigned_of numeral next_operand count_of addition_of words_at emission_of
good_lw = record { line = refl; read = λ number. refl; once = λ before. refl; onward = refl; unversioned = refl; count = refl; adds = λ names place aligned inside. refl }

abbrev pub jalr : Row
jalr = Said (codes "jalr ra, 0(t0)") (statements.JumpRegister 1 5 (pos 0)) 1 (word_added (instrs.Jalr 1 5 0))

pub good_jalr : IsGood jalr
unfolding line_of label_in statement_in statement_of form_named instruction_named arithmetic_named registers_named immediate_named shift_named upper_named load_named store_named branch_named other_named pseudo_named directive_named instructions.jump_register access parts_at two_operands words.jump_register within number_named purpose_named number_of unsigned_of numeral next_operand count_of addition_of words_at emission_of
good_jalr = record { line = refl; read = λ number. refl; once = λ before. refl; onward = refl; unversioned = refl; count = refl; adds = λ names place aligned inside. refl }

abbrev pub label_1 : Row
label_1 = Said (codes ".label 1") (statements.Label (pos 1)) 0 (mark_added (additions.Label 1))

pub good_label_1 : IsGood label_1
unfolding line_of label_in statement_in statement_of form_named instruction_named arithmetic_named registers_named immediate_named shift_named upper_named load_named store_named branch_named other_named pseudo_named directive_named directive_of one_number one_operand label_at number_named purpose_named number_of unsigned_of numeral next_operand count_of addition_of words_at emission_of
good_label_1 = record { line = refl; read = λ number. refl; once = λ before. refl; onward = refl; unversioned = refl; count = refl; adds = λ names place aligned inside. refl }

abbrev pub label_2 : Row
label_2 = Said (codes ".label 2") (statements.Label (pos 2)) 0 (mark_added (additions.Label 2))

pub good_label_2 : IsGood label_2
unfolding line_of label_in statement_in statement_of form_named instruction_named arithmetic_named registers_named immediate_named shift_named upper_named load_named store_named branch_named other_named pseudo_named directive_named directive_of one_number one_operand label_at number_named purpose_named number_of unsigned_of numeral next_operand count_of addition_of words_at emission_of
good_label_2 = record { line = refl; read = λ number. refl; once = λ before. refl; onward = refl; unversioned = refl; count = refl; adds = λ names place aligned inside. refl }

abbrev pub label_3 : Row
label_3 = Said (codes ".label 3") (statements.Label (pos 3)) 0 (mark_added (additions.Label 3))

pub good_label_3 : IsGood label_3
unfolding line_of label_in statement_in statement_of form_named instruction_named arithmetic_named registers_named immediate_named shift_named upper_named load_named store_named branch_named other_named pseudo_named directive_named directive_of one_number one_operand label_at number_named purpose_named number_of unsigned_of numeral next_operand count_of addition_of words_at emission_of
good_label_3 = record { line = refl; read = λ number. refl; once = λ before. refl; onward = refl; unversioned = refl; count = refl; adds = λ names place aligned inside. refl }

abbrev pub label_4 : Row
label_4 = Said (codes ".label 4") (statements.Label (pos 4)) 0 (mark_added (additions.Label 4))

pub good_label_4 : IsGood label_4
unfolding line_of label_in statement_in statement_of form_named instruction_named arithmetic_named registers_named immediate_named shift_named upper_named load_named store_named branch_named other_named pseudo_named directive_named directive_of one_number one_operand label_at number_named purpose_named number_of unsigned_of numeral next_operand count_of addition_of words_at emission_of
good_label_4 = record { line = refl; read = λ number. refl; once = λ before. refl; onward = refl; unversioned = refl; count = refl; adds = λ names place aligned inside. refl }

abbrev pub label_5 : Row
label_5 = Said (codes ".label 5") (statements.Label (pos 5)) 0 (mark_added (additions.Label 5))

pub good_label_5 : IsGood label_5
unfolding line_of label_in statement_in statement_of form_named instruction_named arithmetic_named registers_named immediate_named shift_named upper_named load_named store_named branch_named other_named pseudo_named directive_named directive_of one_number one_operand label_at number_named purpose_named number_of unsigned_of numeral next_operand count_of addition_of words_at emission_of
good_label_5 = record { line = refl; read = λ number. refl; once = λ before. refl; onward = refl; unversioned = refl; count = refl; adds = λ names place aligned inside. refl }

abbrev pub edge_1_2 : Row
edge_1_2 = Said (codes ".edge 1, 2") (statements.Edge (pos 1) (pos 2)) 0 (mark_added (additions.Edge 1 2))

pub good_edge_1_2 : IsGood edge_1_2
unfolding line_of label_in statement_in statement_of form_named instruction_named arithmetic_named registers_named immediate_named shift_named upper_named load_named store_named branch_named other_named pseudo_named directive_named directive_of two_numbers two_operands edge_at number_named purpose_named number_of unsigned_of numeral next_operand count_of addition_of words_at emission_of
good_edge_1_2 = record { line = refl; read = λ number. refl; once = λ before. refl; onward = refl; unversioned = refl; count = refl; adds = λ names place aligned inside. refl }

abbrev pub edge_3_4 : Row
edge_3_4 = Said (codes ".edge 3, 4") (statements.Edge (pos 3) (pos 4)) 0 (mark_added (additions.Edge 3 4))

pub good_edge_3_4 : IsGood edge_3_4
unfolding line_of label_in statement_in statement_of form_named instruction_named arithmetic_named registers_named immediate_named shift_named upper_named load_named store_named branch_named other_named pseudo_named directive_named directive_of two_numbers two_operands edge_at number_named purpose_named number_of unsigned_of numeral next_operand count_of addition_of words_at emission_of
good_edge_3_4 = record { line = refl; read = λ number. refl; once = λ before. refl; onward = refl; unversioned = refl; count = refl; adds = λ names place aligned inside. refl }

abbrev pub edge_5_4 : Row
edge_5_4 = Said (codes ".edge 5, 4") (statements.Edge (pos 5) (pos 4)) 0 (mark_added (additions.Edge 5 4))

pub good_edge_5_4 : IsGood edge_5_4
unfolding line_of label_in statement_in statement_of form_named instruction_named arithmetic_named registers_named immediate_named shift_named upper_named load_named store_named branch_named other_named pseudo_named directive_named directive_of two_numbers two_operands edge_at number_named purpose_named number_of unsigned_of numeral next_operand count_of addition_of words_at emission_of
good_edge_5_4 = record { line = refl; read = λ number. refl; once = λ before. refl; onward = refl; unversioned = refl; count = refl; adds = λ names place aligned inside. refl }

abbrev pub comp_1 : Row
comp_1 = Said (codes ".comp 1, 0x1, 0") (statements.Compartment (pos 1) (Some 1) (Some 0)) 0 (mark_added (additions.Compartment (record { owner = 1; into = 1; write = 0 })))

pub good_comp_1 : IsGood comp_1
unfolding line_of label_in statement_in statement_of form_named instruction_named arithmetic_named registers_named immediate_named shift_named upper_named load_named store_named branch_named other_named pseudo_named directive_named directive_of compartment mask_at wide_number_of three_operands compartment_at number_named purpose_named number_of unsigned_of numeral next_operand count_of addition_of words_at emission_of
good_comp_1 = record { line = refl; read = λ number. refl; once = λ before. refl; onward = refl; unversioned = refl; count = refl; adds = λ names place aligned inside. refl }

abbrev pub comp_back : Row
comp_back = Said (codes ".comp 0, 0x2, 0") (statements.Compartment (pos 0) (Some 2) (Some 0)) 0 (mark_added (additions.Compartment (record { owner = 0; into = 2; write = 0 })))

pub good_comp_back : IsGood comp_back
unfolding line_of label_in statement_in statement_of form_named instruction_named arithmetic_named registers_named immediate_named shift_named upper_named load_named store_named branch_named other_named pseudo_named directive_named directive_of compartment mask_at wide_number_of three_operands compartment_at number_named purpose_named number_of unsigned_of numeral next_operand count_of addition_of words_at emission_of
good_comp_back = record { line = refl; read = λ number. refl; once = λ before. refl; onward = refl; unversioned = refl; count = refl; adds = λ names place aligned inside. refl }

abbrev pub comp_0 : Row
comp_0 = Said (codes ".comp 0, 0, 0") (statements.Compartment (pos 0) (Some 0) (Some 0)) 0 (mark_added (additions.Compartment (record { owner = 0; into = 0; write = 0 })))

pub good_comp_0 : IsGood comp_0
unfolding line_of label_in statement_in statement_of form_named instruction_named arithmetic_named registers_named immediate_named shift_named upper_named load_named store_named branch_named other_named pseudo_named directive_named directive_of compartment mask_at wide_number_of three_operands compartment_at number_named purpose_named number_of unsigned_of numeral next_operand count_of addition_of words_at emission_of
good_comp_0 = record { line = refl; read = λ number. refl; once = λ before. refl; onward = refl; unversioned = refl; count = refl; adds = λ names place aligned inside. refl }

abbrev pub j_20 : Row
j_20 = Said (codes "j 20") (statements.Jump 0 (Number (pos 20))) 1 (jump_added 0 20)

pub good_j_20 : IsGood j_20
unfolding line_of label_in statement_in statement_of form_named instruction_named arithmetic_named registers_named immediate_named shift_named upper_named load_named store_named branch_named other_named pseudo_named directive_named pseudo.jump_alone one_operand target_at words.jump address_of number_named purpose_named number_of unsigned_of numeral next_operand count_of addition_of words_at emission_of
good_j_20 = record { line = refl; read = λ number. refl; once = λ before. refl; onward = refl; unversioned = refl; count = refl; adds = λ names place aligned inside. rw (jump_in_ram place 20 inside (omega arith) aligned refl) refl }

abbrev pub jal_12 : Row
jal_12 = Said (codes "jal ra, 12") (statements.Jump 1 (Number (pos 12))) 1 (jump_added 1 12)

pub good_jal_12 : IsGood jal_12
unfolding line_of label_in statement_in statement_of form_named instruction_named arithmetic_named registers_named immediate_named shift_named upper_named load_named store_named branch_named other_named pseudo_named directive_named instructions.jump two_operands target_at words.jump address_of number_named purpose_named number_of unsigned_of numeral next_operand count_of addition_of words_at emission_of
good_jal_12 = record { line = refl; read = λ number. refl; once = λ before. refl; onward = refl; unversioned = refl; count = refl; adds = λ names place aligned inside. rw (jump_in_ram place 12 inside (omega arith) aligned refl) refl }

-- ---- comments

abbrev pub head_comment : Row
head_comment = Comment (codes "# Blocks of four kinds, by a sequence of numbers.")

pub good_head_comment : IsGood head_comment
unfolding line_of label_in statement_in
good_head_comment = record { line = refl; read = λ number. refl }

abbrev pub sealing_comment : Row
sealing_comment = Comment (codes "# a number is sealed and unsealed")

pub good_sealing_comment : IsGood sealing_comment
unfolding line_of label_in statement_in
good_sealing_comment = record { line = refl; read = λ number. refl }

abbrev pub heap_comment : Row
heap_comment = Comment (codes "# a block of the heap is asked for, used and freed")

pub good_heap_comment : IsGood heap_comment
unfolding line_of label_in statement_in
good_heap_comment = record { line = refl; read = λ number. refl }

abbrev pub flow_comment : Row
flow_comment = Comment (codes "# a jump by a register, and back")

pub good_flow_comment : IsGood flow_comment
unfolding line_of label_in statement_in
good_flow_comment = record { line = refl; read = λ number. refl }

abbrev pub compartments_comment : Row
compartments_comment = Comment (codes "# a call of compartment 1")

pub good_compartments_comment : IsGood compartments_comment
unfolding line_of label_in statement_in
good_compartments_comment = record { line = refl; read = λ number. refl }

abbrev pub end_comment : Row
end_comment = Comment (codes "# the end")

pub good_end_comment : IsGood end_comment
unfolding line_of label_in statement_in
good_end_comment = record { line = refl; read = λ number. refl }

-- ---- the line of a number

abbrev pub li_a0 : ℕ → Row
li_a0 n = Said (number_line n) (statements.LoadNumber 10 (pos n)) 1 (word_added (instrs.Addi 10 0 n))

first_operand : (n : ℕ) → next_operand (Some (codes " a0, " ++ decimal n)) ≡ Ok (codes "a0", Some (32 ∷ decimal n))
unfolding next_operand
first_operand n = refl

filled : (text : Text) (z : ℤ) → number_of text ≡ Some z → nonempty text ≡ Ok text
unfolding number_of
filled [] z e = absurd cc
filled (b ∷ text) z e = refl

second_operand : (n : ℕ) → Decimal n → next_operand (Some (32 ∷ decimal n)) ≡ Ok (decimal n, None)
unfolding next_operand
second_operand n cut = rw (cut.before_comma, cut.trimmed_number, filled (decimal n) (pos n) cut.value, cut.after_comma) refl

number_operands : (n : ℕ) → Decimal n → two_operands (codes " a0, " ++ decimal n) ≡ Ok (codes "a0", decimal n)
unfolding two_operands
number_operands n cut = rw (first_operand n, second_operand n cut) refl

number_loaded : (n : ℕ) → Decimal n → pseudo.load_number (codes " a0, " ++ decimal n) ≡ Ok (statements.LoadNumber 10 (pos n))
unfolding pseudo.load_number number_named purpose_named
number_loaded n cut = rw (number_operands n cut, cut.value) refl

number_said : (n : ℕ) → Decimal n → statement_in (number_line n) ≡ Ok (Some (statements.LoadNumber 10 (pos n)))
unfolding statement_in statement_of form_named instruction_named arithmetic_named registers_named immediate_named shift_named upper_named load_named store_named branch_named other_named pseudo_named directive_named
number_said n cut = rw (number_loaded n cut) refl

number_read : (number n : ℕ) → Decimal n → line_of number (number_line n) ≡ Ok (unnamed number (statements.LoadNumber 10 (pos n)))
unfolding line_of label_in
number_read number n cut = rw (cut.allowed, cut.before_hash, cut.after_colon, cut.trimmed_line, number_said n cut) refl

number_added : (n : ℕ) → n ≤ 1024 → words.load_number 10 (pos n) ≡ One (word_of_instr (instrs.Addi 10 0 n))
unfolding words.load_number
number_added n small = rw (wrapped_small n small, short_small n small) refl

pub good_li_a0 : (n : ℕ) → n ≤ 1024 → IsGood (li_a0 n)
unfolding count_of addition_of words_at emission_of
good_li_a0 n small =
    let cut = decimal_read n small in
    record {
      line = cut.line;
      read = λ number. number_read number n cut;
      once = λ before. refl;
      onward = refl;
      unversioned = refl;
      count = rw (wrapped_small n small, short_small n small) refl;
      adds = λ names place aligned inside. ap (λ emission. Ok (additions.Words emission)) (number_added n small);
    }
