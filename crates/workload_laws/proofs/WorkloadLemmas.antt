-- The rows of workloads, and that they are assembled.
use Rattle.std.proofs.Common.{◌≡◌, ℕ, zero, suc, ◌+◌, ◌*◌, ◌%◌, ◌≤◌, List, [], ◌∷◌, ◌++◌, refl, sym, ap, ◌∙◌, arith}
use Rattle.std.specs.Prelude.{codes, pos, Ok}
use Rattle.image_format.specs.declared.version.Version.TheVariants.{One}
use Rattle.asm_table.specs.Words.{arithmetic_named, branch_named, directive_named, form_named, immediate_named, instruction_named, load_named, other_named, pseudo_named, registers_named, shift_named, store_named, upper_named}
use Rattle.asm_text.specs.Numbers.{number_of, numeral, unsigned_of}
use Rattle.asm_read.specs.declared.statements.Line.{Line}
use Rattle.asm_read.specs.declared.statements.Statement.TheVariants as statements
use Rattle.asm_read.specs.declared.statements.Target.TheVariants.{Number}
use Rattle.asm_read.specs.Directives.{directive_of, entry, one_number, two_numbers}
use Rattle.asm_read.specs.Lines.{label_in, line_of, statement_in, statement_of}
use Rattle.asm_read.specs.Operands.{Text, next_operand, one_operand, two_operands}
use Rattle.asm_read.specs.Source.{lines_of, source_of}
use Rattle.asm_read.specs.Values.{target_at}
use Rattle.asm_words.specs.declared.emissions.Emission.TheVariants as emissions
use Rattle.asm_words.specs.Emission.{Places, address_of, count_of, emission_of}
use Rattle.asm_places.specs.Layouts.{layout_of}
use Rattle.asm_places.specs.Sizes.{version_of}
use Rattle.asm_places.specs.Places.{next_place, places_from}
use Rattle.asm_places.specs.Names.{place_of_name}
use Rattle.asm_emit.specs.declared.values.Addition.{Addition}
use Rattle.asm_emit.specs.declared.values.Addition.TheVariants as additions
use Rattle.asm_emit.specs.Assembled.{additions_of, picture_of_lines, image_of_source, picture_at}
use Rattle.asm_emit.specs.Draft.{empty_draft, picture_of, with_additions}
use Rattle.asm_emit.specs.Values.{addition_of, entry_at, heap_at, words_at}
use Rattle.workload.specs.declared.kinds.BlockKind.{BlockKind}
use Rattle.workload.specs.declared.kinds.BlockKind.TheVariants.{Sealing, Heap, Flow, Compartments}
use Rattle.workload.specs.Kinds.{kind_of, number_after}
use Rattle.workload.specs.Source.{block_lines, end_lines, head_lines, lines_of_blocks, lines_of_workload, source_of_workload, text_of}
use Rattle.workload_laws.proofs.RowLemmas as known
use Rattle.workload_laws.proofs.LineLemmas.{lines-text_of}
use Rattle.workload_laws.proofs.PassLemmas.{good_append, rows_added, rows_lines, rows_placed, rows_read, rows_version}
use Rattle.workload_laws.proofs.StatementLemmas.{AreGood, Comment, Row, Said, added, end, numbered, past, places, text_in, texts_of, unnamed}

-- ---- the rows

-- behind the sizes
abbrev pub head_rows : List Row
head_rows =
    known.edge_1_2 ∷ known.edge_3_4 ∷ known.edge_5_4 ∷ known.j_20 ∷ known.label_2 ∷ known.nop ∷ known.label_3 ∷ known.ret
    ∷ known.comp_1 ∷ known.nop ∷ known.label_5 ∷ known.ret ∷ known.comp_0 ∷ []

good_head : AreGood head_rows
good_head = (
  known.good_edge_1_2,
  (
    known.good_edge_3_4,
    (
      known.good_edge_5_4,
      (
        known.good_j_20,
        (
          known.good_label_2,
          (
            known.good_nop,
            (
              known.good_label_3,
              (
                known.good_ret,
                (known.good_comp_1, (known.good_nop, (known.good_label_5, (known.good_ret, (known.good_comp_0, tt))))),
              ),
            ),
          ),
        ),
      ),
    ),
  ),
)

abbrev pub sealing_rows : ℕ → List Row
sealing_rows n =
    known.sealing_comment ∷ known.li_a7_16 ∷ known.ecall ∷ known.mv_a1_a0 ∷ known.li_a0 n ∷ known.li_a7_17 ∷ known.ecall ∷ known.li_a7_18 ∷ known.ecall ∷ []

good_sealing : (n : ℕ) → n ≤ 1024 → AreGood (sealing_rows n)
good_sealing n small = (
  known.good_sealing_comment,
  (
    known.good_li_a7_16,
    (
      known.good_ecall,
      (
        known.good_mv_a1_a0,
        (
          known.good_li_a0 n small,
          (known.good_li_a7_17, (known.good_ecall, (known.good_li_a7_18, (known.good_ecall, tt)))),
        ),
      ),
    ),
  ),
)

abbrev pub heap_rows : List Row
heap_rows =
    known.heap_comment ∷ known.li_a0_16 ∷ known.li_a7_48 ∷ known.ecall ∷ known.mv_s0_a0 ∷ known.li_t0_7 ∷ known.sw ∷ known.lw
    ∷ known.mv_a0_s0 ∷ known.li_a7_49 ∷ known.ecall ∷ []

good_heap : AreGood heap_rows
good_heap = (
  known.good_heap_comment,
  (
    known.good_li_a0_16,
    (
      known.good_li_a7_48,
      (
        known.good_ecall,
        (
          known.good_mv_s0_a0,
          (
            known.good_li_t0_7,
            (
              known.good_sw,
              (
                known.good_lw,
                (known.good_mv_a0_s0, (known.good_li_a7_49, (known.good_ecall, tt))),
              ),
            ),
          ),
        ),
      ),
    ),
  ),
)

abbrev pub flow_rows : List Row
flow_rows = known.flow_comment ∷ known.li_t0_4 ∷ known.label_1 ∷ known.jalr ∷ known.label_4 ∷ known.nop ∷ []

good_flow : AreGood flow_rows
good_flow = (known.good_flow_comment, (known.good_li_t0_4, (known.good_label_1, (known.good_jalr, (known.good_label_4, (known.good_nop, tt))))))

abbrev pub compartments_rows : List Row
compartments_rows = known.compartments_comment ∷ known.jal_12 ∷ known.label_4 ∷ known.comp_back ∷ known.nop ∷ known.comp_0 ∷ []

good_compartments : AreGood compartments_rows
good_compartments = (known.good_compartments_comment, (known.good_jal_12, (known.good_label_4, (known.good_comp_back, (known.good_nop, (known.good_comp_0, tt))))))

abbrev pub end_rows : List Row
end_rows = known.end_comment ∷ known.li_a0_0 ∷ known.li_a7_0 ∷ known.ecall ∷ []

good_end : AreGood end_rows
good_end = (known.good_end_comment, (known.good_li_a0_0, (known.good_li_a7_0, (known.good_ecall, tt))))

abbrev pub block_rows : BlockKind → ℕ → List Row
block_rows Sealing index = sealing_rows (1 + index % 1024)
block_rows Heap index = heap_rows
block_rows Flow index = flow_rows
block_rows Compartments index = compartments_rows

good_block : (kind : BlockKind) (index : ℕ) → AreGood (block_rows kind index)
good_block Sealing index = good_sealing (1 + index % 1024) (omega arith)
good_block Heap index = good_heap
good_block Flow index = good_flow
good_block Compartments index = good_compartments

block_texts : (kind : BlockKind) (index : ℕ) → texts_of (block_rows kind index) ≡ block_lines kind index
block_texts Sealing index = refl
block_texts Heap index = refl
block_texts Flow index = refl
block_texts Compartments index = refl

block_end : (place : ℕ) (kind : BlockKind) (index : ℕ) → end place (block_rows kind index) ≤ place + 40
block_end place Sealing index = omega arith
block_end place Heap index = omega arith
block_end place Flow index = omega arith
block_end place Compartments index = omega arith

-- the rows of so many blocks, as their lines are
unfoldable pub rows_of_blocks : ℕ → ℕ → ℕ → List Row
rows_of_blocks zero index number = []
rows_of_blocks (suc left) index number =
    block_rows (kind_of (number_after number)) index ++ rows_of_blocks left (index + 1) (number_after number)

unfoldable pub rows_of_workload : ℕ → List Row
rows_of_workload count = head_rows ++ (rows_of_blocks count 0 count ++ end_rows)

-- ---- what holds of them

texts_of-append : (prefix rows : List Row) → texts_of (prefix ++ rows) ≡ texts_of prefix ++ texts_of rows
texts_of-append [] rows = refl
texts_of-append (row ∷ prefix) rows = ap (λ (ts : List Text). text_in row ∷ ts) (texts_of-append prefix rows)

pub end-append : (place : ℕ) (prefix rows : List Row) → end place (prefix ++ rows) ≡ end (end place prefix) rows
end-append place [] rows = refl
end-append place (Comment text ∷ prefix) rows = end-append place prefix rows
end-append place (Said text statement size addition ∷ prefix) rows = end-append (past place size) prefix rows

good_blocks : (left index number : ℕ) → AreGood (rows_of_blocks left index number)
unfolding rows_of_blocks
good_blocks zero index number = tt
good_blocks (suc left) index number =
    good_append (block_rows (kind_of (number_after number)) index) (rows_of_blocks left (index + 1) (number_after number))
    (good_block (kind_of (number_after number)) index) (good_blocks left (index + 1) (number_after number))

blocks_texts : (left index number : ℕ) → texts_of (rows_of_blocks left index number) ≡ lines_of_blocks left index number
unfolding rows_of_blocks lines_of_blocks
blocks_texts zero index number = refl
blocks_texts (suc left) index number =
    let kind = kind_of (number_after number) in
    let rest = rows_of_blocks left (index + 1) (number_after number) in
    texts_of-append (block_rows kind index) rest
    ∙ ap (λ (ts : List Text). ts ++ texts_of rest) (block_texts kind index)
    ∙ ap (λ (ts : List Text). block_lines kind index ++ ts) (blocks_texts left (index + 1) (number_after number))

blocks_end : (place left index number : ℕ) → end place (rows_of_blocks left index number) ≤ place + 40 * left
unfolding rows_of_blocks
blocks_end place zero index number = omega arith
blocks_end place (suc left) index number =
    let kind = kind_of (number_after number) in
    let here : end place (block_rows kind index) ≤ place + 40 = block_end place kind index in
    let more : end (end place (block_rows kind index)) (rows_of_blocks left (index + 1) (number_after number)) ≤ end place (block_rows kind index) + 40 * left =
    blocks_end (end place (block_rows kind index)) left (index + 1) (number_after number) in
    rw (end-append place (block_rows kind index) (rows_of_blocks left (index + 1) (number_after number))) (omega arith)

good_workload : (count : ℕ) → AreGood (rows_of_workload count)
unfolding rows_of_workload
good_workload count =
    good_append head_rows (rows_of_blocks count 0 count ++ end_rows) good_head (good_append (rows_of_blocks count 0 count) end_rows (good_blocks count 0 count) good_end)

workload_end : (count : ℕ) → count ≤ 1000 → end 0 (rows_of_workload count) ≤ 65536
unfolding rows_of_workload
workload_end count few =
    let blocks : end 20 (rows_of_blocks count 0 count) ≤ 20 + 40 * count = blocks_end 20 count 0 count in
    rw (end-append 20 (rows_of_blocks count 0 count) end_rows) (omega arith)

-- ---- the sizes

-- the lines in front
abbrev sized : List Text → List Text
sized texts =
    codes "# Blocks of four kinds, by a sequence of numbers." ∷ codes ".harts 1" ∷ codes ".ram 65536" ∷ codes ".heap 0xF000, 4096" ∷ codes ".entry 0, 0" ∷ texts

abbrev sized_lines : List Line → List Line
sized_lines lines =
    unnamed 2 (statements.Harts (pos 1)) ∷ unnamed 3 (statements.Ram (pos 65536)) ∷ unnamed 4 (statements.Heap (pos 61440) (pos 4096))
    ∷ unnamed 5 (statements.Entry (pos 0) (Number (pos 0))) ∷ lines

-- what they add
abbrev pub sized_added : List (ℕ × Addition) → List (ℕ × Addition)
sized_added more =
    (0, additions.Words emissions.Nothing) ∷ (0, additions.Words emissions.Nothing) ∷ (0, additions.Heap 61440 4096) ∷ (0, additions.Entry 0 0) ∷ more

workload_texts : (count : ℕ) → lines_of_workload count ≡ sized (texts_of (rows_of_workload count))
unfolding lines_of_workload rows_of_workload
workload_texts count =
    ap (λ (ts : List Text). head_lines ++ (ts ++ end_lines)) (sym (blocks_texts count 0 count))
    ∙ ap (λ (ts : List Text). head_lines ++ ts) (sym (texts_of-append (rows_of_blocks count 0 count) end_rows))

harts_read : line_of 2 (codes ".harts 1") ≡ Ok (unnamed 2 (statements.Harts (pos 1)))
unfolding line_of label_in statement_in statement_of form_named instruction_named arithmetic_named registers_named immediate_named shift_named upper_named load_named store_named branch_named other_named pseudo_named directive_named directive_of one_number one_operand next_operand number_of unsigned_of numeral
harts_read = refl

ram_read : line_of 3 (codes ".ram 65536") ≡ Ok (unnamed 3 (statements.Ram (pos 65536)))
unfolding line_of label_in statement_in statement_of form_named instruction_named arithmetic_named registers_named immediate_named shift_named upper_named load_named store_named branch_named other_named pseudo_named directive_named directive_of one_number one_operand next_operand number_of unsigned_of numeral
ram_read = refl

heap_read : line_of 4 (codes ".heap 0xF000, 4096") ≡ Ok (unnamed 4 (statements.Heap (pos 61440) (pos 4096)))
unfolding line_of label_in statement_in statement_of form_named instruction_named arithmetic_named registers_named immediate_named shift_named upper_named load_named store_named branch_named other_named pseudo_named directive_named directive_of two_numbers two_operands next_operand number_of unsigned_of numeral
heap_read = refl

entry_read : line_of 5 (codes ".entry 0, 0") ≡ Ok (unnamed 5 (statements.Entry (pos 0) (Number (pos 0))))
unfolding line_of label_in statement_in statement_of form_named instruction_named arithmetic_named registers_named immediate_named shift_named upper_named load_named store_named branch_named other_named pseudo_named directive_named directive_of entry two_operands next_operand target_at number_of unsigned_of numeral
entry_read = refl

sized_read : (rows : List Row) → AreGood rows → lines_of 1 (sized (texts_of rows)) ≡ Ok (sized_lines (numbered 6 rows))
unfolding lines_of
sized_read rows good = rw (known.good_head_comment.read 1, harts_read, ram_read, heap_read, entry_read, rows_read 6 rows good) refl

sized_laid : (lines : List Line) (at : List ℕ) (last : ℕ) → version_of lines ≡ Ok One → places_from 65536 (sized_lines []) 0 lines ≡ Ok (at, last)
    → layout_of (sized_lines lines) ≡ Ok (record { version = One; harts = 1; ram = 65536; places = 0 ∷ 0 ∷ 0 ∷ 0 ∷ at; end = last })
unfolding layout_of places_from next_place count_of
sized_laid lines at last first placed = rw (first, placed) refl

sized_adds : (names : Places) (lines : List Line) (at : List ℕ) (more : List (ℕ × Addition)) → additions_of One 1 65536 names lines at ≡ Ok more
    → additions_of One 1 65536 names (sized_lines lines) (0 ∷ 0 ∷ 0 ∷ 0 ∷ at) ≡ Ok (sized_added more)
unfolding additions_of addition_of words_at emission_of heap_at entry_at address_of
sized_adds names lines at more adds = rw adds refl

sized_pictured : (lines : List Line) (at : List ℕ) (last : ℕ) (more : List (ℕ × Addition)) → ((names : Places) → additions_of One 1 65536 names lines at ≡ Ok more)
    → picture_at (sized_lines lines) (record { version = One; harts = 1; ram = 65536; places = 0 ∷ 0 ∷ 0 ∷ 0 ∷ at; end = last })
    ≡ Ok (picture_of 65536 (with_additions (empty_draft One 1) (sized_added more)))
unfolding picture_at
sized_pictured lines at last more adds =
    let names : Places = place_of_name (sized_lines lines) (0 ∷ 0 ∷ 0 ∷ 0 ∷ at) last in
    rw (sized_adds names lines at more (adds names)) refl

-- ---- the image

sized_assembled : (rows : List Row) → AreGood rows → end 0 rows ≤ 65536
    → picture_of_lines (sized_lines (numbered 6 rows)) ≡ Ok (picture_of 65536 (with_additions (empty_draft One 1) (sized_added (added 0 rows))))
unfolding picture_of_lines
sized_assembled rows good inside =
    rw (sized_laid (numbered 6 rows) (places 0 rows) (end 0 rows) (rows_version 6 rows good) (rows_placed (sized_lines []) 6 0 rows good inside))
    (sized_pictured (numbered 6 rows) (places 0 rows) (end 0 rows) (added 0 rows) (λ names. rows_added names 6 0 rows good refl inside))

sized_source : (rows : List Row) → AreGood rows → source_of (text_of (sized (texts_of rows))) ≡ Ok (sized_lines (numbered 6 rows))
unfolding source_of
sized_source rows good = rw (lines-text_of (sized (texts_of rows)) (rows_lines rows good)) (sized_read rows good)

pub workload_assembled : (count : ℕ) → count ≤ 1000
    → image_of_source (source_of_workload count) ≡ Ok (picture_of 65536 (with_additions (empty_draft One 1) (sized_added (added 0 (rows_of_workload count)))))
unfolding image_of_source source_of_workload
workload_assembled count few =
    let good : AreGood (rows_of_workload count) = good_workload count in
    rw (workload_texts count, sized_source (rows_of_workload count) good) (sized_assembled (rows_of_workload count) good (workload_end count few))
