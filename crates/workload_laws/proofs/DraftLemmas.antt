-- The draft that a workload's lines make, and its image.
use Rattle.std.proofs.Common.{◌≡◌, ℕ, zero, suc, ◌+◌, ◌*◌, ◌≤◌, Bool, true, false, List, [], ◌∷◌, ◌++◌, length, length-append, append_assoc, refl, sym, ap, ◌∙◌, arith}
use Rattle.std.specs.Prelude.{◌==◌, map, Option, Some, None}
use Rattle.std.proofs.lemmas.List.{append-nil}
use Rattle.std.proofs.lemmas.Bool.Decides.{nat_tests}
use Rattle.rv_decode.specs.declared.instructions.Instr.{Instr}
use Rattle.rv_decode.specs.declared.instructions.Instr.TheVariants.{Jal, Jalr, Addi, Ecall}
use Rattle.image_format.specs.declared.version.Version.TheVariants.{One}
use Rattle.image_format.specs.declared.rows.Edge.{Edge}
use Rattle.image_format.specs.declared.rows.Label.{Label}
use Rattle.image_format.specs.Picture.{CompartmentRow}
use Rattle.asm_lists.proofs.EdgeLemmas.{edge_from_pair, pair_from_edge}
use Rattle.asm_words.specs.Encoding.{word_of_instr}
use Rattle.asm_words.specs.Ranges.{distance}
use Rattle.asm_emit.specs.declared.marks.Marks.{Marks}
use Rattle.asm_emit.specs.declared.marks.Protection.{Protection}
use Rattle.asm_emit.specs.declared.values.Addition.{Addition}
use Rattle.asm_emit.specs.Draft.{Draft, empty_draft, first_marks, picture_of, with_addition, with_additions, with_marked, with_words}
use Rattle.asm_emit.specs.Edges.{edges_in_order}
use Rattle.asm_emit.proofs.EdgeOrderLemmas.{edges_are}
use Rattle.asm_emit.specs.Runs.{is_same_protection, joined_compartment, no_protection, protected_range, protection_of, one_word_range, range_end, with_label, with_protected, with_run}
use Rattle.workload.specs.declared.kinds.BlockKind.{BlockKind}
use Rattle.workload.specs.declared.kinds.BlockKind.TheVariants.{Sealing, Heap, Flow, Compartments}
use Rattle.workload.specs.Kinds.{kind_of, number_after}
use Rattle.workload_laws.specs.Images.{Program, block_compartments, block_instructions, head_program, image_of_program, image_of_workload, with_block, with_blocks, with_end}
use Rattle.workload_laws.proofs.RowLemmas.{word_added}
use Rattle.workload_laws.proofs.StatementLemmas.{Comment, Row, Said, added, end, past}
use Rattle.workload_laws.proofs.WorkloadLemmas.{block_rows, end_rows, head_rows, rows_of_blocks, rows_of_workload, sized_added}

-- ---- drafts

-- a draft of one run of code from 0 on
abbrev drafted : List ℕ → ℕ → List Label → List CompartmentRow → Marks → Draft
drafted words count labels compartments marks = record {
  version = One;
  heap_base = 61440;
  heap_bytes = 4096;
  entries = 0 ∷ [];
  segments = (record { address = 0; words = words }) ∷ [];
  code = (record { address = 0; words = count }) ∷ [];
  labels = labels;
  edges = (1, 2) ∷ (3, 4) ∷ (5, 4) ∷ [];
  compartments = compartments;
  marks = marks;
}

abbrev draft_of : Program → Draft
draft_of program = drafted program.words (length program.words) program.labels program.compartments first_marks

drafted_same : (words words' : List ℕ) (n n' : ℕ) (labels labels' : List Label) (ranges ranges' : List CompartmentRow) → words ≡ words' → n ≡ n' → labels ≡ labels' → ranges ≡ ranges'
    → drafted words n labels ranges first_marks ≡ drafted words' n' labels' ranges' first_marks
drafted_same words words' n n' labels labels' ranges ranges' a b c d = rw (a, b, c, d) refl

abbrev marked : Option ℕ → Protection → Marks
marked label protection = record { is_code = true; label = label; protection = protection }

-- one word more
word_drafted : (words : List ℕ) (count : ℕ) (labels : List Label) (ranges : List CompartmentRow) (label : Option ℕ) (protection : Protection) (place word : ℕ)
    → 4 * length words ≡ place → 4 * count ≡ place
    → with_marked (drafted words count labels ranges (marked label protection)) place word
    ≡ drafted (words ++ word ∷ []) (count + 1) (with_label label labels place) (with_protected protection ranges place) (marked None protection)
word_drafted words count labels ranges label protection place word words_end code_end =
    let here : (0 + 4 * length words == place) ≡ true = grind (arith, nat_tests) in
    let there : (0 + 4 * count == place) ≡ true = grind (arith, nat_tests) in
    rw (here, there) refl

-- ---- plain words

abbrev words_added : ℕ → List Instr → List (ℕ × Addition)
words_added place [] = []
words_added place (instr ∷ instrs) = (place, word_added instr place) ∷ words_added (place + 4) instrs

plain_drafted : (instrs : List Instr) (words : List ℕ) (count : ℕ) (labels : List Label) (ranges : List CompartmentRow) (place : ℕ) → 4 * length words ≡ place → 4 * count ≡ place
    → with_additions (drafted words count labels ranges first_marks) (words_added place instrs)
    ≡ drafted (words ++ map word_of_instr instrs) (count + length instrs) labels ranges first_marks
unfolding with_addition with_words
plain_drafted [] words count labels ranges place words_end code_end =
    drafted_same words (words ++ []) count (count + 0) labels labels ranges ranges (sym (append-nil words)) (omega arith) refl refl
plain_drafted (instr ∷ instrs) words count labels ranges place words_end code_end =
    ap (λ (d : Draft). with_additions d (words_added (place + 4) instrs)) (word_drafted words count labels ranges None no_protection place (word_of_instr instr) words_end code_end)
    ∙ plain_drafted instrs (words ++ word_of_instr instr ∷ []) (count + 1) labels ranges (place + 4) (omega (arith, length-append words (word_of_instr instr ∷ []))) (omega arith)
    ∙ drafted_same ((words ++ word_of_instr instr ∷ []) ++ map word_of_instr instrs) (words ++ map word_of_instr (instr ∷ instrs)) (count + 1 + length instrs) (count + length (instr ∷ instrs)) labels labels ranges ranges
    (append_assoc words (word_of_instr instr ∷ []) (map word_of_instr instrs)) (omega arith) refl refl

-- ---- compartment ranges

-- the ranges end at a place or below it
abbrev EndBy : ℕ → List CompartmentRow → Type 0
EndBy place [] = Unit {0}
EndBy place (row ∷ rows) = (range_end row.range ≤ place) × EndBy place rows

ends_later : (place later : ℕ) (rows : List CompartmentRow) → place ≤ later → EndBy place rows → EndBy later rows
ends_later place later [] up ends = tt
ends_later place later (row ∷ rows) up ends = let here : range_end row.range ≤ place = ends.0 in (omega arith, ends_later place later rows up ends.1)

ends_append : (place : ℕ) (prefix rows : List CompartmentRow) → EndBy place prefix → EndBy place rows → EndBy place (prefix ++ rows)
ends_append place [] rows ends more = more
ends_append place (row ∷ prefix) rows ends more = (ends.0, ends_append place prefix rows ends.1 more)

-- ranges that end below an address aren't joined with a word there
run_apart : (place address : ℕ) (protection : Protection) (rows : List CompartmentRow) → EndBy place rows → suc place ≤ address
    → with_run joined_compartment rows (protected_range protection (one_word_range address)) ≡ rows ++ protected_range protection (one_word_range address) ∷ []
run_apart place address protection [] ends below = refl
run_apart place address protection (last ∷ []) ends below =
    let end : range_end last.range ≤ place = ends.0 in
    let apart : (range_end last.range == address) ≡ false = grind (arith, nat_tests) in
    go apart (is_same_protection (protection_of last) protection) refl
  where
    go : (range_end last.range == address) ≡ false → (t : Bool) → is_same_protection (protection_of last) protection ≡ t
        → with_run joined_compartment (last ∷ []) (protected_range protection (one_word_range address)) ≡ (last ∷ []) ++ protected_range protection (one_word_range address) ∷ []
    go apart true e = rw (e, apart) refl
    go apart false e = rw e refl
run_apart place address protection (first ∷ second ∷ rows) ends below = ap (λ (rs : List CompartmentRow). first ∷ rs) (run_apart place address protection (second ∷ rows) ends.1 below)

-- ---- blocks

-- what a line says of the next word, or of the words from here on
abbrev with_mark : ℕ → Draft → Draft
with_mark id draft = record draft { marks = record draft.marks { label = Some id } }

abbrev with_guard : Protection → Draft → Draft
with_guard protection draft = record draft { marks = record draft.marks { protection = protection } }

-- where the words of a program end
abbrev behind : Program → ℕ
behind program = 4 * length program.words

sealing_drafted : (index : ℕ) (program : Program) → with_additions (draft_of program) (added (behind program) (block_rows Sealing index)) ≡ draft_of (with_block Sealing index program)
sealing_drafted index program =
    let instrs : List Instr = block_instructions Sealing index (behind program) in
    let words : List ℕ = program.words in
    plain_drafted instrs words (length words) program.labels program.compartments (behind program) refl refl
    ∙ drafted_same (words ++ map word_of_instr instrs) (words ++ map word_of_instr instrs) (length words + 8) (length (words ++ map word_of_instr instrs))
    program.labels (program.labels ++ []) program.compartments (program.compartments ++ [])
    refl (sym (length-append words (map word_of_instr instrs))) (sym (append-nil program.labels)) (sym (append-nil program.compartments))

heap_drafted : (index : ℕ) (program : Program) → with_additions (draft_of program) (added (behind program) (block_rows Heap index)) ≡ draft_of (with_block Heap index program)
heap_drafted index program =
    let instrs : List Instr = block_instructions Heap index (behind program) in
    let words : List ℕ = program.words in
    plain_drafted instrs words (length words) program.labels program.compartments (behind program) refl refl
    ∙ drafted_same (words ++ map word_of_instr instrs) (words ++ map word_of_instr instrs) (length words + 10) (length (words ++ map word_of_instr instrs))
    program.labels (program.labels ++ []) program.compartments (program.compartments ++ [])
    refl (sym (length-append words (map word_of_instr instrs))) (sym (append-nil program.labels)) (sym (append-nil program.compartments))

end_drafted : (program : Program) → with_additions (draft_of program) (added (behind program) end_rows) ≡ draft_of (with_end program)
end_drafted program =
    let instrs : List Instr = Addi 10 0 0 ∷ Addi 17 0 0 ∷ Ecall ∷ [] in
    let words : List ℕ = program.words in
    plain_drafted instrs words (length words) program.labels program.compartments (behind program) refl refl
    ∙ drafted_same (words ++ map word_of_instr instrs) (words ++ map word_of_instr instrs) (length words + 3) (length (words ++ map word_of_instr instrs))
    program.labels program.labels program.compartments program.compartments
    refl (sym (length-append words (map word_of_instr instrs))) refl refl

-- three words, the second and the third with a label
labelled_words : (words : List ℕ) (labels : List Label) (ranges : List CompartmentRow) (a b c : ℕ)
    → with_marked (with_mark 4 (with_marked (with_mark 1 (with_marked (drafted words (length words) labels ranges first_marks) (4 * length words) a)) (4 * length words + 4) b)) (4 * length words + 4 + 4) c
    ≡ drafted (words ++ a ∷ b ∷ c ∷ []) (length (words ++ a ∷ b ∷ c ∷ []))
    (labels ++ (record { address = 4 * length words + 4; id = 1 }) ∷ (record { address = 4 * length words + 8; id = 4 }) ∷ []) (ranges ++ []) first_marks
labelled_words words labels ranges a b c =
    let place : ℕ = 4 * length words in
    let n : ℕ = length words in
    let first_label : Label = record { address = place + 4; id = 1 } in
    let second_label : Label = record { address = place + 4 + 4; id = 4 } in
    let one : List ℕ = words ++ a ∷ [] in
    let two : List ℕ = one ++ b ∷ [] in
    let one_long : length one ≡ n + 1 = length-append words (a ∷ []) in
    let two_long : length two ≡ n + 1 + 1 = omega (arith, length-append one (b ∷ [])) in
    let address : place + 4 + 4 ≡ place + 8 = omega arith in
    ap (λ (d : Draft). with_marked (with_mark 4 (with_marked (with_mark 1 d) (place + 4) b)) (place + 4 + 4) c)
    (word_drafted words n labels ranges None no_protection place a refl refl)
    ∙ ap (λ (d : Draft). with_marked (with_mark 4 d) (place + 4 + 4) c)
    (word_drafted one (n + 1) labels ranges (Some 1) no_protection (place + 4) b (omega arith) (omega arith))
    ∙ word_drafted two (n + 1 + 1) (labels ++ first_label ∷ []) ranges (Some 4) no_protection (place + 4 + 4) c (omega arith) (omega arith)
    ∙ drafted_same (two ++ c ∷ []) (words ++ a ∷ b ∷ c ∷ []) (n + 1 + 1 + 1) (length (words ++ a ∷ b ∷ c ∷ []))
    ((labels ++ first_label ∷ []) ++ second_label ∷ []) (labels ++ first_label ∷ (record { address = place + 8; id = 4 }) ∷ []) ranges (ranges ++ [])
    (append_assoc one (b ∷ []) (c ∷ []) ∙ append_assoc words (a ∷ []) (b ∷ c ∷ []))
    (omega (arith, length-append words (a ∷ b ∷ c ∷ [])))
    (append_assoc labels (first_label ∷ []) (second_label ∷ []) ∙ ap (λ (at : ℕ). labels ++ first_label ∷ (record { address = at; id = 4 }) ∷ []) address)
    (sym (append-nil ranges))

flow_drafted : (index : ℕ) (program : Program) → with_additions (draft_of program) (added (behind program) (block_rows Flow index)) ≡ draft_of (with_block Flow index program)
unfolding with_addition with_words
flow_drafted index program =
    labelled_words program.words program.labels program.compartments (word_of_instr (Addi 5 0 4)) (word_of_instr (Jalr 1 5 0)) (word_of_instr (Addi 0 0 0))

-- the word behind a call is compartment 0's, and compartment 1 may jump to it
abbrev guard : Protection
guard = record { owner = 0; into = 2; write = 0 }

guarded_words : (words : List ℕ) (labels : List Label) (ranges : List CompartmentRow) (a b : ℕ) → EndBy (4 * length words) ranges
    → with_guard no_protection (with_marked (with_guard guard (with_mark 4 (with_marked (drafted words (length words) labels ranges first_marks) (4 * length words) a))) (4 * length words + 4) b)
    ≡ drafted (words ++ a ∷ b ∷ []) (length (words ++ a ∷ b ∷ [])) (labels ++ (record { address = 4 * length words + 4; id = 4 }) ∷ [])
    (ranges ++ protected_range guard (one_word_range (4 * length words + 4)) ∷ []) first_marks
guarded_words words labels ranges a b ends =
    let place : ℕ = 4 * length words in
    let n : ℕ = length words in
    let one : List ℕ = words ++ a ∷ [] in
    let one_long : length one ≡ n + 1 = length-append words (a ∷ []) in
    ap (λ (d : Draft). with_guard no_protection (with_marked (with_guard guard (with_mark 4 d)) (place + 4) b))
    (word_drafted words n labels ranges None no_protection place a refl refl)
    ∙ ap (λ (d : Draft). with_guard no_protection d)
    (word_drafted one (n + 1) labels ranges (Some 4) guard (place + 4) b (omega arith) (omega arith))
    ∙ drafted_same (one ++ b ∷ []) (words ++ a ∷ b ∷ []) (n + 1 + 1) (length (words ++ a ∷ b ∷ []))
    (labels ++ (record { address = place + 4; id = 4 }) ∷ []) (labels ++ (record { address = place + 4; id = 4 }) ∷ [])
    (with_protected guard ranges (place + 4)) (ranges ++ protected_range guard (one_word_range (place + 4)) ∷ [])
    (append_assoc words (a ∷ []) (b ∷ [])) (omega (arith, length-append words (a ∷ b ∷ []))) refl
    (run_apart place (place + 4) guard ranges ends (omega arith))

compartments_drafted : (index : ℕ) (program : Program) → EndBy (behind program) program.compartments
    → with_additions (draft_of program) (added (behind program) (block_rows Compartments index)) ≡ draft_of (with_block Compartments index program)
unfolding with_addition with_words
compartments_drafted index program ends =
    guarded_words program.words program.labels program.compartments (word_of_instr (Jal 1 (distance (behind program) 12))) (word_of_instr (Addi 0 0 0)) ends

block_drafted : (kind : BlockKind) (index : ℕ) (program : Program) → EndBy (behind program) program.compartments
    → with_additions (draft_of program) (added (behind program) (block_rows kind index)) ≡ draft_of (with_block kind index program)
block_drafted Sealing index program ends = sealing_drafted index program
block_drafted Heap index program ends = heap_drafted index program
block_drafted Flow index program ends = flow_drafted index program
block_drafted Compartments index program ends = compartments_drafted index program ends

-- where a block ends, with all ranges so far
block_behind : (kind : BlockKind) (index : ℕ) (program : Program) → end (behind program) (block_rows kind index) ≡ behind (with_block kind index program)
block_behind Sealing index program = omega (arith, length-append program.words (map word_of_instr (block_instructions Sealing index (behind program))))
block_behind Heap index program = omega (arith, length-append program.words (map word_of_instr (block_instructions Heap index (behind program))))
block_behind Flow index program = omega (arith, length-append program.words (map word_of_instr (block_instructions Flow index (behind program))))
block_behind Compartments index program = omega (arith, length-append program.words (map word_of_instr (block_instructions Compartments index (behind program))))

block_later : (kind : BlockKind) (index : ℕ) (program : Program) → behind program + 8 ≤ behind (with_block kind index program)
block_later Sealing index program = omega (arith, length-append program.words (map word_of_instr (block_instructions Sealing index (behind program))))
block_later Heap index program = omega (arith, length-append program.words (map word_of_instr (block_instructions Heap index (behind program))))
block_later Flow index program = omega (arith, length-append program.words (map word_of_instr (block_instructions Flow index (behind program))))
block_later Compartments index program = omega (arith, length-append program.words (map word_of_instr (block_instructions Compartments index (behind program))))

new_ends : (kind : BlockKind) (place : ℕ) → EndBy (place + 8) (block_compartments kind place)
new_ends Sealing place = tt
new_ends Heap place = tt
new_ends Flow place = tt
new_ends Compartments place = (omega arith, tt)

block_ends : (kind : BlockKind) (index : ℕ) (program : Program) → EndBy (behind program) program.compartments
    → EndBy (behind (with_block kind index program)) (with_block kind index program).compartments
block_ends kind index program ends =
    let later : behind program + 8 ≤ behind (with_block kind index program) = block_later kind index program in
    let last : ℕ = behind (with_block kind index program) in
    ends_append last program.compartments (block_compartments kind (behind program))
    (ends_later (behind program) last program.compartments (omega arith) ends)
    (ends_later (behind program + 8) last (block_compartments kind (behind program)) later (new_ends kind (behind program)))

-- ---- workloads

added-append : (place : ℕ) (prefix rows : List Row) → added place (prefix ++ rows) ≡ added place prefix ++ added (end place prefix) rows
added-append place [] rows = refl
added-append place (Comment text ∷ prefix) rows = added-append place prefix rows
added-append place (Said text statement size addition ∷ prefix) rows =
    ap (λ (more : List (ℕ × Addition)). (place, addition place) ∷ more) (added-append (past place size) prefix rows)

additions-append : (draft : Draft) (prefix more : List (ℕ × Addition)) → with_additions draft (prefix ++ more) ≡ with_additions (with_additions draft prefix) more
additions-append draft [] more = refl
additions-append draft (first ∷ prefix) more = additions-append (with_addition draft first.0 first.1) prefix more

-- a block and what follows
block_and_more : (kind : BlockKind) (index : ℕ) (program : Program) (rows : List Row) → EndBy (behind program) program.compartments
    → with_additions (draft_of program) (added (behind program) (block_rows kind index ++ rows))
    ≡ with_additions (draft_of (with_block kind index program)) (added (behind (with_block kind index program)) rows)
block_and_more kind index program rows ends =
    let block : List Row = block_rows kind index in
    ap (λ (all : List (ℕ × Addition)). with_additions (draft_of program) all) (added-append (behind program) block rows)
    ∙ additions-append (draft_of program) (added (behind program) block) (added (end (behind program) block) rows)
    ∙ ap (λ (d : Draft). with_additions d (added (end (behind program) block) rows)) (block_drafted kind index program ends)
    ∙ ap (λ (place : ℕ). with_additions (draft_of (with_block kind index program)) (added place rows)) (block_behind kind index program)

blocks_drafted : (left index number : ℕ) (program : Program) → EndBy (behind program) program.compartments
    → with_additions (draft_of program) (added (behind program) (rows_of_blocks left index number ++ end_rows)) ≡ draft_of (with_end (with_blocks left index number program))
unfolding rows_of_blocks with_blocks
blocks_drafted zero index number program ends = end_drafted program
blocks_drafted (suc left) index number program ends =
    let kind : BlockKind = kind_of (number_after number) in
    let rest : List Row = rows_of_blocks left (index + 1) (number_after number) in
    ap (λ (rows : List Row). with_additions (draft_of program) (added (behind program) rows)) (append_assoc (block_rows kind index) rest end_rows)
    ∙ block_and_more kind index program (rest ++ end_rows) ends
    ∙ blocks_drafted left (index + 1) (number_after number) (with_block kind index program) (block_ends kind index program ends)

head_drafted : (rows : List Row) → with_additions (empty_draft One 1) (sized_added (added 0 (head_rows ++ rows))) ≡ with_additions (draft_of head_program) (added 20 rows)
unfolding with_addition with_words
head_drafted rows = refl

abbrev image_pairs : List (ℕ × ℕ)
image_pairs = (1, 2) ∷ (3, 4) ∷ (5, 4) ∷ []

abbrev image_edges : List Edge
image_edges = (record { source = 1; target = 2 }) ∷ (record { source = 3; target = 4 }) ∷ (record { source = 5; target = 4 }) ∷ []

program_pictured : (program : Program) → picture_of 65536 (draft_of program) ≡ image_of_program program
program_pictured program =
    let ordered : image_edges ≡ edges_in_order image_pairs =
    edges_are image_pairs image_edges refl (λ edge. (pair_from_edge image_pairs edge, edge_from_pair image_pairs edge)) in
    ap (λ (edges : List Edge). record (image_of_program program) { edges = edges }) (sym ordered)

pub workload_pictured : (count : ℕ) → picture_of 65536 (with_additions (empty_draft One 1) (sized_added (added 0 (rows_of_workload count)))) ≡ image_of_workload count
unfolding rows_of_workload image_of_workload
workload_pictured count =
    ap (λ (d : Draft). picture_of 65536 d)
    (head_drafted (rows_of_blocks count 0 count ++ end_rows) ∙ blocks_drafted count 0 count head_program (omega arith, tt))
    ∙ program_pictured (with_end (with_blocks count 0 count head_program))
