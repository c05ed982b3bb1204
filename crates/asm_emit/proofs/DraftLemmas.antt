-- What lines add keeps what an image needs, and the additions of lines are made one behind the other.
use Rattle.std.proofs.Common.{◌≡◌, ℕ, zero, suc, ◌+◌, ◌-◌, ◌*◌, ◌%◌, ◌^◌, ◌<◌, ◌≤◌, true, false, List, [], ◌∷◌, ◌++◌, length, get_or, drop, refl, sym, ap, subst, ◌∙◌, arith}
use Rattle.std.specs.Prelude.{replicate, Option, Some, Result, Ok, Err, slice_set}
use Rattle.std.specs.List.{AllByRecursion, list_all}
use Rattle.std.specs.Option.{unwrap_or}
use Rattle.std.proofs.lemmas.Bool.Decides.{nat_tests}
use Rattle.std.proofs.lemmas.List.{drop_more, length-drop}
use Rattle.std.proofs.lemmas.List.Elements.{recursion_from_All}
use Rattle.image_format.specs.declared.version.Version.{Version}
use Rattle.image_format.specs.declared.version.Version.TheVariants.{One, Two}
use Rattle.image_format.specs.declared.rows.Edge as rows
use Rattle.image_format.specs.Conditions.{is_heap_base, is_heap_bytes, is_place, is_ram, is_u32, extent_of, is_segment, is_clear_of, is_range, is_label, is_label_after, is_compartment, is_compartment_after, whole}
use Rattle.asm_read.specs.declared.errors.AsmError.{AsmError}
use Rattle.asm_read.specs.declared.statements.Line.{Line}
use Rattle.asm_read.specs.Source.{at_line}
use Rattle.shared_terms.specs.Steps.{◌>>=◌}
use Rattle.asm_words.specs.Emission.{Places, words_of}
use Rattle.asm_emit.specs.declared.marks.Marks.{Marks}
use Rattle.asm_emit.specs.declared.values.Addition.{Addition}
use Rattle.asm_emit.specs.declared.values.Addition.TheVariants.{Nothing, Words, Heap, Entry, Code, Data, Edge, Compartment}
use Rattle.asm_emit.specs.declared.values.Addition.TheVariants as additions
use Rattle.asm_emit.specs.Assembled.{additions_of, draft_with}
use Rattle.asm_emit.specs.Edges.{edges_in_order}
use Rattle.asm_emit.specs.Draft.{Draft, empty_draft, picture_of, with_addition, with_marked, with_words}
use Rattle.asm_places.specs.Counts.{count_in}
use Rattle.asm_emit.specs.Kept.{ArePlaced, HasRoom, IsAddition, IsDraft, compartment_end, is_label_id, is_protection, label_end, place_or}
use Rattle.asm_emit.specs.Runs.{no_protection, range_end}
use Rattle.asm_emit.specs.Values.{addition_in}
use Rattle.asm_emit.proofs.RowLemmas.{code_kept, compartments_kept, labels_kept, raised, segments_kept}

-- ---- words

pub later : (ram place next : ℕ) (draft : Draft) → place ≤ next → IsDraft ram place draft → IsDraft ram next draft
later ram place next draft le kept = record {
  heap_base = kept.heap_base;
  heap_bytes = kept.heap_bytes;
  entries = kept.entries;
  segments = raised extent_of (is_segment ram) is_clear_of range_end place next draft.segments le kept.segments;
  code = raised whole (is_range ram) is_clear_of range_end place next draft.code le kept.code;
  labels = raised whole (is_label ram) is_label_after label_end place next draft.labels le kept.labels;
  compartments = raised whole (is_compartment draft.version ram) is_compartment_after compartment_end place next draft.compartments le kept.compartments;
  label = kept.label;
  protection = kept.protection;
}

word_kept : (ram place address word : ℕ) (draft : Draft) → is_u32 word ≡ true → place ≤ address → address % 4 ≡ 0 → address + 4 ≤ ram → IsDraft ram place draft → IsDraft ram (address + 4) (with_marked draft address word)
word_kept ram place address word draft small le aligned inside kept = record {
  heap_base = kept.heap_base;
  heap_bytes = kept.heap_bytes;
  entries = kept.entries;
  segments = segments_kept ram place address word draft.segments small le aligned inside kept.segments;
  code = code_kept ram place address draft.marks.is_code draft.code le aligned inside kept.code;
  labels = labels_kept ram place address draft.marks.label draft.labels kept.label le aligned inside kept.labels;
  compartments = compartments_kept draft.version ram place address draft.marks.protection draft.compartments kept.protection le aligned inside kept.compartments;
  label = refl;
  protection = kept.protection;
}

small_word : (word : ℕ) → word < 2 ^ 32 → is_u32 word ≡ true
small_word word below = grind (arith, nat_tests)

next_aligned : (address : ℕ) → address % 4 ≡ 0 → (address + 4) % 4 ≡ 0
next_aligned address aligned = omega (arith, aligned)

words_kept : (ram next address : ℕ) (words : List ℕ) (draft : Draft) → AllByRecursion (λ word. word < 2 ^ 32) words → address % 4 ≡ 0 → address + 4 * length words ≤ next → next ≤ ram
    → IsDraft ram address draft → IsDraft ram next (with_words draft address words)
unfolding with_words
words_kept ram next address [] draft small aligned ends inside kept = later ram address next draft (omega (arith, ends)) kept
words_kept ram next address (word ∷ words) draft small aligned ends inside kept =
    let here : address + 4 ≤ ram = omega (arith, ends, inside) in
    let more : (address + 4) + 4 * length words ≤ next = omega (arith, ends) in
    words_kept ram next (address + 4) words (with_marked draft address word) small.1 (next_aligned address aligned) more inside
    (word_kept ram address address word draft (small_word word small.0) (omega arith) aligned here kept)

-- ---- additions

-- an entry that fits, in place of another
entry_kept : (ram : ℕ) (entries : List ℕ) (hart address : ℕ) → list_all (is_place ram) entries ≡ true → is_place ram address ≡ true → list_all (is_place ram) (slice_set entries hart address) ≡ true
entry_kept ram [] hart address fit fits = refl
entry_kept ram (entry ∷ entries) zero address fit fits =
    let others : list_all (is_place ram) entries ≡ true = grind (arith, fit) in
    rw (fits, others) refl
entry_kept ram (entry ∷ entries) (suc hart) address fit fits =
    let first : is_place ram entry ≡ true = grind (arith, fit) in
    let others : list_all (is_place ram) entries ≡ true = grind (arith, fit) in
    rw first (entry_kept ram entries hart address others fits)

with_heap : (ram next base bytes : ℕ) (draft : Draft) → is_heap_base ram base ≡ true → is_heap_bytes ram base bytes ≡ true → IsDraft ram next draft → IsDraft ram next (record draft { heap_base = base; heap_bytes = bytes })
with_heap ram next base bytes draft lies ends kept = record {
  heap_base = lies;
  heap_bytes = ends;
  entries = kept.entries;
  segments = kept.segments;
  code = kept.code;
  labels = kept.labels;
  compartments = kept.compartments;
  label = kept.label;
  protection = kept.protection;
}

with_entries : (ram next : ℕ) (entries : List ℕ) (draft : Draft) → list_all (is_place ram) entries ≡ true → IsDraft ram next draft → IsDraft ram next (record draft { entries = entries })
with_entries ram next entries draft fit kept = record {
  heap_base = kept.heap_base;
  heap_bytes = kept.heap_bytes;
  entries = fit;
  segments = kept.segments;
  code = kept.code;
  labels = kept.labels;
  compartments = kept.compartments;
  label = kept.label;
  protection = kept.protection;
}

with_edges : (ram next : ℕ) (edges : List (ℕ × ℕ)) (draft : Draft) → IsDraft ram next draft → IsDraft ram next (record draft { edges = edges })
with_edges ram next edges draft kept = record {
  heap_base = kept.heap_base;
  heap_bytes = kept.heap_bytes;
  entries = kept.entries;
  segments = kept.segments;
  code = kept.code;
  labels = kept.labels;
  compartments = kept.compartments;
  label = kept.label;
  protection = kept.protection;
}

with_marks : (ram next : ℕ) (marks : Marks) (draft : Draft) → is_label_id marks.label ≡ true → is_protection draft.version marks.protection ≡ true → IsDraft ram next draft → IsDraft ram next (record draft { marks = marks })
with_marks ram next marks draft labelled protected kept = record {
  heap_base = kept.heap_base;
  heap_bytes = kept.heap_bytes;
  entries = kept.entries;
  segments = kept.segments;
  code = kept.code;
  labels = kept.labels;
  compartments = kept.compartments;
  label = labelled;
  protection = protected;
}

pub addition_kept : (harts ram place next : ℕ) (count : Option ℕ) (draft : Draft) (addition : Addition) → place % 4 ≡ 0 → place + 4 * unwrap_or count 0 ≤ next → next ≤ ram
    → IsAddition draft.version harts ram count addition → IsDraft ram place draft → IsDraft ram next (with_addition draft place addition)
unfolding with_addition
addition_kept harts ram place next count draft Nothing aligned ends inside is kept = (later ram place next draft (omega (arith, ends)) kept)
addition_kept harts ram place next count draft (Words emission) aligned ends inside is kept =
    let counted : place + 4 * length (words_of emission) ≤ next = subst (λ (c : Option ℕ). place + 4 * unwrap_or c 0 ≤ next) is.1 ends in
    words_kept ram next place (words_of emission) draft (recursion_from_All (λ word. word < 2 ^ 32) (words_of emission) is.0) aligned counted inside kept
addition_kept harts ram place next count draft (Heap base bytes) aligned ends inside is kept =
    let lies : is_heap_base ram base ≡ true = grind (arith, is) in
    let long : is_heap_bytes ram base bytes ≡ true = grind (arith, is) in
    with_heap ram next base bytes draft lies long (later ram place next draft (omega (arith, ends)) kept)
addition_kept harts ram place next count draft (Entry hart address) aligned ends inside is kept =
    let fits : is_place ram address ≡ true = grind (arith, is) in
    with_entries ram next (slice_set draft.entries hart address) draft (entry_kept ram draft.entries hart address kept.entries fits) (later ram place next draft (omega (arith, ends)) kept)
addition_kept harts ram place next count draft Code aligned ends inside is kept = with_marks ram next (record draft.marks { is_code = true }) draft kept.label kept.protection (later ram place next draft (omega (arith, ends)) kept)
addition_kept harts ram place next count draft Data aligned ends inside is kept = with_marks ram next (record draft.marks { is_code = false }) draft kept.label kept.protection (later ram place next draft (omega (arith, ends)) kept)
addition_kept harts ram place next count draft (additions.Label id) aligned ends inside is kept = with_marks ram next (record draft.marks { label = Some id }) draft is kept.protection (later ram place next draft (omega (arith, ends)) kept)
addition_kept harts ram place next count draft (Edge source target) aligned ends inside is kept = with_edges ram next (draft.edges ++ (source, target) ∷ []) draft (later ram place next draft (omega (arith, ends)) kept)
addition_kept harts ram place next count draft (Compartment protection) aligned ends inside is kept = with_marks ram next (record draft.marks { protection = protection }) draft kept.label is (later ram place next draft (omega (arith, ends)) kept)

-- the words of an addition have addresses, and its hart has an entry
pub has_room : (version : Version) (harts ram place next entered : ℕ) (count : Option ℕ) (addition : Addition) → place + 4 * unwrap_or count 0 ≤ next → next ≤ ram → is_ram ram ≡ true → entered ≡ harts
    → IsAddition version harts ram count addition → HasRoom entered place addition
has_room version harts ram place next entered count Nothing ends inside small same is = tt
has_room version harts ram place next entered count (Words emission) ends inside small same is =
    let counted : place + 4 * length (words_of emission) ≤ next = subst (λ (c : Option ℕ). place + 4 * unwrap_or c 0 ≤ next) is.1 ends in
    let most : ram ≤ 16777216 = grind (arith, nat_tests, small) in
    omega (arith, counted, inside, most)
has_room version harts ram place next entered count (Heap base bytes) ends inside small same is = tt
has_room version harts ram place next entered count (Entry hart address) ends inside small same is =
    let below : hart + 1 ≤ harts = grind (arith, nat_tests, is) in
    omega (arith, below, same)
has_room version harts ram place next entered count Code ends inside small same is = tt
has_room version harts ram place next entered count Data ends inside small same is = tt
has_room version harts ram place next entered count (additions.Label id) ends inside small same is = tt
has_room version harts ram place next entered count (Edge source target) ends inside small same is = tt
has_room version harts ram place next entered count (Compartment protection) ends inside small same is = tt

-- the number of entries stays
words_entries : (draft : Draft) (address : ℕ) (words : List ℕ) → (with_words draft address words).entries ≡ draft.entries
unfolding with_words
words_entries draft address [] = refl
words_entries draft address (word ∷ words) = words_entries (with_marked draft address word) (address + 4) words

length-set : (xs : List ℕ) (i x : ℕ) → length (slice_set xs i x) ≡ length xs
length-set [] i x = refl
length-set (y ∷ xs) zero x = refl
length-set (y ∷ xs) (suc i) x = ap suc (length-set xs i x)

pub entries_kept : (draft : Draft) (place : ℕ) (addition : Addition) → length (with_addition draft place addition).entries ≡ length draft.entries
unfolding with_addition
entries_kept draft place Nothing = refl
entries_kept draft place (Words emission) = ap (λ (xs : List ℕ). length xs) (words_entries draft place (words_of emission))
entries_kept draft place (Heap base bytes) = refl
entries_kept draft place (Entry hart address) = length-set draft.entries hart address
entries_kept draft place Code = refl
entries_kept draft place Data = refl
entries_kept draft place (additions.Label id) = refl
entries_kept draft place (Edge source target) = refl
entries_kept draft place (Compartment protection) = refl

-- the version stays
words_version : (draft : Draft) (address : ℕ) (words : List ℕ) → (with_words draft address words).version ≡ draft.version
unfolding with_words
words_version draft address [] = refl
words_version draft address (word ∷ words) = words_version (with_marked draft address word) (address + 4) words

pub version_kept : (draft : Draft) (place : ℕ) (addition : Addition) → (with_addition draft place addition).version ≡ draft.version
unfolding with_addition
version_kept draft place Nothing = refl
version_kept draft place (Words emission) = words_version draft place (words_of emission)
version_kept draft place (Heap base bytes) = refl
version_kept draft place (Entry hart address) = refl
version_kept draft place Code = refl
version_kept draft place Data = refl
version_kept draft place (additions.Label id) = refl
version_kept draft place (Edge source target) = refl
version_kept draft place (Compartment protection) = refl

-- ---- the lines, one behind the other

-- one more addition, and those behind it
regroup : (draft : Draft) (place : ℕ) (addition : Addition) (others : Result (List (ℕ × Addition)) AsmError)
    → draft_with draft (others >>= λ more. Ok ((place, addition) ∷ more)) ≡ draft_with (with_addition draft place addition) others
regroup draft place addition (Ok more) = refl
regroup draft place addition (Err error) = refl

pub goes_on : (version : Version) (harts ram : ℕ) (names : Places) (draft : Draft) (left : List Line) (places : List ℕ) (line : Line) (place : ℕ) (lines : List Line) (others : List ℕ) (addition : Addition) (total : Result Draft AsmError)
    → left ≡ line ∷ lines → places ≡ place ∷ others → at_line line.number (addition_in version harts ram names place line.statement) ≡ Ok addition
    → draft_with draft (additions_of version harts ram names left places) ≡ total → draft_with (with_addition draft place addition) (additions_of version harts ram names lines others) ≡ total
unfolding additions_of
goes_on version harts ram names draft left places line place lines others addition total first second given so_far =
    let one : draft_with draft (additions_of version harts ram names left places) ≡ draft_with (with_addition draft place addition) (additions_of version harts ram names lines others) =
    rw (first, second, given) (regroup draft place addition (additions_of version harts ram names lines others)) in
    sym one ∙ so_far

pub stops : (version : Version) (harts ram : ℕ) (names : Places) (error : AsmError) (draft : Draft) (left : List Line) (places : List ℕ) (line : Line) (place : ℕ) (lines : List Line) (others : List ℕ) (total : Result Draft AsmError)
    → left ≡ line ∷ lines → places ≡ place ∷ others → at_line line.number (addition_in version harts ram names place line.statement) ≡ Err error
    → draft_with draft (additions_of version harts ram names left places) ≡ total → total ≡ Err error
unfolding additions_of
stops version harts ram names error draft left places line place lines others total first second refused so_far =
    let one : draft_with draft (additions_of version harts ram names left places) ≡ Err error = rw (first, second, refused) refl in
    sym so_far ∙ one

pub is_done : (version : Version) (harts ram : ℕ) (names : Places) (draft : Draft) (left : List Line) (places : List ℕ) (total : Result Draft AsmError) → length left ≡ 0
    → draft_with draft (additions_of version harts ram names left places) ≡ total → total ≡ Ok draft
unfolding additions_of
is_done version harts ram names draft [] places total none so_far = sym so_far
is_done version harts ram names draft (line ∷ left) places total none so_far = absurd (omega arith)

-- ---- places

-- where lines stand, they stand within the RAM
pub first_inside : (ram : ℕ) (lines : List Line) (places : List ℕ) → length places ≡ length lines → ArePlaced ram lines places → place_or ram places ≤ ram
first_inside ram lines [] same placed = omega arith
first_inside ram [] (place ∷ places) same placed = absurd (omega arith)
first_inside ram (line ∷ lines) (place ∷ places) same placed =
    let rest = first_inside ram lines places (omega (arith, same)) placed.2 in
    omega (arith, placed.1, rest)

-- the line and the place at an index, and what is left behind them
pub record IsTurn (ram : ℕ) (lines : List Line) (places : List ℕ) (i : ℕ) (line : Line) (place : ℕ) : Type 0 where
  pub line_first : drop i lines ≡ line ∷ drop (i + 1) lines
  pub place_first : drop i places ≡ place ∷ drop (i + 1) places
  pub aligned : place % 4 ≡ 0
  pub ends : place + 4 * unwrap_or (count_in line.statement) 0 ≤ place_or ram (drop (i + 1) places)
  pub inside : place_or ram (drop (i + 1) places) ≤ ram
  pub placed : ArePlaced ram (drop (i + 1) lines) (drop (i + 1) places)

both_placed : (ram : ℕ) (left : List Line) (places : List ℕ) (line : Line) (place : ℕ) (lines : List Line) (others : List ℕ) → left ≡ line ∷ lines → places ≡ place ∷ others → ArePlaced ram left places → ArePlaced ram (line ∷ lines) (place ∷ others)
both_placed ram left places line place lines others first second placed = subst (λ (ps : List ℕ). ArePlaced ram (line ∷ lines) ps) second (subst (λ (ls : List Line). ArePlaced ram ls places) first placed)

pub turn : (ram : ℕ) (lines : List Line) (places : List ℕ) (i : ℕ) (line : Line) (place : ℕ) → i < length lines → line ≡ get_or lines i line → place ≡ get_or places i place → length places ≡ length lines
    → ArePlaced ram (drop i lines) (drop i places) → IsTurn ram lines places i line place
turn ram lines places i line place below line-is place-is same placed =
    let first : drop i lines ≡ line ∷ drop (i + 1) lines = drop_more lines i line below ∙ ap (λ (x : Line). x ∷ drop (i + 1) lines) (sym line-is) in
    let second : drop i places ≡ place ∷ drop (i + 1) places = drop_more places i place (omega (arith, below, same)) ∙ ap (λ (x : ℕ). x ∷ drop (i + 1) places) (sym place-is) in
    let now = both_placed ram (drop i lines) (drop i places) line place (drop (i + 1) lines) (drop (i + 1) places) first second placed in
    let lengths : length (drop (i + 1) places) ≡ length (drop (i + 1) lines) = omega (arith, same, length-drop (i + 1) places, length-drop (i + 1) lines) in
    record {
      line_first = first;
      place_first = second;
      aligned = now.0;
      ends = now.1;
      inside = first_inside ram (drop (i + 1) lines) (drop (i + 1) places) lengths now.2;
      placed = now.2;
    }

-- a draft without anything
pub empty_kept : (version : Version) (harts ram place : ℕ) → is_ram ram ≡ true → IsDraft ram place (empty_draft version harts)
empty_kept version harts ram place small = record {
  heap_base = grind (arith, nat_tests);
  heap_bytes = grind (arith, nat_tests);
  entries = entries harts;
  segments = record { in_order = refl; below = refl; few = omega arith };
  code = record { in_order = refl; below = refl; few = omega arith };
  labels = record { in_order = refl; below = refl; few = omega arith };
  compartments = record { in_order = refl; below = refl; few = omega arith };
  label = refl;
  protection = unprotected version;
}
  where
    unprotected : (v : Version) → is_protection v no_protection ≡ true
    unprotected One = refl
    unprotected Two = refl

    at_zero : is_place ram 0 ≡ true
    at_zero = grind (arith, nat_tests, small)

    entries : (n : ℕ) → list_all (is_place ram) (replicate n 0) ≡ true
    entries zero = refl
    entries (suc n) = rw at_zero (entries n)

-- ---- zeros

-- one of the zeros is put, and the others are left
pub zero_put : (draft : Draft) (address count i : ℕ) (total : Draft) → i < count → with_words draft address (replicate (count - i) 0) ≡ total → with_words (with_marked draft address 0) (address + 4) (replicate (count - (i + 1)) 0) ≡ total
unfolding with_words
zero_put draft address count i total below left =
    let e : count - i ≡ suc (count - (i + 1)) = omega (arith, below) in
    subst (λ (n : ℕ). with_words draft address (replicate n 0) ≡ total) e left

pub zeros_done : (draft : Draft) (address count i : ℕ) (total : Draft) → count ≤ i → with_words draft address (replicate (count - i) 0) ≡ total → draft ≡ total
unfolding with_words
zeros_done draft address count i total none left =
    let e : count - i ≡ 0 = omega (arith, none) in
    subst (λ (n : ℕ). with_words draft address (replicate n 0) ≡ total) e left

-- ---- the picture

-- the picture of a draft, whose edges are in order
pub pictured : (ram : ℕ) (draft : Draft) (edges : List rows.Edge) → edges ≡ edges_in_order draft.edges → record (picture_of ram draft) { edges = edges } ≡ picture_of ram draft
pictured ram draft edges is = ap (λ (e : List rows.Edge). record (picture_of ram draft) { edges = e }) is
