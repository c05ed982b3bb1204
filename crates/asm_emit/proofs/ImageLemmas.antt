-- A source that is assembled gives an image of the format.
use Rattle.std.proofs.Common.{◌≡◌, ℕ, ◌+◌, ◌^◌, ◌<◌, ◌≤◌, Bool, true, List, [], ◌∷◌, length, refl, sym, subst, ◌∙◌, arith}
use Rattle.std.specs.Prelude.{Option, Ok}
use Rattle.std.specs.List.{list_all}
use Rattle.std.proofs.lemmas.Bool.Decides.{nat_tests}
use Rattle.std.proofs.lemmas.List.{length-append, length-replicate}
use Rattle.std.proofs.lemmas.List.Folds.{list_all-append}
use Rattle.image_format.specs.declared.version.Version.{Version}
use Rattle.image_format.specs.Conditions.{IsImage, IsList, is_edge, is_edge_after, is_harts, is_ram, whole}
use Rattle.asm_read.specs.declared.statements.Line.{Line}
use Rattle.asm_read.specs.Source.{at_line, source_of}
use Rattle.asm_read.proofs.LineLemmas.{of_line}
use Rattle.asm_words.specs.Emission.{Places}
use Rattle.asm_places.specs.Counts.{count_in}
use Rattle.asm_places.specs.Layouts.{Layout, layout_of}
use Rattle.asm_places.specs.Names.{place_of_name}
use Rattle.asm_places.specs.Places.{places_from}
use Rattle.asm_places.specs.Sizes.{harts_of, ram_of, version_of}
use Rattle.asm_places.proofs.PlaceLemmas.{all_placed}
use Rattle.asm_places.proofs.SizeLemmas.{harts_fit, ram_fits}
use Rattle.asm_emit.specs.declared.values.Addition.{Addition}
use Rattle.asm_emit.specs.declared.values.Addition.TheVariants as additions
use Rattle.asm_emit.specs.Assembled.{additions_of, picture_of_lines, image_of_source, picture_at}
use Rattle.asm_emit.specs.Draft.{Draft, empty_draft, picture_of, with_addition, with_additions}
use Rattle.asm_emit.specs.Edges.{edges_in_order}
use Rattle.asm_emit.specs.Emitted.{edge_in, edges_of}
use Rattle.asm_emit.specs.ImageLaws.{AreImages}
use Rattle.asm_emit.specs.Kept.{ArePlaced, AreUpTo, IsAddition, IsDraft, place_or}
use Rattle.asm_emit.specs.Values.{addition_in}
use Rattle.asm_emit.proofs.AdditionLemmas.{addition_fits}
use Rattle.asm_emit.proofs.DraftLemmas.{addition_kept, empty_kept, entries_kept, first_inside, version_kept}
use Rattle.asm_emit.proofs.EdgeLemmas.{edge_rows, few_edges, is_pair}
use Rattle.asm_emit.proofs.EmittedLemmas.{made_of_words}
use Rattle.asm_emit.proofs.PlaceLemmas.{are_placed}
use Rattle.asm_emit.proofs.SourceLemmas.{HaveRegisters, source_read}
use Rattle.shared_terms.proofs.StepLemmas.{ok_is}
use Rattle.asm_emit.proofs.StepLemmas.{passes}

-- ---- the draft of all lines

all_kept : (version : Version) (harts ram : ℕ) (names : Places) (draft : Draft) (lines : List Line) (places : List ℕ) (all : List (ℕ × Addition)) → draft.version ≡ version → 1 ≤ harts → HaveRegisters lines → length places ≡ length lines
    → ArePlaced ram lines places → IsDraft ram (place_or ram places) draft → additions_of version harts ram names lines places ≡ Ok all → IsDraft ram ram (with_additions draft all)
unfolding additions_of
all_kept version harts ram names draft [] [] all same_version some has same placed kept is = subst (λ (xs : List (ℕ × Addition)). IsDraft ram ram (with_additions draft xs)) (ok_is [] all is) kept
all_kept version harts ram names draft [] (place ∷ places) all same_version some has same placed kept is = absurd (omega arith)
all_kept version harts ram names draft (line ∷ lines) [] all same_version some has same placed kept is = absurd (omega arith)
all_kept version harts ram names draft (line ∷ lines) (place ∷ places) all same_version some has same placed kept is =
    let added = passes (at_line line.number (addition_in version harts ram names place line.statement)) _ all is in
    let others = passes (additions_of version harts ram names lines places) _ all added.rest in
    let fits = addition_fits version harts ram names place line.statement added.value some has.0 (of_line line.number (addition_in version harts ram names place line.statement) added.value added.first) in
    let lengths : length places ≡ length lines = omega (arith, same) in
    let inside = first_inside ram lines places lengths placed.2 in
    let own = subst (λ (v : Version). IsAddition v harts ram (count_in line.statement) added.value) (sym same_version) fits in
    let next = addition_kept harts ram place (place_or ram places) (count_in line.statement) draft added.value placed.0 placed.1 inside own kept in
    subst (λ (xs : List (ℕ × Addition)). IsDraft ram ram (with_additions draft xs)) (ok_is _ all others.rest)
    (all_kept version harts ram names (with_addition draft place added.value) lines places others.value (version_kept draft place added.value ∙ same_version) some has.1 lengths placed.2 next others.first)

all_entered : (draft : Draft) (all : List (ℕ × Addition)) → length (with_additions draft all).entries ≡ length draft.entries
all_entered draft [] = refl
all_entered draft (first ∷ more) = all_entered (with_addition draft first.0 first.1) more ∙ entries_kept draft first.0 first.1

-- ---- the edges of all lines

edge_fits : (version : Version) (harts ram : ℕ) (count : Option ℕ) (addition : Addition) → IsAddition version harts ram count addition → list_all is_pair (edge_in addition) ≡ true
edge_fits version harts ram count additions.Nothing is = refl
edge_fits version harts ram count (additions.Words emission) is = refl
edge_fits version harts ram count (additions.Heap base bytes) is = refl
edge_fits version harts ram count (additions.Entry hart address) is = refl
edge_fits version harts ram count additions.Code is = refl
edge_fits version harts ram count additions.Data is = refl
edge_fits version harts ram count (additions.Label id) is = refl
edge_fits version harts ram count (additions.Edge source target) is = rw is refl
edge_fits version harts ram count (additions.Compartment protection) is = refl

one_edge : (addition : Addition) → length (edge_in addition) ≤ 1
one_edge additions.Nothing = omega arith
one_edge (additions.Words emission) = omega arith
one_edge (additions.Heap base bytes) = omega arith
one_edge (additions.Entry hart address) = omega arith
one_edge additions.Code = omega arith
one_edge additions.Data = omega arith
one_edge (additions.Label id) = omega arith
one_edge (additions.Edge source target) = omega arith
one_edge (additions.Compartment protection) = omega arith

-- the edges of so many lines
record AreEdges (lines : ℕ) (all : List (ℕ × Addition)) : Type 0 where
  few : length (edges_of all) ≤ lines
  fit : list_all is_pair (edges_of all) ≡ true

no_edges : (lines : ℕ) → AreEdges lines []
unfolding edges_of
no_edges lines = record { few = omega arith; fit = refl }

one_more : (version : Version) (harts ram lines : ℕ) (count : Option ℕ) (place : ℕ) (addition : Addition) (more : List (ℕ × Addition)) → IsAddition version harts ram count addition → AreEdges lines more → AreEdges (lines + 1) ((place, addition) ∷ more)
unfolding edges_of
one_more version harts ram lines count place addition more is edges =
    record {
      few = omega (arith, length-append (edge_in addition) (edges_of more), one_edge addition, edges.few);
      fit = list_all-append is_pair (edge_in addition) (edges_of more) ∙ rw (edge_fits version harts ram count addition is, edges.fit) refl;
    }

all_edges : (version : Version) (harts ram : ℕ) (names : Places) (lines : List Line) (places : List ℕ) (all : List (ℕ × Addition)) → 1 ≤ harts → HaveRegisters lines
    → additions_of version harts ram names lines places ≡ Ok all → AreEdges (length lines) all
unfolding additions_of
all_edges version harts ram names [] places all some has is = subst (AreEdges 0) (ok_is [] all is) (no_edges 0)
all_edges version harts ram names (line ∷ lines) [] all some has is = subst (AreEdges (length (line ∷ lines))) (ok_is [] all is) (no_edges (length (line ∷ lines)))
all_edges version harts ram names (line ∷ lines) (place ∷ places) all some has is =
    let added = passes (at_line line.number (addition_in version harts ram names place line.statement)) _ all is in
    let others = passes (additions_of version harts ram names lines places) _ all added.rest in
    let fits = addition_fits version harts ram names place line.statement added.value some has.0 (of_line line.number (addition_in version harts ram names place line.statement) added.value added.first) in
    let more = one_more version harts ram (length lines) (count_in line.statement) place added.value others.value fits (all_edges version harts ram names lines places others.value some has.1 others.first) in
    let here : AreEdges (length (line ∷ lines)) ((place, added.value) ∷ others.value) = record { few = omega (arith, more.few); fit = more.fit } in
    subst (AreEdges (length (line ∷ lines))) (ok_is _ all others.rest) here

-- ---- the layout

-- its sizes are in their ranges, and there is a place for each line
record IsLayout (lines : List Line) (layout : Layout) : Type 0 where
  harts : is_harts layout.harts ≡ true
  ram : is_ram layout.ram ≡ true
  count : length layout.places ≡ length lines

is_layout : (lines : List Line) (layout : Layout) → layout_of lines ≡ Ok layout → IsLayout lines layout
unfolding layout_of
is_layout lines layout is =
    let version = passes (version_of lines) _ layout is in
    let harts = passes (harts_of lines) _ layout version.rest in
    let ram = passes (ram_of lines) _ layout harts.rest in
    let found = passes (places_from ram.value [] 0 lines) _ layout ram.rest in
    let fits : IsLayout lines (record { version = version.value; harts = harts.value; ram = ram.value; places = found.value.0; end = found.value.1 }) =
    record { harts = harts_fit lines harts.value harts.first; ram = ram_fits lines ram.value ram.first; count = (all_placed ram.value lines found.value found.first).count } in
    subst (IsLayout lines) (ok_is _ layout found.rest) fits

-- ---- the image

-- four bytes can count rows of which there are no more than words of the RAM
counted_rows : {A B : Type 0} (part : B → A) (fits : B → Bool) (follows : A → A → Bool) (end : A → ℕ) (ram : ℕ) (rows : List B) → is_ram ram ≡ true → AreUpTo part fits follows end ram rows → IsList part fits follows rows
counted_rows part fits follows end ram rows small kept =
    let most : ram ≤ 16777216 = grind (arith, nat_tests, small) in
    let count : length rows < 2 ^ 32 = omega (arith, most, kept.few) in
    record { count = grind (arith, nat_tests, count); rows = kept.in_order }

counted_edges : (pairs : List (ℕ × ℕ)) → length pairs < 2 ^ 32 → list_all is_pair pairs ≡ true → IsList whole is_edge is_edge_after (edges_in_order pairs)
counted_edges pairs few fit =
    let count : length (edges_in_order pairs) < 2 ^ 32 = omega (arith, few_edges pairs, few) in
    record { count = grind (arith, nat_tests, count); rows = edge_rows pairs fit }

is_image : (ram : ℕ) (draft : Draft) → is_harts (length draft.entries) ≡ true → is_ram ram ≡ true → IsDraft ram ram draft → length draft.edges < 2 ^ 32 → list_all is_pair draft.edges ≡ true → IsImage (picture_of ram draft)
is_image ram draft harts small kept few fit = record {
  harts = harts;
  ram = small;
  heap_base = kept.heap_base;
  heap_bytes = kept.heap_bytes;
  entries = kept.entries;
  segments = counted_rows _ _ _ _ ram draft.segments small kept.segments;
  code = counted_rows _ _ _ _ ram draft.code small kept.code;
  labels = counted_rows _ _ _ _ ram draft.labels small kept.labels;
  edges = counted_edges draft.edges few fit;
  compartments = counted_rows _ _ _ _ ram draft.compartments small kept.compartments;
}

of_additions : (lines : List Line) (layout : Layout) (all : List (ℕ × Addition)) → length lines < 2 ^ 32 → HaveRegisters lines → layout_of lines ≡ Ok layout
    → additions_of layout.version layout.harts layout.ram (place_of_name lines layout.places layout.end) lines layout.places ≡ Ok all → IsImage (picture_of layout.ram (with_additions (empty_draft layout.version layout.harts) all))
of_additions lines layout all few has found is =
    let names = place_of_name lines layout.places layout.end in
    let draft = with_additions (empty_draft layout.version layout.harts) all in
    let l = is_layout lines layout found in
    let some : 1 ≤ layout.harts = let fit = l.harts in grind (arith, nat_tests, fit) in
    let empty = empty_kept layout.version layout.harts layout.ram (place_or layout.ram layout.places) l.ram in
    let kept = all_kept layout.version layout.harts layout.ram names (empty_draft layout.version layout.harts) lines layout.places all refl some has l.count (are_placed lines layout found) empty is in
    let entered : length draft.entries ≡ layout.harts = all_entered (empty_draft layout.version layout.harts) all ∙ length-replicate layout.harts 0 in
    let edges = all_edges layout.version layout.harts layout.ram names lines layout.places all some has is in
    let own : draft.edges ≡ edges_of all = (made_of_words layout.version layout.harts all).edges in
    let counted : length draft.edges < 2 ^ 32 = rw own (omega (arith, few, edges.few)) in
    is_image layout.ram draft (rw entered (l.harts)) l.ram kept counted (rw own (edges.fit))

pub are_images : AreImages
unfolding image_of_source picture_of_lines picture_at
are_images source g few is =
    let lines = passes (source_of source) _ g is in
    let layout = passes (layout_of lines.value) _ g lines.rest in
    let added = passes (additions_of layout.value.version layout.value.harts layout.value.ram (place_of_name lines.value layout.value.places layout.value.end) lines.value layout.value.places) _ g layout.rest in
    let read = source_read source lines.value lines.first in
    subst IsImage (ok_is _ g added.rest) (of_additions lines.value layout.value added.value (omega (arith, few, read.few)) read.small layout.first added.first)
