-- A proper prefix of a file is short, at its own length.
use Rattle.std.proofs.Common.{◌≡◌, ℕ, suc, ◌+◌, ◌-◌, ◌*◌, ◌^◌, ◌<◌, ◌≤◌, Bool, true, leb, Option, Some, None, List, [], ◌∷◌, ◌++◌, length, take, Result, Err, refl, sym, ap, subst, ◌∙◌, zero-add, arith, inl, inr}
use Rattle.std.specs.List.{list_all, flat_map}
use Rattle.std.specs.Int.{Width, w16, w32, w128, byte_len, to_le_bytes}
use Rattle.std.proofs.lemmas.Bool.{cases_lt, lt-ltb, leb-true, ltb-true}
use Rattle.std.proofs.lemmas.List.{take-append-le, length-append, length-take-le}
use Rattle.std.proofs.lemmas.List.Concat.{flat_map-cons}
use Rattle.image_format.specs.declared.errors.ImageError.{ImageError}
use Rattle.image_format.specs.declared.errors.ImageError.TheVariants.{Magic, Short, Field}
use Rattle.image_format.specs.declared.version.Version.{Version}
use Rattle.image_format.specs.declared.version.Version.TheVariants.{One, Two}
use Rattle.image_format.specs.Picture.{Picture}
use Rattle.image_format.specs.Conditions.{is_u32, is_aligned, is_harts, is_ram, is_heap_base, is_heap_bytes, is_place, is_word_count, is_owner, is_range, is_label, is_edge, is_compartment, is_segment, is_clear_of, is_label_after, is_edge_after, is_compartment_after, in_order, are_rows, extent_of, whole, IsImage, IsList}
use Rattle.image_format.specs.Spelling.{half, number, wide_number, mask_spelling, range_spelling, segment_spelling, label_spelling, edge_spelling, compartment_spelling, list_spelling, version_number, opening_spelling, sizes_spelling, lists_spelling, spelling, IsFileOf}
use Rattle.image_format.specs.Reading.{Reads, Place, number_at, mask_at, tested_at, field_at, times, range_at, label_at, edge_at, compartment_at, row_at, range_behind_at, segment_at, rows_at, list_at, is_magic, version_at, opening_at, sizes_at, lists_at, picture_at, image_of}
use Rattle.image_format.proofs.FieldLemmas.{both, ReadsExactly, number_exact, mask_exact, tested_exact}
use Rattle.image_format.proofs.LoopLemmas.{placed}
use Rattle.image_format.proofs.ListLemmas.{items_again, ReadsRow, row_reads}
use Rattle.image_format.proofs.RowLemmas.{field_exact, range_exact, label_exact, edge_exact, owner_small, compartment_exact, segment_reads}
use Rattle.image_format.proofs.FileLemmas.{FitSizes, spelling_of_sizes, sizes_of, ram_small, harts_small, entry_small, harts_exact, sizes_exact, opening_again, segments_exact, code_exact, labels_exact, edges_exact}

-- ---- a text of two parts, cut

take_past : (a b : List ℕ) (m : ℕ) → take (length a + m) (a ++ b) ≡ a ++ take m b
take_past [] b m = ap (λ (k : ℕ). take k b) (zero-add m)
take_past (x ∷ xs) b m =
    let further : suc (length xs) + m ≡ suc (length xs + m) = omega arith in
    ap (λ (k : ℕ). take k (x ∷ (xs ++ b))) further ∙ ap (λ (s : List ℕ). x ∷ s) (take_past xs b m)

-- what holds of the first part cut, and of the first part with the second cut, holds of both cut
cut : (P : List ℕ → Type 0) (n : ℕ) (a b : List ℕ) → n < length (a ++ b) → (n < length a → P (take n a)) → ((m : ℕ) → m < length b → P (a ++ take m b)) → P (take n (a ++ b))
cut P n a b lt first behind =
    elim (cases_lt n (length a)) [
      | inl inside ↦ subst P (sym (take-append-le n a b (omega arith))) (first inside)
      | inr past ↦
          let m = n - length a in
          let n-is : length a + m ≡ n = omega arith in
          let rest : m < length b = omega (arith, length-append a b) in
          subst P (sym (take_past a b m) ∙ ap (λ (k : ℕ). take k (a ++ b)) n-is) (behind m rest)
    ]

-- ---- numbers

-- fewer bytes than the number has
number_short : (w : Width) (size : ℕ) (bytes : List ℕ) → length bytes < byte_len w → number_at w size bytes ≡ Err (Short size)
number_short w size bytes lt = rw (lt-ltb _ _ lt) refl

tested_short : (w : Width) (size : ℕ) (test : ℕ → Bool) (error : ℕ → ImageError) (bytes : List ℕ) → length bytes < byte_len w → tested_at w size test error bytes ≡ Err (Short size)
unfolding tested_at
tested_short w size test error bytes lt = rw (number_short w size bytes lt) refl

number_cut : (value n : ℕ) → n < length (number value) → length (take n (number value)) < byte_len w32
unfolding number
number_cut value n lt = omega (arith, length-take-le n (to_le_bytes w32 value) (omega arith))

half_cut : (value n : ℕ) → n < length (half value) → length (take n (half value)) < byte_len w16
unfolding half
half_cut value n lt = omega (arith, length-take-le n (to_le_bytes w16 value) (omega arith))

-- What is read from each text that is cut is that it is short.
pub record TellsShort {A : Type 0} (size : ℕ) (read : Reads A) (text : A → List ℕ) (Fits : A → Type 0) : Type 0 where
  pub short : (x : A) (n : ℕ) → Fits x → n < length (text x) → read (take n (text x)) ≡ Err (Short size)

field_short : (size field : ℕ) (test : ℕ → Bool) (value n : ℕ) → n < length (number value) → field_at size field test (take n (number value)) ≡ Err (Short size)
field_short size field test value n lt = tested_short w32 size test (λ _. Field field (size - length (take n (number value)))) (take n (number value)) (number_cut value n lt)

id_short : (size value n : ℕ) → n < length (number value) → number_at w32 size (take n (number value)) ≡ Err (Short size)
id_short size value n lt = number_short w32 size (take n (number value)) (number_cut value n lt)

wide_short : (size value n : ℕ) → n < length (wide_number value) → number_at w128 size (take n (wide_number value)) ≡ Err (Short size)
unfolding wide_number
wide_short size value n lt =
    number_short w128 size (take n (wide_number value)) (omega (arith, length-take-le n (to_le_bytes w128 value) (omega arith)))

mask_short : (version : Version) (size value n : ℕ) → n < length (mask_spelling version value) → mask_at version size (take n (mask_spelling version value)) ≡ Err (Short size)
mask_short One size value n lt = id_short size value n lt
mask_short Two size value n lt = wide_short size value n lt

-- ---- rows

range_short : (size ram field : ℕ) → ram < 2 ^ 32 → TellsShort size (range_at size ram field) range_spelling (λ range. is_range ram range ≡ true)
unfolding range_at
range_short size ram field small = record {
  short = λ range n fits lt.
      let parts = both _ _ fits in
      let inside : range.address + 4 * range.words ≤ ram = leb-true _ _ (both _ _ parts.1).1 in
      let address = (field_exact size field is_aligned).again range.address in
      cut (λ (t : List ℕ). range_at size ram field t ≡ Err (Short size)) n (number range.address) (number range.words) lt
      (λ in_address. rw (field_short size field is_aligned range.address n in_address) refl)
      (λ m in_words. rw (address (take m (number range.words)) (omega arith, parts.0), field_short size (field + 1) (is_word_count ram range.address) range.words m in_words) refl);
}

label_short : (size ram : ℕ) → ram < 2 ^ 32 → TellsShort size (label_at size ram) label_spelling (λ label. is_label ram label ≡ true)
unfolding label_at
label_short size ram small = record {
  short = λ label n fits lt.
      let parts = both _ _ fits in
      let below : label.address < ram = ltb-true _ _ (both _ _ parts.0).1 in
      let address = (field_exact size 10 (is_place ram)).again label.address in
      cut (λ (t : List ℕ). label_at size ram t ≡ Err (Short size)) n (number label.address) (number label.id) lt
      (λ in_address. rw (field_short size 10 (is_place ram) label.address n in_address) refl)
      (λ m in_id. rw (address (take m (number label.id)) (omega arith, parts.0), id_short size label.id m in_id) refl);
}

edge_short : (size : ℕ) → TellsShort size (edge_at size) edge_spelling (λ edge. is_edge edge ≡ true)
unfolding edge_at
edge_short size = record {
  short = λ edge n fits lt.
      let parts = both _ _ fits in
      cut (λ (t : List ℕ). edge_at size t ≡ Err (Short size)) n (number edge.source) (number edge.target) lt
      (λ in_source. rw (id_short size edge.source n in_source) refl)
      (λ m in_target. rw ((number_exact size).again edge.source (take m (number edge.target)) parts.0, id_short size edge.target m in_target) refl);
}

compartment_short : (version : Version) (size ram : ℕ) → ram < 2 ^ 32 → TellsShort size (compartment_at version size ram) (compartment_spelling version) (λ row. is_compartment version ram row ≡ true)
unfolding compartment_at
compartment_short version size ram small = record {
  short = λ row n fits lt.
      let mask = mask_spelling version in
      let p4 = both _ _ fits in
      let p3 = both _ _ p4.0 in
      let p2 = both _ _ p3.0 in
      let owner_fits : (row.owner < 2 ^ 32) × (is_owner version row.owner ≡ true) = (owner_small version row.owner p2.1, p2.1) in
      let range = (range_exact size ram 12 small).again row.range in
      let owner = (field_exact size 14 (is_owner version)).again row.owner in
      let into = (mask_exact version size).again row.into in
      let IsShort : List ℕ → Type 0 = λ t. compartment_at version size ram t ≡ Err (Short size) in
      cut IsShort n (range_spelling row.range) (number row.owner ++ (mask row.into ++ mask row.write)) lt
      (λ in_range. rw ((range_short size ram 12 small).short row.range n p2.0 in_range) refl)
      (λ n1 lt1. cut (λ (t : List ℕ). IsShort (range_spelling row.range ++ t)) n1 (number row.owner) (mask row.into ++ mask row.write) lt1
      (λ in_owner. rw (range (take n1 (number row.owner)) p2.0, field_short size 14 (is_owner version) row.owner n1 in_owner) refl)
      (λ n2 lt2. cut (λ (t : List ℕ). IsShort (range_spelling row.range ++ (number row.owner ++ t))) n2 (mask row.into) (mask row.write) lt2
      (λ in_into. rw (range (number row.owner ++ take n2 (mask row.into)) p2.0, owner (take n2 (mask row.into)) owner_fits, mask_short version size row.into n2 in_into) refl)
      (λ n3 in_write. rw (range (number row.owner ++ (mask row.into ++ take n3 (mask row.write))) p2.0, owner (mask row.into ++ take n3 (mask row.write)) owner_fits, into (take n3 (mask row.write)) p3.1, mask_short version size row.write n3 in_write) refl)));
}

-- ---- items and rows, one behind the other

items_short : {A : Type 0} (size : ℕ) (read : Reads A) (text : A → List ℕ) (Fits : A → Type 0) (fits : A → Bool) → ReadsExactly read text Fits → TellsShort size read text Fits → ((x : A) → fits x ≡ true → Fits x) → (items : List A) (n : ℕ) → list_all fits items ≡ true → n < length (flat_map text items)
    → times (length items) read (take n (flat_map text items)) ≡ Err (Short size)
unfolding times
items_short size read text Fits fits exact tells fit [] n all_fit lt = absurd (omega arith)
items_short size read text Fits fits exact tells fit (x ∷ xs) n all_fit lt =
    let parts = both _ _ all_fit in
    let split : flat_map text (x ∷ xs) ≡ text x ++ flat_map text xs = flat_map-cons text x xs in
    let within : n < length (text x ++ flat_map text xs) = subst (λ (t : List ℕ). n < length t) split lt in
    ap (λ (t : List ℕ). times (suc (length xs)) read (take n t)) split
    ∙ cut (λ (t : List ℕ). times (suc (length xs)) read t ≡ Err (Short size)) n (text x) (flat_map text xs) within
    (λ in_first. rw (tells.short x n (fit x parts.0) in_first) refl)
    (λ m in_others. rw (exact.again x (take m (flat_map text xs)) (fit x parts.0), items_short size read text Fits fits exact tells fit xs m parts.1 in_others) refl)

-- What is read from a row's text that is cut is that it is short.
record RowTellsShort {A B : Type 0} (size : ℕ) (step : Place A → Result (B × Place A) ImageError) (part : B → A) (text : B → List ℕ) (fits : B → Bool) (follows : A → A → Bool) : Type 0 where
  pub short : (row : ℕ) (before : Option A) (x : B) (n : ℕ) → fits x ≡ true → in_order follows before (part x) ≡ true → n < length (text x) → step (placed row before (take n (text x))) ≡ Err (Short size)

row_short : {A : Type 0} (size list : ℕ) (follows : A → A → Bool) (read : Reads A) (text : A → List ℕ) (fits : A → Bool) → TellsShort size read text (λ x. fits x ≡ true) → RowTellsShort size (row_at list follows read) whole text fits follows
unfolding row_at
row_short size list follows read text fits tells = record { short = λ row before x n fit ordered lt. rw (tells.short x n fit lt) refl }

rows_short : {A B : Type 0} (size : ℕ) (step : Place A → Result (B × Place A) ImageError) (part : B → A) (text : B → List ℕ) (fits : B → Bool) (follows : A → A → Bool) → ReadsRow step part text fits follows → RowTellsShort size step part text fits follows → (row : ℕ) (before : Option A) (rows : List B) (n : ℕ) → are_rows part fits follows before rows ≡ true → n < length (flat_map text rows)
    → times (length rows) step (placed row before (take n (flat_map text rows))) ≡ Err (Short size)
unfolding times
rows_short size step part text fits follows reads tells row before [] n fit lt = absurd (omega arith)
rows_short size step part text fits follows reads tells row before (x ∷ xs) n fit lt =
    let parts = both _ _ fit in
    let first = both _ _ parts.0 in
    let split : flat_map text (x ∷ xs) ≡ text x ++ flat_map text xs = flat_map-cons text x xs in
    let within : n < length (text x ++ flat_map text xs) = subst (λ (t : List ℕ). n < length t) split lt in
    ap (λ (t : List ℕ). times (suc (length xs)) step (placed row before (take n t))) split
    ∙ cut (λ (t : List ℕ). times (suc (length xs)) step (placed row before t) ≡ Err (Short size)) n (text x) (flat_map text xs) within
    (λ in_first. rw (tells.short row before x n first.0 first.1 in_first) refl)
    (λ m in_others. rw (reads.again row before x (take m (flat_map text xs)) first.0 first.1, rows_short size step part text fits follows reads tells (row + 1) (Some (part x)) xs m parts.1 in_others) refl)

list_short : {A B : Type 0} (size : ℕ) (step : Place A → Result (B × Place A) ImageError) (part : B → A) (text : B → List ℕ) (fits : B → Bool) (follows : A → A → Bool) → ReadsRow step part text fits follows → RowTellsShort size step part text fits follows → TellsShort size (list_at size step) (list_spelling text) (IsList part fits follows)
unfolding list_at rows_at
list_short size step part text fits follows reads tells = record {
  short = λ rows n is lt.
      let count = (number_exact size).again (length rows) in
      cut (λ (t : List ℕ). list_at size step t ≡ Err (Short size)) n (number (length rows)) (flat_map text rows) lt
      (λ in_count. rw (id_short size (length rows) n in_count) refl)
      (λ m in_rows. rw (count (take m (flat_map text rows)) is.count, rows_short size step part text fits follows reads tells 0 None rows m is.rows in_rows) refl);
}

segment_short : (size ram : ℕ) → ram < 2 ^ 32 → RowTellsShort size (segment_at size ram) extent_of segment_spelling (is_segment ram) is_clear_of
unfolding segment_at range_behind_at
segment_short size ram small = record {
  short = λ row before segment n fits ordered lt.
      let parts = both _ _ fits in
      let word = number_exact size in
      let words : TellsShort size (number_at w32 size) number (λ n. is_u32 n ≡ true) = record { short = λ value k fit in_word. id_short size value k in_word } in
      cut (λ (t : List ℕ). segment_at size ram (placed row before t) ≡ Err (Short size)) n (range_spelling (extent_of segment)) (flat_map number segment.words) lt
      (λ in_range. rw ((range_short size ram 6 small).short (extent_of segment) n parts.0 in_range) refl)
      (λ m in_words. rw ((range_exact size ram 6 small).again (extent_of segment) (take m (flat_map number segment.words)) parts.0, ordered, items_short size (number_at w32 size) number (λ n. is_u32 n ≡ true) is_u32 word words (λ n fit. fit) segment.words m parts.1 in_words) refl);
}

-- ---- the parts of a file

opening_short : (size : ℕ) (version : Version) (n : ℕ) → n < length (opening_spelling version) → opening_at size (take n (opening_spelling version)) ≡ Err (Short size)
unfolding opening_at version_at number
opening_short size version n lt =
    let text = half (version_number version) in
    let magic = (tested_exact size is_magic (λ _. Magic)).again 0x504D5550 in
    cut (λ (t : List ℕ). opening_at size t ≡ Err (Short size)) n (number 0x504D5550) text lt
    (λ in_magic. rw (tested_short w32 size is_magic (λ _. Magic) (take n (number 0x504D5550)) (number_cut 0x504D5550 n in_magic)) refl)
    (λ m in_version. rw (magic (take m text) (omega arith, refl), number_short w16 size (take m text) (half_cut (version_number version) m in_version)) refl)

sizes_short : (size : ℕ) → TellsShort size (sizes_at size) spelling_of_sizes FitSizes
unfolding sizes_at
sizes_short size = record {
  short = λ sizes n fits lt.
      let small = ram_small sizes.ram fits.ram in
      let base_in : sizes.heap_base ≤ sizes.ram = leb-true sizes.heap_base sizes.ram (both (is_aligned sizes.heap_base) (leb sizes.heap_base sizes.ram) fits.heap_base).1 in
      let harts_fit : (sizes.harts < 2 ^ 16) × (is_harts sizes.harts ≡ true) = (harts_small sizes.harts fits.harts, fits.harts) in
      let harts = (harts_exact size).again sizes.harts in
      let ram = (field_exact size 2 is_ram).again sizes.ram in
      let base = (field_exact size 3 (is_heap_base sizes.ram)).again sizes.heap_base in
      let IsShort : List ℕ → Type 0 = λ t. sizes_at size t ≡ Err (Short size) in
      cut IsShort n (half sizes.harts) (number sizes.ram ++ (number sizes.heap_base ++ number sizes.heap_bytes)) lt
      (λ in_harts. rw (tested_short w16 size is_harts (λ _. Field 1 (size - length (take n (half sizes.harts)))) (take n (half sizes.harts)) (half_cut sizes.harts n in_harts)) refl)
      (λ n1 lt1. cut (λ (t : List ℕ). IsShort (half sizes.harts ++ t)) n1 (number sizes.ram) (number sizes.heap_base ++ number sizes.heap_bytes) lt1
      (λ in_ram. rw (harts (take n1 (number sizes.ram)) harts_fit, field_short size 2 is_ram sizes.ram n1 in_ram) refl)
      (λ n2 lt2. cut (λ (t : List ℕ). IsShort (half sizes.harts ++ (number sizes.ram ++ t))) n2 (number sizes.heap_base) (number sizes.heap_bytes) lt2
      (λ in_base. rw (harts (number sizes.ram ++ take n2 (number sizes.heap_base)) harts_fit, ram (take n2 (number sizes.heap_base)) (small, fits.ram), field_short size 3 (is_heap_base sizes.ram) sizes.heap_base n2 in_base) refl)
      (λ n3 in_heap. rw (harts (number sizes.ram ++ (number sizes.heap_base ++ take n3 (number sizes.heap_bytes))) harts_fit, ram (number sizes.heap_base ++ take n3 (number sizes.heap_bytes)) (small, fits.ram), base (take n3 (number sizes.heap_bytes)) (omega arith, fits.heap_base), field_short size 4 (is_heap_bytes sizes.ram sizes.heap_base) sizes.heap_bytes n3 in_heap) refl)));
}

entries_short : (size ram : ℕ) (entries : List ℕ) (n : ℕ) → ram < 2 ^ 32 → list_all (is_place ram) entries ≡ true → n < length (flat_map number entries) → times (length entries) (field_at size 5 (is_place ram)) (take n (flat_map number entries)) ≡ Err (Short size)
entries_short size ram entries n small places lt =
    let entry : TellsShort size (field_at size 5 (is_place ram)) number (λ n. (n < 2 ^ 32) × (is_place ram n ≡ true)) = record { short = λ value k fit in_entry. field_short size 5 (is_place ram) value k in_entry } in
    items_short size (field_at size 5 (is_place ram)) number (λ n. (n < 2 ^ 32) × (is_place ram n ≡ true)) (is_place ram) (field_exact size 5 (is_place ram)) entry (λ n below. entry_small ram n small below) entries n places lt

-- the five lists
lists_short : (size : ℕ) (g : Picture) (n : ℕ) → IsImage g → n < length (lists_spelling g) → lists_at size g.version (sizes_of g) g.entries (take n (lists_spelling g)) ≡ Err (Short size)
unfolding lists_at
lists_short size g n is lt =
    let small = ram_small g.ram is.ram in
    let t1 = list_spelling segment_spelling g.segments in
    let t2 = list_spelling range_spelling g.code in
    let t3 = list_spelling label_spelling g.labels in
    let t4 = list_spelling edge_spelling g.edges in
    let t5 = list_spelling (compartment_spelling g.version) g.compartments in
    let again1 = λ (rest : List ℕ). (segments_exact size g.ram small).again g.segments rest is.segments in
    let again2 = λ (rest : List ℕ). (code_exact size g.ram small).again g.code rest is.code in
    let again3 = λ (rest : List ℕ). (labels_exact size g.ram small).again g.labels rest is.labels in
    let again4 = λ (rest : List ℕ). (edges_exact size).again g.edges rest is.edges in
    let short1 = list_short size (segment_at size g.ram) extent_of segment_spelling (is_segment g.ram) is_clear_of (segment_reads size g.ram small) (segment_short size g.ram small) in
    let short2 = list_short size (row_at 2 is_clear_of (range_at size g.ram 8)) whole range_spelling (is_range g.ram) is_clear_of (row_reads 2 is_clear_of (range_at size g.ram 8) range_spelling (is_range g.ram) (range_exact size g.ram 8 small)) (row_short size 2 is_clear_of (range_at size g.ram 8) range_spelling (is_range g.ram) (range_short size g.ram 8 small)) in
    let short3 = list_short size (row_at 3 is_label_after (label_at size g.ram)) whole label_spelling (is_label g.ram) is_label_after (row_reads 3 is_label_after (label_at size g.ram) label_spelling (is_label g.ram) (label_exact size g.ram small)) (row_short size 3 is_label_after (label_at size g.ram) label_spelling (is_label g.ram) (label_short size g.ram small)) in
    let short4 = list_short size (row_at 4 is_edge_after (edge_at size)) whole edge_spelling is_edge is_edge_after (row_reads 4 is_edge_after (edge_at size) edge_spelling is_edge (edge_exact size)) (row_short size 4 is_edge_after (edge_at size) edge_spelling is_edge (edge_short size)) in
    let short5 = list_short size (row_at 5 is_compartment_after (compartment_at g.version size g.ram)) whole (compartment_spelling g.version) (is_compartment g.version g.ram) is_compartment_after (row_reads 5 is_compartment_after (compartment_at g.version size g.ram) (compartment_spelling g.version) (is_compartment g.version g.ram) (compartment_exact g.version size g.ram small)) (row_short size 5 is_compartment_after (compartment_at g.version size g.ram) (compartment_spelling g.version) (is_compartment g.version g.ram) (compartment_short g.version size g.ram small)) in
    let IsShort : List ℕ → Type 0 = λ t. lists_at size g.version (sizes_of g) g.entries t ≡ Err (Short size) in
    cut IsShort n t1 (t2 ++ (t3 ++ (t4 ++ t5))) lt
    (λ in1. rw (short1.short g.segments n is.segments in1) refl)
    (λ n1 lt1. cut (λ (t : List ℕ). IsShort (t1 ++ t)) n1 t2 (t3 ++ (t4 ++ t5)) lt1
    (λ in2. rw (again1 (take n1 t2), short2.short g.code n1 is.code in2) refl)
    (λ n2 lt2. cut (λ (t : List ℕ). IsShort (t1 ++ (t2 ++ t))) n2 t3 (t4 ++ t5) lt2
    (λ in3. rw (again1 (t2 ++ take n2 t3), again2 (take n2 t3), short3.short g.labels n2 is.labels in3) refl)
    (λ n3 lt3. cut (λ (t : List ℕ). IsShort (t1 ++ (t2 ++ (t3 ++ t)))) n3 t4 t5 lt3
    (λ in4. rw (again1 (t2 ++ (t3 ++ take n3 t4)), again2 (t3 ++ take n3 t4), again3 (take n3 t4), short4.short g.edges n3 is.edges in4) refl)
    (λ n4 in5. rw (again1 (t2 ++ (t3 ++ (t4 ++ take n4 t5))), again2 (t3 ++ (t4 ++ take n4 t5)), again3 (t4 ++ take n4 t5), again4 (take n4 t5), short5.short g.compartments n4 is.compartments in5) refl))))

picture_short : (size : ℕ) → TellsShort size (picture_at size) spelling IsImage
unfolding picture_at spelling
picture_short size = record {
  short = λ g n is lt.
      let small = ram_small g.ram is.ram in
      let fit_sizes : FitSizes (sizes_of g) = record { harts = is.harts; ram = is.ram; heap_base = is.heap_base; heap_bytes = is.heap_bytes } in
      let t1 = opening_spelling g.version in
      let t2 = sizes_spelling g in
      let t3 = flat_map number g.entries in
      let t4 = lists_spelling g in
      let again1 = λ (rest : List ℕ). opening_again size g.version rest in
      let again2 = λ (rest : List ℕ). (sizes_exact size).again (sizes_of g) rest fit_sizes in
      let again3 = λ (rest : List ℕ). items_again (field_at size 5 (is_place g.ram)) number (λ n. (n < 2 ^ 32) × (is_place g.ram n ≡ true)) (is_place g.ram) (field_exact size 5 (is_place g.ram)) (λ n below. entry_small g.ram n small below) g.entries rest is.entries in
      let IsShort : List ℕ → Type 0 = λ t. picture_at size t ≡ Err (Short size) in
      cut IsShort n t1 (t2 ++ (t3 ++ t4)) lt
      (λ in1. rw (opening_short size g.version n in1) refl)
      (λ n1 lt1. cut (λ (t : List ℕ). IsShort (t1 ++ t)) n1 t2 (t3 ++ t4) lt1
      (λ in2. rw (again1 (take n1 t2), (sizes_short size).short (sizes_of g) n1 fit_sizes in2) refl)
      (λ n2 lt2. cut (λ (t : List ℕ). IsShort (t1 ++ (t2 ++ t))) n2 t3 t4 lt2
      (λ in3. rw (again1 (t2 ++ take n2 t3), again2 (take n2 t3), entries_short size g.ram g.entries n2 small is.entries in3) refl)
      (λ n3 in4. rw (again1 (t2 ++ (t3 ++ take n3 t4)), again2 (t3 ++ take n3 t4), again3 (take n3 t4), lists_short size g n3 is in4) refl)));
}

-- ---- the whole

-- a proper prefix of the file of an image
pub prefix_is_short : (bytes : List ℕ) (g : Picture) (n : ℕ) → IsFileOf bytes g → n < length bytes → image_of (take n bytes) ≡ Err (Short n)
unfolding image_of
prefix_is_short bytes g n is lt =
    let within : n < length (spelling g) = subst (λ (t : List ℕ). n < length t) is.spelled lt in
    let len : length (take n (spelling g)) ≡ n = length-take-le n (spelling g) (omega arith) in
    let short : picture_at n (take n (spelling g)) ≡ Err (Short n) = (picture_short n).short g n is.is_image within in
    let read : image_of (take n (spelling g)) ≡ Err (Short n) = rw (len, short) refl in
    ap (λ (t : List ℕ). image_of (take n t)) is.spelled ∙ read
