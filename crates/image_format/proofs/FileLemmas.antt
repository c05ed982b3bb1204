-- A file that is read is the spelling of an image, and each image is read again from its spelling.
use Rattle.std.proofs.Common.{◌≡◌, ℕ, ◌+◌, ◌-◌, ◌^◌, ◌<◌, ◌≤◌, Bool, true, false, cond, ◌==◌, ◌&&◌, eqb, leb, ltb, List, [], ◌++◌, length, Result, Ok, Err, refl, sym, ap, subst, ◌∙◌, append_assoc, arith}
use Rattle.std.specs.Prelude.{codes, IfOk}
use Rattle.std.specs.List.{flat_map, list_all}
use Rattle.std.specs.Int.{w16, w32}
use Rattle.std.proofs.lemmas.Bool.{eqb-true, leb-true, ltb-true}
use Rattle.std.proofs.lemmas.List.{append-nil, nil_from_length}
use Rattle.image_format.specs.declared.errors.ImageError.TheVariants.{Magic, Version as OtherVersion, Field, Trailing}
use Rattle.image_format.specs.declared.errors.ImageEnd.{ImageEnd}
use Rattle.image_format.specs.declared.errors.ImageEnd.TheVariants as ends
use Rattle.image_format.specs.declared.version.Version.{Version}
use Rattle.image_format.specs.declared.version.Version.TheVariants.{One, Two}
use Rattle.image_format.specs.declared.sizes.Sizes.{Sizes}
use Rattle.image_format.specs.Picture.{Picture}
use Rattle.image_format.specs.Conditions.{is_aligned, is_harts, is_ram, is_heap_base, is_heap_bytes, is_place, is_range, is_label, is_edge, is_compartment, is_segment, is_clear_of, is_label_after, is_edge_after, is_compartment_after, extent_of, whole, IsImage, IsList}
use Rattle.image_format.specs.Spelling.{half, number, range_spelling, segment_spelling, label_spelling, edge_spelling, compartment_spelling, list_spelling, version_number, opening_spelling, sizes_spelling, lists_spelling, spelling, IsFileOf}
use Rattle.shared_terms.specs.Steps.{demand}
use Rattle.image_format.specs.Reading.{GivesImage, IsBad, number_at, tested_at, field_at, range_at, label_at, edge_at, compartment_at, segment_at, row_at, list_at, is_magic, version_numbered, version_at, harts_at, opening_at, sizes_at, entries_at, lists_at, picture_at, image_of}
use Rattle.shared_terms.proofs.StepLemmas.{on_ok, demanded, ok_is}
use Rattle.image_format.proofs.FieldLemmas.{both, IsBytes, Takes, takes_then, ReadsExactly, tested_exact, plain_half_exact, half_exact}
use Rattle.image_format.proofs.LoopLemmas.{times_length}
use Rattle.image_format.proofs.ListLemmas.{items_take, items_again, row_reads, list_exact}
use Rattle.image_format.proofs.RowLemmas.{field_exact, range_exact, label_exact, edge_exact, compartment_exact, segment_reads, regroup_4}

-- ---- the magic and the version

magic_is : (n : ℕ) → is_magic n ≡ true → number n ≡ codes "PUMP"
unfolding number
magic_is n e = ap number (eqb-true n _ e)

-- a number that is that of a version
numbered_is : (one two : Bool) (n : ℕ) (version : Version) → (n == 1) ≡ one → (n == 2) ≡ two → cond one (Ok One) (cond two (Ok Two) (Err (OtherVersion n))) ≡ Ok version → n ≡ version_number version
numbered_is true two n version one-is two-is e = subst (λ (v : Version). n ≡ version_number v) (ok_is One version e) (eqb-true n 1 one-is)
numbered_is false true n version one-is two-is e = subst (λ (v : Version). n ≡ version_number v) (ok_is Two version e) (eqb-true n 2 two-is)
numbered_is false false n version one-is two-is e = absurd cc

version_again : (size : ℕ) (version : Version) (rest : List ℕ) → version_at size (half (version_number version) ++ rest) ≡ Ok (version, rest)
unfolding version_at
version_again size One rest = rw ((plain_half_exact size).again 1 rest (omega arith)) refl
version_again size Two rest = rw ((plain_half_exact size).again 2 rest (omega arith)) refl

opening_takes : (size : ℕ) (bytes : List ℕ) (x : Version × List ℕ) → IsBytes bytes → opening_at size bytes ≡ Ok x → Takes bytes (opening_spelling x.0) x.1
unfolding opening_at version_at
opening_takes size bytes x is_bytes e =
    on_ok (tested_at w32 size is_magic (λ _. Magic) bytes) _ x e λ magic magic-is e1.
    on_ok (number_at w16 size magic.1) _ x e1 λ n n-is e2.
    on_ok (version_numbered n.0) _ x e2 λ version version-is e3.
    let t1 = (tested_exact size is_magic (λ _. Magic)).takes bytes magic is_bytes magic-is in
    let t2 = (plain_half_exact size).takes magic.1 n t1.0.rest_is_bytes n-is in
    let taken = takes_then bytes (number magic.0) magic.1 (half n.0) n.1 t1.0 t2.0 in
    let named = subst (λ (text : List ℕ). Takes bytes (text ++ half n.0) n.1) (magic_is magic.0 t1.1.1) taken in
    let spelled = subst (λ (k : ℕ). Takes bytes (codes "PUMP" ++ half k) n.1) (numbered_is (n.0 == 1) (n.0 == 2) n.0 version refl refl version-is) named in
    subst (λ (y : Version × List ℕ). Takes bytes (opening_spelling y.0) y.1) (ok_is (version, n.1) x e3) spelled

pub opening_again : (size : ℕ) (version : Version) (rest : List ℕ) → opening_at size (opening_spelling version ++ rest) ≡ Ok (version, rest)
unfolding opening_at number
opening_again size version rest =
    rw ((tested_exact size is_magic (λ _. Magic)).again 0x504D5550 (half (version_number version) ++ rest) (omega arith, refl), version_again size version rest) refl

-- ---- the sizes

pub record FitSizes (sizes : Sizes) : Type 0 where
  pub harts : is_harts sizes.harts ≡ true
  pub ram : is_ram sizes.ram ≡ true
  pub heap_base : is_heap_base sizes.ram sizes.heap_base ≡ true
  pub heap_bytes : is_heap_bytes sizes.ram sizes.heap_base sizes.heap_bytes ≡ true

abbrev pub spelling_of_sizes : Sizes → List ℕ
spelling_of_sizes sizes = half sizes.harts ++ (number sizes.ram ++ (number sizes.heap_base ++ number sizes.heap_bytes))

pub ram_small : (ram : ℕ) → is_ram ram ≡ true → ram < 2 ^ 32
ram_small ram fits =
    let most : ram ≤ 16777216 = leb-true ram 16777216 (both (is_aligned ram && leb 4 ram) (leb ram 16777216) fits).1 in
    omega arith

pub harts_small : (harts : ℕ) → is_harts harts ≡ true → harts < 2 ^ 16
harts_small harts fits =
    let most : harts ≤ 8 = leb-true harts 8 (both (leb 1 harts) (leb harts 8) fits).1 in
    omega arith

pub harts_exact : (size : ℕ) → ReadsExactly (harts_at size) half (λ n. (n < 2 ^ 16) × (is_harts n ≡ true))
harts_exact size = record {
  takes = λ bytes x is_bytes e. (half_exact size is_harts (λ _. Field 1 (size - length bytes))).takes bytes x is_bytes e;
  again = λ n rest fits. (half_exact size is_harts (λ _. Field 1 (size - length (half n ++ rest)))).again n rest fits;
}

pub sizes_exact : (size : ℕ) → ReadsExactly (sizes_at size) spelling_of_sizes FitSizes
unfolding sizes_at
sizes_exact size = record {
  takes = λ bytes x is_bytes e.
      on_ok (harts_at size bytes) _ x e λ harts harts-is e1.
      on_ok (field_at size 2 is_ram harts.1) _ x e1 λ ram ram-is e2.
      on_ok (field_at size 3 (is_heap_base ram.0) ram.1) _ x e2 λ base base-is e3.
      on_ok (field_at size 4 (is_heap_bytes ram.0 base.0) base.1) _ x e3 λ heap heap-is e4.
      let t1 = (harts_exact size).takes bytes harts is_bytes harts-is in
      let t2 = (field_exact size 2 is_ram).takes harts.1 ram t1.0.rest_is_bytes ram-is in
      let t3 = (field_exact size 3 (is_heap_base ram.0)).takes ram.1 base t2.0.rest_is_bytes base-is in
      let t4 = (field_exact size 4 (is_heap_bytes ram.0 base.0)).takes base.1 heap t3.0.rest_is_bytes heap-is in
      let heap_taken = takes_then ram.1 (number base.0) base.1 (number heap.0) heap.1 t3.0 t4.0 in
      let ram_taken = takes_then harts.1 (number ram.0) ram.1 (number base.0 ++ number heap.0) heap.1 t2.0 heap_taken in
      let made : Sizes × List ℕ = (record { harts = harts.0; ram = ram.0; heap_base = base.0; heap_bytes = heap.0 }, heap.1) in
      subst (λ (y : Sizes × List ℕ). Takes bytes (spelling_of_sizes y.0) y.1 × FitSizes y.0) (ok_is made x e4)
      (takes_then bytes (half harts.0) harts.1 (number ram.0 ++ (number base.0 ++ number heap.0)) heap.1 t1.0 ram_taken, record { harts = t1.1.1; ram = t2.1.1; heap_base = t3.1.1; heap_bytes = t4.1.1 });
  again = λ sizes rest fits.
      let small = ram_small sizes.ram fits.ram in
      let base_in : sizes.heap_base ≤ sizes.ram = leb-true sizes.heap_base sizes.ram (both (is_aligned sizes.heap_base) (leb sizes.heap_base sizes.ram) fits.heap_base).1 in
      let heap_in : sizes.heap_base + sizes.heap_bytes ≤ sizes.ram = leb-true (sizes.heap_base + sizes.heap_bytes) sizes.ram (both (is_aligned sizes.heap_bytes) (leb (sizes.heap_base + sizes.heap_bytes) sizes.ram) fits.heap_bytes).1 in
      ap (sizes_at size) (regroup_4 (half sizes.harts) (number sizes.ram) (number sizes.heap_base) (number sizes.heap_bytes) rest)
      ∙ rw (
        (harts_exact size).again sizes.harts (number sizes.ram ++ (number sizes.heap_base ++ (number sizes.heap_bytes ++ rest))) (harts_small sizes.harts fits.harts, fits.harts),
        (field_exact size 2 is_ram).again sizes.ram (number sizes.heap_base ++ (number sizes.heap_bytes ++ rest)) (small, fits.ram),
        (field_exact size 3 (is_heap_base sizes.ram)).again sizes.heap_base (number sizes.heap_bytes ++ rest) (omega arith, fits.heap_base),
        (field_exact size 4 (is_heap_bytes sizes.ram sizes.heap_base)).again sizes.heap_bytes rest (omega arith, fits.heap_bytes),
      ) refl;
}

-- ---- the lists

pub segments_exact : (size ram : ℕ) → ram < 2 ^ 32 → ReadsExactly (list_at size (segment_at size ram)) (list_spelling segment_spelling) (IsList extent_of (is_segment ram) is_clear_of)
segments_exact size ram small = list_exact size (segment_at size ram) extent_of segment_spelling (is_segment ram) is_clear_of (segment_reads size ram small)

pub code_exact : (size ram : ℕ) → ram < 2 ^ 32 → ReadsExactly (list_at size (row_at 2 is_clear_of (range_at size ram 8))) (list_spelling range_spelling) (IsList whole (is_range ram) is_clear_of)
code_exact size ram small = list_exact size (row_at 2 is_clear_of (range_at size ram 8)) whole range_spelling (is_range ram) is_clear_of (row_reads 2 is_clear_of (range_at size ram 8) range_spelling (is_range ram) (range_exact size ram 8 small))

pub labels_exact : (size ram : ℕ) → ram < 2 ^ 32 → ReadsExactly (list_at size (row_at 3 is_label_after (label_at size ram))) (list_spelling label_spelling) (IsList whole (is_label ram) is_label_after)
labels_exact size ram small = list_exact size (row_at 3 is_label_after (label_at size ram)) whole label_spelling (is_label ram) is_label_after (row_reads 3 is_label_after (label_at size ram) label_spelling (is_label ram) (label_exact size ram small))

pub edges_exact : (size : ℕ) → ReadsExactly (list_at size (row_at 4 is_edge_after (edge_at size))) (list_spelling edge_spelling) (IsList whole is_edge is_edge_after)
edges_exact size = list_exact size (row_at 4 is_edge_after (edge_at size)) whole edge_spelling is_edge is_edge_after (row_reads 4 is_edge_after (edge_at size) edge_spelling is_edge (edge_exact size))

compartments_exact : (version : Version) (size ram : ℕ) → ram < 2 ^ 32 → ReadsExactly (list_at size (row_at 5 is_compartment_after (compartment_at version size ram))) (list_spelling (compartment_spelling version)) (IsList whole (is_compartment version ram) is_compartment_after)
compartments_exact version size ram small = list_exact size (row_at 5 is_compartment_after (compartment_at version size ram)) whole (compartment_spelling version) (is_compartment version ram) is_compartment_after (row_reads 5 is_compartment_after (compartment_at version size ram) (compartment_spelling version) (is_compartment version ram) (compartment_exact version size ram small))

-- an image that was read under a version, sizes and entries
record TakesLists (version : Version) (sizes : Sizes) (entries bytes : List ℕ) (x : Picture × List ℕ) : Type 0 where
  pub taken : Takes bytes (lists_spelling x.0) x.1
  pub is_image : IsImage x.0
  pub sizes_spelling_is : sizes_spelling x.0 ≡ spelling_of_sizes sizes
  pub entries_are : x.0.entries ≡ entries
  pub version_is : x.0.version ≡ version

lists_take : (size : ℕ) (version : Version) (sizes : Sizes) (entries bytes : List ℕ) (x : Picture × List ℕ) → FitSizes sizes → length entries ≡ sizes.harts → list_all (is_place sizes.ram) entries ≡ true → IsBytes bytes → lists_at size version sizes entries bytes ≡ Ok x → TakesLists version sizes entries bytes x
unfolding lists_at
lists_take size version sizes entries bytes x fits count places is_bytes e =
    on_ok (list_at size (segment_at size sizes.ram) bytes) _ x e λ segments segments-are e1.
    on_ok (list_at size (row_at 2 is_clear_of (range_at size sizes.ram 8)) segments.1) _ x e1 λ code code-is e2.
    on_ok (list_at size (row_at 3 is_label_after (label_at size sizes.ram)) code.1) _ x e2 λ labels labels-are e3.
    on_ok (list_at size (row_at 4 is_edge_after (edge_at size)) labels.1) _ x e3 λ edges edges-are e4.
    on_ok (list_at size (row_at 5 is_compartment_after (compartment_at version size sizes.ram)) edges.1) _ x e4 λ compartments compartments-are e5.
    let small = ram_small sizes.ram fits.ram in
    let t1 = (segments_exact size sizes.ram small).takes bytes segments is_bytes segments-are in
    let t2 = (code_exact size sizes.ram small).takes segments.1 code t1.0.rest_is_bytes code-is in
    let t3 = (labels_exact size sizes.ram small).takes code.1 labels t2.0.rest_is_bytes labels-are in
    let t4 = (edges_exact size).takes labels.1 edges t3.0.rest_is_bytes edges-are in
    let t5 = (compartments_exact version size sizes.ram small).takes edges.1 compartments t4.0.rest_is_bytes compartments-are in
    let from_edges = takes_then labels.1 (list_spelling edge_spelling edges.0) edges.1 (list_spelling (compartment_spelling version) compartments.0) compartments.1 t4.0 t5.0 in
    let from_labels = takes_then code.1 (list_spelling label_spelling labels.0) labels.1 (list_spelling edge_spelling edges.0 ++ list_spelling (compartment_spelling version) compartments.0) compartments.1 t3.0 from_edges in
    let from_code = takes_then segments.1 (list_spelling range_spelling code.0) code.1 (list_spelling label_spelling labels.0 ++ (list_spelling edge_spelling edges.0 ++ list_spelling (compartment_spelling version) compartments.0)) compartments.1 t2.0 from_labels in
    let taken = takes_then bytes (list_spelling segment_spelling segments.0) segments.1 (list_spelling range_spelling code.0 ++ (list_spelling label_spelling labels.0 ++ (list_spelling edge_spelling edges.0 ++ list_spelling (compartment_spelling version) compartments.0))) compartments.1 t1.0 from_code in
    let made : Picture × List ℕ = (record { version = version; ram = sizes.ram; heap_base = sizes.heap_base; heap_bytes = sizes.heap_bytes; entries = entries; segments = segments.0; code = code.0; labels = labels.0; edges = edges.0; compartments = compartments.0 }, compartments.1) in
    let harts : is_harts (length entries) ≡ true = subst (λ (n : ℕ). is_harts n ≡ true) (sym count) fits.harts in
    subst (TakesLists version sizes entries bytes) (ok_is made x e5) (record {
      taken = taken;
      is_image = record { harts = harts; ram = fits.ram; heap_base = fits.heap_base; heap_bytes = fits.heap_bytes; entries = places; segments = t1.1; code = t2.1; labels = t3.1; edges = t4.1; compartments = t5.1 };
      sizes_spelling_is = ap (λ (n : ℕ). half n ++ (number sizes.ram ++ (number sizes.heap_base ++ number sizes.heap_bytes))) count;
      entries_are = refl;
      version_is = refl;
    })

-- the sizes of an image
abbrev pub sizes_of : Picture → Sizes
sizes_of g = record { harts = length g.entries; ram = g.ram; heap_base = g.heap_base; heap_bytes = g.heap_bytes }

regroup_5 : (a b c d e rest : List ℕ) → (a ++ (b ++ (c ++ (d ++ e)))) ++ rest ≡ a ++ (b ++ (c ++ (d ++ (e ++ rest))))
regroup_5 a b c d e rest = simp append_assoc

lists_again : (size : ℕ) (g : Picture) (rest : List ℕ) → IsImage g → lists_at size g.version (sizes_of g) g.entries (lists_spelling g ++ rest) ≡ Ok (g, rest)
unfolding lists_at
lists_again size g rest is =
    let small = ram_small g.ram is.ram in
    let compartments = list_spelling (compartment_spelling g.version) g.compartments ++ rest in
    let edges = list_spelling edge_spelling g.edges ++ compartments in
    let labels = list_spelling label_spelling g.labels ++ edges in
    let code = list_spelling range_spelling g.code ++ labels in
    ap (lists_at size g.version (sizes_of g) g.entries) (regroup_5 (list_spelling segment_spelling g.segments) (list_spelling range_spelling g.code) (list_spelling label_spelling g.labels) (list_spelling edge_spelling g.edges) (list_spelling (compartment_spelling g.version) g.compartments) rest)
    ∙ rw (
      (segments_exact size g.ram small).again g.segments code is.segments,
      (code_exact size g.ram small).again g.code labels is.code,
      (labels_exact size g.ram small).again g.labels edges is.labels,
      (edges_exact size).again g.edges compartments is.edges,
      (compartments_exact g.version size g.ram small).again g.compartments rest is.compartments,
    ) refl

-- ---- the whole

-- an entry that fits is one that four bytes hold
pub entry_small : (ram n : ℕ) → ram < 2 ^ 32 → is_place ram n ≡ true → (n < 2 ^ 32) × (is_place ram n ≡ true)
entry_small ram n small fits =
    let below : n < ram = ltb-true n ram (both (is_aligned n) (ltb n ram) fits).1 in
    (omega arith, fits)

picture_exact : (size : ℕ) → ReadsExactly (picture_at size) spelling IsImage
unfolding picture_at spelling
picture_exact size = record {
  takes = λ bytes x is_bytes e.
      on_ok (opening_at size bytes) _ x e λ opening opening-is e1.
      on_ok (sizes_at size opening.1) _ x e1 λ sizes sizes-are e2.
      on_ok (entries_at size sizes.0 sizes.1) _ x e2 λ entries entries-are e3.
      let t1 = opening_takes size bytes opening is_bytes opening-is in
      let t2 = (sizes_exact size).takes opening.1 sizes t1.rest_is_bytes sizes-are in
      let entry = field_at size 5 (is_place sizes.0.ram) in
      let t3 = items_take entry number (λ n. (n < 2 ^ 32) × (is_place sizes.0.ram n ≡ true)) (is_place sizes.0.ram) (field_exact size 5 (is_place sizes.0.ram)) (λ n fits. fits.1) sizes.0.harts sizes.1 entries t2.0.rest_is_bytes entries-are in
      let count = times_length sizes.0.harts entry sizes.1 entries entries-are in
      let t4 = lists_take size opening.0 sizes.0 entries.0 entries.1 x t2.1 count t3.1 t3.0.rest_is_bytes e3 in
      let from_entries = takes_then sizes.1 (flat_map number entries.0) entries.1 (lists_spelling x.0) x.1 t3.0 t4.taken in
      let from_sizes = takes_then opening.1 (spelling_of_sizes sizes.0) sizes.1 (flat_map number entries.0 ++ lists_spelling x.0) x.1 t2.0 from_entries in
      let taken = takes_then bytes (opening_spelling opening.0) opening.1 (spelling_of_sizes sizes.0 ++ (flat_map number entries.0 ++ lists_spelling x.0)) x.1 t1 from_sizes in
      let of_sizes = subst (λ (text : List ℕ). Takes bytes (opening_spelling opening.0 ++ (text ++ (flat_map number entries.0 ++ lists_spelling x.0))) x.1) (sym t4.sizes_spelling_is) taken in
      let of_entries = subst (λ (es : List ℕ). Takes bytes (opening_spelling opening.0 ++ (sizes_spelling x.0 ++ (flat_map number es ++ lists_spelling x.0))) x.1) (sym t4.entries_are) of_sizes in
      (subst (λ (version : Version). Takes bytes (opening_spelling version ++ (sizes_spelling x.0 ++ (flat_map number x.0.entries ++ lists_spelling x.0))) x.1) (sym t4.version_is) of_entries, t4.is_image);
  again = λ g rest is.
      let small = ram_small g.ram is.ram in
      let lists = lists_spelling g ++ rest in
      let entries = flat_map number g.entries ++ lists in
      let entries_again = items_again (field_at size 5 (is_place g.ram)) number (λ n. (n < 2 ^ 32) × (is_place g.ram n ≡ true)) (is_place g.ram) (field_exact size 5 (is_place g.ram)) (λ n below. entry_small g.ram n small below) g.entries lists is.entries in
      ap (picture_at size) (regroup_4 (opening_spelling g.version) (sizes_spelling g) (flat_map number g.entries) (lists_spelling g) rest)
      ∙ rw (
        opening_again size g.version (sizes_spelling g ++ entries),
        (sizes_exact size).again (sizes_of g) entries (record { harts = is.harts; ram = is.ram; heap_base = is.heap_base; heap_bytes = is.heap_bytes }),
        entries_again,
        lists_again size g rest is,
      ) refl;
}

-- what is read is an image, and the bytes are its file
pub file_is_of : (bytes : List ℕ) (g : Picture) → IsBytes bytes → image_of bytes ≡ Ok g → IsFileOf bytes g
unfolding image_of
file_is_of bytes g is_bytes e =
    on_ok (picture_at (length bytes) bytes) _ g e λ x x-is e1.
    on_ok (demand (eqb (length x.1) 0) (Trailing (length bytes - length x.1))) _ g e1 λ u u-is e2.
    let t = (picture_exact (length bytes)).takes bytes x is_bytes x-is in
    let nothing : x.1 ≡ [] = nil_from_length x.1 (eqb-true _ _ (demanded _ _ u u-is)) in
    let spelled : bytes ≡ spelling x.0 = t.0.parts ∙ ap (λ (rest : List ℕ). spelling x.0 ++ rest) nothing ∙ append-nil (spelling x.0) in
    subst (IsFileOf bytes) (ok_is x.0 g e2) (record { is_image = t.1; spelled = spelled })

-- the file of an image is read
pub file_again : (bytes : List ℕ) (g : Picture) → IsFileOf bytes g → image_of bytes ≡ Ok g
unfolding image_of
file_again bytes g is =
    let size = length (spelling g) in
    let read : picture_at size (spelling g) ≡ Ok (g, []) = ap (picture_at size) (sym (append-nil (spelling g))) ∙ (picture_exact size).again g [] is.is_image in
    let read_again : image_of (spelling g) ≡ Ok g = rw read refl in
    ap image_of is.spelled ∙ read_again

pub is_found : (bytes : List ℕ) (result : Result Picture ImageEnd) → IsBytes bytes → GivesImage result (image_of bytes) → IfOk result (λ g. IsFileOf bytes g)
is_found bytes (Ok g) is_bytes given = file_is_of bytes g is_bytes given
is_found bytes (Err end) is_bytes given = tt

-- what gives an image is no refusal
pub not_refused : (result : Result Picture ImageEnd) (g : Picture) → GivesImage result (Ok g) → IsBad result → ⊥
not_refused (Ok found) g given bad = bad
not_refused (Err ends.Memory) g given bad = bad
not_refused (Err (ends.Bad error)) g given bad = absurd cc
