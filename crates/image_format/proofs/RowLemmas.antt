-- Each kind of row that is read is what its bytes spell, and what is spelled is read again.
use Rattle.std.proofs.Common.{◌≡◌, ℕ, ◌+◌, ◌-◌, ◌*◌, ◌^◌, ◌<◌, ◌≤◌, Bool, true, Option, Some, List, ◌++◌, length, Ok, refl, sym, ap, subst, ◌∙◌, append_assoc, arith}
use Rattle.std.specs.List.{flat_map}
use Rattle.std.specs.Int.{w32}
use Rattle.std.proofs.lemmas.Bool.{leb-true, ltb-true}
use Rattle.image_format.specs.declared.errors.ImageError.TheVariants.{Field, Order}
use Rattle.image_format.specs.declared.rows.WordRange.{WordRange}
use Rattle.image_format.specs.declared.rows.Label.{Label}
use Rattle.image_format.specs.declared.rows.Edge.{Edge}
use Rattle.image_format.specs.declared.version.Version.{Version}
use Rattle.image_format.specs.declared.version.Version.TheVariants.{One, Two}
use Rattle.image_format.specs.Picture.{Segment, CompartmentRow}
use Rattle.image_format.specs.Conditions.{is_u32, is_aligned, is_word_count, is_place, is_owner, is_range, is_label, is_edge, is_compartment, is_segment, is_clear_of, in_order, extent_of}
use Rattle.image_format.specs.Spelling.{number, mask_spelling, range_spelling, label_spelling, edge_spelling, compartment_spelling, segment_spelling}
use Rattle.shared_terms.specs.Steps.{demand}
use Rattle.image_format.specs.Reading.{Place, number_at, mask_at, field_at, times, range_at, label_at, edge_at, compartment_at, range_behind_at, segment_at}
use Rattle.shared_terms.proofs.StepLemmas.{on_ok, demanded, ok_is}
use Rattle.image_format.proofs.FieldLemmas.{and_is, both, IsBytes, Takes, takes_then, ReadsExactly, number_exact, mask_exact, tested_exact}
use Rattle.image_format.proofs.LoopLemmas.{placed, times_length}
use Rattle.image_format.proofs.ListLemmas.{items_take, items_again, ReadsRow}

-- a numbered field that four bytes hold, and that its test takes
pub field_exact : (size field : ℕ) (test : ℕ → Bool) → ReadsExactly (field_at size field test) number (λ n. (n < 2 ^ 32) × (test n ≡ true))
field_exact size field test = record {
  takes = λ bytes x is_bytes e. (tested_exact size test (λ _. Field field (size - length bytes))).takes bytes x is_bytes e;
  again = λ n rest fits. (tested_exact size test (λ _. Field field (size - length (number n ++ rest)))).again n rest fits;
}

pub range_exact : (size ram field : ℕ) → ram < 2 ^ 32 → ReadsExactly (range_at size ram field) range_spelling (λ range. is_range ram range ≡ true)
unfolding range_at
range_exact size ram field small = record {
  takes = λ bytes x is_bytes e.
      on_ok (field_at size field is_aligned bytes) _ x e λ address address-is e1.
      on_ok (field_at size (field + 1) (is_word_count ram address.0) address.1) _ x e1 λ words words-is e2.
      let t1 = (field_exact size field is_aligned).takes bytes address is_bytes address-is in
      let t2 = (field_exact size (field + 1) (is_word_count ram address.0)).takes address.1 words t1.0.rest_is_bytes words-is in
      let made : WordRange × List ℕ = (record { address = address.0; words = words.0 }, words.1) in
      subst (λ (y : WordRange × List ℕ). Takes bytes (range_spelling y.0) y.1 × (is_range ram y.0 ≡ true)) (ok_is made x e2)
      (takes_then bytes (number address.0) address.1 (number words.0) words.1 t1.0 t2.0, and_is _ _ t1.1.1 t2.1.1);
  again = λ range rest fits.
      let parts = both _ _ fits in
      let inside : range.address + 4 * range.words ≤ ram = leb-true _ _ (both _ _ parts.1).1 in
      ap (range_at size ram field) (append_assoc (number range.address) (number range.words) rest)
      ∙ rw ((field_exact size field is_aligned).again range.address (number range.words ++ rest) (omega arith, parts.0), (field_exact size (field + 1) (is_word_count ram range.address)).again range.words rest (omega arith, parts.1)) refl;
}

pub label_exact : (size ram : ℕ) → ram < 2 ^ 32 → ReadsExactly (label_at size ram) label_spelling (λ label. is_label ram label ≡ true)
unfolding label_at
label_exact size ram small = record {
  takes = λ bytes x is_bytes e.
      on_ok (field_at size 10 (is_place ram) bytes) _ x e λ address address-is e1.
      on_ok (number_at w32 size address.1) _ x e1 λ id id-is e2.
      let t1 = (field_exact size 10 (is_place ram)).takes bytes address is_bytes address-is in
      let t2 = (number_exact size).takes address.1 id t1.0.rest_is_bytes id-is in
      let made : Label × List ℕ = (record { address = address.0; id = id.0 }, id.1) in
      subst (λ (y : Label × List ℕ). Takes bytes (label_spelling y.0) y.1 × (is_label ram y.0 ≡ true)) (ok_is made x e2)
      (takes_then bytes (number address.0) address.1 (number id.0) id.1 t1.0 t2.0, and_is _ _ t1.1.1 t2.1);
  again = λ label rest fits.
      let parts = both _ _ fits in
      let below : label.address < ram = ltb-true _ _ (both _ _ parts.0).1 in
      ap (label_at size ram) (append_assoc (number label.address) (number label.id) rest)
      ∙ rw ((field_exact size 10 (is_place ram)).again label.address (number label.id ++ rest) (omega arith, parts.0), (number_exact size).again label.id rest parts.1) refl;
}

pub edge_exact : (size : ℕ) → ReadsExactly (edge_at size) edge_spelling (λ edge. is_edge edge ≡ true)
unfolding edge_at
edge_exact size = record {
  takes = λ bytes x is_bytes e.
      on_ok (number_at w32 size bytes) _ x e λ source source-is e1.
      on_ok (number_at w32 size source.1) _ x e1 λ target target-is e2.
      let t1 = (number_exact size).takes bytes source is_bytes source-is in
      let t2 = (number_exact size).takes source.1 target t1.0.rest_is_bytes target-is in
      let made : Edge × List ℕ = (record { source = source.0; target = target.0 }, target.1) in
      subst (λ (y : Edge × List ℕ). Takes bytes (edge_spelling y.0) y.1 × (is_edge y.0 ≡ true)) (ok_is made x e2)
      (takes_then bytes (number source.0) source.1 (number target.0) target.1 t1.0 t2.0, and_is _ _ t1.1 t2.1);
  again = λ edge rest fits.
      let parts = both _ _ fits in
      ap (edge_at size) (append_assoc (number edge.source) (number edge.target) rest)
      ∙ rw ((number_exact size).again edge.source (number edge.target ++ rest) parts.0, (number_exact size).again edge.target rest parts.1) refl;
}

-- four texts and a rest, grouped from the right
pub regroup_4 : (a b c d rest : List ℕ) → (a ++ (b ++ (c ++ d))) ++ rest ≡ a ++ (b ++ (c ++ (d ++ rest)))
regroup_4 a b c d rest = simp append_assoc

-- an owner that fits is one that four bytes hold
pub owner_small : (version : Version) (owner : ℕ) → is_owner version owner ≡ true → owner < 2 ^ 32
owner_small One owner fits = let below : owner < 32 = ltb-true _ _ fits in omega arith
owner_small Two owner fits = let below : owner < 128 = ltb-true _ _ fits in omega arith

pub compartment_exact : (version : Version) (size ram : ℕ) → ram < 2 ^ 32 → ReadsExactly (compartment_at version size ram) (compartment_spelling version) (λ row. is_compartment version ram row ≡ true)
unfolding compartment_at
compartment_exact version size ram small = record {
  takes = λ bytes x is_bytes e.
      on_ok (range_at size ram 12 bytes) _ x e λ range range-is e1.
      on_ok (field_at size 14 (is_owner version) range.1) _ x e1 λ owner owner-is e2.
      on_ok (mask_at version size owner.1) _ x e2 λ into into-is e3.
      on_ok (mask_at version size into.1) _ x e3 λ write write-is e4.
      let mask = mask_spelling version in
      let t1 = (range_exact size ram 12 small).takes bytes range is_bytes range-is in
      let t2 = (field_exact size 14 (is_owner version)).takes range.1 owner t1.0.rest_is_bytes owner-is in
      let t3 = (mask_exact version size).takes owner.1 into t2.0.rest_is_bytes into-is in
      let t4 = (mask_exact version size).takes into.1 write t3.0.rest_is_bytes write-is in
      let masks = takes_then owner.1 (mask into.0) into.1 (mask write.0) write.1 t3.0 t4.0 in
      let owned = takes_then range.1 (number owner.0) owner.1 (mask into.0 ++ mask write.0) write.1 t2.0 masks in
      let made : CompartmentRow × List ℕ = (record { range = range.0; owner = owner.0; into = into.0; write = write.0 }, write.1) in
      subst (λ (y : CompartmentRow × List ℕ). Takes bytes (compartment_spelling version y.0) y.1 × (is_compartment version ram y.0 ≡ true)) (ok_is made x e4)
      (takes_then bytes (range_spelling range.0) range.1 (number owner.0 ++ (mask into.0 ++ mask write.0)) write.1 t1.0 owned, and_is _ _ (and_is _ _ (and_is _ _ t1.1 t2.1.1) t3.1) t4.1);
  again = λ row rest fits.
      let mask = mask_spelling version in
      let p4 = both _ _ fits in
      let p3 = both _ _ p4.0 in
      let p2 = both _ _ p3.0 in
      ap (compartment_at version size ram) (regroup_4 (range_spelling row.range) (number row.owner) (mask row.into) (mask row.write) rest)
      ∙ rw ((range_exact size ram 12 small).again row.range (number row.owner ++ (mask row.into ++ (mask row.write ++ rest))) p2.0, (field_exact size 14 (is_owner version)).again row.owner (mask row.into ++ (mask row.write ++ rest)) (owner_small version row.owner p2.1, p2.1), (mask_exact version size).again row.into (mask row.write ++ rest) p3.1, (mask_exact version size).again row.write rest p4.1) refl;
}

-- ---- segments

-- where a segment's words lie, and that it is in order
record TakesRange (ram : ℕ) (before : Option WordRange) (bytes : List ℕ) (x : WordRange × List ℕ) : Type 0 where
  pub taken : Takes bytes (range_spelling x.0) x.1
  pub fits : is_range ram x.0 ≡ true
  pub ordered : in_order is_clear_of before x.0 ≡ true

range_behind_takes : (size ram row : ℕ) (before : Option WordRange) (bytes : List ℕ) (x : WordRange × List ℕ) → ram < 2 ^ 32 → IsBytes bytes → range_behind_at size ram row before bytes ≡ Ok x → TakesRange ram before bytes x
unfolding range_behind_at
range_behind_takes size ram row before bytes x small is_bytes e =
    on_ok (range_at size ram 6 bytes) _ x e λ range range-is e1.
    on_ok (demand (in_order is_clear_of before range.0) (Order 1 row)) _ x e1 λ u u-is e2.
    let t = (range_exact size ram 6 small).takes bytes range is_bytes range-is in
    subst (λ (y : WordRange × List ℕ). TakesRange ram before bytes y) (ok_is range x e2) (record { taken = t.0; fits = t.1; ordered = demanded _ _ u u-is })

range_behind_again : (size ram row : ℕ) (before : Option WordRange) (range : WordRange) (rest : List ℕ) → ram < 2 ^ 32 → is_range ram range ≡ true → in_order is_clear_of before range ≡ true → range_behind_at size ram row before (range_spelling range ++ rest) ≡ Ok (range, rest)
unfolding range_behind_at
range_behind_again size ram row before range rest small fits ordered = rw ((range_exact size ram 6 small).again range rest fits, ordered) refl

pub segment_reads : (size ram : ℕ) → ram < 2 ^ 32 → ReadsRow (segment_at size ram) extent_of segment_spelling (is_segment ram) is_clear_of
unfolding segment_at
segment_reads size ram small = record {
  takes = λ place x is_bytes e.
      on_ok (range_behind_at size ram place.row place.before place.bytes) _ x e λ range range-is e1.
      on_ok (times range.0.words (number_at w32 size) range.1) _ x e1 λ words words-is e2.
      let t = range_behind_takes size ram place.row place.before place.bytes range small is_bytes range-is in
      let ts = items_take (number_at w32 size) number (λ n. is_u32 n ≡ true) is_u32 (number_exact size) (λ n fits. fits) range.0.words range.1 words t.taken.rest_is_bytes words-is in
      let len : length words.0 ≡ range.0.words = times_length range.0.words (number_at w32 size) range.1 words words-is in
      let segment : Segment = record { address = range.0.address; words = words.0 } in
      let extent : range.0 ≡ extent_of segment = ap (λ (n : ℕ). record { address = range.0.address; words = n }) (sym len) in
      let made : Segment × Place WordRange = (segment, placed (place.row + 1) (Some range.0) words.1) in
      let taken = takes_then place.bytes (range_spelling range.0) range.1 (flat_map number words.0) words.1 t.taken ts.0 in
      subst (λ (y : Segment × Place WordRange). Takes place.bytes (segment_spelling y.0) y.1.bytes × (is_segment ram y.0 ≡ true) × (in_order is_clear_of place.before (extent_of y.0) ≡ true) × (y.1.before ≡ Some (extent_of y.0))) (ok_is made x e2) (
        subst (λ (r : WordRange). Takes place.bytes (range_spelling r ++ flat_map number words.0) words.1) extent taken,
        and_is _ _ (subst (λ (r : WordRange). is_range ram r ≡ true) extent t.fits) ts.1,
        subst (λ (r : WordRange). in_order is_clear_of place.before r ≡ true) extent t.ordered,
        ap (λ (r : WordRange). Some r) extent,
      );
  again = λ row before segment rest fits ordered.
      let parts = both _ _ fits in
      ap (λ (bytes : List ℕ). segment_at size ram (placed row before bytes)) (append_assoc (range_spelling (extent_of segment)) (flat_map number segment.words) rest)
      ∙ rw (range_behind_again size ram row before (extent_of segment) (flat_map number segment.words ++ rest) small parts.0 ordered, items_again (number_at w32 size) number (λ n. is_u32 n ≡ true) is_u32 (number_exact size) (λ n fits. fits) segment.words rest parts.1) refl;
}
