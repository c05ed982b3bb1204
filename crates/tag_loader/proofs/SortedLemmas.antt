-- The row of a sorted list that an address belongs to, and which lists are sorted.
use Rattle.std.proofs.Common.{◌≡◌, ℕ, zero, suc, ◌+◌, ◌*◌, ◌<◌, ◌≤◌, Bool, true, false, ◌&&◌, nat_le, nat_lt, List, [], ◌∷◌, length, drop, Option, Some, None, refl, ap, subst, sym, ◌∙◌, slice_index_or, leb, ⊎_elim, if◌then◌else◌, arith}
use Rattle.std.specs.List.{find}
use Rattle.std.specs.List.Sorted.{IsNonDecreasingBy, IsPartitionPoint}
use Rattle.std.proofs.lemmas.Bool.{cases_lt, leb-false, leb-true, ltb-true}
use Rattle.std.proofs.Math.Bool.{and-false}
use Rattle.std.proofs.lemmas.Bool.Decides.{nat_tests}
use Rattle.image_format.specs.Conditions.{IsList, are_rows, in_order, is_clear_of, is_compartment, is_compartment_after, is_label, is_label_after, is_range, whole}
use Rattle.image_format.proofs.FieldLemmas.{both}
use Rattle.image_format.specs.Picture.{CompartmentRow}
use Rattle.image_format.specs.declared.version.Version.{Version}
use Rattle.image_format.specs.declared.rows.Label.{Label}
use Rattle.image_format.specs.declared.rows.WordRange.{WordRange}
use Rattle.tag_loader.specs.Births.{is_labelled_by}
use Rattle.tag_loader.specs.Sorted.{Ascends, BeginsUnended, holds, rows_past}

-- ---- the first of a list that passes

module _ {R : Type 0} (p : R → Bool) where
  find_if : (passes : Bool) (row : R) (rows : List R) → p row ≡ passes → find p (row ∷ rows) ≡ (if passes then Some row else find p rows)
  find_if passes row rows is = ap (λ test. if test then Some row else find p rows) is

  pub none_found : (rows : List R) → ((k : ℕ) (d : R) → k < length rows → p (slice_index_or rows k d) ≡ false) → find p rows ≡ None
  none_found [] fails = refl
  none_found (row ∷ rows) fails =
      find_if false row rows (fails 0 row (omega arith)) ∙ none_found rows (λ k d lt. fails (suc k) d (omega (arith, lt)))

  -- rows in front that fail don't count
  pub find-drop : (rows : List R) (place : ℕ) → ((k : ℕ) (d : R) → k < place → p (slice_index_or rows k d) ≡ false) → find p (drop place rows) ≡ find p rows
  find-drop rows zero fails = refl
  find-drop [] (suc place) fails = refl
  find-drop (row ∷ rows) (suc place) fails =
      find-drop rows place (λ k d lt. fails (suc k) d (omega (arith, lt))) ∙ sym (find_if false row rows (fails 0 row (omega arith)))

-- ---- the row of an address

module _ {R : Type 0} (first past : R → ℕ) where
  ended : (address : ℕ) (row : R) → past row ≤ address → holds first past address row ≡ false
  ended address row le =
      let over : nat_lt address (past row) ≡ false = grind (arith, nat_tests) in
      ap (λ test. nat_le (first row) address && test) over ∙ and-false (nat_le (first row) address)

  later : (address : ℕ) (row : R) → address < first row → holds first past address row ≡ false
  later address row lt =
      let not_begun : nat_le (first row) address ≡ false = grind (arith, nat_tests) in
      ap (λ test. test && nat_lt address (past row)) not_begun

  module _ (rows : List R) (ascends : Ascends first past rows) where
    pub ends_rise : IsNonDecreasingBy past rows
    ends_rise k other d le lt =
        ⊎_elim
        (λ below. let rises = ascends.rising k other d below lt in let some = ascends.some other d lt in omega (arith, rises, some))
        (λ above.
        let same : k ≡ other = omega (arith, le, above) in
        subst (λ (n : ℕ). past (slice_index_or rows k d) ≤ past (slice_index_or rows n d)) same (omega arith))
        (cases_lt k other)

  ascends_rest : (row : R) (rows : List R) → Ascends first past (row ∷ rows) → Ascends first past rows
  ascends_rest row rows ascends = record {
    some = λ k d lt. ascends.some (suc k) d (omega (arith, lt));
    rising = λ k later d lt below. ascends.rising (suc k) (suc later) d (omega (arith, lt)) (omega (arith, below));
  }

  module _ (address : ℕ) where
    begins_later : (row : R) (rows : List R) → Ascends first past (row ∷ rows) → address < first row → (k : ℕ) (d : R) → k < length (row ∷ rows)
        → address < first (slice_index_or (row ∷ rows) k d)
    begins_later row rows ascends not_begun zero d lt = not_begun
    begins_later row rows ascends not_begun (suc k) d lt =
        let rises = ascends.rising 0 (suc k) d (omega arith) (omega (arith, lt)) in
        let some = ascends.some 0 d (omega arith) in
        omega (arith, rises, some, not_begun)

    -- it has not begun, and those behind it begin later
    pub none_begun : (rows : List R) (row : R) → Ascends first past rows → 0 < length rows → row ≡ slice_index_or rows 0 row → address < first row
        → find (holds first past address) rows ≡ None
    none_begun [] row ascends lt is not_begun = refl
    none_begun (other ∷ rows) row ascends lt is not_begun =
        let not_yet : address < first other = subst (λ (r : R). address < first r) is not_begun in
        none_found (holds first past address) (other ∷ rows) λ k e below. later address (slice_index_or (other ∷ rows) k e) (begins_later other rows ascends not_yet k e below)

    -- ---- the rows behind a partition point

    module _ (rows : List R) (place : ℕ) (point : IsPartitionPoint (λ row. leb (past row) address ≡ true) (λ row. leb (past row) address ≡ false) rows place) where
      pub find_behind : find (holds first past address) (drop place rows) ≡ find (holds first past address) rows
      find_behind = find-drop (holds first past address) rows place λ k d lt. ended address (slice_index_or rows k d) (leb-true _ _ (point.0 k d (omega arith) lt))

    -- ---- the rows without those that have ended

    ascends_if : (row : R) (rows : List R) (has_ended : Bool) → Ascends first past (rows_past past address rows) → Ascends first past (row ∷ rows)
        → Ascends first past (if has_ended then rows_past past address rows else row ∷ rows)
    ascends_if row rows true others all = others
    ascends_if row rows false others all = all

    pub unended-ascends : (rows : List R) → Ascends first past rows → Ascends first past (rows_past past address rows)
    unended-ascends [] ascends = ascends
    unended-ascends (row ∷ rows) ascends =
        ascends_if row rows (nat_le (past row) address) (unended-ascends rows (ascends_rest row rows ascends)) ascends

    begins_if : (row : R) (rows : List R) (has_ended : Bool) → nat_le (past row) address ≡ has_ended → BeginsUnended past address (rows_past past address rows)
        → BeginsUnended past address (if has_ended then rows_past past address rows else row ∷ rows)
    begins_if row rows true is others = others
    begins_if row rows false is others = λ d lt. leb-false _ _ is

    pub unended-begins : (rows : List R) → BeginsUnended past address (rows_past past address rows)
    unended-begins [] = λ d lt. absurd (omega (arith, lt))
    unended-begins (row ∷ rows) = begins_if row rows (nat_le (past row) address) refl (unended-begins rows)

    module _ (at : ℕ) (from : address ≤ at) where
      finds_if : (row : R) (rows : List R) (has_ended : Bool) → nat_le (past row) address ≡ has_ended
          → find (holds first past at) (rows_past past address rows) ≡ find (holds first past at) rows
          → find (holds first past at) (if has_ended then rows_past past address rows else row ∷ rows) ≡ find (holds first past at) (row ∷ rows)
      finds_if row rows true is others =
          let before : past row ≤ address = leb-true _ _ is in
          others ∙ sym (find_if (holds first past at) false row rows (ended at row (omega (arith, before, from))))
      finds_if row rows false is others = refl

      pub unended-finds : (rows : List R) → find (holds first past at) (rows_past past address rows) ≡ find (holds first past at) rows
      unended-finds [] = refl
      unended-finds (row ∷ rows) = finds_if row rows (nat_le (past row) address) refl (unended-finds rows)

-- ---- lists of an image

abbrev IsAbove : {R : Type 0} → (R → ℕ) → (R → ℕ) → Option R → List R → Type 0
IsAbove first past None rows = Unit {0}
IsAbove first past (Some before) rows = (k : ℕ) (d : _) → k < length rows → past before ≤ first (slice_index_or rows k d)

module _ {R : Type 0} (first past : R → ℕ) (fits : R → Bool) (follows : R → R → Bool)
    (some : (row : R) → fits row ≡ true → first row < past row) (behind : (before row : R) → follows before row ≡ true → past before ≤ first row) where
  ascends_with : (row : R) (rows : List R) → first row < past row → ((k : ℕ) (d : R) → k < length rows → past row ≤ first (slice_index_or rows k d)) → Ascends first past rows → Ascends first past (row ∷ rows)
  ascends_with row rows is_some above ascends = record { some = some_of; rising = rising_of }
    where
      some_of : (k : ℕ) (d : R) → k < length (row ∷ rows) → first (slice_index_or (row ∷ rows) k d) < past (slice_index_or (row ∷ rows) k d)
      some_of zero d lt = is_some
      some_of (suc k) d lt = ascends.some k d (omega (arith, lt))

      rising_of : (k later : ℕ) (d : R) → k < later → later < length (row ∷ rows) → past (slice_index_or (row ∷ rows) k d) ≤ first (slice_index_or (row ∷ rows) later d)
      rising_of zero zero d lt below = absurd (omega (arith, lt))
      rising_of zero (suc later) d lt below = above later d (omega (arith, below))
      rising_of (suc k) zero d lt below = absurd (omega (arith, lt))
      rising_of (suc k) (suc later) d lt below = ascends.rising k later d (omega (arith, lt)) (omega (arith, below))

  above_with : (before : Option R) (row : R) (rows : List R) → first row < past row → in_order follows before row ≡ true
      → ((k : ℕ) (d : R) → k < length rows → past row ≤ first (slice_index_or rows k d)) → IsAbove first past before (row ∷ rows)
  above_with None row rows is_some ordered above = tt
  above_with (Some before) row rows is_some ordered above = above_of
    where
      above_of : (k : ℕ) (d : R) → k < length (row ∷ rows) → past before ≤ first (slice_index_or (row ∷ rows) k d)
      above_of zero d lt = behind before row ordered
      above_of (suc k) d lt =
          let steps = behind before row ordered in
          let rest = above k d (omega (arith, lt)) in
          omega (arith, steps, is_some, rest)

  rows_ascend : (before : Option R) (rows : List R) → are_rows whole fits follows before rows ≡ true → Ascends first past rows × IsAbove first past before rows
  rows_ascend None [] are = (record { some = λ k d lt. absurd (omega (arith, lt)); rising = λ k later d lt below. absurd (omega (arith, below)) }, tt)
  rows_ascend (Some before) [] are =
      (record { some = λ k d lt. absurd (omega (arith, lt)); rising = λ k later d lt below. absurd (omega (arith, below)) }, λ k d lt. absurd (omega (arith, lt)))
  rows_ascend before (row ∷ rows) are =
      let parts = both (fits row && in_order follows before row) (are_rows whole fits follows (Some row) rows) are in
      let here = both (fits row) (in_order follows before row) parts.0 in
      let others = rows_ascend (Some row) rows parts.1 in
      let is_some = some row here.0 in
      (ascends_with row rows is_some others.1 others.0, above_with before row rows is_some here.1 others.1)

  pub list_ascends : (rows : List R) → IsList whole fits follows rows → Ascends first past rows
  list_ascends rows is = (rows_ascend None rows is.rows).0

some_words : (range : WordRange) → 1 ≤ range.words → range.address < range.address + 4 * range.words
some_words range one = omega (arith, one)

range_some : (ram : ℕ) (range : WordRange) → is_range ram range ≡ true → range.address < range.address + 4 * range.words
range_some ram range fits =
    let counted : (leb 1 range.words && leb (range.address + 4 * range.words) ram) ≡ true = (both _ _ fits).1 in
    some_words range (leb-true 1 range.words (both (leb 1 range.words) (leb (range.address + 4 * range.words) ram) counted).0)

clear_behind : (before range : WordRange) → is_clear_of before range ≡ true → before.address + 4 * before.words ≤ range.address
clear_behind before range is = leb-true _ _ is

pub code_ascends : (ram : ℕ) (rows : List WordRange) → IsList whole (is_range ram) is_clear_of rows → Ascends (λ range. range.address) (λ range. range.address + 4 * range.words) rows
code_ascends ram rows is = list_ascends _ _ (is_range ram) is_clear_of (range_some ram) clear_behind rows is

compartment_some : (version : Version) (ram : ℕ) (row : CompartmentRow) → is_compartment version ram row ≡ true
    → row.range.address < row.range.address + 4 * row.range.words
compartment_some version ram row fits = range_some ram row.range (both _ _ (both _ _ (both _ _ fits).0).0).0

pub compartments_ascend : (version : Version) (ram : ℕ) (rows : List CompartmentRow) → IsList whole (is_compartment version ram) is_compartment_after rows
    → Ascends (λ row. row.range.address) (λ row. row.range.address + 4 * row.range.words) rows
compartments_ascend version ram rows is =
    list_ascends _ _ (is_compartment version ram) is_compartment_after (compartment_some version ram) (λ before row is. clear_behind before.range row.range is) rows is

label_behind : (before label : Label) → is_label_after before label ≡ true → before.address + 1 ≤ label.address
label_behind before label is = let below : before.address < label.address = ltb-true _ _ is in omega (arith, below)

pub labels_ascend : (ram : ℕ) (rows : List Label) → IsList whole (is_label ram) is_label_after rows → Ascends (λ label. label.address) (λ label. label.address + 1) rows
labels_ascend ram rows is = list_ascends _ _ (is_label ram) is_label_after (λ label fits. omega arith) label_behind rows is

-- the one address of a label
label_holds : (address : ℕ) (label : Label) → holds (λ (l : Label). l.address) (λ (l : Label). l.address + 1) address label ≡ is_labelled_by address label
label_holds address label = grind (arith, nat_tests)

pub labels_found : (address : ℕ) (rows : List Label) → find (holds (λ (l : Label). l.address) (λ (l : Label). l.address + 1) address) rows ≡ find (is_labelled_by address) rows
labels_found address rows = λ j. find (λ label. label_holds address label j) rows
