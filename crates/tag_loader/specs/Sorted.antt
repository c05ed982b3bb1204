-- Rows in order, and the row that an address belongs to.
use Rattle.std.specs.Prelude.{ℕ, ◌+◌, ◌*◌, ◌^◌, ◌<◌, ◌≤◌, Bool, ◌&&◌, if◌then◌else◌, nat_le, nat_lt, List, [], ◌∷◌, length, slice_index_or}
use Rattle.image_format.specs.Picture.{CompartmentRow}
use Rattle.image_format.specs.declared.rows.Label.{Label}
use Rattle.image_format.specs.declared.rows.WordRange.{WordRange}

-- of a range of words, the first address, and the one past the last
abbrev pub range_first : WordRange → ℕ
range_first range = range.address

abbrev pub range_past : WordRange → ℕ
range_past range = range.address + 4 * range.words

abbrev pub owned_first : CompartmentRow → ℕ
owned_first row = range_first row.range

abbrev pub owned_past : CompartmentRow → ℕ
owned_past row = range_past row.range

-- a label has one address
abbrev pub label_first : Label → ℕ
label_first label = label.address

abbrev pub label_past : Label → ℕ
label_past label = label.address + 1

-- the address is the first of the row's or lies behind it, and before the one past its last
abbrev pub holds : {R : Type 0} → (R → ℕ) → (R → ℕ) → ℕ → R → Bool
holds first past address row = nat_le (first row) address && nat_lt address (past row)

-- no row is empty, and each begins no earlier than those before it end
pub record Ascends {R : Type 0} (first past : R → ℕ) (rows : List R) : Type 0 where
  pub some : (k : ℕ) (d : R) → k < length rows → first (slice_index_or rows k d) < past (slice_index_or rows k d)
  pub rising : (k later : ℕ) (d : R) → k < later → later < length rows → past (slice_index_or rows k d) ≤ first (slice_index_or rows later d)

-- the rows from the first on that ends behind the address
abbrev pub rows_past : {R : Type 0} → (R → ℕ) → ℕ → List R → List R
rows_past past address [] = []
rows_past past address (row ∷ rows) = if nat_le (past row) address then rows_past past address rows else row ∷ rows

-- the first row, if there is one, ends behind the address
abbrev pub BeginsUnended : {R : Type 0} → (R → ℕ) → ℕ → List R → Type 0
BeginsUnended past address rows = (d : _) → 0 < length rows → address < past (slice_index_or rows 0 d)

-- where the first row begins or ends, whichever comes next
abbrev pub first_end : {R : Type 0} → (R → ℕ) → (R → ℕ) → ℕ → List R → ℕ
first_end first past address [] = 2 ^ 32
first_end first past address (row ∷ rows) = if nat_le (first row) address then past row else first row
