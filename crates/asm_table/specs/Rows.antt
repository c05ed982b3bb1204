-- Tables of texts, each with what it means.
use Rattle.std.specs.Prelude.{ℕ, List, [], ◌∷◌, map, Option, Some, None, if◌then◌else◌}
use Rattle.std.specs.Borrow.{Bor}
use Rattle.std.specs.Str.{bytes_eq}

-- what stands beside the text in the table
abbrev pub beside : {A : Type 0} → List ℕ → List (List ℕ × A) → Option A
beside text [] = None
beside text (row ∷ rows) = if bytes_eq text row.0 then Some row.1 else beside text rows

-- rows that are read through a reference
abbrev pub read_rows : {A : Type 0} → List (Bor (List ℕ) × A) → List (List ℕ × A)
read_rows rows = map (λ row. (row.0.now, row.1)) rows
