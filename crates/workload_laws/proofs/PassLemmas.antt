-- The passes of the assembler over good rows: they are read, asked for a version, placed, and added.
use Rattle.std.proofs.Common.{◌≡◌, ℕ, zero, suc, ◌+◌, ◌*◌, ◌%◌, ◌≤◌, true, List, [], ◌∷◌, ◌++◌, refl, sym, ap, arith}
use Rattle.std.specs.Prelude.{nat_le, Ok}
use Rattle.std.specs.List.{list_all}
use Rattle.std.proofs.lemmas.Bool.Decides.{nat_tests}
use Rattle.std.proofs.lemmas.Bool.{and_from}
use Rattle.image_format.specs.declared.version.Version.TheVariants.{One}
use Rattle.asm_read.specs.declared.statements.Line.{Line}
use Rattle.asm_read.specs.declared.statements.Statement.{Statement}
use Rattle.asm_read.specs.Source.{lines_of}
use Rattle.asm_read.specs.Operands.{Text}
use Rattle.asm_words.specs.Emission.{Places}
use Rattle.asm_places.specs.Places.{next_place, places_from}
use Rattle.asm_places.specs.Sizes.{version_of}
use Rattle.asm_emit.specs.declared.values.Addition.{Addition}
use Rattle.asm_emit.specs.Assembled.{additions_of}
use Rattle.workload_laws.proofs.StatementLemmas.{AreGood, Comment, IsGood, IsSaid, Row, Said, added, end, is_line, numbered, past, places, text_in, texts_of, unnamed}

-- ---- the rows

pub good_append : (prefix rows : List Row) → AreGood prefix → AreGood rows → AreGood (prefix ++ rows)
good_append [] rows good more = more
good_append (row ∷ prefix) rows good more = (good.0, good_append prefix rows good.1 more)

row_line : (row : Row) → IsGood row → is_line (text_in row) ≡ true
row_line (Comment text) good = good.line
row_line (Said text statement size addition) good = good.line

pub rows_lines : (rows : List Row) → AreGood rows → list_all is_line (texts_of rows) ≡ true
rows_lines [] good = refl
rows_lines (row ∷ rows) good = and_from (is_line (text_in row)) (list_all is_line (texts_of rows)) (row_line row good.0) (rows_lines rows good.1)

-- ---- reading

pub rows_read : (number : ℕ) (rows : List Row) → AreGood rows → lines_of number (texts_of rows) ≡ Ok (numbered number rows)
unfolding lines_of
rows_read number [] good = refl
rows_read number (Comment text ∷ rows) good = rw (good.0.read number, rows_read (number + 1) rows good.1) refl
rows_read number (Said text statement size addition ∷ rows) good = rw (good.0.read number, rows_read (number + 1) rows good.1) refl

-- ---- the version

-- no row asks for one
pub rows_version : (number : ℕ) (rows : List Row) → AreGood rows → version_of (numbered number rows) ≡ Ok One
rows_version number [] good = refl
rows_version number (Comment text ∷ rows) good = rows_version (number + 1) rows good.1
rows_version number (Said text statement size addition ∷ rows) good = rw (good.0.unversioned, rows_version (number + 1) rows good.1) refl

-- ---- places

past_is : (place size : ℕ) → past place size ≡ place + 4 * size
past_is place zero = omega arith
past_is place (suc more) = refl

pub end_grows : (place : ℕ) (rows : List Row) → place ≤ end place rows
end_grows place [] = omega arith
end_grows place (Comment text ∷ rows) = end_grows place rows
end_grows place (Said text statement size addition ∷ rows) = omega (arith, past_is place size, end_grows (past place size) rows)

next_is : (before : List Line) (number place : ℕ) (text : Text) (statement : Statement) (size : ℕ) (addition : ℕ → Addition) → IsSaid text statement size addition
    → past place size ≤ 65536 → next_place 65536 before place (unnamed number statement) ≡ Ok (past place size)
unfolding next_place
next_is before number place text statement size addition good inside =
    let behind : past place size ≡ place + 4 * size = past_is place size in
    let fits : nat_le (place + 4 * size) 65536 ≡ true = grind (arith, nat_tests) in
    rw (good.once before, good.onward, good.count, fits) (ap (λ (p : ℕ). Ok p) (sym behind))

pub rows_placed : (before : List Line) (number place : ℕ) (rows : List Row) → AreGood rows → end place rows ≤ 65536
    → places_from 65536 before place (numbered number rows) ≡ Ok (places place rows, end place rows)
unfolding places_from
rows_placed before number place [] good inside = refl
rows_placed before number place (Comment text ∷ rows) good inside = rows_placed before (number + 1) place rows good.1 inside
rows_placed before number place (Said text statement size addition ∷ rows) good inside =
    let grown : past place size ≤ end (past place size) rows = end_grows (past place size) rows in
    let behind : past place size ≡ place + 4 * size = past_is place size in
    rw (next_is before number place text statement size addition good.0 (omega arith), rows_placed (before ++ unnamed number statement ∷ []) (number + 1) (past place size) rows good.1 inside) refl

-- ---- additions

pub rows_added : (names : Places) (number place : ℕ) (rows : List Row) → AreGood rows → place % 4 ≡ 0 → end place rows ≤ 65536
    → additions_of One 1 65536 names (numbered number rows) (places place rows) ≡ Ok (added place rows)
unfolding additions_of
rows_added names number place [] good aligned inside = refl
rows_added names number place (Comment text ∷ rows) good aligned inside = rows_added names (number + 1) place rows good.1 aligned inside
rows_added names number place (Said text statement size addition ∷ rows) good aligned inside =
    let grown : past place size ≤ end (past place size) rows = end_grows (past place size) rows in
    let behind : past place size ≡ place + 4 * size = past_is place size in
    rw (good.0.adds names place aligned (omega arith), rows_added names (number + 1) (past place size) rows good.1 (omega arith) inside) refl
