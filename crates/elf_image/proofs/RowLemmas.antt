-- The rows of the program headers, one after the other.
use Rattle.std.proofs.Common.{◌≡◌, ℕ, suc, ◌+◌, ◌-◌, ◌<◌, ◌≤◌, true, false, List, [], length, Ok, Err, refl, sym, ap, ◌∙◌, arith}
use Rattle.elf_image.specs.Cells.{AreCells, Loads}
use Rattle.elf_image.specs.Conditions.{row_after, segment_after, segments_from}
use Rattle.elf_image.specs.Headers.{header_at, is_load}
use Rattle.elf_image.specs.declared.cells.Cell.{Cell}
use Rattle.elf_image.specs.declared.errors.ElfError.{ElfError}
use Rattle.elf_image.specs.declared.headers.ProgramHeader.{ProgramHeader}

-- a row that is passed over, and one of a loadable segment
pub row_passed : (elf : List ℕ) (ram row : ℕ) (header : ProgramHeader) (before : List ProgramHeader) → header ≡ header_at elf row → is_load header ≡ false → row_after elf ram row before ≡ Ok before
unfolding row_after
row_passed elf ram row header before is passed = let p = rw is at passed in rw p refl

pub row_loaded : (elf : List ℕ) (ram row : ℕ) (header : ProgramHeader) (before : List ProgramHeader) → header ≡ header_at elf row → is_load header ≡ true → segment_after elf ram row header before ≡ row_after elf ram row before
unfolding row_after
row_loaded elf ram row header before is load = let l = rw is at load in rw (l, is) refl

-- the rows so far are loaded, and those from here on decide on the whole
pub record AreLoaded (elf : List ℕ) (ram count row : ℕ) (cells : List Cell) : Type 0 where
  pub before : List ProgramHeader
  pub rest : segments_from elf ram row (count - row) before ≡ segments_from elf ram 0 count []
  pub cells_are : AreCells elf before cells

-- before the first row
pub none_yet : (elf : List ℕ) (ram count : ℕ) (cells : List Cell) → AreCells elf [] cells → AreLoaded elf ram count 0 cells
none_yet elf ram count cells are =
    let all : count - 0 ≡ count = omega arith in
    record { before = []; rest = ap (λ (n : ℕ). segments_from elf ram 0 n []) all; cells_are = are }

-- a row was taken
pub goes_on : (elf : List ℕ) (ram count row : ℕ) (old new : List Cell) (done : Unit {0}) → row < count → length old ≡ ram → (loaded : AreLoaded elf ram count row old)
    → Loads elf new (Ok done) (row_after elf (length old) row loaded.before) → AreLoaded elf ram count (row + 1) new
unfolding segments_from
goes_on elf ram count row old new done lt size loaded (segments, read, are) =
    let k : count - row ≡ suc (count - (row + 1)) = omega arith in
    let here = rw size at read in
    let one : segments_from elf ram row (count - row) loaded.before ≡ segments_from elf ram (row + 1) (count - (row + 1)) segments = rw (k, here) refl in
    record { before = segments; rest = sym one ∙ loaded.rest; cells_are = are }

-- a row was refused, and so is the whole
pub refuses : (elf : List ℕ) (ram count row : ℕ) (old : List Cell) (why : ElfError) → row < count → length old ≡ ram → (loaded : AreLoaded elf ram count row old)
    → row_after elf (length old) row loaded.before ≡ Err why → segments_from elf ram 0 count [] ≡ Err why
unfolding segments_from
refuses elf ram count row old why lt size loaded read =
    let k : count - row ≡ suc (count - (row + 1)) = omega arith in
    let here = rw size at read in
    let one : segments_from elf ram row (count - row) loaded.before ≡ Err why = rw (k, here) refl in
    sym loaded.rest ∙ one

-- all rows were taken
pub all_loaded : (elf : List ℕ) (ram count row : ℕ) (cells : List Cell) (done : Unit {0}) → count ≤ row → AreLoaded elf ram count row cells → Loads elf cells (Ok done) (segments_from elf ram 0 count [])
unfolding segments_from
all_loaded elf ram count row cells done le loaded =
    let k : count - row ≡ 0 = omega arith in
    let one : segments_from elf ram row (count - row) loaded.before ≡ Ok loaded.before = rw k refl in
    (loaded.before, sym loaded.rest ∙ one, loaded.cells_are)
