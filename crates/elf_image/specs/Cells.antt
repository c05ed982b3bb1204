-- The memory as it is kept while an ELF file is loaded: a cell for each byte.
use Rattle.std.specs.Prelude.{◌≡◌, ℕ, ◌*◌, ◌/◌, ◌<◌, false, List, [], length, map, take, drop, slice_index_or, Result, Ok, Err, if◌then◌else◌}
use Rattle.std.specs.List.{fold, list_any, range_with_len}
use Rattle.byteorder.specs.Endian.{little_number}
use Rattle.image_format.specs.Building.{with_word}
use Rattle.image_format.specs.Picture.{Segment}
use Rattle.image_format.specs.declared.rows.WordRange.{WordRange}
use Rattle.elf_image.specs.declared.cells.Cell.{Cell}
use Rattle.elf_image.specs.declared.errors.ElfError.{ElfError}
use Rattle.elf_image.specs.declared.headers.ProgramHeader.{ProgramHeader}
use Rattle.elf_image.specs.Loaded.{byte_at, is_code_at, is_loaded_at, with_code_word}

-- a byte in no segment
abbrev pub free : Cell
free = record { byte = 0; is_loaded = false; is_code = false }

-- what the segments put at an address
abbrev pub cell_at : List ℕ → List ProgramHeader → ℕ → Cell
cell_at elf segments address =
    record { byte = byte_at elf segments address; is_loaded = is_loaded_at segments address; is_code = is_code_at segments address }

-- each cell is what the segments put there
abbrev pub AreCells : List ℕ → List ProgramHeader → List Cell → Type 0
AreCells elf segments cells = (address : ℕ) → address < length cells → slice_index_or cells address free ≡ cell_at elf segments address

-- loading left what the segments put in the cells, or ended with the condition that fails
abbrev pub Loads : List ℕ → List Cell → Result (Unit {0}) ElfError → Result (List ProgramHeader) ElfError → Type 0
Loads elf cells (Ok done) read = (segments : List ProgramHeader) × (read ≡ Ok segments) × AreCells elf segments cells
Loads elf cells (Err error) read = read ≡ Err error

-- ---- words

-- the four cells of the word of a number
abbrev pub cells_of_word : List Cell → ℕ → List Cell
cells_of_word cells n = take 4 (drop (4 * n) cells)

-- the word of four cells, its low byte first
abbrev pub word_of : List Cell → ℕ
word_of cells = little_number 4 (map (λ (cell : Cell). cell.byte) cells)

-- the words with a loaded byte, from the first on, in segments
abbrev pub with_cells : List Cell → List Segment → ℕ → List Segment
with_cells cells runs n =
    if list_any (λ (cell : Cell). cell.is_loaded) (cells_of_word cells n) then with_word runs (4 * n) (word_of (cells_of_word cells n)) else runs

abbrev pub segments_in : List Cell → List Segment
segments_in cells = fold (with_cells cells) [] (range_with_len 0 (length cells / 4))

-- the words with a byte of code, in ranges
abbrev pub with_code_cells : List Cell → List WordRange → ℕ → List WordRange
with_code_cells cells runs n = if list_any (λ (cell : Cell). cell.is_code) (cells_of_word cells n) then with_code_word runs n else runs

abbrev pub code_in : List Cell → List WordRange
code_in cells = fold (with_code_cells cells) [] (range_with_len 0 (length cells / 4))
