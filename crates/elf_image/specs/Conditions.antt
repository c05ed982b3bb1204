-- Which ELF files are taken, under the RAM of a tag file: the conditions in their order.
use Rattle.std.specs.Prelude.{ℕ, zero, suc, ◌+◌, ◌*◌, ◌%◌, ◌==◌, nat_le, nat_lt, Bool, not, ◌&&◌, ◌||◌, List, [], ◌∷◌, ◌++◌, length, take, Result, Ok, if◌then◌else◌}
use Rattle.std.specs.List.{list_any}
use Rattle.std.specs.Str.{bytes_eq}
use Rattle.shared_terms.specs.Steps.{◌>>=◌, demand}
use Rattle.image_format.specs.Conditions.{is_place}
use Rattle.elf_image.specs.Headers.{half_at, header_at, header_count, is_load, table_offset, word_at}
use Rattle.elf_image.specs.declared.headers.ProgramHeader.{ProgramHeader}
use Rattle.elf_image.specs.declared.errors.ElfError.{ElfError}
use Rattle.elf_image.specs.declared.errors.ElfError.TheVariants as error

-- 7F, "ELF", 32 bits, little-endian, version 1
abbrev pub ident : List ℕ
ident = 127 ∷ 69 ∷ 76 ∷ 70 ∷ 1 ∷ 1 ∷ 1 ∷ []

-- the program headers have 32 bytes each and lie in the file, if there are any
abbrev pub has_headers : List ℕ → Bool
has_headers elf =
    header_count elf == 0 || (half_at elf 42 == 32 && nat_le (table_offset elf + 32 * header_count elf) (length elf))

-- the conditions of the file's header
unfoldable pub header_of : List ℕ → Result (Unit {0}) ElfError
header_of elf = do
  long ← demand (nat_le 52 (length elf)) error.Short
  named ← demand (bytes_eq ident (take 7 elf)) error.Ident
  runs ← demand (half_at elf 16 == 2) error.NotExec
  riscv ← demand (half_at elf 18 == 243) error.Machine
  plain ← demand (word_at elf 36 % 2 == 0) error.Compressed
  demand (has_headers elf) error.Headers

-- its bytes lie in the file, if it has any there
abbrev pub lies_in : List ℕ → ProgramHeader → Bool
lies_in elf header = header.file_bytes == 0 || nat_le (header.offset + header.file_bytes) (length elf)

-- it has no fewer bytes in memory than in the file, and they lie in both
abbrev pub fits : List ℕ → ℕ → ProgramHeader → Bool
fits elf ram header =
    nat_le header.file_bytes header.memory_bytes && lies_in elf header && nat_le (header.address + header.memory_bytes) ram

-- the memory bytes of two have one in common
abbrev pub meets : ProgramHeader → ProgramHeader → Bool
meets first second =
    nat_lt first.address (second.address + second.memory_bytes) && nat_lt second.address (first.address + first.memory_bytes)
    && nat_lt 0 first.memory_bytes && nat_lt 0 second.memory_bytes

-- the loadable segment of a row, behind those before it
unfoldable pub segment_after : List ℕ → ℕ → ℕ → ProgramHeader → List ProgramHeader → Result (List ProgramHeader) ElfError
segment_after elf ram row header before = do
  fit ← demand (fits elf ram header) (error.Segment row)
  clear ← demand (not (list_any (meets header) before)) (error.Overlap row)
  Ok (before ++ header ∷ [])

-- other rows are passed over
unfoldable pub row_after : List ℕ → ℕ → ℕ → List ProgramHeader → Result (List ProgramHeader) ElfError
row_after elf ram row before =
    if is_load (header_at elf row) then segment_after elf ram row (header_at elf row) before else Ok before

-- the loadable segments of so many rows from one on, behind those before them
unfoldable pub segments_from : List ℕ → ℕ → ℕ → ℕ → List ProgramHeader → Result (List ProgramHeader) ElfError
segments_from elf ram row zero before = Ok before
segments_from elf ram row (suc count) before = do
  more ← row_after elf ram row before
  segments_from elf ram (row + 1) count more

-- the loadable segments in the order of their rows, or the first condition that fails
unfoldable pub segments_of : List ℕ → ℕ → Result (List ProgramHeader) ElfError
segments_of elf ram = do
  header ← header_of elf
  segments ← segments_from elf ram 0 (header_count elf) []
  entry ← demand (is_place ram (word_at elf 24)) error.Entry
  Ok segments
