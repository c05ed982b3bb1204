-- The fields of an ELF file (System V ABI, ELF-32, little-endian): its header and its program headers.
use Rattle.std.specs.Prelude.{ℕ, ◌+◌, ◌*◌, ◌%◌, ◌==◌, nat_le, nat_lt, Bool, ◌&&◌, List, drop}
use Rattle.byteorder.specs.Endian.{little_number}
use Rattle.elf_image.specs.declared.headers.ProgramHeader.{ProgramHeader}

-- two bytes at an offset, and four
abbrev pub half_at : List ℕ → ℕ → ℕ
half_at elf offset = little_number 2 (drop offset elf)

abbrev pub word_at : List ℕ → ℕ → ℕ
word_at elf offset = little_number 4 (drop offset elf)

-- how many program headers there are, and where they begin
abbrev pub header_count : List ℕ → ℕ
header_count elf = half_at elf 44

abbrev pub table_offset : List ℕ → ℕ
table_offset elf = word_at elf 28

-- where a row of them begins: a header has 32 bytes
abbrev pub row_offset : List ℕ → ℕ → ℕ
row_offset elf row = table_offset elf + 32 * row

-- the header of a row
unfoldable pub header_at : List ℕ → ℕ → ProgramHeader
header_at elf row = record {
  kind = word_at elf (row_offset elf row);
  offset = word_at elf (row_offset elf row + 4);
  address = word_at elf (row_offset elf row + 8);
  file_bytes = word_at elf (row_offset elf row + 16);
  memory_bytes = word_at elf (row_offset elf row + 20);
  flags = word_at elf (row_offset elf row + 24);
}

-- a loadable segment, PT_LOAD
abbrev pub is_load : ProgramHeader → Bool
is_load header = header.kind == 1

-- bit 0 of the flags: it may be executed
abbrev pub is_executable : ProgramHeader → Bool
is_executable header = header.flags % 2 == 1

-- an address lies in its memory bytes
abbrev pub covers : ProgramHeader → ℕ → Bool
covers header address = nat_le header.address address && nat_lt address (header.address + header.memory_bytes)
