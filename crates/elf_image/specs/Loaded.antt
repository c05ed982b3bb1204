-- What the loadable segments of an ELF file put where: a statement on each address, and the image of it.
use Rattle.std.specs.Prelude.{ℕ, ◌+◌, ◌-◌, ◌*◌, ◌/◌, ◌==◌, Bool, ◌&&◌, ◌||◌, nat_lt, List, [], ◌∷◌, Option, Some, None, Result, Ok, slice_index, if◌then◌else◌}
use Rattle.std.specs.List.{find, fold, list_any, range_with_len}
use Rattle.std.specs.Option.{is_some}
use Rattle.byteorder.specs.Endian.{little_number}
use Rattle.shared_terms.specs.Steps.{◌>>=◌}
use Rattle.image_format.specs.Building.{with_word}
use Rattle.image_format.specs.Picture.{Picture, Segment}
use Rattle.image_format.specs.declared.rows.WordRange.{WordRange}
use Rattle.elf_image.specs.Conditions.{segments_of}
use Rattle.elf_image.specs.Headers.{covers, is_executable, word_at}
use Rattle.elf_image.specs.declared.headers.ProgramHeader.{ProgramHeader}
use Rattle.elf_image.specs.declared.errors.ElfError.{ElfError}

-- the segment that an address lies in
abbrev pub segment_at : List ProgramHeader → ℕ → Option ProgramHeader
segment_at segments address = find (λ (header : ProgramHeader). covers header address) segments

-- an address lies in a segment; in one that may be executed
abbrev pub is_loaded_at : List ProgramHeader → ℕ → Bool
is_loaded_at segments address = is_some (segment_at segments address)

abbrev pub is_code_at : List ProgramHeader → ℕ → Bool
is_code_at segments address = list_any (λ (header : ProgramHeader). covers header address && is_executable header) segments

-- some byte of the word of this number passes the test
abbrev pub has_byte : (ℕ → Bool) → ℕ → Bool
has_byte test n = test (4 * n) || test (4 * n + 1) || test (4 * n + 2) || test (4 * n + 3)

-- a range and the word of a number: one range where the first ends there, and two elsewhere
abbrev pub with_next_code : WordRange → ℕ → List WordRange
with_next_code range n =
    if range.address + 4 * range.words == 4 * n then (record { address = range.address; words = range.words + 1 }) ∷ []
    else range ∷ (record { address = 4 * n; words = 1 }) ∷ []

-- ranges, and the word of a number behind the last of them
abbrev pub with_code_word : List WordRange → ℕ → List WordRange
with_code_word [] n = (record { address = 4 * n; words = 1 }) ∷ []
with_code_word (last ∷ []) n = with_next_code last n
with_code_word (first ∷ second ∷ ranges) n = first ∷ with_code_word (second ∷ ranges) n

module _ (elf : List ℕ) (segments : List ProgramHeader) where
  -- the byte that a segment puts at an address of its own: one of the file's, or 0 behind these
  abbrev pub byte_in : ProgramHeader → ℕ → ℕ
  byte_in header address =
      if nat_lt (address - header.address) header.file_bytes then slice_index elf (header.offset + (address - header.address)) else 0

  -- the byte at an address; where no segment lies it is 0
  abbrev pub byte_or_zero : ℕ → Option ProgramHeader → ℕ
  byte_or_zero address None = 0
  byte_or_zero address (Some header) = byte_in header address

  abbrev pub byte_at : ℕ → ℕ
  byte_at address = byte_or_zero address (segment_at segments address)

  -- the word of this number, its low byte first
  abbrev pub loaded_word : ℕ → ℕ
  loaded_word n = little_number 4 (byte_at (4 * n) ∷ byte_at (4 * n + 1) ∷ byte_at (4 * n + 2) ∷ byte_at (4 * n + 3) ∷ [])

  -- the loaded words of the memory, from the first on: maximal runs of them are the image's segments
  abbrev pub with_loaded : List Segment → ℕ → List Segment
  with_loaded runs n = if has_byte (is_loaded_at segments) n then with_word runs (4 * n) (loaded_word n) else runs

  unfoldable pub loaded_segments : ℕ → List Segment
  loaded_segments ram = fold with_loaded [] (range_with_len 0 (ram / 4))

  -- and maximal runs of code words are its code ranges
  abbrev pub with_code : List WordRange → ℕ → List WordRange
  with_code runs n = if has_byte (is_code_at segments) n then with_code_word runs n else runs

  unfoldable pub loaded_code : ℕ → List WordRange
  loaded_code ram = fold with_code [] (range_with_len 0 (ram / 4))

-- the entry of hart 0 in place of the first of a list
abbrev pub with_entry : ℕ → List ℕ → List ℕ
with_entry entry [] = []
with_entry entry (first ∷ entries) = entry ∷ entries

-- the image of an ELF file under a tag file's: segments, code and the entry of hart 0 are the ELF file's, all else the tag file's
abbrev pub loaded_picture : List ℕ → Picture → List ProgramHeader → Picture
loaded_picture elf tags segments = record tags {
  entries = with_entry (word_at elf 24) tags.entries;
  segments = loaded_segments elf segments tags.ram;
  code = loaded_code elf segments tags.ram;
}

-- that image, or the first condition that fails
unfoldable pub image_of_elf : List ℕ → Picture → Result Picture ElfError
image_of_elf elf tags = do
  segments ← segments_of elf tags.ram
  Ok (loaded_picture elf tags segments)
