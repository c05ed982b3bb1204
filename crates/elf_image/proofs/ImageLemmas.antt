-- The image of an ELF file is an image.
use Rattle.std.proofs.Common.{◌≡◌, ℕ, ◌+◌, ◌-◌, ◌*◌, ◌^◌, ◌<◌, ◌≤◌, Bool, true, false, List, [], ◌∷◌, length, get_or, set, Option, Some, None, Ok, refl, ap, ◌∙◌, arith}
use Rattle.std.specs.Prelude.{nat_lt, if◌then◌else◌}
use Rattle.std.specs.List.{list_all}
use Rattle.std.proofs.lemmas.Bool.Decides.{nat_tests}
use Rattle.image_format.specs.Conditions.{IsImage, is_harts, is_place, is_ram, is_u32}
use Rattle.image_format.specs.Picture.{Picture}
use Rattle.elf_image.specs.Conditions.{segments_of}
use Rattle.elf_image.specs.Given.{AreParts, FailsAsElf}
use Rattle.elf_image.specs.Headers.{word_at}
use Rattle.elf_image.specs.Loaded.{byte_at, byte_or_zero, image_of_elf, loaded_code, loaded_picture, loaded_segments, loaded_word, segment_at, with_entry}
use Rattle.elf_image.specs.declared.errors.ElfEnd.{ElfEnd}
use Rattle.elf_image.specs.declared.errors.ElfEnd.TheVariants as ends
use Rattle.elf_image.specs.declared.headers.ProgramHeader.{ProgramHeader}
use Rattle.elf_image.specs.declared.loading.Loaded.{Loaded}
use Rattle.elf_image.proofs.HeaderLemmas.{entry_taken}
use Rattle.elf_image.proofs.RangeLemmas.{code_rows, loaded_rows}

-- ---- words of four bytes

module _ (elf : List ℕ) (segments : List ProgramHeader) (bytes : (i : ℕ) → get_or elf i 0 < 256) where
  byte_small : (address : ℕ) → byte_at elf segments address < 256
  byte_small address = go (segment_at segments address)
    where
      within : (b : Bool) (i : ℕ) → (if b then get_or elf i 0 else 0) < 256
      within true i = bytes i
      within false i = omega arith

      go : (o : Option ProgramHeader) → byte_or_zero elf segments address o < 256
      go None = omega arith
      go (Some header) = within (nat_lt (address - header.address) header.file_bytes) (header.offset + (address - header.address))

  word_small : (n : ℕ) → is_u32 (loaded_word elf segments n) ≡ true
  word_small n =
      let b0 = byte_small (4 * n) in
      let b1 = byte_small (4 * n + 1) in
      let b2 = byte_small (4 * n + 2) in
      let b3 = byte_small (4 * n + 3) in
      let below : loaded_word elf segments n < 2 ^ 32 = omega (arith, b0, b1, b2, b3) in
      grind (arith, nat_tests, below)

-- ---- entries

entry_count : (entry : ℕ) (entries : List ℕ) → length (with_entry entry entries) ≡ length entries
entry_count entry [] = refl
entry_count entry (first ∷ entries) = refl

entry_places : (ram entry : ℕ) (entries : List ℕ) → is_place ram entry ≡ true → list_all (is_place ram) entries ≡ true → list_all (is_place ram) (with_entry entry entries) ≡ true
entry_places ram entry [] place places = refl
entry_places ram entry (first ∷ entries) place places = let rest : list_all (is_place ram) entries ≡ true = grind (arith, places) in rw (place, rest) refl

entry_set : (entry : ℕ) (entries : List ℕ) → set entries 0 entry ≡ with_entry entry entries
entry_set entry [] = refl
entry_set entry (first ∷ entries) = refl

-- ---- the image

ram_small : (ram : ℕ) → is_ram ram ≡ true → ram ≤ 16777216
ram_small ram is = grind (arith, nat_tests, is)

pub is_image : (elf : List ℕ) (g : Picture) (segments : List ProgramHeader) → ((i : ℕ) → get_or elf i 0 < 256) → segments_of elf g.ram ≡ Ok segments → IsImage g → IsImage (loaded_picture elf g segments)
is_image elf g segments bytes read is = record {
  harts = ap is_harts (entry_count (word_at elf 24) g.entries) ∙ is.harts;
  ram = is.ram;
  heap_base = is.heap_base;
  heap_bytes = is.heap_bytes;
  entries = entry_places g.ram (word_at elf 24) g.entries (entry_taken elf g.ram segments read) is.entries;
  segments = loaded_rows elf segments g.ram (ram_small g.ram is.ram) (word_small elf segments bytes);
  code = code_rows elf segments g.ram (ram_small g.ram is.ram);
  labels = is.labels;
  edges = is.edges;
  compartments = is.compartments;
}

-- the parts of the file in place of the tag file's
pub is_made : (elf : List ℕ) (ram : ℕ) (g : Picture) (segments : List ProgramHeader) (loaded : Loaded) → ram ≡ g.ram → AreParts elf ram segments loaded
    → record g { entries = set g.entries 0 loaded.entry; segments = loaded.segments; code = loaded.code.items } ≡ loaded_picture elf g segments
is_made elf ram g segments loaded size parts =
    let entries = ap (set g.entries 0) parts.entry ∙ entry_set (word_at elf 24) g.entries in
    let words = parts.words ∙ ap (loaded_segments elf segments) size in
    let code = parts.code ∙ ap (loaded_code elf segments) size in
    λ i. record g { entries = entries i; segments = words i; code = code i }

-- an end of the file's is the image's
pub image_fails : (elf : List ℕ) (ram : ℕ) (g : Picture) (end : ElfEnd) → ram ≡ g.ram → FailsAsElf end (segments_of elf ram) → FailsAsElf end (image_of_elf elf g)
unfolding image_of_elf
image_fails elf ram g ends.Memory size refused = tt
image_fails elf ram g (ends.Bad why) size refused = let here = rw size at refused in rw here refl

pub image_taken : (elf : List ℕ) (ram : ℕ) (g : Picture) (segments : List ProgramHeader) → ram ≡ g.ram → segments_of elf ram ≡ Ok segments → image_of_elf elf g ≡ Ok (loaded_picture elf g segments)
unfolding image_of_elf
image_taken elf ram g segments size read = let here = rw size at read in rw here refl
