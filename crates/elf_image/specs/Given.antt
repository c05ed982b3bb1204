-- What the reading functions give: what is read, unless memory ran out.
use Rattle.std.specs.Prelude.{◌≡◌, ℕ, List, Result, Ok, Err}
use Rattle.image_format.specs.Picture.{Picture}
use Rattle.image_format.specs.declared.errors.ImageEnd.{ImageEnd}
use Rattle.image_format.specs.declared.errors.ImageEnd.TheVariants as image
use Rattle.elf_image.specs.declared.errors.ElfError.{ElfError}
use Rattle.elf_image.specs.declared.errors.ElfEnd.{ElfEnd}
use Rattle.elf_image.specs.declared.errors.ElfEnd.TheVariants as elf
use Rattle.elf_image.specs.declared.errors.TagsError.{TagsError}
use Rattle.elf_image.specs.declared.errors.TagsError.TheVariants.{Image}
use Rattle.elf_image.specs.declared.errors.TagsEnd.{TagsEnd}
use Rattle.elf_image.specs.declared.errors.TagsEnd.TheVariants as tags
use Rattle.elf_image.specs.declared.headers.ProgramHeader.{ProgramHeader}
use Rattle.elf_image.specs.declared.loading.Loaded.{Loaded}
use Rattle.elf_image.specs.Headers.{word_at}
use Rattle.elf_image.specs.Loaded.{loaded_code, loaded_segments}

-- the end of reading an image as one of reading a tag file
abbrev pub tags_end : ImageEnd → TagsEnd
tags_end (image.Bad error) = tags.Bad (Image error)
tags_end image.Memory = tags.Memory

-- an end without an image is the error that reading gives, unless memory ran out
abbrev pub FailsAsTags : TagsEnd → Result Picture TagsError → Type 0
FailsAsTags tags.Memory read = Unit {0}
FailsAsTags (tags.Bad error) read = read ≡ Err error

-- what was returned for a tag file is the image that is read, or the condition that fails first, unless memory ran out
abbrev pub GivesTags : Result Picture TagsEnd → Result Picture TagsError → Type 0
GivesTags (Ok g) read = read ≡ Ok g
GivesTags (Err end) read = FailsAsTags end read

-- the same for an ELF file
abbrev pub FailsAsElf : {A : Type 0} → ElfEnd → Result A ElfError → Type 0
FailsAsElf elf.Memory read = Unit {0}
FailsAsElf (elf.Bad error) read = read ≡ Err error

abbrev pub GivesElf : Result Picture ElfEnd → Result Picture ElfError → Type 0
GivesElf (Ok g) read = read ≡ Ok g
GivesElf (Err end) read = FailsAsElf end read

-- ---- what an image has of an ELF file

-- the parts are those of the segments
pub record AreParts (elf : List ℕ) (ram : ℕ) (segments : List ProgramHeader) (loaded : Loaded) : Type 0 where
  pub entry : loaded.entry ≡ word_at elf 24
  pub words : loaded.segments ≡ loaded_segments elf segments ram
  pub code : loaded.code.items ≡ loaded_code elf segments ram

-- what was returned is the parts of the segments that are read, or the condition that fails first, unless memory ran out
abbrev pub GivesParts : List ℕ → ℕ → Result Loaded ElfEnd → Result (List ProgramHeader) ElfError → Type 0
GivesParts elf ram (Ok loaded) read = (segments : List ProgramHeader) × (read ≡ Ok segments) × AreParts elf ram segments loaded
GivesParts elf ram (Err end) read = FailsAsElf end read
