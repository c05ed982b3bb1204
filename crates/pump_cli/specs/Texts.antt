-- The lines of refusals, and the line of a workload.
use Rattle.std.specs.Prelude.{ℕ, List, ◌++◌, codes}
use Rattle.std.specs.Fmt.{decimal}
use Rattle.engine_trait.specs.declared.ends.Counts.{Counts}
use Rattle.tag_text.specs.Texts.{line}
use Rattle.asm_read.specs.declared.errors.AsmError.{AsmError}
use Rattle.asm_read.specs.declared.errors.AsmErrorKind.{AsmErrorKind}
use Rattle.asm_read.specs.declared.errors.AsmErrorKind.TheVariants as kinds
use Rattle.elf_image.specs.declared.errors.ElfError.{ElfError}
use Rattle.elf_image.specs.declared.errors.ElfError.TheVariants as elf
use Rattle.elf_image.specs.declared.errors.TagsError.{TagsError}
use Rattle.elf_image.specs.declared.errors.TagsError.TheVariants as tags
use Rattle.image_format.specs.declared.errors.ImageError.{ImageError}
use Rattle.image_format.specs.declared.errors.ImageError.TheVariants as image
use Rattle.pump_cli.specs.declared.refusal.Refusal.{Refusal}
use Rattle.pump_cli.specs.declared.refusal.Refusal.TheVariants as refusal

-- what is wrong with a line of source
abbrev pub kind_text : AsmErrorKind → List ℕ
kind_text kinds.Byte = codes "byte"
kind_text kinds.Mnemonic = codes "mnemonic"
kind_text kinds.Directive = codes "directive"
kind_text kinds.Operand = codes "operand"
kind_text kinds.Register = codes "register"
kind_text kinds.Number = codes "number"
kind_text kinds.Duplicate = codes "duplicate"
kind_text kinds.Order = codes "order"
kind_text kinds.Range = codes "range"
kind_text kinds.NoName = codes "noname"

-- the first error of a source: its line, in decimal, and what is wrong there
abbrev pub source_error_text : AsmError → List ℕ
source_error_text error = codes "line " ++ (decimal error.line ++ (codes " " ++ kind_text error.kind))

-- the first condition of the image format that bytes fail; numbers and offsets are decimal
abbrev pub image_error_text : ImageError → List ℕ
image_error_text image.Magic = codes "magic"
image_error_text (image.Version version) = codes "version " ++ decimal version
image_error_text (image.Short length) = codes "short at " ++ decimal length
image_error_text (image.Field number offset) = codes "field " ++ decimal number ++ codes " at " ++ decimal offset
image_error_text (image.Order list row) = codes "order " ++ decimal list ++ codes " row " ++ decimal row
image_error_text (image.Trailing offset) = codes "trailing at " ++ decimal offset

-- the first condition of a tag file that bytes fail: that of an image file, or one of its own
abbrev pub tags_error_text : TagsError → List ℕ
tags_error_text (tags.Image error) = image_error_text error
tags_error_text tags.Lists = codes "lists"
tags_error_text tags.Entry = codes "entry"

-- the first condition of an ELF file that bytes fail; the row of a program header is decimal
abbrev pub elf_error_text : ElfError → List ℕ
elf_error_text elf.Short = codes "short"
elf_error_text elf.Ident = codes "ident"
elf_error_text elf.NotExec = codes "notexec"
elf_error_text elf.Machine = codes "machine"
elf_error_text elf.Compressed = codes "compressed"
elf_error_text elf.Headers = codes "headers"
elf_error_text (elf.Segment row) = codes "segment " ++ decimal row
elf_error_text (elf.Overlap row) = codes "overlap " ++ decimal row
elf_error_text elf.Entry = codes "entry"

-- the text of a refusal, without the newline that ends its line
abbrev pub refusal_text : Refusal → List ℕ
refusal_text refusal.BadWords = codes "pump: bad command line"
refusal_text (refusal.BadImage error) = codes "pump: bad image: " ++ image_error_text error
refusal_text (refusal.BadSource error) = codes "pump: bad source: " ++ source_error_text error
refusal_text (refusal.BadTags error) = codes "pump: bad tags: " ++ tags_error_text error
refusal_text (refusal.BadElf error) = codes "pump: bad elf: " ++ elf_error_text error
refusal_text refusal.TooLong = codes "pump: too long"

-- how a workload of so many blocks went: its counts, and the number of its status
unfoldable pub workload_line : ℕ → Counts → ℕ → List ℕ
workload_line count counts code =
    line (codes "load " ++ decimal count ++ codes " turns " ++ decimal counts.turns ++ codes " hits " ++ decimal counts.hits
    ++ codes " misses " ++ decimal counts.misses ++ codes " status " ++ decimal code)
