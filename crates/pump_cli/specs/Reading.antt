-- What is read: the files that an image is made of, and the whole input, each within its limit.
use Rattle.std.specs.Prelude.{ℕ, nat_le, List, [], length, Option, Some, None, Result, Ok, Err, if◌then◌else◌, option_and_then, option_map}
use Rattle.image_format.specs.Picture.{Picture}
use Rattle.image_format.specs.Migrated.{migrated}
use Rattle.image_format.specs.Reading.{image_of}
use Rattle.image_format.specs.declared.errors.ImageError.{ImageError}
use Rattle.asm_read.specs.declared.errors.AsmError.{AsmError}
use Rattle.asm_emit.specs.Assembled.{image_of_source}
use Rattle.workload.specs.Source.{source_of_workload}
use Rattle.elf_image.specs.Loaded.{image_of_elf}
use Rattle.elf_image.specs.Tags.{tags_of}
use Rattle.elf_image.specs.declared.errors.ElfError.{ElfError}
use Rattle.elf_image.specs.declared.errors.TagsError.{TagsError}
use Rattle.policy_choice.specs.declared.choice.Choice.{Choice}
use Rattle.pump_line.specs.Task.{Task, disassemble, elf, load, run, save, shell}
use Rattle.shared_terms.specs.Steps.{◌>>=◌, result_view}
use Rattle.pump_line.specs.declared.task.Making.{Making}
use Rattle.pump_line.specs.declared.task.Making.TheVariants.{Assemble, Migrate}
use Rattle.pump_cli.specs.declared.refusal.Refusal.{Refusal}
use Rattle.pump_cli.specs.declared.refusal.Refusal.TheVariants as refusal

-- the most bytes of a file, and of the source of a workload
unfoldable pub file_limit : ℕ
file_limit = 33554432

-- the most bytes of the input
unfoldable pub input_limit : ℕ
input_limit = 16777216

-- the bytes, where they are at most `limit`, else `TooLong`
abbrev pub within_limit : ℕ → List ℕ → Result (List ℕ) Refusal
within_limit limit bytes = if nat_le (length bytes) limit then Ok bytes else Err refusal.TooLong

-- the first condition of the format that fails is told
abbrev pub image_or_refusal : Result Picture ImageError → Result Picture Refusal
image_or_refusal (Ok picture) = Ok picture
image_or_refusal (Err error) = Err (refusal.BadImage error)

-- the first error of a source is told
abbrev pub source_or_refusal : Result Picture AsmError → Result Picture Refusal
source_or_refusal (Ok picture) = Ok picture
source_or_refusal (Err error) = Err (refusal.BadSource error)

-- what a file's bytes are read as, where there are not too many
abbrev pub file_as : (List ℕ → Result Picture Refusal) → Result (List ℕ) Refusal → Result Picture Refusal
file_as read (Ok bytes) = read bytes
file_as read (Err refused) = Err refused

-- the image of a file that holds these bytes, or why there is none
unfoldable pub image_read : List ℕ → Result Picture Refusal
image_read bytes = file_as (λ file. image_or_refusal (image_of file)) (within_limit file_limit bytes)

-- the image that a source of these bytes is assembled to, or why there is none
unfoldable pub source_read : List ℕ → Result Picture Refusal
source_read bytes = file_as (λ file. source_or_refusal (image_of_source file)) (within_limit file_limit bytes)

-- the image of version 2 that the image of a file which holds these bytes becomes, or why there is none
abbrev pub migrated_read : List ℕ → Result Picture Refusal
migrated_read bytes = result_view migrated (image_read bytes)

-- the image that is made of these bytes: a source is assembled, and an image becomes one of version 2
abbrev pub made_read : Making → List ℕ → Result Picture Refusal
made_read Assemble bytes = source_read bytes
made_read Migrate bytes = migrated_read bytes

-- ---- an ELF file and a tag file

-- the first condition of a tag file that fails is told
abbrev pub tags_or_refusal : Result Picture TagsError → Result Picture Refusal
tags_or_refusal (Ok picture) = Ok picture
tags_or_refusal (Err error) = Err (refusal.BadTags error)

-- the first condition of an ELF file that fails is told
abbrev pub elf_or_refusal : Result Picture ElfError → Result Picture Refusal
elf_or_refusal (Ok picture) = Ok picture
elf_or_refusal (Err error) = Err (refusal.BadElf error)

-- the image of a tag file, where it is not too long, or why there is none
abbrev pub tags_taken : Result (List ℕ) Refusal → Result Picture Refusal
tags_taken file = file_as (λ bytes. tags_or_refusal (tags_of bytes)) file

-- the image of an ELF file under that of a tag file, where it is not too long, or why there is none
abbrev pub elf_taken : Result (List ℕ) Refusal → Picture → Result Picture Refusal
elf_taken file tags = file_as (λ bytes. elf_or_refusal (image_of_elf bytes tags)) file

-- the tag file is judged first: its length, then what it holds, and then the same of the ELF file
unfoldable pub both_taken : Result (List ℕ) Refusal → Result (List ℕ) Refusal → Result Picture Refusal
both_taken elf_file tag_file = do
  tags ← tags_taken tag_file
  elf_taken elf_file tags

-- the bytes of an ELF file and of a tag file
pub record ElfFiles : Type 0 where
  pub elf : List ℕ
  pub tags : List ℕ

-- the image of two files that hold these bytes, or why there is none
abbrev pub elf_read : ElfFiles → Result Picture Refusal
elf_read files = both_taken (within_limit file_limit files.elf) (within_limit file_limit files.tags)

-- what both files hold, where both are told
abbrev pub files_told : Option (List ℕ) → Option (List ℕ) → Option ElfFiles
files_told elf_bytes tag_bytes = option_and_then (λ file. option_map (λ tags. record { elf = file; tags = tags }) tag_bytes) elf_bytes

-- ---- an image and a secret file

-- the secret bytes of a task, where they are told: those of the file that it names, where secrecy is chosen, and none else
abbrev pub secret_held : Choice → Option (List ℕ) → (List ℕ → Option (List ℕ)) → Option (List ℕ)
secret_held choice None held = Some []
secret_held choice (Some name) held = if choice.secret then held name else Some []

-- the secret bytes, where there are not too many
unfoldable pub secret_read : List ℕ → Result (List ℕ) Refusal
secret_read bytes = within_limit file_limit bytes

-- the bytes of an image's file, and the secret bytes where they are told
pub record StartFiles : Type 0 where
  pub image : List ℕ
  pub secret : Option (List ℕ)

-- those of a task, where its image's file is told
abbrev pub start_held : List ℕ → Choice → Option (List ℕ) → (List ℕ → Option (List ℕ)) → Option StartFiles
start_held image choice secret held = option_map (λ bytes. record { image = bytes; secret = secret_held choice secret held }) (held image)

-- ---- a task's content

-- what a task's image is made from: the bytes of its file or the source of a workload, and of `elf` the bytes of two files; and
-- the secret bytes of `run` and `shell`
abbrev pub ContentOf : Task → Type 0
ContentOf (run task) = StartFiles
ContentOf (shell task) = StartFiles
ContentOf (save task) = List ℕ
ContentOf (elf task) = ElfFiles
ContentOf (disassemble task) = List ℕ
ContentOf (load task) = List ℕ

-- that, where it is told
abbrev pub content_of : (task : Task) → (List ℕ → Option (List ℕ)) → Option (ContentOf task)
content_of (run task) held = start_held task.image task.choice task.secret held
content_of (shell task) held = start_held task.image task.choice task.secret held
content_of (save task) held = held task.source
content_of (elf task) held = files_told (held task.elf) (held task.tags)
content_of (disassemble task) held = held task.image
content_of (load task) held = Some (source_of_workload task.count)

-- the image that is made from it
abbrev pub content_read : (task : Task) → ContentOf task → Result Picture Refusal
content_read (run task) files = image_read files.image
content_read (shell task) files = image_read files.image
content_read (save task) bytes = made_read task.making bytes
content_read (elf task) files = elf_read files
content_read (disassemble task) bytes = image_read bytes
content_read (load task) bytes = source_read bytes

-- the whole input, or why it is not taken
unfoldable pub input_read : List ℕ → Result (List ℕ) Refusal
input_read bytes = within_limit input_limit bytes
