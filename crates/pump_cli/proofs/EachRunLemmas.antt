-- Runs and sessions of the program's definition, each over an image.
use Rattle.std.proofs.Common.{◌≡◌, ℕ, ◌<◌, ◌^◌, Bool, true, false, List, [], length, Option, Some, None, option_map, Result, Ok, Err, refl, sym, ap, subst, inl, inr, if◌then◌else◌, arith}
use Rattle.std.proofs.lemmas.Bool.{cases_lt}
use Rattle.std.proofs.lemmas.Bool.Decides.{nat_tests}
use Rattle.std.specs.Prelude.{nat_le, slice_index}
use Rattle.std.proofs.lemmas.List.{get_or_past}
use Rattle.host_io.specs.Bytes.{AreBytes, TellBytes}
use Rattle.image_format.proofs.FileLemmas.{file_is_of}
use Rattle.image_format.specs.Conditions.{IsImage}
use Rattle.image_format.specs.Picture.{Picture}
use Rattle.image_format.specs.Reading.{image_of}
use Rattle.image_format.specs.declared.errors.ImageError.{ImageError}
use Rattle.asm_emit.proofs.ImageLemmas.{are_images}
use Rattle.asm_emit.specs.Assembled.{image_of_source}
use Rattle.asm_read.specs.declared.errors.AsmError.{AsmError}
use Rattle.workload.specs.Source.{source_of_workload}
use Rattle.pump_line.specs.Task.{RunTask, ShellTask, Task, disassemble, elf, load, run, save, shell}
use Rattle.pump_cli.specs.Program.{run_of_load}
use Rattle.pump_cli.specs.Reading.{ContentOf, StartFiles, content_of, content_read, elf_read, file_as, file_limit, files_told, image_or_refusal, image_read, input_read, made_read, secret_held, secret_read, source_or_refusal, source_read}
use Rattle.pump_cli.specs.Runs.{AfterContent, AfterFed, AfterImage, AfterInput, AfterLines, AfterPicture, AfterSecret, AfterWords, WithSecret}
use Rattle.pump_cli.proofs.TaskLemmas.{start_from}
use Rattle.pump_cli.specs.declared.refusal.Refusal.{Refusal}

-- past the end of a list of bytes its items are told as 0
pub each_small : (bytes : List ℕ) → AreBytes bytes → (i : ℕ) → slice_index bytes i < 256
each_small bytes are i = elim (cases_lt i (length bytes)) [
  | inl within ↦ are i 0 within
  | inr past ↦ subst (λ (item : ℕ). item < 256) (sym (get_or_past bytes i 0 (omega (arith, past)))) (omega arith)
]

-- ---- an image that was read

ok_image : (read : Result Picture ImageError) (g : Picture) → image_or_refusal read ≡ Ok g → read ≡ Ok g
ok_image (Ok h) g e = let same : h ≡ g = cc in ap picture_read same
  where
    picture_read : Picture → Result Picture ImageError
    picture_read picture = Ok picture
ok_image (Err error) g e = absurd cc

read_within : (fits : Bool) (bytes : List ℕ) (refusal : Refusal) (g : Picture) → file_as (λ file. image_or_refusal (image_of file)) (if fits then Ok bytes else Err refusal) ≡ Ok g → image_of bytes ≡ Ok g
read_within true bytes refusal g e = ok_image (image_of bytes) g e
read_within false bytes refusal g e = absurd cc

-- bytes that are taken as an image are the file of one
pub file_is_image : (bytes : List ℕ) (g : Picture) → AreBytes bytes → image_read bytes ≡ Ok g → IsImage g
unfolding image_read
file_is_image bytes g are_bytes e = (file_is_of bytes g (each_small bytes are_bytes) (read_within (nat_le (length bytes) file_limit) bytes _ g e)).is_image

-- ---- an image that was assembled

abbrev picture_made : Picture → Result Picture AsmError
picture_made picture = Ok picture

ok_source : (read : Result Picture AsmError) (g : Picture) → source_or_refusal read ≡ Ok g → read ≡ Ok g
ok_source (Ok h) g e = let same : h ≡ g = cc in ap picture_made same
ok_source (Err error) g e = absurd cc

assembled_within : (fits : Bool) (bytes : List ℕ) (refusal : Refusal) (g : Picture) → (fits ≡ true → length bytes < 2 ^ 32)
    → file_as (λ file. source_or_refusal (image_of_source file)) (if fits then Ok bytes else Err refusal) ≡ Ok g → IsImage g
assembled_within true bytes refusal g few e = are_images bytes g (few refl) (ok_source (image_of_source bytes) g e)
assembled_within false bytes refusal g few e = absurd cc

-- a source that is taken has few enough bytes
source_is_image : (bytes : List ℕ) (g : Picture) → source_read bytes ≡ Ok g → IsImage g
unfolding source_read file_limit
source_is_image bytes g e = assembled_within (nat_le (length bytes) 33554432) bytes _ g (λ fits. grind (arith, nat_tests, fits)) e

-- what holds with any secret bytes holds with those that were read
pub each_secret : (Goes : List ℕ → Type 0) → ((secret : List ℕ) → Goes secret) → (kept : Option (List ℕ)) → AfterSecret Goes kept
each_secret Goes each None = tt
each_secret Goes each (Some bytes) = by (secret_read bytes)
  where
    by : (read : Result (List ℕ) Refusal) → WithSecret Goes read
    by (Ok secret) = each secret
    by (Err refusal) = tt

-- the image's file is told
image_told : (told kept : Option (List ℕ)) (files : StartFiles) → start_from told kept ≡ Some files → told ≡ Some files.image
image_told None kept files e = absurd (let h : no_files ≡ Some files = e in cc)
  where
    no_files : Option StartFiles
    no_files = None
image_told (Some bytes) kept files e = ap (λ (started : Option StartFiles). option_map (λ (start : StartFiles). start.image) started) e

-- ---- what holds of each run on an image, and of each session over one, holds of those that the words ask for, where files tell bytes

module _ (Ran : RunTask → List ℕ → Picture → List ℕ → Type 0) (Executed : ShellTask → List ℕ → Picture → List ℕ → Type 0)
    (ran : (task : RunTask) (secret : List ℕ) (g : Picture) (fed : List ℕ) → IsImage g → Ran task secret g fed)
    (executed : (task : ShellTask) (secret : List ℕ) (g : Picture) (input : List ℕ) → IsImage g → Executed task secret g input) where
  each_fed : (task : RunTask) (secret : List ℕ) (g : Picture) (fed : Result (List ℕ) Refusal) → IsImage g → AfterFed Ran Executed task secret g fed
  each_fed task secret g (Ok fed) is = ran task secret g fed is
  each_fed task secret g (Err refusal) is = tt

  each_input : (task : RunTask) (secret : List ℕ) (g : Picture) (input : Option (List ℕ)) → IsImage g → AfterInput Ran Executed task secret g input
  each_input task secret g None is = tt
  each_input task secret g (Some input) is = each_fed task secret g (input_read input) is

  each_lines : (task : ShellTask) (secret : List ℕ) (g : Picture) (input : Option (List ℕ)) → IsImage g → AfterLines Ran Executed task secret g input
  each_lines task secret g None is = tt
  each_lines task secret g (Some input) is = executed task secret g input is

  each_picture : (task : Task) (content : ContentOf task) (g : Picture) (input : Option (List ℕ)) → IsImage g → AfterPicture Ran Executed task content g input
  each_picture (run task) files g input is =
      each_secret (λ secret. AfterInput Ran Executed task secret g input) (λ secret. each_input task secret g input is) files.secret
  each_picture (shell task) files g input is =
      each_secret (λ secret. AfterLines Ran Executed task secret g input) (λ secret. each_lines task secret g input is) files.secret
  each_picture (save task) content g input is = tt
  each_picture (elf task) content g input is = tt
  each_picture (disassemble task) content g input is = tt
  each_picture (load task) content g input is = ran (run_of_load task) [] g [] is

  each_image : (task : Task) (content : ContentOf task) (read : Result Picture Refusal) (input : Option (List ℕ)) → ((g : Picture) → read ≡ Ok g → IsImage g)
      → AfterImage Ran Executed task content read input
  each_image task content (Ok g) input is = each_picture task content g input (is g refl)
  each_image task content (Err refusal) input is = tt

  -- a task that makes no run
  none_made : (task : Task) (content : ContentOf task) → ((g : Picture) (input : Option (List ℕ)) → AfterPicture Ran Executed task content g input)
      → (read : Result Picture Refusal) (input : Option (List ℕ)) → AfterImage Ran Executed task content read input
  none_made task content none (Ok g) input = none g input
  none_made task content none (Err refusal) input = tt

  -- by what is told of its content
  each_told : (task : Task) (told : Option (ContentOf task)) (input : Option (List ℕ))
      → ((content : ContentOf task) → told ≡ Some content → AfterImage Ran Executed task content (content_read task content) input) → AfterContent Ran Executed task told input
  each_told task None input each = tt
  each_told task (Some content) input each = each content refl

  each_content : (task : Task) (held : List ℕ → Option (List ℕ)) (input : Option (List ℕ)) → TellBytes held → AfterContent Ran Executed task (content_of task held) input
  each_content (run task) held input tells =
      each_told (run task) (start_from (held task.image) (secret_held task.choice task.secret held)) input
      (λ files told. each_image (run task) files (image_read files.image) input
      (λ g read. file_is_image files.image g (tells task.image files.image (image_told (held task.image) (secret_held task.choice task.secret held) files told)) read))
  each_content (shell task) held input tells =
      each_told (shell task) (start_from (held task.image) (secret_held task.choice task.secret held)) input
      (λ files told. each_image (shell task) files (image_read files.image) input
      (λ g read. file_is_image files.image g (tells task.image files.image (image_told (held task.image) (secret_held task.choice task.secret held) files told)) read))
  each_content (save task) held input tells =
      each_told (save task) (held task.source) input (λ bytes told. none_made (save task) bytes (λ g given. tt) (made_read task.making bytes) input)
  each_content (elf task) held input tells =
      each_told (elf task) (files_told (held task.elf) (held task.tags)) input (λ files told. none_made (elf task) files (λ g given. tt) (elf_read files) input)
  each_content (disassemble task) held input tells =
      each_told (disassemble task) (held task.image) input (λ bytes told. none_made (disassemble task) bytes (λ g given. tt) (image_read bytes) input)
  each_content (load task) held input tells =
      each_image (load task) (source_of_workload task.count) (source_read (source_of_workload task.count)) input
      (λ g made. source_is_image (source_of_workload task.count) g made)

  pub each_words : (task : Option Task) (held : List ℕ → Option (List ℕ)) (input : Option (List ℕ)) → TellBytes held → AfterWords Ran Executed task held input
  each_words None held input tells = tt
  each_words (Some task) held input tells = each_content task held input tells
