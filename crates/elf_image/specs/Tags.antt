-- Which image files are tag files: those without segments and code, whose hart 0 has entry 0.
use Rattle.std.specs.Prelude.{ℕ, ◌==◌, ◌&&◌, Bool, List, length, slice_index_or, Result, Ok, Err}
use Rattle.shared_terms.specs.Steps.{◌>>=◌, demand}
use Rattle.image_format.specs.Picture.{Picture}
use Rattle.image_format.specs.Reading.{image_of}
use Rattle.image_format.specs.declared.errors.ImageError.{ImageError}
use Rattle.elf_image.specs.declared.errors.TagsError.{TagsError}
use Rattle.elf_image.specs.declared.errors.TagsError.TheVariants as error

-- reading an image, with its errors among those of tag files
abbrev pub image_or_error : Result Picture ImageError → Result Picture TagsError
image_or_error (Ok picture) = Ok picture
image_or_error (Err why) = Err (error.Image why)

-- neither segments nor code
abbrev pub is_bare : Picture → Bool
is_bare picture = length picture.segments == 0 && length picture.code == 0

-- hart 0 has entry 0
abbrev pub starts_at_zero : Picture → Bool
starts_at_zero picture = slice_index_or picture.entries 0 1 == 0

-- the image of the tag file, or the first condition that fails
unfoldable pub tags_of : List ℕ → Result Picture TagsError
tags_of bytes = do
  picture ← image_or_error (image_of bytes)
  bare ← demand (is_bare picture) error.Lists
  entry ← demand (starts_at_zero picture) error.Entry
  Ok picture
