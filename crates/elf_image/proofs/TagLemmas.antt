-- What becomes of a tag file that isn't read.
use Rattle.std.proofs.Common.{ℕ, List, refl}
use Rattle.image_format.specs.Reading.{FailsAs, image_of}
use Rattle.image_format.specs.declared.errors.ImageEnd.{ImageEnd}
use Rattle.image_format.specs.declared.errors.ImageEnd.TheVariants as ends
use Rattle.elf_image.specs.Given.{FailsAsTags, tags_end}
use Rattle.elf_image.specs.Tags.{tags_of}

pub unread : (bytes : List ℕ) (end : ImageEnd) → FailsAs end (image_of bytes) → FailsAsTags (tags_end end) (tags_of bytes)
unfolding tags_of
unread bytes ends.Memory refused = tt
unread bytes (ends.Bad why) refused = rw refused refl
