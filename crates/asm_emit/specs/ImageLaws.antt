-- What holds of the image of each source.
use Rattle.std.specs.Prelude.{◌≡◌, ℕ, ◌^◌, ◌<◌, List, length, Ok}
use Rattle.image_format.specs.Conditions.{IsImage}
use Rattle.image_format.specs.Picture.{Picture}
use Rattle.asm_emit.specs.Assembled.{image_of_source}

-- a source that is assembled gives an image of the format; it has less than 2 ^ 32 bytes, so that four bytes can count its edges
abbrev pub AreImages : Type 0
AreImages = (source : List ℕ) (g : Picture) → length source < 2 ^ 32 → image_of_source source ≡ Ok g → IsImage g
