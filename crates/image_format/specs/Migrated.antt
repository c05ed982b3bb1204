-- An image as one of version 2.
use Rattle.image_format.specs.declared.version.Version.TheVariants.{Two}
use Rattle.image_format.specs.Picture.{Picture}

-- it has the same sizes, entries and lists
abbrev pub migrated : Picture → Picture
migrated g = record g { version = Two }
