-- The image that is made from parts.
use Rattle.image_format.specs.declared.parts.ImageParts.{ImageParts}
use Rattle.image_format.specs.Picture.{Picture}
use Rattle.image_format.specs.Compartments.{version_of, rows_of}

abbrev pub picture_from : ImageParts → Picture
picture_from p = record { version = version_of p.compartments; ram = p.ram; heap_base = p.heap_base; heap_bytes = p.heap_bytes; entries = p.entries.items; segments = p.segments; code = p.code.items; labels = p.labels.items; edges = p.edges.items; compartments = rows_of p.compartments }
