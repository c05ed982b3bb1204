-- An image's fields as its value in contracts.
use Rattle.image_format.specs.declared.image.Image.TheInside.{Inside}
use Rattle.image_format.specs.Picture.{Picture}
use Rattle.image_format.specs.Compartments.{version_of, rows_of}

abbrev pub picture_of : Inside → Picture
picture_of i = record { version = version_of i.compartments; ram = i.ram; heap_base = i.heap_base; heap_bytes = i.heap_bytes; entries = i.entries.items; segments = i.segments; code = i.code.items; labels = i.labels.items; edges = i.edges.items; compartments = rows_of i.compartments }
