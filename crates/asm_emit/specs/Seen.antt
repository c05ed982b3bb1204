-- What a builder has so far, as a draft.
use Rattle.image_format.specs.Compartments.{rows_of, version_of}
use Rattle.asm_emit.specs.declared.builder.Builder.{Builder}
use Rattle.asm_emit.specs.Draft.{Draft}

abbrev pub draft_of : Builder → Draft
draft_of b = record {
  version = version_of b.compartments;
  heap_base = b.heap_base;
  heap_bytes = b.heap_bytes;
  entries = b.entries.items;
  segments = b.segments;
  code = b.code.items;
  labels = b.labels.items;
  edges = b.edges.items;
  compartments = rows_of b.compartments;
  marks = b.marks;
}
