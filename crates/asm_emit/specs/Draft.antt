-- An image that is being built, line by line.
use Rattle.std.specs.Prelude.{ℕ, ◌+◌, true, false, List, [], ◌∷◌, ◌++◌, Some, None, replicate, slice_set}
use Rattle.image_format.specs.declared.version.Version.{Version}
use Rattle.image_format.specs.declared.rows.WordRange.{WordRange}
use Rattle.image_format.specs.declared.rows.Label.{Label}
use Rattle.image_format.specs.Building.{with_word}
use Rattle.image_format.specs.Picture.{CompartmentRow, Picture, Segment}
use Rattle.asm_words.specs.Emission.{words_of}
use Rattle.asm_emit.specs.declared.marks.Marks.{Marks}
use Rattle.asm_emit.specs.declared.values.Addition.{Addition}
use Rattle.asm_emit.specs.declared.values.Addition.TheVariants as additions
use Rattle.asm_emit.specs.Edges.{edges_in_order}
use Rattle.asm_emit.specs.Runs.{no_protection, with_code, with_label, with_protected}

-- the version, the heap region, an entry for each hart, the lists so far with the edges as the source has them, and the marks of
-- the next word
pub record Draft : Type 0 where
  pub version : Version
  pub heap_base : ℕ
  pub heap_bytes : ℕ
  pub entries : List ℕ
  pub segments : List Segment
  pub code : List WordRange
  pub labels : List Label
  pub edges : List (ℕ × ℕ)
  pub compartments : List CompartmentRow
  pub marks : Marks

-- a source begins in a text, without a label and without protection
abbrev pub first_marks : Marks
first_marks = record { is_code = true; label = None; protection = no_protection }

-- no heap region, and each hart starts at 0
abbrev pub empty_draft : Version → ℕ → Draft
empty_draft version harts = record {
  version = version;
  heap_base = 0;
  heap_bytes = 0;
  entries = replicate harts 0;
  segments = [];
  code = [];
  labels = [];
  edges = [];
  compartments = [];
  marks = first_marks;
}

-- a label is of one word
abbrev pub without_label : Marks → Marks
without_label marks = record marks { label = None }

-- a word at an address behind those before it, with its marks
abbrev pub with_marked : Draft → ℕ → ℕ → Draft
with_marked draft address word = record draft {
  segments = with_word draft.segments address word;
  code = with_code draft.marks.is_code draft.code address;
  labels = with_label draft.marks.label draft.labels address;
  compartments = with_protected draft.marks.protection draft.compartments address;
  marks = without_label draft.marks;
}

-- words from an address on
unfoldable pub with_words : Draft → ℕ → List ℕ → Draft
with_words draft address [] = draft
with_words draft address (word ∷ words) = with_words (with_marked draft address word) (address + 4) words

-- what a line at a place adds
unfoldable pub with_addition : Draft → ℕ → Addition → Draft
with_addition draft place additions.Nothing = draft
with_addition draft place (additions.Words emission) = with_words draft place (words_of emission)
with_addition draft place (additions.Heap base bytes) = record draft { heap_base = base; heap_bytes = bytes }
with_addition draft place (additions.Entry hart address) = record draft { entries = slice_set draft.entries hart address }
with_addition draft place additions.Code = record draft { marks = record draft.marks { is_code = true } }
with_addition draft place additions.Data = record draft { marks = record draft.marks { is_code = false } }
with_addition draft place (additions.Label id) = record draft { marks = record draft.marks { label = Some id } }
with_addition draft place (additions.Edge source target) = record draft { edges = draft.edges ++ (source, target) ∷ [] }
with_addition draft place (additions.Compartment protection) = record draft { marks = record draft.marks { protection = protection } }

-- what lines add, one behind the other
abbrev pub with_additions : Draft → List (ℕ × Addition) → Draft
with_additions draft [] = draft
with_additions draft (first ∷ more) = with_additions (with_addition draft first.0 first.1) more

-- the image that a draft has become
abbrev pub picture_of : ℕ → Draft → Picture
picture_of ram draft = record {
  version = draft.version;
  ram = ram;
  heap_base = draft.heap_base;
  heap_bytes = draft.heap_bytes;
  entries = draft.entries;
  segments = draft.segments;
  code = draft.code;
  labels = draft.labels;
  edges = edges_in_order draft.edges;
  compartments = draft.compartments;
}
