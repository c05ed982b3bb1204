-- The one spelling of an image, and what its file is.
use Rattle.std.specs.Prelude.{◌≡◌, ℕ, List, ◌++◌, length, codes}
use Rattle.std.specs.List.{flat_map}
use Rattle.std.specs.Int.{w16, w32, w128, to_le_bytes}
use Rattle.image_format.specs.declared.version.Version.{Version}
use Rattle.image_format.specs.declared.version.Version.TheVariants.{One, Two}
use Rattle.image_format.specs.declared.rows.WordRange.{WordRange}
use Rattle.image_format.specs.declared.rows.Label.{Label}
use Rattle.image_format.specs.declared.rows.Edge.{Edge}
use Rattle.image_format.specs.Picture.{Segment, CompartmentRow, Picture}
use Rattle.image_format.specs.Conditions.{IsImage, extent_of}

-- two bytes, the low one first
unfoldable pub half : ℕ → List ℕ
half n = to_le_bytes w16 n

-- four bytes, the low one first
unfoldable pub number : ℕ → List ℕ
number n = to_le_bytes w32 n

-- sixteen bytes, the low one first
unfoldable pub wide_number : ℕ → List ℕ
wide_number n = to_le_bytes w128 n

-- ---- rows

-- the address, and how many words there are
abbrev pub range_spelling : WordRange → List ℕ
range_spelling range = number range.address ++ number range.words

-- where the words lie, and then the words
abbrev pub segment_spelling : Segment → List ℕ
segment_spelling segment = range_spelling (extent_of segment) ++ flat_map number segment.words

-- the address, and then the id
abbrev pub label_spelling : Label → List ℕ
label_spelling label = number label.address ++ number label.id

-- the source, and then the target
abbrev pub edge_spelling : Edge → List ℕ
edge_spelling edge = number edge.source ++ number edge.target

-- a set of compartments, in four bytes or in sixteen
abbrev pub mask_spelling : Version → ℕ → List ℕ
mask_spelling One mask = number mask
mask_spelling Two mask = wide_number mask

-- the range, the owner, who may jump in, and who may write
abbrev pub compartment_spelling : Version → CompartmentRow → List ℕ
compartment_spelling version row = range_spelling row.range ++ (number row.owner ++ (mask_spelling version row.into ++ mask_spelling version row.write))

-- a count, and that many rows
abbrev pub list_spelling : {A : Type 0} → (A → List ℕ) → List A → List ℕ
list_spelling text rows = number (length rows) ++ flat_map text rows

-- ---- the whole

-- the number of a version in a file
abbrev pub version_number : Version → ℕ
version_number One = 1
version_number Two = 2

-- the magic, and the version
abbrev pub opening_spelling : Version → List ℕ
opening_spelling version = codes "PUMP" ++ half (version_number version)

-- how many harts there are, and the sizes of the RAM and the heap region
abbrev pub sizes_spelling : Picture → List ℕ
sizes_spelling g = half (length g.entries) ++ (number g.ram ++ (number g.heap_base ++ number g.heap_bytes))

-- segments, code ranges, labels, edges, compartment ranges
abbrev pub lists_spelling : Picture → List ℕ
lists_spelling g =
    list_spelling segment_spelling g.segments ++ (list_spelling range_spelling g.code ++ (list_spelling label_spelling g.labels ++ (list_spelling edge_spelling g.edges ++ list_spelling (compartment_spelling g.version) g.compartments)))

-- the whole file; the entries have no count of their own
unfoldable pub spelling : Picture → List ℕ
spelling g = opening_spelling g.version ++ (sizes_spelling g ++ (flat_map number g.entries ++ lists_spelling g))

-- the bytes are the file of the image
pub record IsFileOf (bytes : List ℕ) (g : Picture) : Type 0 where
  pub is_image : IsImage g
  pub spelled : bytes ≡ spelling g
