-- The conditions of an image's fields and rows, and what an image is.
use Rattle.std.specs.Prelude.{◌≡◌, ℕ, ◌+◌, ◌*◌, ◌%◌, ◌^◌, ◌<◌, Bool, true, IsTrue, ◌==◌, nat_lt, nat_le, ◌&&◌, ◌||◌, List, [], ◌∷◌, length, Option, Some, None}
use Rattle.std.specs.List.{list_all}
use Rattle.image_format.specs.declared.version.Version.{Version}
use Rattle.image_format.specs.declared.version.Version.TheVariants.{One, Two}
use Rattle.image_format.specs.declared.rows.WordRange.{WordRange}
use Rattle.image_format.specs.declared.rows.Label.{Label}
use Rattle.image_format.specs.declared.rows.Edge.{Edge}
use Rattle.image_format.specs.Picture.{Segment, CompartmentRow, Picture}

-- what four bytes hold
abbrev pub is_u32 : ℕ → Bool
is_u32 n = nat_lt n (2 ^ 32)

-- whole words of four bytes
abbrev pub is_aligned : ℕ → Bool
is_aligned bytes = bytes % 4 == 0

-- 1 to 8 harts
abbrev pub is_harts : ℕ → Bool
is_harts n = nat_le 1 n && nat_le n 8

-- whole words, at least one, at most 16 MiB
abbrev pub is_ram : ℕ → Bool
is_ram bytes = is_aligned bytes && nat_le 4 bytes && nat_le bytes 16777216

-- the heap region begins at a word of the RAM, or at its end
abbrev pub is_heap_base : ℕ → ℕ → Bool
is_heap_base ram base = is_aligned base && nat_le base ram

-- and has whole words, all in the RAM
abbrev pub is_heap_bytes : ℕ → ℕ → ℕ → Bool
is_heap_bytes ram base bytes = is_aligned bytes && nat_le (base + bytes) ram

-- the address of a word of the RAM
abbrev pub is_place : ℕ → ℕ → Bool
is_place ram address = is_aligned address && nat_lt address ram

-- how many words there are from an address on: at least one, all in the RAM
abbrev pub is_word_count : ℕ → ℕ → ℕ → Bool
is_word_count ram address words = nat_le 1 words && nat_le (address + 4 * words) ram

-- how many compartments an image of the version may have, which are numbered from 0
abbrev pub compartment_limit : Version → ℕ
compartment_limit One = 32
compartment_limit Two = 128

-- a compartment's number
abbrev pub is_owner : Version → ℕ → Bool
is_owner version n = nat_lt n (compartment_limit version)

-- a bit for each compartment that there may be
abbrev pub is_mask : Version → ℕ → Bool
is_mask version n = nat_lt n (2 ^ compartment_limit version)

-- ---- rows of the five lists, and their order

-- words of the RAM
abbrev pub is_range : ℕ → WordRange → Bool
is_range ram range = is_aligned range.address && is_word_count ram range.address range.words

-- the later range begins no earlier than the one before it ends
abbrev pub is_clear_of : WordRange → WordRange → Bool
is_clear_of before range = nat_le (before.address + 4 * before.words) range.address

-- where the words of a segment lie
abbrev pub extent_of : Segment → WordRange
extent_of segment = record { address = segment.address; words = length segment.words }

-- words that lie in the RAM, each of four bytes
abbrev pub is_segment : ℕ → Segment → Bool
is_segment ram segment = is_range ram (extent_of segment) && list_all is_u32 segment.words

-- a word of the RAM, and any id
abbrev pub is_label : ℕ → Label → Bool
is_label ram label = is_place ram label.address && is_u32 label.id

-- labels ascend by address
abbrev pub is_label_after : Label → Label → Bool
is_label_after before label = nat_lt before.address label.address

-- any two ids
abbrev pub is_edge : Edge → Bool
is_edge edge = is_u32 edge.source && is_u32 edge.target

-- edges ascend by source, and those of one source by target
abbrev pub is_edge_after : Edge → Edge → Bool
is_edge_after before edge = nat_lt before.source edge.source || (before.source == edge.source && nat_lt before.target edge.target)

-- words of the RAM, their owner, and any two sets of compartments
abbrev pub is_compartment : Version → ℕ → CompartmentRow → Bool
is_compartment version ram row = is_range ram row.range && is_owner version row.owner && is_mask version row.into && is_mask version row.write

-- compartment ranges ascend as their words do
abbrev pub is_compartment_after : CompartmentRow → CompartmentRow → Bool
is_compartment_after before row = is_clear_of before.range row.range

-- ---- lists

-- a row stands in order behind the one before it, if there is one
abbrev pub in_order : {A : Type 0} → (A → A → Bool) → Option A → A → Bool
in_order follows None row = true
in_order follows (Some before) row = follows before row

-- Each row fits, and stands in order behind the one before it. The order looks at a part of a row.
abbrev pub are_rows : {A B : Type 0} → (B → A) → (B → Bool) → (A → A → Bool) → Option A → List B → Bool
are_rows part fits follows before [] = true
are_rows part fits follows before (row ∷ rows) = fits row && in_order follows before (part row) && are_rows part fits follows (Some (part row)) rows

-- the part of a row that the order looks at, where it is all of it
abbrev pub whole : {A : Type 0} → A → A
whole row = row

-- rows in order, as many as a count of four bytes can say
pub record IsList {A B : Type 0} (part : B → A) (fits : B → Bool) (follows : A → A → Bool) (list : List B) : Type 0 where
  pub count : IsTrue (is_u32 (length list))
  pub rows : IsTrue (are_rows part fits follows None list)

-- ---- the image

-- sizes, entries and lists that meet their conditions
pub record IsImage (g : Picture) : Type 0 where
  pub harts : IsTrue (is_harts (length g.entries))
  pub ram : IsTrue (is_ram g.ram)
  pub heap_base : IsTrue (is_heap_base g.ram g.heap_base)
  pub heap_bytes : IsTrue (is_heap_bytes g.ram g.heap_base g.heap_bytes)
  pub entries : IsTrue (list_all (is_place g.ram) g.entries)
  pub segments : IsList extent_of (is_segment g.ram) is_clear_of g.segments
  pub code : IsList whole (is_range g.ram) is_clear_of g.code
  pub labels : IsList whole (is_label g.ram) is_label_after g.labels
  pub edges : IsList whole is_edge is_edge_after g.edges
  pub compartments : IsList whole (is_compartment g.version g.ram) is_compartment_after g.compartments

-- a multiple of 4 below the RAM's end
pub record IsPlace (ram address : ℕ) : Type 0 where
  pub aligned : address % 4 ≡ 0
  pub below : address < ram
