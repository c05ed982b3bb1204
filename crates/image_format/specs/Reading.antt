-- Reading an image from its first byte to its last, up to the first condition that fails.
use Rattle.std.specs.Prelude.{◌≡◌, ℕ, zero, suc, ◌+◌, ◌-◌, List, [], ◌∷◌, ◌++◌, length, take, drop, Bool, Option, Some, None, Result, Ok, Err, nat_lt, ◌==◌, if◌then◌else◌}
use Rattle.std.specs.Int.{Width, w16, w32, w128, byte_len, from_le_bytes}
use Rattle.shared_terms.specs.Steps.{◌>>=◌, demand}
use Rattle.image_format.specs.declared.errors.ImageError.{ImageError}
use Rattle.image_format.specs.declared.errors.ImageError.TheVariants.{Magic, Version as OtherVersion, Short, Field, Order, Trailing}
use Rattle.image_format.specs.declared.errors.ImageEnd.{ImageEnd}
use Rattle.image_format.specs.declared.errors.ImageEnd.TheVariants as ends
use Rattle.image_format.specs.declared.version.Version.{Version}
use Rattle.image_format.specs.declared.version.Version.TheVariants.{One, Two}
use Rattle.image_format.specs.declared.rows.WordRange.{WordRange}
use Rattle.image_format.specs.declared.rows.Label.{Label}
use Rattle.image_format.specs.declared.rows.Edge.{Edge}
use Rattle.image_format.specs.declared.sizes.Sizes.{Sizes}
use Rattle.image_format.specs.Picture.{Segment, CompartmentRow, Picture}
use Rattle.image_format.specs.Conditions.{is_harts, is_ram, is_heap_base, is_heap_bytes, is_place, is_aligned, is_word_count, is_owner, is_clear_of, is_label_after, is_edge_after, is_compartment_after, in_order}

-- an early end is the error that reading gives, unless memory ran out
abbrev pub FailsAs : {Y : Type 0} → ImageEnd → Result Y ImageError → Type 0
FailsAs ends.Memory read = Unit {0}
FailsAs (ends.Bad error) read = read ≡ Err error

-- what a function returned, seen by view, is what reading gives, unless memory ran out
abbrev pub Gives : {X Y : Type 0} → (X → Y) → Result X ImageEnd → Result Y ImageError → Type 0
Gives view (Ok x) read = read ≡ Ok (view x)
Gives view (Err end) read = FailsAs end read

-- a value and the bytes behind it, or the first error
abbrev pub Reads : Type 0 → Type 0
Reads A = List ℕ → Result (A × List ℕ) ImageError

-- ---- fields; size is the length of the file, of which the given bytes are the rest

-- a number, the low byte first
abbrev pub number_at : Width → ℕ → Reads ℕ
number_at w size bytes =
    if nat_lt (length bytes) (byte_len w) then Err (Short size) else Ok (from_le_bytes w (take (byte_len w) bytes), drop (byte_len w) bytes)

-- a number, and then its test
unfoldable pub tested_at : Width → ℕ → (ℕ → Bool) → (ℕ → ImageError) → Reads ℕ
tested_at w size test error bytes = do
  n ← number_at w size bytes
  fits ← demand (test n.0) (error n.0)
  Ok n

-- a numbered field, which is told with its offset where its test fails: harts 1, RAM 2, heap base 3, heap bytes 4,
-- entry 5; address and words of segments 6 and 7, of code ranges 8 and 9, of compartment ranges 12 and 13; a label's
-- address 10; an owner 14
abbrev pub field_at : ℕ → ℕ → (ℕ → Bool) → Reads ℕ
field_at size field test bytes = tested_at w32 size test (λ _. Field field (size - length bytes)) bytes

-- a step as many times as said, each from where the one before it ended
unfoldable pub times : {S A : Type 0} → ℕ → (S → Result (A × S) ImageError) → S → Result (List A × S) ImageError
times zero step s = Ok ([], s)
times (suc n) step s = do
  first ← step s
  others ← times n step first.1
  Ok (first.0 ∷ others.0, others.1)

-- what was read before, and what is still read
abbrev pub with_prefix : {S A : Type 0} → List A → Result (List A × S) ImageError → Result (List A × S) ImageError
with_prefix prefix (Ok x) = Ok (prefix ++ x.0, x.1)
with_prefix prefix (Err error) = Err error

-- ---- rows of the five lists

-- an address, and then how many words there are from it on
unfoldable pub range_at : ℕ → ℕ → ℕ → Reads WordRange
range_at size ram field bytes = do
  address ← field_at size field is_aligned bytes
  words ← field_at size (field + 1) (is_word_count ram address.0) address.1
  Ok (record { address = address.0; words = words.0 }, words.1)

-- an address, and then its id
unfoldable pub label_at : ℕ → ℕ → Reads Label
label_at size ram bytes = do
  address ← field_at size 10 (is_place ram) bytes
  id ← number_at w32 size address.1
  Ok (record { address = address.0; id = id.0 }, id.1)

-- two ids
unfoldable pub edge_at : ℕ → Reads Edge
edge_at size bytes = do
  source ← number_at w32 size bytes
  target ← number_at w32 size source.1
  Ok (record { source = source.0; target = target.0 }, target.1)

-- a set of compartments: a number of four bytes or of sixteen
abbrev pub mask_at : Version → ℕ → Reads ℕ
mask_at One size = number_at w32 size
mask_at Two size = number_at w128 size

-- a range, its owner, and the two masks
unfoldable pub compartment_at : Version → ℕ → ℕ → Reads CompartmentRow
compartment_at version size ram bytes = do
  range ← range_at size ram 12 bytes
  owner ← field_at size 14 (is_owner version) range.1
  into ← mask_at version size owner.1
  write ← mask_at version size into.1
  Ok (record { range = range.0; owner = owner.0; into = into.0; write = write.0 }, write.1)

-- where a row is read: its number, the part of the row before it that the order looks at, and the bytes from it on
pub record Place (A : Type 0) : Type 0 where
  pub row : ℕ
  pub before : Option A
  pub bytes : List ℕ

-- a row, and then its order
unfoldable pub row_at : {A : Type 0} → ℕ → (A → A → Bool) → Reads A → Place A → Result (A × Place A) ImageError
row_at list follows fields place = do
  row ← fields place.bytes
  ordered ← demand (in_order follows place.before row.0) (Order list place.row)
  Ok (row.0, record { row = place.row + 1; before = Some row.0; bytes = row.1 })

-- where the words of a segment lie, and then its order behind the one before it
unfoldable pub range_behind_at : ℕ → ℕ → ℕ → Option WordRange → Reads WordRange
range_behind_at size ram row before bytes = do
  range ← range_at size ram 6 bytes
  ordered ← demand (in_order is_clear_of before range.0) (Order 1 row)
  Ok range

-- a segment: where its words lie, the order, and the words
unfoldable pub segment_at : ℕ → ℕ → Place WordRange → Result (Segment × Place WordRange) ImageError
segment_at size ram place = do
  range ← range_behind_at size ram place.row place.before place.bytes
  words ← times range.0.words (number_at w32 size) range.1
  Ok (record { address = range.0.address; words = words.0 }, record { row = place.row + 1; before = Some range.0; bytes = words.1 })

-- as many rows as said, from the first on
unfoldable pub rows_at : {A B : Type 0} → ℕ → (Place A → Result (B × Place A) ImageError) → Reads (List B)
rows_at count step bytes = do
  rows ← times count step (record { row = 0; before = None; bytes = bytes })
  Ok (rows.0, rows.1.bytes)

-- a count, and that many rows
unfoldable pub list_at : {A B : Type 0} → ℕ → (Place A → Result (B × Place A) ImageError) → Reads (List B)
list_at size step bytes = do
  count ← number_at w32 size bytes
  rows_at count.0 step count.1

-- ---- the whole

-- PUMP, as a number
abbrev pub is_magic : ℕ → Bool
is_magic n = n == 0x504D5550

-- the version of this number: there are 1 and 2
abbrev pub version_numbered : ℕ → Result Version ImageError
version_numbered n = if n == 1 then Ok One else if n == 2 then Ok Two else Err (OtherVersion n)

-- a number of two bytes, and the version of this number
unfoldable pub version_at : ℕ → Reads Version
version_at size bytes = do
  n ← number_at w16 size bytes
  version ← version_numbered n.0
  Ok (version, n.1)

-- the magic, and the version
unfoldable pub opening_at : ℕ → Reads Version
opening_at size bytes = do
  magic ← tested_at w32 size is_magic (λ _. Magic) bytes
  version_at size magic.1

-- the number of harts, which is field 1
abbrev pub harts_at : ℕ → Reads ℕ
harts_at size bytes = tested_at w16 size is_harts (λ _. Field 1 (size - length bytes)) bytes

-- the sizes behind the version, each under those before it
unfoldable pub sizes_at : ℕ → Reads Sizes
sizes_at size bytes = do
  harts ← harts_at size bytes
  ram ← field_at size 2 is_ram harts.1
  base ← field_at size 3 (is_heap_base ram.0) ram.1
  heap ← field_at size 4 (is_heap_bytes ram.0 base.0) base.1
  Ok (record { harts = harts.0; ram = ram.0; heap_base = base.0; heap_bytes = heap.0 }, heap.1)

-- one entry for each hart
abbrev pub entries_at : ℕ → Sizes → Reads (List ℕ)
entries_at size sizes bytes = times sizes.harts (field_at size 5 (is_place sizes.ram)) bytes

-- the five lists, under the version, sizes and entries that were read before them
unfoldable pub lists_at : ℕ → Version → Sizes → List ℕ → Reads Picture
lists_at size version sizes entries bytes = do
  segments ← list_at size (segment_at size sizes.ram) bytes
  code ← list_at size (row_at 2 is_clear_of (range_at size sizes.ram 8)) segments.1
  labels ← list_at size (row_at 3 is_label_after (label_at size sizes.ram)) code.1
  edges ← list_at size (row_at 4 is_edge_after (edge_at size)) labels.1
  compartments ← list_at size (row_at 5 is_compartment_after (compartment_at version size sizes.ram)) edges.1
  Ok (record { version = version; ram = sizes.ram; heap_base = sizes.heap_base; heap_bytes = sizes.heap_bytes; entries = entries; segments = segments.0; code = code.0; labels = labels.0; edges = edges.0; compartments = compartments.0 }, compartments.1)

-- the opening, the sizes, the entries and the lists
unfoldable pub picture_at : ℕ → Reads Picture
picture_at size bytes = do
  version ← opening_at size bytes
  sizes ← sizes_at size version.1
  entries ← entries_at size sizes.0 sizes.1
  lists_at size version.0 sizes.0 entries.0 entries.1

-- all of the bytes: the image whose file they are, or the first condition that they fail
unfoldable pub image_of : List ℕ → Result Picture ImageError
image_of bytes = do
  g ← picture_at (length bytes) bytes
  ended ← demand (length g.1 == 0) (Trailing (length bytes - length g.1))
  Ok g.0

-- what was returned is the image that is read, or the condition that fails first, unless memory ran out
abbrev pub GivesImage : Result Picture ImageEnd → Result Picture ImageError → Type 0
GivesImage (Ok g) taken = taken ≡ Ok g
GivesImage (Err end) taken = FailsAs end taken

-- the bytes were refused, and memory did not run out
abbrev pub IsBad : Result Picture ImageEnd → Type 0
IsBad (Ok g) = ⊥
IsBad (Err ends.Memory) = ⊥
IsBad (Err (ends.Bad error)) = Unit {0}
