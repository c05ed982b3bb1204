-- What meets the conditions of an image in its version does so in version 2.
use Rattle.std.proofs.Common.{◌≡◌, ℕ, ◌^◌, ◌<◌, ◌≤◌, Bool, true, ◌&&◌, nat_lt, Option, Some, None, List, [], ◌∷◌, lit<, refl, arith}
use Rattle.std.proofs.Math.Nat.{pow-le-pow_right}
use Rattle.std.proofs.lemmas.Bool.{lt-ltb, ltb-true}
use Rattle.image_format.specs.Picture.{CompartmentRow, Picture}
use Rattle.image_format.specs.declared.version.Version.{Version}
use Rattle.image_format.specs.declared.version.Version.TheVariants.{One, Two}
use Rattle.image_format.specs.Conditions.{IsImage, are_rows, compartment_limit, in_order, is_compartment, is_compartment_after, is_mask, is_owner, is_range, whole}
use Rattle.image_format.specs.Migrated.{migrated}
use Rattle.image_format.proofs.FieldLemmas.{both}

fits_wider : (version : Version) → compartment_limit version ≤ compartment_limit Two
fits_wider One = omega arith
fits_wider Two = omega arith

less_wider : (n few many : ℕ) → few ≤ many → nat_lt n few ≡ true → nat_lt n many ≡ true
less_wider n few many wider less = lt-ltb n many (let below : n < few = ltb-true n few less in omega (arith, below, wider))

owner_wider : (version : Version) (n : ℕ) → is_owner version n ≡ true → is_owner Two n ≡ true
owner_wider version n = less_wider n (compartment_limit version) (compartment_limit Two) (fits_wider version)

mask_wider : (version : Version) (n : ℕ) → is_mask version n ≡ true → is_mask Two n ≡ true
mask_wider version n =
    less_wider n (2 ^ compartment_limit version) (2 ^ compartment_limit Two)
    (pow-le-pow_right {n = 2} (lit< tt) {i = compartment_limit version} {j = compartment_limit Two} (fits_wider version))

all_four : (a b c d : Bool) → a ≡ true → b ≡ true → c ≡ true → d ≡ true → a && b && c && d ≡ true
all_four a b c d first second third fourth = rw first (rw second (rw third fourth))

row_wider : (version : Version) (ram : ℕ) (row : CompartmentRow) → is_compartment version ram row ≡ true → is_compartment Two ram row ≡ true
row_wider version ram row fits =
    let last = both (is_range ram row.range && is_owner version row.owner && is_mask version row.into) (is_mask version row.write) fits in
    let next = both (is_range ram row.range && is_owner version row.owner) (is_mask version row.into) last.0 in
    let first = both (is_range ram row.range) (is_owner version row.owner) next.0 in
    all_four (is_range ram row.range) (is_owner Two row.owner) (is_mask Two row.into) (is_mask Two row.write) first.0
    (owner_wider version row.owner first.1) (mask_wider version row.into next.1) (mask_wider version row.write last.1)

rows_wider : (version : Version) (ram : ℕ) (before : Option CompartmentRow) (rows : List CompartmentRow)
    → are_rows whole (is_compartment version ram) is_compartment_after before rows ≡ true → are_rows whole (is_compartment Two ram) is_compartment_after before rows ≡ true
rows_wider version ram before [] are = refl
rows_wider version ram before (row ∷ rows) are =
    let ordered = in_order is_compartment_after before row in
    let rest = both (is_compartment version ram row && ordered) (are_rows whole (is_compartment version ram) is_compartment_after (Some row) rows) are in
    let first = both (is_compartment version ram row) ordered rest.0 in
    let later = rows_wider version ram (Some row) rows rest.1 in
    rw (row_wider version ram row first.0) (rw first.1 later)

pub migrated_is_image : (g : Picture) → IsImage g → IsImage (migrated g)
migrated_is_image g is = record {
  harts = is.harts;
  ram = is.ram;
  heap_base = is.heap_base;
  heap_bytes = is.heap_bytes;
  entries = is.entries;
  segments = is.segments;
  code = is.code;
  labels = is.labels;
  edges = is.edges;
  compartments = record { count = is.compartments.count; rows = rows_wider g.version g.ram None g.compartments is.compartments.rows };
}
