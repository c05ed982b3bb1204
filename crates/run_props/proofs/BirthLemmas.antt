-- What an image says in numbers: how many compartments there are, and where the heap region lies; and that the birth of each
-- word agrees.
use Rattle.std.proofs.Common.{◌≡◌, ℕ, ◌+◌, ◌*◌, ◌/◌, ◌%◌, ◌^◌, ◌<◌, ◌≤◌, Bool, true, false, ◌&&◌, max, nat_le, nat_lt, List, [], ◌∷◌, Option, Some, None, ap, refl, ◌∙◌, if◌then◌else◌, arith}
use Rattle.std.specs.List.{find, fold}
use Rattle.std.specs.Option.{is_some}
use Rattle.std.proofs.lemmas.Bool.{eqb-true, leb-true}
use Rattle.std.proofs.lemmas.List.Elements.{All-nil}
use Rattle.std.proofs.Math.Nat.{le-max_left, le-max_right, max-le}
use Rattle.image_format.specs.Conditions.{IsImage, are_rows, compartment_limit, in_order, is_aligned, is_compartment, is_compartment_after, whole}
use Rattle.image_format.specs.Picture.{CompartmentRow, Picture}
use Rattle.image_format.specs.declared.version.Version.{Version}
use Rattle.image_format.specs.declared.version.Version.TheVariants.{One, Two}
use Rattle.image_format.proofs.FieldLemmas.{both}
use Rattle.compartment_policy.specs.Compartments.{IsCount}
use Rattle.heap_policy.specs.Heap.{IsHeap}
use Rattle.policy_choice.specs.All.{compartment_count, compartments_of, heap_of}
use Rattle.policy_choice.proofs.OwnerLemmas.{owner_fits}
use Rattle.tag_loader.specs.Births.{birth_by, birth_of, id_of, is_labelled_by, is_owned_by, lies_in, lies_in_heap}

-- ---- the count of compartments

abbrev counted : ℕ → List CompartmentRow → ℕ
counted count rows = fold (λ (most : ℕ) (row : CompartmentRow). max most (row.owner + 1)) count rows

-- it is at least what was counted before
count_least : (count : ℕ) (rows : List CompartmentRow) → count ≤ counted count rows
count_least count [] = omega arith
count_least count (row ∷ rows) =
    let here = le-max_left count (row.owner + 1) in
    let rest = count_least (max count (row.owner + 1)) rows in
    omega (arith, here, rest)

-- it is never more than the version has room for
count_most : (version : Version) (ram : ℕ) (before : Option CompartmentRow) (count : ℕ) (rows : List CompartmentRow) → count ≤ compartment_limit version
    → are_rows whole (is_compartment version ram) is_compartment_after before rows ≡ true → counted count rows ≤ compartment_limit version
count_most version ram before count [] few are = few
count_most version ram before count (row ∷ rows) few are =
    let parts = both (is_compartment version ram row && in_order is_compartment_after before row) _ are in
    let owner : row.owner < compartment_limit version = owner_fits version ram row (both (is_compartment version ram row) _ parts.0).0 in
    let next : row.owner + 1 ≤ compartment_limit version = omega (arith, owner) in
    count_most version ram (Some row) (max count (row.owner + 1)) rows (max-le few next) parts.1

-- which has room for one at least, and for no more than a set has
pub limit_fits : (version : Version) → compartment_limit version ≤ 128
limit_fits One = omega arith
limit_fits Two = omega arith

one_fits : (version : Version) → 1 ≤ compartment_limit version
one_fits One = omega arith
one_fits Two = omega arith

pub count_is : (g : Picture) → IsImage g → IsCount (compartments_of g)
count_is g is = record {
  some = count_least 1 g.compartments;
  within = count_most g.version g.ram None 1 g.compartments (one_fits g.version) is.compartments.rows;
  few = limit_fits g.version;
}

-- ---- the owners of words

-- a word outside all rows is owned by 0
abbrev owner_in : Option CompartmentRow → ℕ
owner_in None = 0
owner_in (Some row) = row.owner

below_either : (test : Bool) (count : ℕ) (row : CompartmentRow) (rows : List CompartmentRow) (found : Option CompartmentRow)
    → owner_in found < counted (max count (row.owner + 1)) rows → owner_in (if test then Some row else found) < counted count (row ∷ rows)
below_either true count row rows found rest =
    let here = le-max_right count (row.owner + 1) in
    let most = count_least (max count (row.owner + 1)) rows in
    omega (arith, here, most)
below_either false count row rows found rest = rest

found_below : (test : CompartmentRow → Bool) (count : ℕ) (rows : List CompartmentRow) → 1 ≤ count
    → owner_in (find test rows) < counted count rows
found_below test count [] some = some
found_below test count (row ∷ rows) some =
    let more : 1 ≤ max count (row.owner + 1) = omega (arith, le-max_left count (row.owner + 1)) in
    below_either (test row) count row rows (find test rows) (found_below test (max count (row.owner + 1)) rows more)

owner_by : (row : Option CompartmentRow) (code : Bool) (label : Option ℕ) (heap : Bool) → (birth_by row code label heap).owner ≡ owner_in row
owner_by None code label heap = refl
owner_by (Some row) code label heap = refl

pub owner_below : (g : Picture) (address : ℕ) → (birth_of g address).owner < compartment_count g.compartments
unfolding birth_of
owner_below g address =
    let row = find (is_owned_by address) g.compartments in
    let owner = owner_by row (is_some (find (lies_in address) g.code)) (id_of (find (is_labelled_by address) g.labels)) (lies_in_heap g address) in
    let below = found_below (is_owned_by address) 1 g.compartments (omega arith) in
    omega (arith, owner, below)

-- ---- the heap region

pub record IsRegion (base bytes : ℕ) : Type 0 where
  pub aligned : base % 4 ≡ 0
  pub small : base + bytes < 2 ^ 32

pub ends_inside : (g : Picture) → IsImage g → g.heap_base + g.heap_bytes ≤ g.ram
ends_inside g is = leb-true (g.heap_base + g.heap_bytes) g.ram (both (is_aligned g.heap_bytes) _ is.heap_bytes).1

pub region_is : (g : Picture) → IsImage g → IsRegion g.heap_base g.heap_bytes
region_is g is =
    let inside = ends_inside g is in
    let few : g.ram ≤ 16777216 = leb-true g.ram 16777216 (both (is_aligned g.ram && nat_le 4 g.ram) (nat_le g.ram 16777216) is.ram).1 in
    record { aligned = eqb-true (g.heap_base % 4) 0 (both (is_aligned g.heap_base) _ is.heap_base).0; small = omega arith }

pub heap_is : (g : Picture) → IsImage g → IsHeap (heap_of g)
heap_is g is =
    let region = region_is g is in
    record {
      space = record {
        aligned = region.aligned;
        rising = omega arith;
        small = region.small;
        within = All-nil _;
        numbered = λ i j d later below. absurd (omega arith);
        disjoint = λ i j d later below. absurd (omega arith);
      };
      below = All-nil _;
      few = omega arith;
    }

heap_by : (row : Option CompartmentRow) (code : Bool) (label : Option ℕ) (heap : Bool) → (birth_by row code label heap).heap ≡ heap
heap_by None code label heap = refl
heap_by (Some row) code label heap = refl

-- the birth of a word says whether it lies in the region
pub heap_told : (g : Picture) (n : ℕ)
    → (birth_of g (4 * n)).heap ≡ (nat_le g.heap_base (4 * (4 * n / 4)) && nat_lt (4 * (4 * n / 4)) (g.heap_base + g.heap_bytes))
unfolding birth_of
heap_told g n =
    let address : 4 * n ≡ 4 * (4 * n / 4) = omega arith in
    heap_by (find (is_owned_by (4 * n)) g.compartments) _ _ _ ∙ ap (lies_in_heap g) address
