-- A list in pages of 64 items: each page has a place of 64 slots, which pages that are alike may share.
use Rattle.std.specs.Prelude.{◌≡◌, ◌≢◌, ℕ, ◌+◌, ◌-◌, ◌*◌, ◌/◌, ◌%◌, ◌<◌, ◌≤◌, Bool, not, true, false, List, filter, length, map, slice_index, slice_index_or}
use Rattle.std.specs.List.{range_with_len}

pub record PagesState (T : Type 0) : Type 0 where
  -- of each page, what is added to an item's number to give its slot, modulo 2^64
  pub shifts : List ℕ
  -- of each page, whether no other one has its slots
  pub owned : List Bool
  pub slots : List T
  pub count : ℕ
  -- how many pages have no slots of their own
  pub shared : ℕ
  -- how many slots there may be without taking memory
  pub room : ℕ
  -- what stands outside of all slots
  pub blank : T

-- the slot of an item, by its number
abbrev pub slot_of : List ℕ → ℕ → ℕ
slot_of shifts n = (n + slice_index shifts (n / 64)) % 18446744073709551616

-- the first slot of a page
abbrev pub first_slot : List ℕ → ℕ → ℕ
first_slot shifts page = (64 * page + slice_index shifts page) % 18446744073709551616

-- the shifts of so many pages behind so many items, to one place
abbrev pub shifts_to : ℕ → ℕ → ℕ → List ℕ
shifts_to place count pages = map (λ k. (place + (18446744073709551616 - (count + 64 * k))) % 18446744073709551616) (range_with_len 0 pages)

-- the item of a number
abbrev pub item_of : {T : Type 0} → List ℕ → List T → T → ℕ → T
item_of shifts slots blank n = slice_index_or slots (slot_of shifts n) blank

-- the list
unfoldable pub items_of : {T : Type 0} → PagesState T → List T
items_of pages = map (item_of pages.shifts pages.slots pages.blank) (range_with_len 0 pages.count)

-- how many slots there will be once every page has its own
abbrev pub most_slots : {T : Type 0} → PagesState T → ℕ
most_slots pages = length pages.slots + 64 * pages.shared

-- the first slot of a page, where there are so many slots
pub record IsFirstSlot (count slot : ℕ) : Type 0 where
  pub aligned : slot % 64 ≡ 0
  pub within : slot < count

-- the page has its slots alone
abbrev pub StandsApart : List ℕ → ℕ → Type 0
StandsApart shifts page = (other : ℕ) → other < length shifts → other ≢ page → first_slot shifts other ≢ first_slot shifts page

-- as many pages as the items need, each with slots; room for slots of its own for each that has none
pub record ArePages {T : Type 0} (pages : PagesState T) : Type 0 where
  pub size : length pages.owned ≡ length pages.shifts
  pub counted : pages.shared ≡ length (filter not pages.owned)
  pub holds : pages.count ≤ 64 * length pages.shifts
  pub tight : 64 * length pages.shifts < pages.count + 64
  pub few : pages.count ≤ 4194304
  pub whole : length pages.slots % 64 ≡ 0
  pub starts : (page : ℕ) → page < length pages.shifts → IsFirstSlot (length pages.slots) (first_slot pages.shifts page)
  pub apart : (page : ℕ) → page < length pages.shifts → slice_index_or pages.owned page false ≡ true → StandsApart pages.shifts page
  pub spare : most_slots pages ≤ pages.room
  pub bounded : most_slots pages ≤ 128 * length pages.shifts
