-- What a list in pages has after each change of its pages.
use Rattle.std.proofs.Common.{◌≡◌, ◌⊎◌, inl, inr, ◌≢◌, ℕ, zero, suc, ◌+◌, ◌-◌, ◌*◌, ◌/◌, ◌%◌, ◌<◌, ◌≤◌, Bool, true, false, not, Result, Ok, Err, IfOk, List, [], ◌∷◌, ◌++◌, filter, length, map, replicate, drop, take, slice_range, refl, ap, sym, subst, ◌∙◌, arith, slice_index, slice_index_or, slice_set, if◌then◌else◌}
use Rattle.std.specs.List.{range_with_len}
use Rattle.std.proofs.Math.ListN.{get_or-map}
use Rattle.std.proofs.lemmas.Bool.{cases_eq, cases_lt}
use Rattle.std.proofs.lemmas.Bool.Decides.{nat_tests}
use Rattle.std.proofs.lemmas.List.{append-nil, append_assoc, get_or_append_left, get_or-append-add, get_or-drop, get_or-replicate, get_or-set_same, get_or-set_other, get_or-take, length-append, length-drop, length-replicate, length-set, length-take, replicate-append-replicate, replicate_more, take_all, take_more}
use Rattle.std.proofs.lemmas.List.FromFn.{length-map-range_with_len, map-range_with_len_more, get_or-map-range_with_len}
use Rattle.std.proofs.lemmas.Simd.{map-map}
use Rattle.tag_memory.specs.Pages.{ArePages, IsFirstSlot, PagesState, first_slot, item_of, items_of, shifts_to, slot_of}

-- the slot of an item: so many behind the first one of its page as the item is behind the page's first
pub slot_is : (n shift : ℕ) → (64 * (n / 64) + shift) % 18446744073709551616 % 64 ≡ 0
    → (n + shift) % 18446744073709551616 ≡ (64 * (n / 64) + shift) % 18446744073709551616 + n % 64
slot_is n shift aligned = omega (arith, aligned)

slots_apart : (first n m : ℕ) → m / 64 ≡ n / 64 → m ≢ n → first + m % 64 ≢ first + n % 64
slots_apart first n m page differs = omega (arith, page, differs)

places_apart : (first other n m : ℕ) → first % 64 ≡ 0 → other % 64 ≡ 0 → other ≢ first → other + m % 64 ≢ first + n % 64
places_apart first other n m aligned other_aligned differs = omega (arith, aligned, other_aligned, differs)

-- a shift that leads to a place
placed : (place page : ℕ) → place < 18446744073709551616 → 64 * page < 18446744073709551616
    → (64 * page + (place + (18446744073709551616 - 64 * page)) % 18446744073709551616) % 18446744073709551616 ≡ place
placed place page small page_small = omega (arith, small, page_small)

-- one page more has slots of its own
pub one_owned : (owned : List Bool) (page : ℕ) → slice_index_or owned page true ≡ false
    → length (filter not owned) ≡ length (filter not (slice_set owned page true)) + 1
one_owned [] page is = absurd cc
one_owned (false ∷ owned) zero is = omega arith
one_owned (true ∷ owned) zero is = absurd cc
one_owned (false ∷ owned) (suc page) is = let rest = one_owned owned page is in omega (arith, rest)
one_owned (true ∷ owned) (suc page) is = one_owned owned page is

-- what holds of a value holds of it in a result
pub if_ok : {A E : Type 0} {P Q : A → Type 0} → ((x : A) → P x → Q x) → (result : Result A E) → IfOk result P → IfOk result Q
if_ok follows (Ok x) holds = follows x holds
if_ok follows (Err error) holds = holds

-- pages that share, counted
not_owned : (owned : List Bool) (pages : ℕ) → length (filter not (owned ++ replicate pages false)) ≡ length (filter not owned) + pages
not_owned [] zero = refl
not_owned [] (suc pages) = let rest = not_owned [] pages in omega (arith, rest)
not_owned (false ∷ owned) pages = let rest = not_owned owned pages in omega (arith, rest)
not_owned (true ∷ owned) pages = not_owned owned pages

all_owned : (owned : List Bool) → length (filter not (owned ++ true ∷ [])) ≡ length (filter not owned)
all_owned [] = refl
all_owned (false ∷ owned) = let rest = all_owned owned in omega (arith, rest)
all_owned (true ∷ owned) = all_owned owned

-- the shift of one page more
pub shifts_more : (old new : List ℕ) (place count k shift : ℕ) → old ≡ new ++ shifts_to place count k
    → shift ≡ (place + (18446744073709551616 - (count + 64 * k))) % 18446744073709551616 → old ++ shift ∷ [] ≡ new ++ shifts_to place count (k + 1)
shifts_more old new place count k shift is at =
    let more = map-range_with_len_more (λ (n : ℕ). (place + (18446744073709551616 - (count + 64 * n))) % 18446744073709551616) 0 k k (omega arith) in
    ap (λ list. list ++ shift ∷ []) is
    ∙ append_assoc new (shifts_to place count k) (shift ∷ [])
    ∙ ap (λ s. new ++ (shifts_to place count k ++ s ∷ [])) at
    ∙ ap (λ list. new ++ list) (sym more)

-- each slot changed, and so each item
pub items_by : {T U : Type 0} (f : T → U) (old : PagesState T) (new : PagesState U) → new.shifts ≡ old.shifts → new.slots ≡ map f old.slots
    → new.count ≡ old.count → new.blank ≡ f old.blank → items_of new ≡ map f (items_of old)
unfolding items_of
items_by f old new shifts slots count blank =
    (λ j. map (item_of (shifts j) (slots j) (blank j)) (range_with_len 0 (count j)))
    ∙ (λ j. map (λ n. get_or-map f old.slots (slot_of old.shifts n) old.blank j) (range_with_len 0 old.count))
    ∙ sym (map-map f (item_of old.shifts old.slots old.blank) (range_with_len 0 old.count))

module _ {T : Type 0} where
  -- ---- lists by number

  -- one item more of those that are added in their order
  pub pushed_more : (first all old new : List T) (n : ℕ) (x : T) → n < length all → old ≡ first ++ take n all → new ≡ old ++ x ∷ []
      → x ≡ slice_index_or all n x → new ≡ first ++ take (n + 1) all
  pushed_more first all old new n x lt is pushed at =
      pushed ∙ ap (λ list. list ++ x ∷ []) is ∙ append_assoc first (take n all) (x ∷ []) ∙ ap (λ y. first ++ (take n all ++ y ∷ [])) at
      ∙ ap (λ list. first ++ list) (sym (take_more all n x lt))

  -- all items were added
  pub pushed_all : (first all list : List T) (n : ℕ) → list ≡ first ++ take n all → length all ≤ n → list ≡ first ++ all
  pushed_all first all list n is le = is ∙ ap (λ items. first ++ items) (take_all n all le)

  -- a list that is made longer with an item over and over
  pub resized : (old new : List T) (n size added : ℕ) (x : T) → new ≡ take n old ++ replicate (n - size) x → size ≡ length old → n ≡ size + added
      → new ≡ old ++ replicate added x
  resized old new n size added x is all more =
      let whole : take n old ≡ old = take_all n old (omega (arith, all, more)) in
      let rest : n - size ≡ added = omega (arith, more) in
      is ∙ ap (λ list. list ++ replicate (n - size) x) whole ∙ ap (λ k. old ++ replicate k x) rest

  -- one more behind others that are the same
  pub one_more : (first old new : List T) (k n : ℕ) (x : T) → old ≡ first ++ replicate k x → new ≡ old ++ x ∷ [] → n ≡ k + 1 → new ≡ first ++ replicate n x
  one_more first old new k n x is pushed more =
      pushed ∙ ap (λ list. list ++ x ∷ []) is ∙ append_assoc first (replicate k x) (x ∷ []) ∙ ap (λ list. first ++ list) (replicate_more k x)
      ∙ ap (λ m. first ++ replicate m x) (sym more)

  -- some of them first, and then the others
  pub all_added : (first some all : List T) (at middle end : ℕ) (x : T) → some ≡ first ++ replicate (middle - at) x
      → all ≡ some ++ replicate (end - middle) x → at ≤ middle → middle ≤ end → all ≡ first ++ replicate (end - at) x
  all_added first some all at middle end x is more le le_end =
      let both = replicate-append-replicate (middle - at) (end - middle) x in
      let sum : middle - at + (end - middle) ≡ end - at = omega (arith, le, le_end) in
      more ∙ ap (λ list. list ++ replicate (end - middle) x) is
      ∙ append_assoc first (replicate (middle - at) x) (replicate (end - middle) x)
      ∙ ap (λ list. first ++ list) (both ∙ ap (λ n. replicate n x) sum)

  -- what was added, by length and by index
  module _ (old new : List T) (end : ℕ) (x : T) (is : new ≡ old ++ replicate (end - length old) x) (more : length old ≤ end) where
    pub added_size : length new ≡ end
    added_size =
        let all = length-append old (replicate (end - length old) x) in
        let added = length-replicate (end - length old) x in
        let same = ap length is in
        omega (arith, all, added, same, more)

    pub added_old : (k : ℕ) (d : T) → k < length old → slice_index_or new k d ≡ slice_index_or old k d
    added_old k d lt = ap (λ list. slice_index_or list k d) is ∙ get_or_append_left old (replicate (end - length old) x) d k lt

    pub added_new : (k : ℕ) (d : T) → length old ≤ k → k < end → slice_index_or new k d ≡ x
    added_new k d le lt =
        let at : length old + (k - length old) ≡ k = omega (arith, le) in
        ap (λ list. slice_index_or list k d) is
        ∙ ap (λ n. slice_index_or (old ++ replicate (end - length old) x) n d) (sym at)
        ∙ get_or-append-add old (replicate (end - length old) x) (k - length old) d
        ∙ get_or-replicate (end - length old) (k - length old) x d (omega (arith, le, lt))

  same_list : (xs ys : List T) → length xs ≡ length ys → ((i : ℕ) (d : T) → i < length xs → slice_index_or xs i d ≡ slice_index_or ys i d) → xs ≡ ys
  same_list [] [] size same = refl
  same_list [] (y ∷ ys) size same = absurd (omega (arith, size))
  same_list (x ∷ xs) [] size same = absurd (omega (arith, size))
  same_list (x ∷ xs) (y ∷ ys) size same =
      let first : x ≡ y = same 0 x (omega arith) in
      let rest : xs ≡ ys = same_list xs ys (omega (arith, size)) (λ i d lt. same (suc i) d (omega (arith, lt))) in
      λ j. first j ∷ rest j

  pub same_items : (f g : ℕ → T) (count : ℕ) → ((n : ℕ) → n < count → g n ≡ f n) → map g (range_with_len 0 count) ≡ map f (range_with_len 0 count)
  same_items f g count same =
      let left = length-map-range_with_len g 0 count in
      let right = length-map-range_with_len f 0 count in
      same_list _ _ (left ∙ sym right)
      λ i d lt. let within : i < count = omega (arith, lt, left) in
      get_or-map-range_with_len g 0 count i i d within (omega arith) ∙ same i within ∙ sym (get_or-map-range_with_len f 0 count i i d within (omega arith))

  pub items_more : (f g : ℕ → T) (x : T) (a k : ℕ) → ((n : ℕ) → n < a → g n ≡ f n) → ((n : ℕ) → a ≤ n → n < a + k → g n ≡ x)
      → map g (range_with_len 0 (a + k)) ≡ map f (range_with_len 0 a) ++ replicate k x
  items_more f g x a zero same new =
      let none : a + 0 ≡ a = omega arith in
      ap (λ n. map g (range_with_len 0 n)) none ∙ same_items f g a same ∙ sym (append-nil (map f (range_with_len 0 a)))
  items_more f g x a (suc k) same new =
      let before = items_more f g x a k same (λ n le lt. new n le (omega (arith, lt))) in
      let step = map-range_with_len_more g 0 (a + k) (a + k) (omega arith) in
      let last : g (a + k) ≡ x = new (a + k) (omega arith) (omega arith) in
      let more = replicate_more k x in
      let joined = append_assoc (map f (range_with_len 0 a)) (replicate k x) (x ∷ []) in
      grind (arith, before, step, last, more, joined)

  pub item_set : (f g : ℕ → T) (count k : ℕ) (v : T) → k < count → ((n : ℕ) → n < count → n ≢ k → g n ≡ f n) → g k ≡ v
      → map g (range_with_len 0 count) ≡ slice_set (map f (range_with_len 0 count)) k v
  item_set f g count k v lt others own =
      let left = length-map-range_with_len g 0 count in
      let right = length-map-range_with_len f 0 count in
      let size = length-set (map f (range_with_len 0 count)) k v in
      same_list _ _ (left ∙ sym (size ∙ right))
      λ i d within_left. let within : i < count = omega (arith, within_left, left) in
      let at_left = get_or-map-range_with_len g 0 count i i d within (omega arith) in
      let at_right = get_or-map-range_with_len f 0 count i i d within (omega arith) in
      let same = get_or-set_same (map f (range_with_len 0 count)) k v d in
      let other = get_or-set_other (map f (range_with_len 0 count)) k i v d in
      let differs = others i within in
      grind (arith, nat_tests, lt, right, at_left, at_right, same, other, differs, own)

  -- ---- slots

  pub slot_parts : (pages : PagesState T) (n : ℕ) → ArePages pages → n < pages.count → slot_of pages.shifts n ≡ first_slot pages.shifts (n / 64) + n % 64
  slot_parts pages n are lt =
      let page : n / 64 < length pages.shifts = omega (arith, lt, are.holds) in
      slot_is n (slice_index pages.shifts (n / 64)) (are.starts (n / 64) page).aligned

  pub slot_within : (pages : PagesState T) (n : ℕ) → ArePages pages → n < pages.count → slot_of pages.shifts n < length pages.slots
  slot_within pages n are lt =
      let page : n / 64 < length pages.shifts = omega (arith, lt, are.holds) in
      let start = are.starts (n / 64) page in
      let parts = slot_parts pages n are lt in
      within_place (slot_of pages.shifts n) (first_slot pages.shifts (n / 64)) n (length pages.slots) parts start.aligned start.within are.whole
    where
      within_place : (slot first n size : ℕ) → slot ≡ first + n % 64 → first % 64 ≡ 0 → first < size → size % 64 ≡ 0 → slot < size
      within_place slot first n size is aligned within whole = omega arith

  -- no other item has the slot of an item whose page has its slots alone
  pub slot_apart : (pages : PagesState T) (n m : ℕ) → ArePages pages → n < pages.count → m < pages.count
      → slice_index_or pages.owned (n / 64) false ≡ true → m ≢ n → slot_of pages.shifts m ≢ slot_of pages.shifts n
  slot_apart pages n m are lt other_lt own differs = by_page (cases_eq (m / 64) (n / 64))
    where
      by_page : (m / 64 ≡ n / 64) ⊎ (m / 64 ≡ n / 64 → ⊥) → slot_of pages.shifts m ≢ slot_of pages.shifts n
      by_page (inl same) equal =
          let place : first_slot pages.shifts (m / 64) ≡ first_slot pages.shifts (n / 64) = ap (first_slot pages.shifts) same in
          let at_m = slot_parts pages m are other_lt in
          let at_n = slot_parts pages n are lt in
          slots_apart (first_slot pages.shifts (n / 64)) n m same differs (ap (λ first. first + m % 64) (sym place) ∙ sym at_m ∙ equal ∙ at_n)
      by_page (inr other) equal =
          let page : n / 64 < length pages.shifts = omega (arith, lt, are.holds) in
          let other_page : m / 64 < length pages.shifts = omega (arith, other_lt, are.holds) in
          let at_m = slot_parts pages m are other_lt in
          let at_n = slot_parts pages n are lt in
          places_apart (first_slot pages.shifts (n / 64)) (first_slot pages.shifts (m / 64)) n m (are.starts (n / 64) page).aligned
          (are.starts (m / 64) other_page).aligned (are.apart (n / 64) page own (m / 64) other_page other) (sym at_m ∙ equal ∙ at_n)

  -- ---- the items

  pub count_is : (pages : PagesState T) → length (items_of pages) ≡ pages.count
  unfolding items_of
  count_is pages = length-map-range_with_len (item_of pages.shifts pages.slots pages.blank) 0 pages.count

  pub item_at : (pages : PagesState T) (n : ℕ) (d : T) → n < pages.count → slice_index_or (items_of pages) n d ≡ item_of pages.shifts pages.slots pages.blank n
  unfolding items_of
  item_at pages n d lt = get_or-map-range_with_len (item_of pages.shifts pages.slots pages.blank) 0 pages.count n n d lt (omega arith)

  set_last : (xs : List T) (y x : T) → slice_set (xs ++ y ∷ []) (length xs) x ≡ xs ++ x ∷ []
  set_last [] y x = refl
  set_last (z ∷ xs) y x = ap (λ list. z ∷ list) (set_last xs y x)

  pub none_are : (pages : PagesState T) → pages.count ≡ 0 → items_of pages ≡ []
  unfolding items_of
  none_are pages none = ap (λ n. map (item_of pages.shifts pages.slots pages.blank) (range_with_len 0 n)) none

  -- an item more, which is written then
  pub item_more : (pages : PagesState T) (x : T) → slice_set (items_of (record pages { count = pages.count + 1 })) pages.count x ≡ items_of pages ++ x ∷ []
  unfolding items_of
  item_more pages x =
      let items = map (item_of pages.shifts pages.slots pages.blank) (range_with_len 0 pages.count) in
      let more = map-range_with_len_more (item_of pages.shifts pages.slots pages.blank) 0 pages.count pages.count (omega arith) in
      let size = length-map-range_with_len (item_of pages.shifts pages.slots pages.blank) 0 pages.count in
      ap (λ list. slice_set list pages.count x) more
      ∙ ap (λ n. slice_set (items ++ item_of pages.shifts pages.slots pages.blank pages.count ∷ []) n x) (sym size)
      ∙ set_last items _ x

  -- an item written in its slot, which no other one has
  pub items_set : (pages : PagesState T) (n slot : ℕ) (x : T) → ArePages pages → n < pages.count → slice_index_or pages.owned (n / 64) false ≡ true
      → slot ≡ slot_of pages.shifts n → items_of (record pages { slots = slice_set pages.slots slot x }) ≡ slice_set (items_of pages) n x
  unfolding items_of
  items_set pages n slot x are lt own at =
      let within = slot_within pages n are lt in
      let apart : (m : ℕ) → m < pages.count → m ≢ n → slot_of pages.shifts m ≢ slot =
      λ m other_lt differs equal. slot_apart pages n m are lt other_lt own differs (equal ∙ at) in
      item_set _ _ pages.count n x lt
      (λ m other_lt differs. get_or-set_other pages.slots slot (slot_of pages.shifts m) x pages.blank (apart m other_lt differs))
      (ap (λ s. slice_index_or (slice_set pages.slots slot x) s pages.blank) (sym at) ∙ get_or-set_same pages.slots slot x pages.blank (omega (arith, within, at)))

  -- ---- a page gets slots of its own

  -- a list with 64 of its items once more behind it
  module _ (slots added : List T) (first : ℕ) (within : first + 64 ≤ length slots) (is : added ≡ slots ++ slice_range slots first (first + 64)) where
    pub copied_size : length added ≡ length slots + 64
    copied_size =
        let all = length-append slots (slice_range slots first (first + 64)) in
        let part = length-take (first + 64 - first) (drop first slots) in
        let rest = length-drop first slots in
        let same = ap length is in
        omega (arith, all, part, rest, same, within)

    pub copied_old : (k : ℕ) (d : T) → k < length slots → slice_index_or added k d ≡ slice_index_or slots k d
    copied_old k d lt = ap (λ list. slice_index_or list k d) is ∙ get_or_append_left slots (slice_range slots first (first + 64)) d k lt

    pub copied_new : (k : ℕ) (d : T) → k < 64 → slice_index_or added (length slots + k) d ≡ slice_index_or slots (first + k) d
    copied_new k d lt =
        ap (λ list. slice_index_or list (length slots + k) d) is
        ∙ get_or-append-add slots (slice_range slots first (first + 64)) k d
        ∙ get_or-take (first + 64 - first) (drop first slots) k d (omega (arith, lt))
        ∙ get_or-drop first slots k d

  module _ (pages : PagesState T) (page place from room : ℕ) (slots : List T) (are : ArePages pages) (within : page < length pages.shifts)
      (was_shared : slice_index_or pages.owned page true ≡ false) (same_room : pages.room ≤ room) (at_end : place ≡ length pages.slots)
      (at_first : from ≡ first_slot pages.shifts page) (items : slots ≡ pages.slots ++ slice_range pages.slots from (from + 64))
    where
      pub from_within : from + 64 ≤ length pages.slots
      from_within = let start = are.starts page within in omega (arith, at_first, start.aligned, start.within, are.whole)

      added : length slots ≡ length pages.slots + 64
      added = copied_size pages.slots slots from from_within items

      old : (k : ℕ) (d : T) → k < length pages.slots → slice_index_or slots k d ≡ slice_index_or pages.slots k d
      old = copied_old pages.slots slots from from_within items

      new : (k : ℕ) (d : T) → k < 64 → slice_index_or slots (length pages.slots + k) d ≡ slice_index_or pages.slots (first_slot pages.shifts page + k) d
      new k d lt = copied_new pages.slots slots from from_within items k d lt ∙ ap (λ first. slice_index_or pages.slots (first + k) d) at_first

      abbrev shift : ℕ
      shift = (place + (18446744073709551616 - 64 * page)) % 18446744073709551616

      abbrev pub owning : PagesState T
      owning = record {
        shifts = slice_set pages.shifts page ((place + (18446744073709551616 - 64 * page)) % 18446744073709551616);
        owned = slice_set pages.owned page true;
        slots = slots;
        count = pages.count;
        shared = pages.shared - 1;
        room = room;
        blank = pages.blank;
      }

      pub some_shared : 1 ≤ pages.shared
      some_shared = let one = one_owned pages.owned page was_shared in omega (arith, one, are.counted)

      pub spare_place : length pages.slots + 64 ≤ pages.room
      spare_place = omega (arith, are.spare, some_shared)

      small : length pages.slots < 4194304 * 4
      small = omega (arith, are.bounded, are.tight, are.few)

      first_own : first_slot owning.shifts page ≡ length pages.slots
      first_own =
          let at = get_or-set_same pages.shifts page shift 0 within in
          ap (λ s. (64 * page + s) % 18446744073709551616) at
          ∙ placed place page (omega (arith, small, at_end)) (omega (arith, within, are.tight, are.few))
          ∙ at_end

      first_other : (q : ℕ) → q ≢ page → first_slot owning.shifts q ≡ first_slot pages.shifts q
      first_other q differs = ap (λ s. (64 * q + s) % 18446744073709551616) (get_or-set_other pages.shifts page q shift 0 differs)

      size_kept : length owning.shifts ≡ length pages.shifts
      size_kept = length-set pages.shifts page shift

      starts_at : (q : ℕ) → q < length owning.shifts → (q ≡ page) ⊎ (q ≡ page → ⊥) → IsFirstSlot (length slots) (first_slot owning.shifts q)
      starts_at q lt (inl same) =
          let at : first_slot owning.shifts q ≡ length pages.slots = ap (first_slot owning.shifts) same ∙ first_own in
          record { aligned = omega (arith, at, are.whole); within = omega (arith, at, added) }
      starts_at q lt (inr differs) =
          let at = first_other q differs in
          let start = are.starts q (omega (arith, lt, size_kept)) in
          record { aligned = omega (arith, at, start.aligned); within = omega (arith, at, start.within, added) }

      apart_at : (p : ℕ) → p < length owning.shifts → slice_index_or owning.owned p false ≡ true → (p ≡ page) ⊎ (p ≡ page → ⊥)
          → (q : ℕ) → q < length owning.shifts → q ≢ p → (q ≡ page) ⊎ (q ≡ page → ⊥) → first_slot owning.shifts q ≢ first_slot owning.shifts p
      apart_at p lt own (inl same) q q_lt differs (inl q_same) = absurd (differs (q_same ∙ sym same))
      apart_at p lt own (inl same) q q_lt differs (inr q_other) =
          let at : first_slot owning.shifts p ≡ length pages.slots = ap (first_slot owning.shifts) same ∙ first_own in
          let q_at = first_other q q_other in
          let start = are.starts q (omega (arith, q_lt, size_kept)) in
          omega (arith, at, q_at, start.within)
      apart_at p lt own (inr other) q q_lt differs (inl q_same) =
          let at = first_other p other in
          let q_at : first_slot owning.shifts q ≡ length pages.slots = ap (first_slot owning.shifts) q_same ∙ first_own in
          let start = are.starts p (omega (arith, lt, size_kept)) in
          omega (arith, at, q_at, start.within)
      apart_at p lt own (inr other) q q_lt differs (inr q_other) =
          let at = first_other p other in
          let q_at = first_other q q_other in
          let was : slice_index_or pages.owned p false ≡ true = sym (get_or-set_other pages.owned page p true false other) ∙ own in
          let apart = are.apart p (omega (arith, lt, size_kept)) was q (omega (arith, q_lt, size_kept)) differs in
          λ equal. apart (sym q_at ∙ equal ∙ at)

      pub owning_are : ArePages owning
      owning_are = record {
        size = length-set pages.owned page true ∙ are.size ∙ sym size_kept;
        counted = let one = one_owned pages.owned page was_shared in omega (arith, one, are.counted);
        holds = omega (arith, are.holds, size_kept);
        tight = omega (arith, are.tight, size_kept);
        few = are.few;
        whole = omega (arith, are.whole, added);
        starts = λ q lt. starts_at q lt (cases_eq q page);
        apart = λ p lt own q q_lt differs. apart_at p lt own (cases_eq p page) q q_lt differs (cases_eq q page);
        spare = omega (arith, are.spare, added, some_shared, same_room);
        bounded = omega (arith, are.bounded, added, some_shared, size_kept);
      }

      same_item : (n : ℕ) → n < pages.count → (n / 64 ≡ page) ⊎ (n / 64 ≡ page → ⊥)
          → item_of owning.shifts slots pages.blank n ≡ item_of pages.shifts pages.slots pages.blank n
      same_item n lt (inl same) =
          let parts = slot_parts owning n owning_are lt in
          let at : first_slot owning.shifts (n / 64) ≡ length pages.slots = ap (first_slot owning.shifts) same ∙ first_own in
          let was = slot_parts pages n are lt in
          ap (λ slot. slice_index_or slots slot pages.blank) (parts ∙ ap (λ first. first + n % 64) at)
          ∙ new (n % 64) pages.blank (omega arith)
          ∙ ap (λ slot. slice_index_or pages.slots slot pages.blank) (ap (λ p. first_slot pages.shifts p + n % 64) (sym same) ∙ sym was)
      same_item n lt (inr other) =
          let parts = slot_parts owning n owning_are lt in
          let was = slot_parts pages n are lt in
          let at = first_other (n / 64) other in
          ap (λ slot. slice_index_or slots slot pages.blank) (parts ∙ ap (λ first. first + n % 64) at ∙ sym was)
          ∙ old (slot_of pages.shifts n) pages.blank (slot_within pages n are lt)

      pub owning_items : items_of owning ≡ items_of pages
      unfolding items_of
      owning_items = same_items _ _ pages.count (λ n lt. same_item n lt (cases_eq (n / 64) page))

  -- ---- pages are added

  module _ (pages : PagesState T) (end more place room shared : ℕ) (x : T) (alone : Bool) (are : ArePages pages)
      (full : pages.count % 64 ≡ 0) (some : pages.count < end) (few : end ≤ 4194304) (tight : 64 * more < end - pages.count + 64)
      (holds : end - pages.count ≤ 64 * more) (at_end : place ≡ length pages.slots) (one : alone ≡ true → more ≡ 1)
      (is_shared : shared ≡ (if alone then pages.shared else pages.shared + more)) (spare : length pages.slots + 64 + 64 * shared ≤ room)
    where
      abbrev pub growing : PagesState T
      growing = record {
        shifts = pages.shifts ++ shifts_to place pages.count more;
        owned = pages.owned ++ replicate more alone;
        slots = pages.slots ++ replicate 64 x;
        count = end;
        shared = shared;
        room = room;
        blank = pages.blank;
      }

      all_full : pages.count ≡ 64 * length pages.shifts
      all_full = omega (arith, full, are.holds, are.tight)

      more_shifts : length growing.shifts ≡ length pages.shifts + more
      more_shifts = length-append pages.shifts (shifts_to place pages.count more) ∙ ap (λ n. length pages.shifts + n) (length-map-range_with_len _ 0 more)

      more_slots : length growing.slots ≡ length pages.slots + 64
      more_slots = length-append pages.slots (replicate 64 x)

      first_old : (q : ℕ) → q < length pages.shifts → first_slot growing.shifts q ≡ first_slot pages.shifts q
      first_old q lt = ap (λ s. (64 * q + s) % 18446744073709551616) (get_or_append_left pages.shifts (shifts_to place pages.count more) 0 q lt)

      first_new : (k : ℕ) → k < more → first_slot growing.shifts (length pages.shifts + k) ≡ place
      first_new k lt =
          let at = get_or-append-add pages.shifts (shifts_to place pages.count more) k 0 in
          let new = get_or-map-range_with_len (λ (n : ℕ). (place + (18446744073709551616 - (pages.count + 64 * n))) % 18446744073709551616) 0 more k k 0 lt (omega arith) in
          let same : pages.count + 64 * k ≡ 64 * (length pages.shifts + k) = omega (arith, all_full) in
          ap (λ s. (64 * (length pages.shifts + k) + s) % 18446744073709551616)
          (at ∙ new ∙ ap (λ n. (place + (18446744073709551616 - n)) % 18446744073709551616) same)
          ∙ placed place (length pages.shifts + k) (omega (arith, at_end, are.bounded, all_full, some, few)) (omega (arith, all_full, some, few, tight, lt))

      first_behind : (q : ℕ) → length pages.shifts ≤ q → q < length growing.shifts → first_slot growing.shifts q ≡ place
      first_behind q le lt =
          let same : length pages.shifts + (q - length pages.shifts) ≡ q = omega (arith, le) in
          ap (first_slot growing.shifts) (sym same) ∙ first_new (q - length pages.shifts) (omega (arith, le, lt, more_shifts))

      first_below : (q : ℕ) → q < length pages.shifts → first_slot growing.shifts q < place
      first_below q lt = let start = are.starts q lt in let at = first_old q lt in omega (arith, start.within, at, at_end)

      starts_grown : (q : ℕ) → q < length growing.shifts → (q < length pages.shifts) ⊎ (length pages.shifts ≤ q) → IsFirstSlot (length growing.slots) (first_slot growing.shifts q)
      starts_grown q lt (inl below) =
          let start = are.starts q below in
          let at = first_old q below in
          record { aligned = omega (arith, at, start.aligned); within = omega (arith, at, start.within, more_slots) }
      starts_grown q lt (inr behind) =
          let at = first_behind q behind lt in
          record { aligned = omega (arith, at, at_end, are.whole); within = omega (arith, at, at_end, more_slots) }

      apart_grown : (p : ℕ) → p < length growing.shifts → slice_index_or growing.owned p false ≡ true → (p < length pages.shifts) ⊎ (length pages.shifts ≤ p)
          → (q : ℕ) → q < length growing.shifts → q ≢ p → (q < length pages.shifts) ⊎ (length pages.shifts ≤ q) → first_slot growing.shifts q ≢ first_slot growing.shifts p
      apart_grown p lt own (inl p_below) q q_lt differs (inl q_below) =
          let was : slice_index_or pages.owned p false ≡ true =
          sym (get_or_append_left pages.owned (replicate more alone) false p (omega (arith, p_below, are.size))) ∙ own in
          let apart = are.apart p p_below was q q_below differs in
          λ equal. apart (sym (first_old q q_below) ∙ equal ∙ first_old p p_below)
      apart_grown p lt own (inl p_below) q q_lt differs (inr q_behind) =
          let below = first_below p p_below in
          let at = first_behind q q_behind q_lt in
          omega (arith, below, at)
      apart_grown p lt own (inr p_behind) q q_lt differs (inl q_below) =
          let below = first_below q q_below in
          let at = first_behind p p_behind lt in
          omega (arith, below, at)
      apart_grown p lt own (inr p_behind) q q_lt differs (inr q_behind) =
          let last : length pages.owned + (p - length pages.shifts) ≡ p = omega (arith, p_behind, are.size) in
          let within : p - length pages.shifts < more = omega (arith, p_behind, lt, more_shifts) in
          let is_alone : alone ≡ true =
          sym (get_or-replicate more (p - length pages.shifts) alone false within)
          ∙ sym (get_or-append-add pages.owned (replicate more alone) (p - length pages.shifts) false)
          ∙ ap (λ n. slice_index_or growing.owned n false) last ∙ own in
          let only = one is_alone in
          absurd (differs (omega (arith, only, p_behind, q_behind, lt, q_lt, more_shifts)))

      counted_at : (b : Bool) → alone ≡ b → shared ≡ length (filter not growing.owned)
      counted_at true is =
          is_shared ∙ ap (λ b. if b then pages.shared else pages.shared + more) is ∙ are.counted ∙ sym (all_owned pages.owned)
          ∙ ap (λ n. length (filter not (pages.owned ++ replicate n true))) (sym (one is))
          ∙ ap (λ b. length (filter not (pages.owned ++ replicate more b))) (sym is)
      counted_at false is =
          is_shared ∙ ap (λ b. if b then pages.shared else pages.shared + more) is ∙ ap (λ n. n + more) are.counted ∙ sym (not_owned pages.owned more)
          ∙ ap (λ b. length (filter not (pages.owned ++ replicate more b))) (sym is)

      bounded_at : (b : Bool) → alone ≡ b → length pages.slots + 64 + 64 * shared ≤ 128 * (length pages.shifts + more)
      bounded_at true is =
          let same : shared ≡ pages.shared = is_shared ∙ ap (λ b. if b then pages.shared else pages.shared + more) is in
          let only = one is in
          omega (arith, same, only, are.bounded)
      bounded_at false is =
          let all : shared ≡ pages.shared + more = is_shared ∙ ap (λ b. if b then pages.shared else pages.shared + more) is in
          omega (arith, all, are.bounded, holds, some)

      pub growing_are : ArePages growing
      growing_are = record {
        size =
            let all = length-append pages.owned (replicate more alone) in
            let new = length-replicate more alone in
            omega (arith, all, new, are.size, more_shifts);
        counted = counted_at alone refl;
        holds = omega (arith, all_full, more_shifts, holds, some);
        tight = omega (arith, all_full, more_shifts, tight, some);
        few = few;
        whole = omega (arith, are.whole, more_slots);
        starts = λ q lt. starts_grown q lt (cases_lt q (length pages.shifts));
        apart = λ p lt own q q_lt differs. apart_grown p lt own (cases_lt p (length pages.shifts)) q q_lt differs (cases_lt q (length pages.shifts));
        spare = omega (arith, spare, more_slots);
        bounded = let most = bounded_at alone refl in omega (arith, most, more_slots, more_shifts);
      }

      same_below : (n : ℕ) → n < pages.count → item_of growing.shifts growing.slots pages.blank n ≡ item_of pages.shifts pages.slots pages.blank n
      same_below n lt =
          let page : n / 64 < length pages.shifts = omega (arith, lt, all_full) in
          let shift = get_or_append_left pages.shifts (shifts_to place pages.count more) 0 (n / 64) page in
          ap (λ s. slice_index_or growing.slots ((n + s) % 18446744073709551616) pages.blank) shift
          ∙ get_or_append_left pages.slots (replicate 64 x) pages.blank (slot_of pages.shifts n) (slot_within pages n are lt)

      new_behind : (n : ℕ) → pages.count ≤ n → n < pages.count + (end - pages.count) → item_of growing.shifts growing.slots pages.blank n ≡ x
      new_behind n le lt =
          let parts = slot_parts growing n growing_are (omega (arith, lt, some)) in
          let at = first_behind (n / 64) (omega (arith, le, all_full)) (omega (arith, lt, some, holds, all_full, more_shifts)) in
          ap (λ slot. slice_index_or growing.slots slot pages.blank) (parts ∙ ap (λ first. first + n % 64) (at ∙ at_end))
          ∙ get_or-append-add pages.slots (replicate 64 x) (n % 64) pages.blank
          ∙ get_or-replicate 64 (n % 64) x pages.blank (omega arith)

      pub growing_items : items_of growing ≡ items_of pages ++ replicate (end - pages.count) x
      unfolding items_of
      growing_items =
          let all : pages.count + (end - pages.count) ≡ end = omega (arith, some) in
          ap (λ n. map (item_of growing.shifts growing.slots pages.blank) (range_with_len 0 n)) (sym all)
          ∙ items_more _ _ x pages.count (end - pages.count) same_below new_behind

      grown_is : (shifts : List ℕ) (owned : List Bool) (slots : List T) → shifts ≡ pages.shifts ++ shifts_to place pages.count more
          → owned ≡ pages.owned ++ replicate more alone → slots ≡ pages.slots ++ replicate 64 x
          → record { shifts = shifts; owned = owned; slots = slots; count = end; shared = shared; room = room; blank = pages.blank } ≡ growing
      grown_is shifts owned slots is_shifts is_owned is_slots =
          λ j. record { shifts = is_shifts j; owned = is_owned j; slots = is_slots j; count = end; shared = shared; room = room; blank = pages.blank }

      pub grown_are : (shifts : List ℕ) (owned : List Bool) (slots : List T) → shifts ≡ pages.shifts ++ shifts_to place pages.count more
          → owned ≡ pages.owned ++ replicate more alone → slots ≡ pages.slots ++ replicate 64 x
          → ArePages (record { shifts = shifts; owned = owned; slots = slots; count = end; shared = shared; room = room; blank = pages.blank })
      grown_are shifts owned slots is_shifts is_owned is_slots = subst ArePages (sym (grown_is shifts owned slots is_shifts is_owned is_slots)) growing_are

      pub grown_items : (shifts : List ℕ) (owned : List Bool) (slots : List T) → shifts ≡ pages.shifts ++ shifts_to place pages.count more
          → owned ≡ pages.owned ++ replicate more alone → slots ≡ pages.slots ++ replicate 64 x
          → items_of (record { shifts = shifts; owned = owned; slots = slots; count = end; shared = shared; room = room; blank = pages.blank })
          ≡ items_of pages ++ replicate (end - pages.count) x
      grown_items shifts owned slots is_shifts is_owned is_slots = ap items_of (grown_is shifts owned slots is_shifts is_owned is_slots) ∙ growing_items
