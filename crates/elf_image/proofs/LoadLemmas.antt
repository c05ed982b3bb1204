-- One more segment, put into cells that hold those before it.
use Rattle.std.proofs.Common.{◌≡◌, ℕ, ◌+◌, ◌-◌, ◌<◌, ◌≤◌, Bool, true, false, ◌&&◌, List, [], ◌∷◌, ◌++◌, length, get_or, take, drop, Option, Some, None, Ok, Err, inl, inr, refl, sym, ap, ◌∙◌, arith}
use Rattle.std.specs.Prelude.{nat_lt}
use Rattle.std.specs.List.{list_any}
use Rattle.std.specs.Option.{is_some, option_or}
use Rattle.std.proofs.lemmas.Bool.{cases_lt, false≢true}
use Rattle.std.proofs.lemmas.Bool.Decides.{nat_tests}
use Rattle.std.proofs.lemmas.List.{get_or-append_right, get_or-drop, get_or-take, get_or_append_left, get_or_default, get_or_past, length-append, length-drop, length-take, length-take-le}
use Rattle.std.proofs.lemmas.List.Folds.{Any-from_list_any, find-append, list_any-append, list_any_at}
use borrow.Rule.Slice.PartMut.{put_mid}
use Rattle.elf_image.specs.Cells.{AreCells, cell_at, free}
use Rattle.elf_image.specs.Conditions.{fits, meets, segment_after}
use Rattle.elf_image.specs.Headers.{covers, is_executable}
use Rattle.elf_image.specs.Loaded.{byte_in, byte_or_zero, is_code_at, is_loaded_at, segment_at}
use Rattle.elf_image.specs.declared.cells.Cell.{Cell}
use Rattle.elf_image.specs.declared.errors.ElfError.TheVariants as error
use Rattle.elf_image.specs.declared.headers.ProgramHeader.{ProgramHeader}

-- ---- segments that meet

-- where the first of some segments doesn't lie
record IsFree (first : ProgramHeader) (before : List ProgramHeader) (address : ℕ) : Type 0 where
  here : covers first address ≡ false
  later : is_loaded_at before address ≡ false

free_of : (first : ProgramHeader) (before : List ProgramHeader) (address : ℕ) → is_loaded_at (first ∷ before) address ≡ false → IsFree first before address
free_of first before address none = go (covers first address) refl
  where
    go : (b : Bool) → covers first address ≡ b → IsFree first before address
    go true t = absurd (false≢true (sym (rw t at none)))
    go false t = record { here = t; later = rw t at none }

-- an address that two segments have in common
record AreAt (header other : ProgramHeader) : Type 0 where
  address : ℕ
  from : header.address ≤ address
  below : address < header.address + header.memory_bytes
  covered : covers other address ≡ true

meet_at : (header other : ProgramHeader) → meets header other ≡ true → AreAt header other
meet_at header other met =
    elim (cases_lt header.address other.address) [
      | inl lt ↦ record { address = other.address; from = omega arith; below = grind (arith, nat_tests, met); covered = grind (arith, nat_tests, met) }
      | inr le ↦ record { address = header.address; from = omega arith; below = grind (arith, nat_tests, met); covered = grind (arith, nat_tests, met) }
    ]

abbrev HasNone : ProgramHeader → List ProgramHeader → Type 0
HasNone header before = (address : ℕ) → header.address ≤ address → address < header.address + header.memory_bytes → is_loaded_at before address ≡ false

-- no earlier segment has one of its bytes, so it meets none
none_met : (header : ProgramHeader) (before : List ProgramHeader) → HasNone header before → list_any (meets header) before ≡ false
none_met header [] none = refl
none_met header (first ∷ before) none =
    go (meets header first) refl (none_met header before (λ address from below. (free_of first before address (none address from below)).later))
  where
    go : (b : Bool) → meets header first ≡ b → list_any (meets header) before ≡ false → list_any (meets header) (first ∷ before) ≡ false
    go true t rest =
        let at = meet_at header first t in
        absurd (false≢true (sym (free_of first before at.address (none at.address at.from at.below)).here ∙ at.covered))
    go false t rest = rw (t, rest) refl

-- an earlier segment has one of its bytes, so it meets one
some_met : (header : ProgramHeader) (before : List ProgramHeader) (address : ℕ) → header.address ≤ address → address < header.address + header.memory_bytes → is_loaded_at before address ≡ true
    → list_any (meets header) before ≡ true
some_met header [] address from below has = absurd (false≢true has)
some_met header (first ∷ before) address from below has = go (covers first address) refl (some_met header before address from below)
  where
    go : (b : Bool) → covers first address ≡ b → (is_loaded_at before address ≡ true → list_any (meets header) before ≡ true) → list_any (meets header) (first ∷ before) ≡ true
    go true t rest = let here : meets header first ≡ true = grind (arith, nat_tests, t) in rw here refl
    go false t rest = let later : list_any (meets header) before ≡ true = rest (rw t at has) in grind (arith, later)

-- ---- cells of a part

abbrev loaded : Cell → Bool
loaded cell = cell.is_loaded

abbrev part_of : ProgramHeader → List Cell → List Cell
part_of header cells = take (header.address + header.memory_bytes - header.address) (drop header.address cells)

part_at : (header : ProgramHeader) (cells : List Cell) (k : ℕ) → k < header.memory_bytes → get_or (part_of header cells) k free ≡ get_or cells (header.address + k) free
part_at header cells k below =
    get_or-take (header.address + header.memory_bytes - header.address) (drop header.address cells) k free (omega arith) ∙ get_or-drop header.address cells k free

part_length : (header : ProgramHeader) (cells : List Cell) → header.address + header.memory_bytes ≤ length cells → length (part_of header cells) ≡ header.memory_bytes
part_length header cells inside = omega (arith, length-take (header.address + header.memory_bytes - header.address) (drop header.address cells), length-drop header.address cells)

-- the cells of a part that is free
none_loaded : (elf : List ℕ) (before : List ProgramHeader) (header : ProgramHeader) (cells : List Cell) → AreCells elf before cells → header.address + header.memory_bytes ≤ length cells
    → list_any loaded (part_of header cells) ≡ false → HasNone header before
none_loaded elf before header cells are inside none address from below = go (is_loaded_at before address) refl
  where
    here : get_or (part_of header cells) (address - header.address) free ≡ cell_at elf before address
    here =
        let same : header.address + (address - header.address) ≡ address = omega arith in
        part_at header cells (address - header.address) (omega arith) ∙ ap (λ (n : ℕ). get_or cells n free) same ∙ are address (omega arith)

    go : (b : Bool) → is_loaded_at before address ≡ b → is_loaded_at before address ≡ false
    go true t =
        let some = list_any_at loaded (part_of header cells) (address - header.address) free (omega (arith, part_length header cells inside)) (ap loaded here ∙ t) in
        absurd (false≢true (sym none ∙ some))
    go false t = t

-- and of one that isn't
one_loaded : (elf : List ℕ) (before : List ProgramHeader) (header : ProgramHeader) (cells : List Cell) → AreCells elf before cells → header.address + header.memory_bytes ≤ length cells
    → list_any loaded (part_of header cells) ≡ true → list_any (meets header) before ≡ true
one_loaded elf before header cells are inside some =
    let found = Any-from_list_any loaded (part_of header cells) some in
    let below : found.0 < header.memory_bytes = omega (arith, found.2, part_length header cells inside) in
    let read : get_or (part_of header cells) found.0 free ≡ found.1 = get_or_default (part_of header cells) found.0 free found.1 found.2 ∙ found.3 in
    let here = sym (part_at header cells found.0 below ∙ are (header.address + found.0) (omega (arith, below, inside))) in
    some_met header before (header.address + found.0) (omega arith) (omega (arith, below)) (ap loaded (here ∙ read) ∙ found.4)

-- ---- what a segment puts where

-- at an address of its own that no segment before it has
none_code : (before : List ProgramHeader) (address : ℕ) → is_loaded_at before address ≡ false → is_code_at before address ≡ false
none_code [] address none = refl
none_code (first ∷ before) address none =
    let f = free_of first before address none in
    let rest = none_code before address f.later in
    rw (f.here, rest) refl

not_found : (found : Option ProgramHeader) → is_some found ≡ false → found ≡ None
not_found None none = refl
not_found (Some header) none = absurd (false≢true (sym none))

module _ (elf : List ℕ) (before : List ProgramHeader) (header : ProgramHeader) (address : ℕ) where
  abbrev found : List ProgramHeader → Option ProgramHeader
  found segments = segment_at segments address

  abbrev covering : ProgramHeader → Bool
  covering h = covers h address

  abbrev running : ProgramHeader → Bool
  running h = covers h address && is_executable h

  cell_new : covers header address ≡ true → is_loaded_at before address ≡ false
      → cell_at elf (before ++ header ∷ []) address ≡ record { byte = byte_in elf before header address; is_loaded = true; is_code = is_executable header }
  cell_new covered none =
      let here : found (before ++ header ∷ []) ≡ Some header =
      find-append covering before (header ∷ []) ∙ rw (not_found (found before) none, covered) refl in
      let code : is_code_at (before ++ header ∷ []) address ≡ is_executable header =
      list_any-append running before (header ∷ []) ∙ rw (none_code before address none, covered) (grind arith) in
      rw here (λ i. record { byte = byte_in elf before header address; is_loaded = true; is_code = code i })

  cell_old : covers header address ≡ false → cell_at elf (before ++ header ∷ []) address ≡ cell_at elf before address
  cell_old apart =
      let same : found (before ++ header ∷ []) ≡ found before =
      find-append covering before (header ∷ []) ∙ rw apart (kept (found before)) in
      let code : is_code_at (before ++ header ∷ []) address ≡ is_code_at before address =
      list_any-append running before (header ∷ []) ∙ rw apart (grind arith) in
      λ i. record { byte = byte_or_zero elf before address (same i); is_loaded = is_some (same i); is_code = code i }
    where
      kept : (o : Option ProgramHeader) → option_or o None ≡ o
      kept None = refl
      kept (Some h) = refl

-- the byte that the file has for an address of its own
byte_put : (elf : List ℕ) (before : List ProgramHeader) (header : ProgramHeader) (k address : ℕ) → address ≡ header.address + k
    → get_or (take header.file_bytes (drop header.offset elf)) k 0 ≡ byte_in elf before header address
byte_put elf before header k address at =
    let k-is : address - header.address ≡ k = omega arith in
    elim (cases_lt k header.file_bytes) [
      | inl lt ↦
          let t : nat_lt k header.file_bytes ≡ true = grind (arith, nat_tests, lt) in
          rw (k-is, t) (get_or-take header.file_bytes (drop header.offset elf) k 0 lt ∙ get_or-drop header.offset elf k 0)
      | inr le ↦
          let t : nat_lt k header.file_bytes ≡ false = grind (arith, nat_tests, le) in
          rw (k-is, t) (get_or_past (take header.file_bytes (drop header.offset elf)) k 0 (omega (arith, length-take header.file_bytes (drop header.offset elf), le)))
    ]

-- ---- cells with a part put in

module _ (cells part : List Cell) (first count : ℕ) (inside : first + count ≤ length cells) (full : length part ≡ count) where
  abbrev put : List Cell
  put = put_mid first count cells part

  front : length (take first cells) ≡ first
  front = length-take-le first cells (omega arith)

  put_below : (i : ℕ) → i < first → get_or put i free ≡ get_or cells i free
  put_below i below = get_or_append_left (take first cells) (part ++ drop count (drop first cells)) free i (omega (arith, front)) ∙ get_or-take first cells i free below

  put_within : (k i : ℕ) → k < count → i ≡ first + k → get_or put i free ≡ get_or part k free
  put_within k i below at =
      let k-is : i - first ≡ k = omega arith in
      get_or-append_right (take first cells) (part ++ drop count (drop first cells)) first i free front (omega arith)
      ∙ ap (λ (n : ℕ). get_or (part ++ drop count (drop first cells)) n free) k-is
      ∙ get_or_append_left part (drop count (drop first cells)) free k (omega arith)

  put_above : (i : ℕ) → first + count ≤ i → get_or put i free ≡ get_or cells i free
  put_above i above =
      let at : first + (count + (i - first - count)) ≡ i = omega arith in
      get_or-append_right (take first cells) (part ++ drop count (drop first cells)) first i free front (omega arith)
      ∙ get_or-append_right part (drop count (drop first cells)) count (i - first) free full (omega arith)
      ∙ get_or-drop count (drop first cells) (i - first - count) free ∙ get_or-drop first cells (count + (i - first - count)) free
      ∙ ap (λ (n : ℕ). get_or cells n free) at

  put_length : length put ≡ length cells
  put_length = omega (arith, length-append (take first cells) (part ++ drop count (drop first cells)), front, length-append part (drop count (drop first cells)), length-drop count (drop first cells), length-drop first cells, full)

-- ---- the steps

pub refused : (elf : List ℕ) (ram row : ℕ) (header : ProgramHeader) (before : List ProgramHeader) → fits elf ram header ≡ false → segment_after elf ram row header before ≡ Err (error.Segment row)
unfolding segment_after
refused elf ram row header before unfit = rw unfit refl

pub met : (elf : List ℕ) (row : ℕ) (header : ProgramHeader) (before : List ProgramHeader) (cells : List Cell) → fits elf (length cells) header ≡ true → list_any loaded (part_of header cells) ≡ true
    → AreCells elf before cells → segment_after elf (length cells) row header before ≡ Err (error.Overlap row)
unfolding segment_after
met elf row header before cells fit some are =
    let inside : header.address + header.memory_bytes ≤ length cells = grind (arith, nat_tests, fit) in
    rw (fit, one_loaded elf before header cells are inside some) refl

-- the part that is put is the segment's
pub record IsPut (elf : List ℕ) (header : ProgramHeader) (part : List Cell) : Type 0 where
  pub count : length part ≡ header.memory_bytes
  pub each : (k : ℕ) → k < header.memory_bytes → get_or part k free ≡ record { byte = get_or (take header.file_bytes (drop header.offset elf)) k 0; is_loaded = true; is_code = is_executable header }

pub is_put : (elf : List ℕ) (header : ProgramHeader) (cells part : List Cell) (contents : List ℕ) (runs : Bool) → fits elf (length cells) header ≡ true → contents ≡ take header.file_bytes (drop header.offset elf) → runs ≡ is_executable header
    → length part ≡ length (part_of header cells)
    → ((k : ℕ) → k < length (part_of header cells) → get_or part k free ≡ record { byte = get_or contents k 0; is_loaded = true; is_code = runs })
    → IsPut elf header part
is_put elf header cells part contents runs fit contents-is runs-is full each =
    let inside : header.address + header.memory_bytes ≤ length cells = grind (arith, nat_tests, fit) in
    let size = part_length header cells inside in
    record {
      count = full ∙ size;
      each = λ k below. each k (omega (arith, size)) ∙ (λ i. record { byte = get_or (contents-is i) k 0; is_loaded = true; is_code = runs-is i });
    }

put_cells : (elf : List ℕ) (header : ProgramHeader) (before : List ProgramHeader) (cells part : List Cell) → header.address + header.memory_bytes ≤ length cells → HasNone header before
    → AreCells elf before cells → IsPut elf header part → AreCells elf (before ++ header ∷ []) (put_mid header.address (header.address + header.memory_bytes - header.address) cells part)
put_cells elf header before cells part inside none are is address below =
    let count = header.address + header.memory_bytes - header.address in
    let count-is : header.address + header.memory_bytes - header.address ≡ header.memory_bytes = omega arith in
    let full : length part ≡ header.address + header.memory_bytes - header.address = is.count ∙ sym count-is in
    let within : header.address + (header.address + header.memory_bytes - header.address) ≤ length cells = omega arith in
    let size = put_length cells part header.address count within full in
    elim (cases_lt address header.address) [
      | inl lt ↦
          let apart : covers header address ≡ false = grind (arith, nat_tests, lt) in
          put_below cells part header.address count within full address lt ∙ are address (omega (arith, size, below)) ∙ sym (cell_old elf before header address apart)
      | inr le ↦
          elim (cases_lt address (header.address + header.memory_bytes)) [
            | inl lt ↦
                let covered : covers header address ≡ true = grind (arith, nat_tests, lt, le) in
                let k = address - header.address in
                let at : address ≡ header.address + (address - header.address) = omega arith in
                put_within cells part header.address count within full k address (omega arith) at ∙ is.each k (omega arith)
                ∙ (λ i. record { byte = byte_put elf before header k address at i; is_loaded = true; is_code = is_executable header })
                ∙ sym (cell_new elf before header address covered (none address le lt))
            | inr above ↦
                let apart : covers header address ≡ false = grind (arith, nat_tests, above) in
                put_above cells part header.address count within full address (omega arith) ∙ are address (omega (arith, size, below)) ∙ sym (cell_old elf before header address apart)
          ]
    ]

pub loads : (elf : List ℕ) (row : ℕ) (header : ProgramHeader) (before : List ProgramHeader) (cells part : List Cell) → fits elf (length cells) header ≡ true → list_any loaded (part_of header cells) ≡ false
    → IsPut elf header part → AreCells elf before cells
    → (segments : List ProgramHeader) × (segment_after elf (length cells) row header before ≡ Ok segments) × AreCells elf segments (put_mid header.address (header.address + header.memory_bytes - header.address) cells part)
unfolding segment_after
loads elf row header before cells part fit free-part is are =
    let inside : header.address + header.memory_bytes ≤ length cells = grind (arith, nat_tests, fit) in
    let none = none_loaded elf before header cells are inside free-part in
    (before ++ header ∷ [], rw (fit, none_met header before none) refl, put_cells elf header before cells part inside none are is)
