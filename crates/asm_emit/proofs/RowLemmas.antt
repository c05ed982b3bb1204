-- Rows in order, and the next word behind the last of them.
use Rattle.std.proofs.Common.{◌≡◌, ℕ, ◌+◌, ◌%◌, ◌≤◌, Bool, true, false, ◌==◌, List, [], ◌∷◌, ◌++◌, length, refl, sym, ap, subst, ◌∙◌, arith}
use Rattle.std.specs.Prelude.{nat_le, if◌then◌else◌, Option, Some, None}
use Rattle.std.specs.List.{list_all}
use Rattle.std.proofs.lemmas.Bool.{le-leb, leb-true}
use Rattle.std.proofs.lemmas.Bool.Decides.{nat_tests}
use Rattle.std.proofs.lemmas.List.{length-append}
use Rattle.std.proofs.lemmas.List.Folds.{list_all-append}
use Rattle.image_format.specs.declared.version.Version.{Version}
use Rattle.image_format.specs.declared.rows.WordRange.{WordRange}
use Rattle.image_format.specs.declared.rows.Label.{Label}
use Rattle.image_format.specs.Building.{end_of, longer, one_word, with_word}
use Rattle.image_format.specs.Conditions.{are_rows, extent_of, in_order, is_clear_of, is_compartment, is_compartment_after, is_label, is_label_after, is_range, is_segment, is_u32, whole}
use Rattle.image_format.specs.Picture.{CompartmentRow, Segment}
use Rattle.asm_emit.specs.declared.marks.Protection.{Protection}
use Rattle.asm_emit.specs.Kept.{AreUpTo, compartment_end, is_label_id, is_protection, label_end}
use Rattle.asm_emit.specs.Runs.{is_same_protection, joined_compartment, joined_range, no_protection, one_word_range, protected_as, protected_range, protection_of, range_end, run_or_both, with_code, with_label, with_protected, with_run}

-- ---- any rows

-- what is known of the next word at an address, and of the runs that it makes longer
record Extends {A B : Type 0} (part : B → A) (fits : B → Bool) (follows : A → A → Bool) (end : A → ℕ) (joined : B → B → Option B) (address : ℕ) (next : B) : Type 0 where
  fits_next : fits next ≡ true
  ends_next : end (part next) ≤ address + 4
  behind : (before : A) → end before ≤ address → follows before (part next) ≡ true
  fits_run : (last run : B) → fits last ≡ true → joined last next ≡ Some run → fits run ≡ true
  ends_run : (last run : B) → joined last next ≡ Some run → end (part run) ≤ address + 4
  begins : (before : A) (last run : B) → joined last next ≡ Some run → follows before (part run) ≡ follows before (part last)

module _ {A B : Type 0} (part : B → A) (fits : B → Bool) (follows : A → A → Bool) (end : A → ℕ) where
  abbrev ends_by : ℕ → B → Bool
  ends_by place row = nat_le (end (part row)) place

  abbrev rows_from : Option A → List B → Bool
  rows_from before rows = are_rows part fits follows before rows

  weaker : (place later : ℕ) (rows : List B) → place ≤ later → list_all (ends_by place) rows ≡ true → list_all (ends_by later) rows ≡ true
  weaker place later [] le below = refl
  weaker place later (row ∷ rows) le below =
      let first : ends_by place row ≡ true = grind (arith, below) in
      let others : list_all (ends_by place) rows ≡ true = grind (arith, below) in
      let here : ends_by later row ≡ true = le-leb (end (part row)) later (omega (arith, leb-true (end (part row)) place first, le)) in
      rw here (weaker place later rows le others)

  -- the rows of a place are those of a later one
  pub raised : (place later : ℕ) (rows : List B) → place ≤ later → AreUpTo part fits follows end place rows → AreUpTo part fits follows end later rows
  raised place later rows le kept = record {
    in_order = kept.in_order;
    below = weaker place later rows le kept.below;
    few = omega (arith, kept.few, le);
  }

  module _ (joined : B → B → Option B) (address : ℕ) (next : B) (l : Extends part fits follows end joined address next) where
    same_order : (before : Option A) (last run : B) → joined last next ≡ Some run → in_order follows before (part last) ≡ true → in_order follows before (part run) ≡ true
    same_order None last run e ordered = refl
    same_order (Some b) last run e ordered = l.begins b last run e ∙ ordered

    last_with : (before : Option A) (last : B) (r : Option B) → joined last next ≡ r → fits last ≡ true → in_order follows before (part last) ≡ true → end (part last) ≤ address → rows_from before (run_or_both r last next) ≡ true
    last_with before last None e fit ordered ends = rw (fit, ordered, l.fits_next, l.behind (part last) ends) refl
    last_with before last (Some run) e fit ordered ends = rw (l.fits_run last run fit e, same_order before last run e ordered) refl

    rows_with : (before : Option A) (rows : List B) → in_order follows before (part next) ≡ true → rows_from before rows ≡ true → list_all (ends_by address) rows ≡ true → rows_from before (with_run joined rows next) ≡ true
    rows_with before [] first fit below = rw (l.fits_next, first) refl
    rows_with before (last ∷ []) first fit below =
        let fits_last : fits last ≡ true = grind (arith, fit) in
        let ordered : in_order follows before (part last) ≡ true = grind (arith, fit) in
        let ends : ends_by address last ≡ true = grind (arith, below) in
        last_with before last (joined last next) refl fits_last ordered (leb-true (end (part last)) address ends)
    rows_with before (row ∷ second ∷ rows) first fit below =
        let fits_row : fits row ≡ true = grind (arith, fit) in
        let ordered : in_order follows before (part row) ≡ true = grind (arith, fit) in
        let others : rows_from (Some (part row)) (second ∷ rows) ≡ true = grind (arith, fit) in
        let ends : ends_by address row ≡ true = grind (arith, below) in
        let more : list_all (ends_by address) (second ∷ rows) ≡ true = grind (arith, below) in
        rw (fits_row, ordered) (rows_with (Some (part row)) (second ∷ rows) (l.behind (part row) (leb-true (end (part row)) address ends)) others more)

    next_ends : ends_by (address + 4) next ≡ true
    next_ends = le-leb (end (part next)) (address + 4) l.ends_next

    last_below : (last : B) (r : Option B) → joined last next ≡ r → ends_by (address + 4) last ≡ true → list_all (ends_by (address + 4)) (run_or_both r last next) ≡ true
    last_below last None e ends = rw (ends, next_ends) refl
    last_below last (Some run) e ends = rw (le-leb (end (part run)) (address + 4) (l.ends_run last run e)) refl

    below_with : (rows : List B) → list_all (ends_by (address + 4)) rows ≡ true → list_all (ends_by (address + 4)) (with_run joined rows next) ≡ true
    below_with [] below = rw next_ends refl
    below_with (last ∷ []) below =
        let ends : ends_by (address + 4) last ≡ true = grind (arith, below) in
        last_below last (joined last next) refl ends
    below_with (row ∷ second ∷ rows) below =
        let ends : ends_by (address + 4) row ≡ true = grind (arith, below) in
        let more : list_all (ends_by (address + 4)) (second ∷ rows) ≡ true = grind (arith, below) in
        rw ends (below_with (second ∷ rows) more)

    last_few : (last : B) (r : Option B) → length (run_or_both r last next) ≤ 2
    last_few last None = omega arith
    last_few last (Some run) = omega arith

    few_with : (rows : List B) → length (with_run joined rows next) ≤ length rows + 1
    few_with [] = omega arith
    few_with (last ∷ []) = omega (arith, last_few last (joined last next))
    few_with (row ∷ second ∷ rows) = omega (arith, few_with (second ∷ rows))

    up_to_with : (place : ℕ) (rows : List B) → place ≤ address → AreUpTo part fits follows end place rows → AreUpTo part fits follows end (address + 4) (with_run joined rows next)
    up_to_with place rows le kept = record {
      in_order = rows_with None rows refl kept.in_order (weaker place address rows le kept.below);
      below = below_with rows (weaker place (address + 4) rows (omega (arith, le)) kept.below);
      few = omega (arith, few_with rows, kept.few, le);
    }

-- ---- code

-- a range and the next word that are one
record IsJoined (last : WordRange) (address : ℕ) (run : WordRange) : Type 0 where
  ends : range_end last ≡ address
  is : run ≡ record { address = last.address; words = last.words + 1 }

is_joined : (last next run : WordRange) → joined_range last next ≡ Some run → IsJoined last next.address run
is_joined last next run e = go (range_end last == next.address) refl
  where
    go : (b : Bool) → (range_end last == next.address) ≡ b → IsJoined last next.address run
    go true t =
        let found : Some (record { address = last.address; words = last.words + 1 }) ≡ Some run = rw t at e in
        record { ends = grind (arith, nat_tests); is = cc }
    go false t = let none : None ≡ Some run = rw t at e in absurd cc

joined_fits : (ram address : ℕ) (last : WordRange) → is_range ram last ≡ true → range_end last ≡ address → address + 4 ≤ ram → is_range ram (record { address = last.address; words = last.words + 1 }) ≡ true
joined_fits ram address last fit ends inside = grind (arith, nat_tests)

word_fits : (ram address : ℕ) → address % 4 ≡ 0 → address + 4 ≤ ram → is_range ram (one_word_range address) ≡ true
word_fits ram address aligned inside = grind (arith, nat_tests)

code_extends : (ram address : ℕ) → address % 4 ≡ 0 → address + 4 ≤ ram → Extends whole (is_range ram) is_clear_of range_end joined_range address (one_word_range address)
code_extends ram address aligned inside = record {
  fits_next = word_fits ram address aligned inside;
  ends_next = omega arith;
  behind = λ before le. le-leb (range_end before) address le;
  fits_run = λ last run fit e. let j = is_joined last (one_word_range address) run e in subst (λ (r : WordRange). is_range ram r ≡ true) (sym j.is) (joined_fits ram address last fit j.ends inside);
  ends_run = λ last run e. let j = is_joined last (one_word_range address) run e in subst (λ (r : WordRange). range_end r ≤ address + 4) (sym j.is) (omega (arith, j.ends));
  begins = λ before last run e. let j = is_joined last (one_word_range address) run e in ap (is_clear_of before) j.is;
}

pub code_kept : (ram place address : ℕ) (is_code : Bool) (code : List WordRange) → place ≤ address → address % 4 ≡ 0 → address + 4 ≤ ram
    → AreUpTo whole (is_range ram) is_clear_of range_end place code → AreUpTo whole (is_range ram) is_clear_of range_end (address + 4) (with_code is_code code address)
code_kept ram place address true code le aligned inside kept = up_to_with whole (is_range ram) is_clear_of range_end joined_range address (one_word_range address) (code_extends ram address aligned inside) place code le kept
code_kept ram place address false code le aligned inside kept = raised whole (is_range ram) is_clear_of range_end place (address + 4) code (omega (arith, le)) kept

-- ---- compartments

record AreJoined (last next run : CompartmentRow) : Type 0 where
  range : WordRange
  joined : joined_range last.range next.range ≡ Some range
  is : run ≡ protected_range (protection_of last) range

are_joined : (last next run : CompartmentRow) → joined_compartment last next ≡ Some run → AreJoined last next run
are_joined last next run e = go (is_same_protection (protection_of last) (protection_of next)) refl
  where
    ranges : (r : Option WordRange) → joined_range last.range next.range ≡ r → protected_as (protection_of last) r ≡ Some run → AreJoined last next run
    ranges (Some range) j found = record { range = range; joined = j; is = cc }
    ranges None j found = absurd cc

    go : (b : Bool) → is_same_protection (protection_of last) (protection_of next) ≡ b → AreJoined last next run
    go true t = ranges (joined_range last.range next.range) refl (rw t at e)
    go false t = let none : None ≡ Some run = rw t at e in absurd cc

compartment_fits : (version : Version) (ram : ℕ) (row : CompartmentRow) (range : WordRange) → is_compartment version ram row ≡ true → is_range ram range ≡ true → is_compartment version ram (protected_range (protection_of row) range) ≡ true
compartment_fits version ram row range fit fits = grind (arith, fit, fits)

protected_fits : (version : Version) (ram : ℕ) (protection : Protection) (range : WordRange) → is_protection version protection ≡ true → is_range ram range ≡ true → is_compartment version ram (protected_range protection range) ≡ true
protected_fits version ram protection range fit fits = grind (arith, fit, fits)

range_fits : (version : Version) (ram : ℕ) (row : CompartmentRow) → is_compartment version ram row ≡ true → is_range ram row.range ≡ true
range_fits version ram row fit = grind (arith, fit)

compartment_extends : (version : Version) (ram address : ℕ) (protection : Protection) → is_protection version protection ≡ true → address % 4 ≡ 0 → address + 4 ≤ ram
    → Extends whole (is_compartment version ram) is_compartment_after compartment_end joined_compartment address (protected_range protection (one_word_range address))
compartment_extends version ram address protection protected aligned inside =
    let word = one_word_range address in
    let next = protected_range protection word in
    let code = code_extends ram address aligned inside in
    record {
      fits_next = protected_fits version ram protection word protected (word_fits ram address aligned inside);
      ends_next = omega arith;
      behind = λ before le. le-leb (compartment_end before) address le;
      fits_run = λ last run fit e. let j = are_joined last next run e in subst (λ (r : CompartmentRow). is_compartment version ram r ≡ true) (sym j.is) (compartment_fits version ram last j.range fit (code.fits_run last.range j.range (range_fits version ram last fit) j.joined));
      ends_run = λ last run e. let j = are_joined last next run e in subst (λ (r : CompartmentRow). compartment_end r ≤ address + 4) (sym j.is) (code.ends_run last.range j.range j.joined);
      begins = λ before last run e. let j = are_joined last next run e in ap (is_compartment_after before) j.is ∙ code.begins before.range last.range j.range j.joined;
    }

pub compartments_kept : (version : Version) (ram place address : ℕ) (protection : Protection) (rows : List CompartmentRow) → is_protection version protection ≡ true → place ≤ address → address % 4 ≡ 0 → address + 4 ≤ ram
    → AreUpTo whole (is_compartment version ram) is_compartment_after compartment_end place rows → AreUpTo whole (is_compartment version ram) is_compartment_after compartment_end (address + 4) (with_protected protection rows address)
compartments_kept version ram place address protection rows protected le aligned inside kept = go (is_same_protection protection no_protection) refl
  where
    go : (b : Bool) → is_same_protection protection no_protection ≡ b → AreUpTo whole (is_compartment version ram) is_compartment_after compartment_end (address + 4) (with_protected protection rows address)
    go true t = rw t (raised whole (is_compartment version ram) is_compartment_after compartment_end place (address + 4) rows (omega (arith, le)) kept)
    go false t = rw t (up_to_with whole (is_compartment version ram) is_compartment_after compartment_end joined_compartment address (protected_range protection (one_word_range address)) (compartment_extends version ram address protection protected aligned inside) place rows le kept)

-- ---- labels

abbrev apart : Label → Label → Option Label
apart last next = None

appended : (labels : List Label) (next : Label) → with_run apart labels next ≡ labels ++ next ∷ []
appended [] next = refl
appended (last ∷ []) next = refl
appended (first ∷ second ∷ labels) next = ap (λ (xs : List Label). first ∷ xs) (appended (second ∷ labels) next)

label_fits : (ram address id : ℕ) → is_u32 id ≡ true → address % 4 ≡ 0 → address + 4 ≤ ram → is_label ram (record { address = address; id = id }) ≡ true
label_fits ram address id fit aligned inside = grind (arith, nat_tests)

label_behind : (before : Label) (address id : ℕ) → label_end before ≤ address → is_label_after before (record { address = address; id = id }) ≡ true
label_behind before address id le = grind (arith, nat_tests)

label_extends : (ram address id : ℕ) → is_u32 id ≡ true → address % 4 ≡ 0 → address + 4 ≤ ram → Extends whole (is_label ram) is_label_after label_end apart address (record { address = address; id = id })
label_extends ram address id fit aligned inside = record {
  fits_next = label_fits ram address id fit aligned inside;
  ends_next = omega arith;
  behind = λ before le. label_behind before address id le;
  fits_run = λ last run fits e. absurd cc;
  ends_run = λ last run e. absurd cc;
  begins = λ before last run e. absurd cc;
}

pub labels_kept : (ram place address : ℕ) (label : Option ℕ) (labels : List Label) → is_label_id label ≡ true → place ≤ address → address % 4 ≡ 0 → address + 4 ≤ ram
    → AreUpTo whole (is_label ram) is_label_after label_end place labels → AreUpTo whole (is_label ram) is_label_after label_end (address + 4) (with_label label labels address)
labels_kept ram place address None labels fit le aligned inside kept = raised whole (is_label ram) is_label_after label_end place (address + 4) labels (omega (arith, le)) kept
labels_kept ram place address (Some id) labels fit le aligned inside kept =
    subst (λ (xs : List Label). AreUpTo whole (is_label ram) is_label_after label_end (address + 4) xs) (appended labels (record { address = address; id = id }))
    (up_to_with whole (is_label ram) is_label_after label_end apart address (record { address = address; id = id }) (label_extends ram address id fit aligned inside) place labels le kept)

-- ---- segments

abbrev joined_segment : ℕ → ℕ → Segment → Segment → Option Segment
joined_segment address word last next = if end_of last == address then Some (longer last word) else None

segment_put : (segments : List Segment) (address word : ℕ) → with_run (joined_segment address word) segments (one_word address word) ≡ with_word segments address word
segment_put [] address word = refl
segment_put (last ∷ []) address word = go (end_of last == address)
  where
    go : (b : Bool) → run_or_both (if b then Some (longer last word) else None) last (one_word address word) ≡ (if b then longer last word ∷ [] else last ∷ one_word address word ∷ [])
    go true = refl
    go false = refl
segment_put (first ∷ second ∷ segments) address word = ap (λ (xs : List Segment). first ∷ xs) (segment_put (second ∷ segments) address word)

record IsLonger (address word : ℕ) (last run : Segment) : Type 0 where
  ends : end_of last ≡ address
  is : run ≡ longer last word

is_longer : (address word : ℕ) (last next run : Segment) → joined_segment address word last next ≡ Some run → IsLonger address word last run
is_longer address word last next run e = go (end_of last == address) refl
  where
    go : (b : Bool) → (end_of last == address) ≡ b → IsLonger address word last run
    go true t =
        let found : Some (longer last word) ≡ Some run = rw t at e in
        record { ends = grind (arith, nat_tests); is = cc }
    go false t = let none : None ≡ Some run = rw t at e in absurd cc

longer_extent : (last : Segment) (word : ℕ) → extent_of (longer last word) ≡ record { address = last.address; words = length last.words + 1 }
longer_extent last word = ap (λ (n : ℕ). record { address = last.address; words = n }) (length-append last.words (word ∷ []))

word_segment_fits : (ram address word : ℕ) → address % 4 ≡ 0 → address + 4 ≤ ram → is_u32 word ≡ true → is_segment ram (one_word address word) ≡ true
word_segment_fits ram address word aligned inside fit = let range = word_fits ram address aligned inside in rw (range, fit) refl

longer_fits : (ram address word : ℕ) (last : Segment) → is_segment ram last ≡ true → end_of last ≡ address → address + 4 ≤ ram → is_u32 word ≡ true → is_segment ram (longer last word) ≡ true
longer_fits ram address word last fit ends inside small =
    let range : is_range ram (extent_of last) ≡ true = grind (arith, fit) in
    let words : list_all is_u32 last.words ≡ true = grind (arith, fit) in
    let wider : is_range ram (extent_of (longer last word)) ≡ true = ap (is_range ram) (longer_extent last word) ∙ joined_fits ram address (extent_of last) range ends inside in
    let more : list_all is_u32 (last.words ++ word ∷ []) ≡ true = rw (list_all-append is_u32 last.words (word ∷ []), words, small) refl in
    rw (wider, more) refl

segment_extends : (ram address word : ℕ) → address % 4 ≡ 0 → address + 4 ≤ ram → is_u32 word ≡ true
    → Extends extent_of (is_segment ram) is_clear_of range_end (joined_segment address word) address (one_word address word)
segment_extends ram address word aligned inside small =
    let next = one_word address word in
    record {
      fits_next = word_segment_fits ram address word aligned inside small;
      ends_next = omega arith;
      behind = λ before le. le-leb (range_end before) address le;
      fits_run = λ last run fit e. let j = is_longer address word last next run e in subst (λ (r : Segment). is_segment ram r ≡ true) (sym j.is) (longer_fits ram address word last fit j.ends inside small);
      ends_run = λ last run e. let j = is_longer address word last next run e in subst (λ (r : Segment). range_end (extent_of r) ≤ address + 4) (sym j.is) (omega (arith, j.ends, length-append last.words (word ∷ [])));
      begins = λ before last run e. let j = is_longer address word last next run e in ap (λ (r : Segment). is_clear_of before (extent_of r)) j.is;
    }

pub segments_kept : (ram place address word : ℕ) (segments : List Segment) → is_u32 word ≡ true → place ≤ address → address % 4 ≡ 0 → address + 4 ≤ ram
    → AreUpTo extent_of (is_segment ram) is_clear_of range_end place segments → AreUpTo extent_of (is_segment ram) is_clear_of range_end (address + 4) (with_word segments address word)
segments_kept ram place address word segments small le aligned inside kept =
    subst (λ (xs : List Segment). AreUpTo extent_of (is_segment ram) is_clear_of range_end (address + 4) xs) (segment_put segments address word)
    (up_to_with extent_of (is_segment ram) is_clear_of range_end (joined_segment address word) address (one_word address word) (segment_extends ram address word aligned inside small) place segments le kept)
