-- Runs of words are rows of an image.
use Rattle.std.proofs.Common.{◌≡◌, ℕ, ◌+◌, ◌*◌, ◌/◌, ◌%◌, ◌^◌, ◌<◌, ◌≤◌, ◌==◌, Bool, true, false, List, [], ◌∷◌, ◌++◌, length, map, Option, Some, None, refl, sym, ap, subst, ◌∙◌, arith}
use Rattle.std.specs.Prelude.{nat_le, if◌then◌else◌}
use Rattle.std.specs.List.{list_all}
use Rattle.std.proofs.lemmas.Bool.Decides.{nat_tests}
use Rattle.std.proofs.lemmas.List.{length-map, length_push}
use Rattle.std.proofs.lemmas.List.Folds.{list_all-append}
use Rattle.image_format.specs.Building.{end_of, longer, one_word, with_word}
use Rattle.image_format.specs.Conditions.{IsList, are_rows, extent_of, in_order, is_clear_of, is_range, is_segment, is_u32, whole}
use Rattle.image_format.specs.Picture.{Segment}
use Rattle.image_format.specs.declared.rows.WordRange.{WordRange}
use Rattle.elf_image.specs.Loaded.{has_byte, is_code_at, is_loaded_at, loaded_code, loaded_segments, loaded_word, with_code, with_code_word, with_loaded, with_next_code}
use Rattle.elf_image.specs.declared.headers.ProgramHeader.{ProgramHeader}
use Rattle.elf_image.proofs.FoldLemmas.{fold_kept}

abbrev rows_behind : ℕ → Option WordRange → List WordRange → Bool
rows_behind ram before ranges = are_rows whole (is_range ram) is_clear_of before ranges

abbrev end_or : Option WordRange → ℕ
end_or None = 0
end_or (Some range) = range.address + 4 * range.words

-- where the last range ends, or the one before them all
abbrev last_end : Option WordRange → List WordRange → ℕ
last_end before [] = end_or before
last_end before (range ∷ ranges) = last_end (Some range) ranges

abbrev one : ℕ → WordRange
one n = record { address = 4 * n; words = 1 }

one_fits : (ram n : ℕ) → 4 * n + 4 ≤ ram → is_range ram (one n) ≡ true
one_fits ram n inside =
    let aligned : 4 * n % 4 ≡ 0 = omega arith in
    grind (arith, nat_tests, aligned, inside)

longer_fits : (ram n : ℕ) (last : WordRange) → is_range ram last ≡ true → last.address + 4 * last.words ≡ 4 * n → 4 * n + 4 ≤ ram → is_range ram (record { address = last.address; words = last.words + 1 }) ≡ true
longer_fits ram n last fit ends inside =
    let size : last.address + 4 * (last.words + 1) ≡ 4 * n + 4 = omega arith in
    grind (arith, nat_tests, fit, size, inside)

in_front : (before : Option WordRange) (n : ℕ) → end_or before ≤ 4 * n → in_order is_clear_of before (one n) ≡ true
in_front None n le = refl
in_front (Some range) n le = grind (arith, nat_tests, le)

-- the first of some rows, and the others
record Rows (ram : ℕ) (before : Option WordRange) (range : WordRange) (ranges : List WordRange) : Type 0 where
  fits : is_range ram range ≡ true
  ordered : in_order is_clear_of before range ≡ true
  others : rows_behind ram (Some range) ranges ≡ true

rows_of : (ram : ℕ) (before : Option WordRange) (range : WordRange) (ranges : List WordRange) → rows_behind ram before (range ∷ ranges) ≡ true → Rows ram before range ranges
rows_of ram before range ranges rows = record { fits = grind (arith, rows); ordered = grind (arith, rows); others = grind (arith, rows) }

rows_from : (ram : ℕ) (before : Option WordRange) (range : WordRange) (ranges : List WordRange) → Rows ram before range ranges → rows_behind ram before (range ∷ ranges) ≡ true
rows_from ram before range ranges r = rw (r.fits, r.ordered, r.others) refl

-- ranges up to a word
record AreUpTo (ram : ℕ) (before : Option WordRange) (n : ℕ) (ranges : List WordRange) : Type 0 where
  rows : rows_behind ram before ranges ≡ true
  ends : last_end before ranges ≤ 4 * n

same_order : (before : Option WordRange) (range other : WordRange) → range.address ≡ other.address → in_order is_clear_of before range ≡ in_order is_clear_of before other
same_order None range other same = refl
same_order (Some first) range other same = ap (λ (address : ℕ). nat_le (first.address + 4 * first.words) address) same

-- the next word behind them
one_more : (ram n : ℕ) (before : Option WordRange) (ranges : List WordRange) → 4 * n + 4 ≤ ram → AreUpTo ram before n ranges → AreUpTo ram before (n + 1) (with_code_word ranges n)
one_more ram n before [] inside up = record {
  rows = rows_from ram before (one n) [] (record { fits = one_fits ram n inside; ordered = in_front before n up.ends; others = refl });
  ends = omega arith;
}
one_more ram n before (last ∷ []) inside up = go (last.address + 4 * last.words == 4 * n) refl
  where
    r : Rows ram before last []
    r = rows_of ram before last [] up.rows

    go : (b : Bool) → (last.address + 4 * last.words == 4 * n) ≡ b → AreUpTo ram before (n + 1) (with_next_code last n)
    go true t =
        let ends : last.address + 4 * last.words ≡ 4 * n = grind (arith, nat_tests, t) in
        rw t (record {
          rows = rows_from ram before (record { address = last.address; words = last.words + 1 }) [] (record { fits = longer_fits ram n last r.fits ends inside; ordered = same_order before _ last refl ∙ r.ordered; others = refl });
          ends = omega arith;
        })
    go false t = rw t (record {
      rows = rows_from ram before last (one n ∷ []) (record {
        fits = r.fits;
        ordered = r.ordered;
        others = rows_from ram (Some last) (one n) [] (record { fits = one_fits ram n inside; ordered = in_front (Some last) n up.ends; others = refl });
      });
      ends = omega arith;
    })
one_more ram n before (first ∷ second ∷ ranges) inside up =
    let r = rows_of ram before first (second ∷ ranges) up.rows in
    let later = one_more ram n (Some first) (second ∷ ranges) inside (record { rows = r.others; ends = up.ends }) in
    record { rows = rows_from ram before first (with_code_word (second ∷ ranges) n) (record { fits = r.fits; ordered = r.ordered; others = later.rows }); ends = later.ends }

-- nothing is put: the ranges of a word are those of the next
abbrev weaker : (ram n : ℕ) (before : Option WordRange) (ranges : List WordRange) → AreUpTo ram before n ranges → AreUpTo ram before (n + 1) ranges
weaker ram n before ranges up = record { rows = up.rows; ends = omega (arith, up.ends) }

-- no more than there are words
longer_by_one : (ranges : List WordRange) (n : ℕ) → length (with_code_word ranges n) ≤ length ranges + 1
longer_by_one [] n = omega arith
longer_by_one (last ∷ []) n = go (last.address + 4 * last.words == 4 * n)
  where
    go : (b : Bool) → length (if b then (record { address = last.address; words = last.words + 1 }) ∷ [] else last ∷ one n ∷ []) ≤ 2
    go true = omega arith
    go false = omega arith
longer_by_one (first ∷ second ∷ ranges) n = let later = longer_by_one (second ∷ ranges) n in omega (arith, later)

-- ranges of words below one
record AreRanges (ram n : ℕ) (ranges : List WordRange) : Type 0 where
  up : AreUpTo ram None n ranges
  few : length ranges ≤ n

no_ranges : (ram : ℕ) → AreRanges ram 0 []
no_ranges ram = record { up = record { rows = refl; ends = omega arith }; few = omega arith }

next_range : (ram n : ℕ) (ranges : List WordRange) → 4 * n + 4 ≤ ram → AreRanges ram n ranges → AreRanges ram (n + 1) (with_code_word ranges n)
next_range ram n ranges inside are = record { up = one_more ram n None ranges inside are.up; few = omega (arith, longer_by_one ranges n, are.few) }

same_ranges : (ram n : ℕ) (ranges : List WordRange) → AreRanges ram n ranges → AreRanges ram (n + 1) ranges
same_ranges ram n ranges are = record { up = weaker ram n None ranges are.up; few = omega (arith, are.few) }

is_few : (ram count : ℕ) → count ≤ ram / 4 → ram ≤ 16777216 → is_u32 count ≡ true
is_few ram count few small =
    let below : count < 2 ^ 32 = omega arith in
    grind (arith, nat_tests, below)

-- ---- code ranges

pub code_rows : (elf : List ℕ) (segments : List ProgramHeader) (ram : ℕ) → ram ≤ 16777216 → IsList whole (is_range ram) is_clear_of (loaded_code elf segments ram)
unfolding loaded_code
code_rows elf segments ram small =
    let are = fold_kept (with_code elf segments) (AreRanges ram) (ram / 4) [] step (no_ranges ram) in
    record { count = is_few ram (length (loaded_code elf segments ram)) are.few small; rows = are.up.rows }
  where
    step : (n : ℕ) → n < ram / 4 → (ranges : List WordRange) → AreRanges ram n ranges → AreRanges ram (n + 1) (with_code elf segments ranges n)
    step n below ranges are = go (has_byte (is_code_at segments) n)
      where
        go : (b : Bool) → AreRanges ram (n + 1) (if b then with_code_word ranges n else ranges)
        go true = next_range ram n ranges (omega arith) are
        go false = same_ranges ram n ranges are

-- ---- segments

-- a segment's words are code words of its extent
extents_put : (segments : List Segment) (n word : ℕ) → map extent_of (with_word segments (4 * n) word) ≡ with_code_word (map extent_of segments) n
extents_put [] n word = refl
extents_put (last ∷ []) n word = go (end_of last == 4 * n)
  where
    go : (b : Bool) → map extent_of (if b then longer last word ∷ [] else last ∷ one_word (4 * n) word ∷ [])
        ≡ (if b then (record { address = last.address; words = length last.words + 1 }) ∷ [] else extent_of last ∷ one n ∷ [])
    go true = ap (λ (size : ℕ). (record { address = last.address; words = size }) ∷ []) (length_push last.words word)
    go false = refl
extents_put (first ∷ second ∷ segments) n word = ap (λ (ranges : List WordRange). extent_of first ∷ ranges) (extents_put (second ∷ segments) n word)

abbrev are_words : Segment → Bool
are_words segment = list_all is_u32 segment.words

words_put : (segments : List Segment) (address word : ℕ) → is_u32 word ≡ true → list_all are_words segments ≡ true → list_all are_words (with_word segments address word) ≡ true
words_put [] address word small all = rw small refl
words_put (last ∷ []) address word small all = go (end_of last == address)
  where
    here : are_words last ≡ true
    here = grind (arith, all)

    go : (b : Bool) → list_all are_words (if b then longer last word ∷ [] else last ∷ one_word address word ∷ []) ≡ true
    go true = let more : list_all is_u32 (last.words ++ word ∷ []) ≡ true = rw (list_all-append is_u32 last.words (word ∷ []), here, small) refl in rw more refl
    go false = rw (here, small) refl
words_put (first ∷ second ∷ segments) address word small all =
    let here : are_words first ≡ true = grind (arith, all) in
    let rest : list_all are_words (second ∷ segments) ≡ true = grind (arith, all) in
    rw here (words_put (second ∷ segments) address word small rest)

-- segments whose extents are in order, and whose words are words
segment_rows : (ram : ℕ) (before : Option WordRange) (segments : List Segment) → rows_behind ram before (map extent_of segments) ≡ true → list_all are_words segments ≡ true
    → are_rows extent_of (is_segment ram) is_clear_of before segments ≡ true
segment_rows ram before [] rows all = refl
segment_rows ram before (segment ∷ segments) rows all =
    let r = rows_of ram before (extent_of segment) (map extent_of segments) rows in
    let here : are_words segment ≡ true = grind (arith, all) in
    let rest : list_all are_words segments ≡ true = grind (arith, all) in
    rw (r.fits, here, r.ordered) (segment_rows ram (Some (extent_of segment)) segments r.others rest)

record AreSegments (ram n : ℕ) (segments : List Segment) : Type 0 where
  ranges : AreRanges ram n (map extent_of segments)
  words : list_all are_words segments ≡ true

pub loaded_rows : (elf : List ℕ) (headers : List ProgramHeader) (ram : ℕ) → ram ≤ 16777216 → ((n : ℕ) → is_u32 (loaded_word elf headers n) ≡ true)
    → IsList extent_of (is_segment ram) is_clear_of (loaded_segments elf headers ram)
unfolding loaded_segments
loaded_rows elf headers ram small words =
    let are = fold_kept (with_loaded elf headers) (AreSegments ram) (ram / 4) [] step (record { ranges = no_ranges ram; words = refl }) in
    record {
      count = is_few ram (length (loaded_segments elf headers ram)) (omega (arith, are.ranges.few, length-map (loaded_segments elf headers ram) extent_of)) small;
      rows = segment_rows ram None (loaded_segments elf headers ram) are.ranges.up.rows are.words;
    }
  where
    step : (n : ℕ) → n < ram / 4 → (segments : List Segment) → AreSegments ram n segments → AreSegments ram (n + 1) (with_loaded elf headers segments n)
    step n below segments are = go (has_byte (is_loaded_at headers) n)
      where
        go : (b : Bool) → AreSegments ram (n + 1) (if b then with_word segments (4 * n) (loaded_word elf headers n) else segments)
        go true = record {
          ranges = subst (AreRanges ram (n + 1)) (sym (extents_put segments n (loaded_word elf headers n))) (next_range ram n (map extent_of segments) (omega arith) are.ranges);
          words = words_put segments (4 * n) (loaded_word elf headers n) (words n) are.words;
        }
        go false = record { ranges = same_ranges ram n (map extent_of segments) are.ranges; words = are.words }
