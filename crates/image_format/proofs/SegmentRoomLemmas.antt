-- Places for the extents of segments and for their words.
use Rattle.std.proofs.Common.{◌≡◌, ℕ, ◌+◌, ◌-◌, ◌*◌, ◌/◌, ◌≤◌, Option, Some, List, length, Ok, subst, arith}
use Rattle.std.specs.Int.{w32}
use Rattle.std.proofs.lemmas.Bool.{leb-true}
use Rattle.std.proofs.lemmas.List.{length-append}
use Rattle.shared_terms.specs.Steps.{demand}
use Rattle.shared_terms.proofs.StepLemmas.{on_ok, ok_is}
use Rattle.image_format.specs.declared.errors.ImageError.TheVariants.{Order}
use Rattle.image_format.specs.declared.rows.WordRange.{WordRange}
use Rattle.image_format.specs.Conditions.{in_order, is_aligned, is_clear_of, is_word_count}
use Rattle.image_format.specs.Reading.{field_at, number_at, range_at, range_behind_at, times, with_prefix}
use Rattle.image_format.specs.Rooms.{HasPlacesFor, RoomState, TakesAtLeast}
use Rattle.image_format.proofs.FieldLemmas.{both, tested_fits}
use Rattle.image_format.proofs.LoopLemmas.{times_length}
use Rattle.image_format.proofs.PartLemmas.{end_of, on_prefix, range_lies}
use Rattle.image_format.proofs.RoomLemmas.{range_takes, words_take}

-- ---- a range

range_behind_takes : (size ram row : ℕ) (before : Option WordRange) → TakesAtLeast 8 (range_behind_at size ram row before)
unfolding range_behind_at
range_behind_takes size ram row before bytes x e =
    on_ok (range_at size ram 6 bytes) _ x e λ range range-is e1.
    on_ok (demand (in_order is_clear_of before range.0) (Order 1 row)) _ x e1 λ u u-is e2.
    subst (λ (y : WordRange × List ℕ). length y.1 + 8 ≤ length bytes) (ok_is range x e2) (range_takes size ram 6 bytes range range-is)

range_has_words : (size ram field : ℕ) (bytes : List ℕ) (x : WordRange × List ℕ) → range_at size ram field bytes ≡ Ok x → 1 ≤ x.0.words
unfolding range_at
range_has_words size ram field bytes x e =
    on_ok (field_at size field is_aligned bytes) _ x e λ address address-is e1.
    on_ok (field_at size (field + 1) (is_word_count ram address.0) address.1) _ x e1 λ words words-is e2.
    let made : WordRange × List ℕ = (record { address = address.0; words = words.0 }, words.1) in
    let fits = both _ _ (tested_fits w32 size (is_word_count ram address.0) _ address.1 words words-is) in
    subst (λ (y : WordRange × List ℕ). 1 ≤ y.0.words) (ok_is made x e2) (leb-true _ _ fits.0)

behind_has_words : (size ram row : ℕ) (before : Option WordRange) (bytes : List ℕ) (x : WordRange × List ℕ)
    → range_behind_at size ram row before bytes ≡ Ok x → 1 ≤ x.0.words
unfolding range_behind_at
behind_has_words size ram row before bytes x e =
    on_ok (range_at size ram 6 bytes) _ x e λ range range-is e1.
    on_ok (demand (in_order is_clear_of before range.0) (Order 1 row)) _ x e1 λ u u-is e2.
    subst (λ (y : WordRange × List ℕ). 1 ≤ y.0.words) (ok_is range x e2) (range_has_words size ram 6 bytes range range-is)

-- ---- its words

-- places for the words of the RAM behind those that were read
abbrev pub HasWordPlaces : ℕ → Option WordRange → ℕ → RoomState ℕ → Type 0
HasWordPlaces ram before bytes contents = HasPlacesFor ((ram - end_of before) / 4) 4 bytes contents

-- a range was read: there are places for its words
pub words_have_places : (size ram row : ℕ) (before : Option WordRange) (rest : List ℕ) (range : WordRange) (after : List ℕ) (contents : RoomState ℕ)
    → range_behind_at size ram row before rest ≡ Ok (range, after)
    → HasWordPlaces ram before (length rest) contents → HasPlacesFor range.words 4 (length after) contents
words_have_places size ram row before rest range after contents range-is left n few there =
    let lies = range_lies size ram row before rest (range, after) range-is in
    let takes = range_behind_takes size ram row before rest (range, after) range-is in
    left n (omega (arith, lies.behind, lies.inside)) (omega arith)

-- and they were read too
record HasMore (range : WordRange) (after behind : List ℕ) (contents new : RoomState ℕ) : Type 0 where
  pub longer : length new.items ≡ length contents.items + range.words
  pub takes : length behind + 4 * range.words ≤ length after

more_words : (size : ℕ) (range : WordRange) (after behind : List ℕ) (contents new : RoomState ℕ)
    → with_prefix contents.items (times range.words (number_at w32 size) after) ≡ Ok (new.items, behind) → HasMore range after behind contents new
more_words size range after behind contents new read =
    on_prefix contents.items (times range.words (number_at w32 size) after) new.items behind read λ words words-is joined.
    let len = times_length range.words (number_at w32 size) after (words, behind) words-is in
    record {
      longer = subst (λ (xs : List ℕ). length xs ≡ length contents.items + range.words) joined (omega (arith, length-append contents.items words));
      takes = words_take range.words size after (words, behind) words-is;
    }

-- behind them there are places for the other words of the RAM
pub word_places_on : (size ram row : ℕ) (before : Option WordRange) (rest : List ℕ) (range : WordRange) (after behind : List ℕ) (contents new : RoomState ℕ)
    → range_behind_at size ram row before rest ≡ Ok (range, after)
    → with_prefix contents.items (times range.words (number_at w32 size) after) ≡ Ok (new.items, behind) → new.places ≡ contents.places → HasWordPlaces ram before (length rest) contents → HasWordPlaces ram (Some range) (length behind) new
word_places_on size ram row before rest range after behind contents new range-is words-is same left n few there =
    let lies = range_lies size ram row before rest (range, after) range-is in
    let takes = range_behind_takes size ram row before rest (range, after) range-is in
    let more = more_words size range after behind contents new words-is in
    let place = left (range.words + n) (omega (arith, lies.behind, lies.inside)) (omega (arith, more.takes)) in
    omega (arith, more.longer)

-- a segment takes the bytes of its extent at least
pub segment_takes : (size ram row : ℕ) (before : Option WordRange) (rest : List ℕ) (range : WordRange) (after behind : List ℕ) (contents new : RoomState ℕ)
    → range_behind_at size ram row before rest ≡ Ok (range, after)
    → with_prefix contents.items (times range.words (number_at w32 size) after) ≡ Ok (new.items, behind) → length behind + 12 ≤ length rest
segment_takes size ram row before rest range after behind contents new range-is words-is =
    let takes = range_behind_takes size ram row before rest (range, after) range-is in
    let some = behind_has_words size ram row before rest (range, after) range-is in
    let more = more_words size range after behind contents new words-is in
    omega (arith, more.takes)
