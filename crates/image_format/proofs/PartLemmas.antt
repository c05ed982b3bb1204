-- Segments kept as one list of words: one more segment is read behind the others.
use Rattle.std.proofs.Common.{◌≡◌, ℕ, suc, ◌-◌, ◌+◌, ◌*◌, ◌<◌, ◌≤◌, true, Option, Some, None, List, [], ◌∷◌, ◌++◌, length, map, take, drop, All, Result, Ok, Err, refl, sym, ap, subst, ◌∙◌, arith}
use Rattle.std.specs.Int.{w32}
use Rattle.std.proofs.lemmas.Bool.{leb-true}
use Rattle.std.proofs.lemmas.List.{length-append, length-drop, take-append-le, drop-append-le, take_at, drop_at, append-nil, map_push, get_or_push}
use Rattle.std.proofs.lemmas.List.Elements.{All-push, All-weaker}
use Rattle.image_format.specs.declared.errors.ImageError.{ImageError}
use Rattle.image_format.specs.declared.errors.ImageError.TheVariants.{Order}
use Rattle.image_format.specs.declared.errors.ImageEnd.{ImageEnd}
use Rattle.image_format.specs.declared.errors.ImageEnd.TheVariants as ends
use Rattle.image_format.specs.declared.rows.WordRange.{WordRange}
use Rattle.image_format.specs.declared.segments.Extent.{Extent}
use Rattle.image_format.specs.Picture.{Segment}
use Rattle.image_format.specs.Conditions.{is_aligned, is_word_count, is_clear_of, in_order}
use Rattle.image_format.specs.Parts.{part_of, EndsWithin, AreKept}
use Rattle.shared_terms.specs.Steps.{demand}
use Rattle.image_format.specs.Reading.{FailsAs, number_at, field_at, times, with_prefix, range_at, range_behind_at, segment_at}
use Rattle.shared_terms.proofs.StepLemmas.{on_ok, demanded, ok_is}
use Rattle.image_format.proofs.FieldLemmas.{both, tested_fits}
use Rattle.image_format.proofs.LoopLemmas.{placed, start, goes_on, times_length}

-- where the range before ends, or 0
abbrev pub end_of : Option WordRange → ℕ
end_of None = 0
end_of (Some range) = range.address + 4 * range.words

-- ---- reading

-- a segment is refused where its range is
pub range_refused : (e : ImageEnd) (size ram row : ℕ) (before : Option WordRange) (bytes : List ℕ) → FailsAs e (range_behind_at size ram row before bytes) → FailsAs e (segment_at size ram (placed row before bytes))
unfolding segment_at
range_refused ends.Memory size ram row before bytes refused = tt
range_refused (ends.Bad error) size ram row before bytes refused = rw refused refl

-- and where its words are
words_fail : {S A : Type 0} (prefix : List A) (read : Result (List A × S) ImageError) (error : ImageError) → with_prefix prefix read ≡ Err error → read ≡ Err error
words_fail prefix (Ok x) error e = absurd cc
words_fail prefix (Err other) error e = e

pub words_refused : (e : ImageEnd) (size ram row : ℕ) (before : Option WordRange) (bytes : List ℕ) (range : WordRange) (after contents : List ℕ) → range_behind_at size ram row before bytes ≡ Ok (range, after)
    → FailsAs e (with_prefix contents (times range.words (number_at w32 size) after)) → FailsAs e (segment_at size ram (placed row before bytes))
unfolding segment_at
words_refused ends.Memory size ram row before bytes range after contents range-is refused = tt
words_refused (ends.Bad error) size ram row before bytes range after contents range-is refused =
    rw (range-is, words_fail contents (times range.words (number_at w32 size) after) error refused) refl

-- where a range that was read lies
pub record LiesBehind (ram : ℕ) (before : Option WordRange) (range : WordRange) : Type 0 where
  pub behind : end_of before ≤ range.address
  pub inside : range.address + 4 * range.words ≤ ram

in_order-behind : (before : Option WordRange) (range : WordRange) → in_order is_clear_of before range ≡ true → end_of before ≤ range.address
in_order-behind None range e = omega arith
in_order-behind (Some other) range e = leb-true _ _ e

pub range_inside : (size ram field : ℕ) (bytes : List ℕ) (x : WordRange × List ℕ) → range_at size ram field bytes ≡ Ok x → x.0.address + 4 * x.0.words ≤ ram
unfolding range_at
range_inside size ram field bytes x e =
    on_ok (field_at size field is_aligned bytes) _ x e λ address address-is e1.
    on_ok (field_at size (field + 1) (is_word_count ram address.0) address.1) _ x e1 λ words words-is e2.
    let made : WordRange × List ℕ = (record { address = address.0; words = words.0 }, words.1) in
    let fits = both _ _ (tested_fits w32 size (is_word_count ram address.0) _ address.1 words words-is) in
    subst (λ (y : WordRange × List ℕ). y.0.address + 4 * y.0.words ≤ ram) (ok_is made x e2) (leb-true _ _ fits.1)

pub range_lies : (size ram row : ℕ) (before : Option WordRange) (bytes : List ℕ) (x : WordRange × List ℕ) → range_behind_at size ram row before bytes ≡ Ok x → LiesBehind ram before x.0
unfolding range_behind_at
range_lies size ram row before bytes x e =
    on_ok (range_at size ram 6 bytes) _ x e λ range range-is e1.
    on_ok (demand (in_order is_clear_of before range.0) (Order 1 row)) _ x e1 λ u u-is e2.
    subst (λ (y : WordRange × List ℕ). LiesBehind ram before y.0) (ok_is range x e2) (record {
      behind = in_order-behind before range.0 (demanded _ _ u u-is);
      inside = range_inside size ram 6 bytes range range-is;
    })

-- the words that were read behind others
pub on_prefix : {S A P : Type 0} (prefix : List A) (read : Result (List A × S) ImageError) (all : List A) (s : S) → with_prefix prefix read ≡ Ok (all, s) → ((xs : List A) → read ≡ Ok (xs, s) → prefix ++ xs ≡ all → P) → P
on_prefix {S} {A} prefix (Ok x) all s e next =
    let same : (prefix ++ x.0, x.1) ≡ (all, s) = ok_is (prefix ++ x.0, x.1) (all, s) e in
    next x.0 (ap (λ (t : S). Ok (x.0, t)) (ap (λ (y : List A × S). y.1) same)) (ap (λ (y : List A × S). y.0) same)
on_prefix prefix (Err error) all s e next = absurd cc

segment_is : (size ram row : ℕ) (before : Option WordRange) (bytes : List ℕ) (range : WordRange) (after words rest : List ℕ) → range_behind_at size ram row before bytes ≡ Ok (range, after) → times range.words (number_at w32 size) after ≡ Ok (words, rest)
    → segment_at size ram (placed row before bytes) ≡ Ok (record { address = range.address; words = words }, placed (row + 1) (Some range) rest)
unfolding segment_at
segment_is size ram row before bytes range after words rest range-is words-is = rw (range-is, words-is) refl

-- ---- keeping

-- the extent of a range whose words are kept from there on
abbrev pub extent_from : ℕ → WordRange → Extent
extent_from first range = record { address = range.address; first = first; words = range.words }

-- the extent of words that come behind those that are kept
abbrev next_extent : List ℕ → WordRange → Extent
next_extent contents range = extent_from (length contents) range

part_kept : (contents more : List ℕ) (extent : Extent) → EndsWithin contents extent → part_of (contents ++ more) extent ≡ part_of contents extent
part_kept contents more extent within =
    let dropped = drop-append-le extent.first contents more (omega arith) in
    let taken = take-append-le extent.words (drop extent.first contents) more (omega (arith, length-drop extent.first contents)) in
    ap (λ (words : List ℕ). record { address = extent.address; words = words }) (ap (take extent.words) dropped ∙ taken)

pub parts_kept : (contents more : List ℕ) (extents : List Extent) → All (EndsWithin contents) extents → map (part_of (contents ++ more)) extents ≡ map (part_of contents) extents
parts_kept contents more [] within = refl
parts_kept contents more (extent ∷ extents) within =
    let first = part_kept contents more extent (within 0 extent (omega arith)) in
    let others = parts_kept contents more extents (λ k d lt. within (suc k) d (omega arith)) in
    rw (first, others) refl

next_part : (contents words : List ℕ) (range : WordRange) → length words ≡ range.words → part_of (contents ++ words) (next_extent contents range) ≡ record { address = range.address; words = words }
next_part contents words range len =
    let behind = drop_at contents words (length contents) refl in
    let taken : take range.words words ≡ words = ap (take range.words) (sym (append-nil words)) ∙ take_at words [] range.words len in
    ap (λ (ws : List ℕ). record { address = range.address; words = ws }) (ap (take range.words) behind ∙ taken)

-- ---- one more row

-- what the loop over the rows has read so far
pub record HasRead (count size ram : ℕ) (bytes : List ℕ) (row : ℕ) (before : Option WordRange) (extents : List Extent) (contents rest : List ℕ) : Type 0 where
  pub read : with_prefix (map (part_of contents) extents) (times (count - row) (segment_at size ram) (placed row before rest)) ≡ times count (segment_at size ram) (start bytes)
  pub kept : AreKept contents extents
  pub fits : 4 * length contents ≤ end_of before
  pub ends : end_of before ≤ ram

pub parts_pushed : (contents words : List ℕ) (extents : List Extent) (range : WordRange) → All (EndsWithin contents) extents → length words ≡ range.words
    → map (part_of contents) extents ++ record { address = range.address; words = words } ∷ [] ≡ map (part_of (contents ++ words)) (extents ++ next_extent contents range ∷ [])
parts_pushed contents words extents range within len =
    sym (map_push (part_of (contents ++ words)) extents (next_extent contents range) ∙ rw (parts_kept contents words extents within, next_part contents words range len) refl)

within_pushed : (contents words : List ℕ) (extents : List Extent) (range : WordRange) → All (EndsWithin contents) extents → length words ≡ range.words → All (EndsWithin (contents ++ words)) (extents ++ next_extent contents range ∷ [])
within_pushed contents words extents range within len =
    let kept = All-weaker (EndsWithin contents) (EndsWithin (contents ++ words)) (λ extent h. omega (arith, length-append contents words)) extents within in
    All-push (EndsWithin (contents ++ words)) extents (next_extent contents range) kept (omega (arith, length-append contents words))

kept_pushed : (contents words : List ℕ) (extents : List Extent) (range : WordRange) → AreKept contents extents → length words ≡ range.words → AreKept (contents ++ words) (extents ++ next_extent contents range ∷ [])
kept_pushed contents words extents range kept len =
    let next = next_extent contents range in
    let place : length (extents ++ next ∷ []) - 1 ≡ length extents = omega (arith, length-append extents (next ∷ [])) in
    record {
      within = within_pushed contents words extents range kept.within len;
      last = λ none some. rw (place, get_or_push extents next none (length extents) refl) (omega (arith, length-append contents words));
    }

-- a range was read, and its words behind the others
pub reads_on : (count size ram : ℕ) (bytes : List ℕ) (row : ℕ) (before : Option WordRange) (extents : List Extent) (contents rest : List ℕ) (range : WordRange) (first : ℕ) (after all behind : List ℕ) → row < count → first ≡ length contents
    → range_behind_at size ram row before rest ≡ Ok (range, after) → with_prefix contents (times range.words (number_at w32 size) after) ≡ Ok (all, behind)
    → HasRead count size ram bytes row before extents contents rest → HasRead count size ram bytes (row + 1) (Some range) (extents ++ extent_from first range ∷ []) all behind
reads_on count size ram bytes row before extents contents rest range first after all behind lt first-is range-is all-is so_far =
    on_prefix contents (times range.words (number_at w32 size) after) all behind all-is λ words words-is joined.
    let len = times_length range.words (number_at w32 size) after (words, behind) words-is in
    let lies = range_lies size ram row before rest (range, after) range-is in
    let segment = segment_is size ram row before rest range after words behind range-is words-is in
    let on = goes_on (segment_at size ram) (map (part_of contents) extents) count row (placed row before rest) (placed (row + 1) (Some range) behind) (record { address = range.address; words = words }) (times count (segment_at size ram) (start bytes)) lt segment so_far.read in
    let parts = parts_pushed contents words extents range so_far.kept.within len in
    let read_on : HasRead count size ram bytes (row + 1) (Some range) (extents ++ next_extent contents range ∷ []) (contents ++ words) behind = record {
      read = subst (λ (segments : List Segment). with_prefix segments (times (count - (row + 1)) (segment_at size ram) (placed (row + 1) (Some range) behind)) ≡ times count (segment_at size ram) (start bytes)) parts on;
      kept = kept_pushed contents words extents range so_far.kept len;
      fits = omega (arith, length-append contents words, lies.behind, so_far.fits);
      ends = lies.inside;
    } in
    let joined_on = subst (λ (xs : List ℕ). HasRead count size ram bytes (row + 1) (Some range) (extents ++ next_extent contents range ∷ []) xs behind) joined read_on in
    subst (λ (n : ℕ). HasRead count size ram bytes (row + 1) (Some range) (extents ++ extent_from n range ∷ []) all behind) (sym first-is) joined_on
