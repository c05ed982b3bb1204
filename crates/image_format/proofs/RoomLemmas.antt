-- What a reader takes of the bytes at least, so that places for as many as lie in them are enough.
use Rattle.std.proofs.Common.{◌≡◌, ℕ, zero, suc, ◌+◌, ◌-◌, ◌*◌, ◌<◌, ◌≤◌, Bool, ltb, List, [], ◌∷◌, ◌++◌, length, take, drop, Result, Ok, Err, IfOk, subst, arith}
use Rattle.std.specs.Int.{Width, w32, byte_len, from_le_bytes}
use Rattle.std.proofs.lemmas.Bool.{ltb-false}
use Rattle.std.proofs.lemmas.List.{length-append, length-drop}
use Rattle.shared_terms.proofs.StepLemmas.{on_ok, ok_is}
use Rattle.shared_terms.specs.Steps.{demand}
use Rattle.image_format.specs.declared.errors.ImageEnd.{ImageEnd}
use Rattle.image_format.specs.declared.errors.ImageError.TheVariants.{Short}
use Rattle.image_format.specs.declared.rows.WordRange.{WordRange}
use Rattle.image_format.specs.declared.rows.Label.{Label}
use Rattle.image_format.specs.declared.rows.Edge.{Edge}
use Rattle.image_format.specs.Conditions.{is_aligned, is_word_count, is_place}
use Rattle.image_format.specs.Reading.{Gives, Reads, number_at, tested_at, field_at, times, range_at, label_at, edge_at}
use Rattle.image_format.specs.Rooms.{HasPlacesFor, RoomState, TakesAtLeast}
use Rattle.image_format.proofs.FieldLemmas.{guard_ok}

pub number_takes : (w : Width) (size : ℕ) → TakesAtLeast (byte_len w) (number_at w size)
number_takes w size bytes x e =
    let read : ℕ × List ℕ = (from_le_bytes w (take (byte_len w) bytes), drop (byte_len w) bytes) in
    let g = guard_ok (ltb (length bytes) (byte_len w)) (Short size) read x e in
    let long : byte_len w ≤ length bytes = ltb-false _ _ g.0 in
    subst (λ (y : ℕ × List ℕ). length y.1 + byte_len w ≤ length bytes) g.1 (omega (arith, length-drop (byte_len w) bytes))

pub field_takes : (size field : ℕ) (test : ℕ → Bool) → TakesAtLeast 4 (field_at size field test)
unfolding tested_at
field_takes size field test bytes x e =
    on_ok (number_at w32 size bytes) _ x e λ n n-is e1.
    on_ok (demand (test n.0) _) _ x e1 λ u u-is e2.
    subst (λ (y : ℕ × List ℕ). length y.1 + 4 ≤ length bytes) (ok_is n x e2) (number_takes w32 size bytes n n-is)

pub range_takes : (size ram field : ℕ) → TakesAtLeast 8 (range_at size ram field)
unfolding range_at
range_takes size ram field bytes x e =
    on_ok (field_at size field is_aligned bytes) _ x e λ address address-is e1.
    on_ok (field_at size (field + 1) (is_word_count ram address.0) address.1) _ x e1 λ words words-is e2.
    let made : WordRange × List ℕ = (record { address = address.0; words = words.0 }, words.1) in
    let first = field_takes size field is_aligned bytes address address-is in
    let second = field_takes size (field + 1) (is_word_count ram address.0) address.1 words words-is in
    subst (λ (y : WordRange × List ℕ). length y.1 + 8 ≤ length bytes) (ok_is made x e2) (omega arith)

pub label_takes : (size ram : ℕ) → TakesAtLeast 8 (label_at size ram)
unfolding label_at
label_takes size ram bytes x e =
    on_ok (field_at size 10 (is_place ram) bytes) _ x e λ address address-is e1.
    on_ok (number_at w32 size address.1) _ x e1 λ id id-is e2.
    let made : Label × List ℕ = (record { address = address.0; id = id.0 }, id.1) in
    let first = field_takes size 10 (is_place ram) bytes address address-is in
    let second = number_takes w32 size address.1 id id-is in
    subst (λ (y : Label × List ℕ). length y.1 + 8 ≤ length bytes) (ok_is made x e2) (omega arith)

pub edge_takes : (size : ℕ) → TakesAtLeast 8 (edge_at size)
unfolding edge_at
edge_takes size bytes x e =
    on_ok (number_at w32 size bytes) _ x e λ source source-is e1.
    on_ok (number_at w32 size source.1) _ x e1 λ target target-is e2.
    let made : Edge × List ℕ = (record { source = source.0; target = target.0 }, target.1) in
    let first = number_takes w32 size bytes source source-is in
    let second = number_takes w32 size source.1 target target-is in
    subst (λ (y : Edge × List ℕ). length y.1 + 8 ≤ length bytes) (ok_is made x e2) (omega arith)

-- what a function returned takes what reading takes
pub given_takes : {X A : Type 0} (least : ℕ) (read : Reads A) → TakesAtLeast least read → (bytes : List ℕ) (view : X
    → A × List ℕ) (result : Result X ImageEnd) → Gives view result (read bytes) → IfOk result (λ x. length (view x).1 + least ≤ length bytes)
given_takes least read takes bytes view (Ok x) e = takes bytes (view x) e
given_takes least read takes bytes view (Err end) e = tt

-- so many words take four bytes each
pub words_take : (count size : ℕ) (bytes : List ℕ) (x : List ℕ × List ℕ) → times count (number_at w32 size) bytes ≡ Ok x → length x.1 + 4 * count ≤ length bytes
unfolding times
words_take zero size bytes x e =
    let made : List ℕ × List ℕ = ([], bytes) in
    subst (λ (y : List ℕ × List ℕ). length y.1 + 4 * 0 ≤ length bytes) (ok_is made x e) (omega arith)
words_take (suc n) size bytes x e =
    on_ok (number_at w32 size bytes) _ x e λ first first-is e1.
    on_ok (times n (number_at w32 size) first.1) _ x e1 λ others others-is e2.
    let made : List ℕ × List ℕ = (first.0 ∷ others.0, others.1) in
    let one = number_takes w32 size bytes first first-is in
    let more = words_take n size first.1 others others-is in
    subst (λ (y : List ℕ × List ℕ). length y.1 + 4 * suc n ≤ length bytes) (ok_is made x e2) (omega arith)

-- ---- places that are left

one_more : (each n : ℕ) → each * (n + 1) ≡ each * n + each
one_more each n = grind arith

just_one : (each : ℕ) → each * 1 ≡ each
just_one each = grind arith

-- one more was read: there is a place for it
pub has_place : {T : Type 0} (count each row : ℕ) (rest after : List ℕ) (room : RoomState T) → row < count → length after + each ≤ length rest
    → HasPlacesFor (count - row) each (length rest) room → length room.items < room.places
has_place count each row rest after room lt takes left =
    let there : each * 1 ≤ length rest = rw (just_one each) (omega arith) in
    let place = left 1 (omega arith) there in
    omega arith

-- and behind it there are places for the others
pub places_on : {T : Type 0} (count each row : ℕ) (rest after : List ℕ) (room new : RoomState T) (item : T) → row < count
    → length after + each ≤ length rest → new.items ≡ room.items ++ item ∷ [] → new.places ≡ room.places
    → HasPlacesFor (count - row) each (length rest) room → HasPlacesFor (count - (row + 1)) each (length after) new
places_on count each row rest after room new item lt takes items-is places-is left n few there =
    let within : each * (n + 1) ≤ length rest = rw (one_more each n) (omega arith) in
    let place = left (n + 1) (omega arith) within in
    let len : length new.items ≡ length room.items + 1 = rw items-is (length-append room.items (item ∷ [])) in
    omega arith
