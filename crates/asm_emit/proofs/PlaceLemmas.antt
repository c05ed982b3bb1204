-- Where a layout puts lines, each one's words end at or below the next one's place.
use Rattle.std.proofs.Common.{◌≡◌, ℕ, ◌+◌, ◌*◌, ◌%◌, ◌≤◌, Bool, true, false, List, [], ◌∷◌, ◌++◌, refl, sym, ap, subst, arith}
use Rattle.std.specs.Prelude.{not, nat_le, int_lt, ℤ, pos, negsuc, Option, Some, None, Result, Ok, Err, if◌then◌else◌}
use Rattle.std.specs.Option.{unwrap_or}
use Rattle.std.proofs.lemmas.Bool.Decides.{nat_tests}
use Rattle.asm_read.specs.declared.errors.AsmError.{AsmError}
use Rattle.asm_read.specs.declared.errors.AsmErrorKind.TheVariants as kinds
use Rattle.asm_read.specs.declared.statements.Line.{Line}
use Rattle.asm_read.specs.declared.statements.Statement.{Statement}
use Rattle.asm_read.specs.declared.statements.Statement.TheVariants as statements
use Rattle.asm_read.specs.Source.{at_line}
use Rattle.asm_read.proofs.LineLemmas.{of_line}
use Rattle.shared_terms.specs.Steps.{demand}
use Rattle.asm_places.specs.Layouts.{Layout, layout_of}
use Rattle.asm_places.specs.Places.{goes_back, is_below, is_reached, place_after_line, next_place, origin_in, place_past, places_from}
use Rattle.asm_places.specs.Seen.{is_again, is_named}
use Rattle.asm_places.specs.Sizes.{harts_of, natural_where, ram_of, version_of}
use Rattle.asm_places.specs.Counts.{count_in}
use Rattle.asm_words.specs.Emission.{count_of}
use Rattle.asm_emit.specs.Kept.{ArePlaced, place_or}
use Rattle.shared_terms.proofs.StepLemmas.{ok_is, refuted}
use Rattle.asm_emit.proofs.StepLemmas.{from_some, passes}

-- ---- one line

-- the place behind a statement that begins at a place
record IsBehind (ram place behind : ℕ) (statement : Option Statement) : Type 0 where
  aligned : behind % 4 ≡ 0
  inside : behind ≤ ram
  words : place + 4 * unwrap_or (count_in statement) 0 ≤ behind

reached : (ram : ℕ) (n : ℤ) (behind : ℕ) → natural_where (is_reached ram) n ≡ Some behind → (is_reached ram behind ≡ true) × (n ≡ pos behind)
reached ram (pos m) behind is = go (is_reached ram m) refl is
  where
    go : (t : Bool) → is_reached ram m ≡ t → (if t then Some m else None) ≡ Some behind → (is_reached ram behind ≡ true) × (pos m ≡ pos behind)
    go true fits found = let same : m ≡ behind = cc in (rw same at fits, ap pos same)
    go false fits found = absurd cc
reached ram (negsuc m) behind is = absurd cc

past : (ram place : ℕ) (count : Option ℕ) (behind : ℕ) → place % 4 ≡ 0 → place_past ram place count ≡ Some behind → (behind ≡ place + 4 * unwrap_or count 0) × (behind ≤ ram)
past ram place None behind aligned is = absurd cc
past ram place (Some words) behind aligned is = go (nat_le (place + 4 * words) ram) refl is
  where
    go : (t : Bool) → nat_le (place + 4 * words) ram ≡ t → (if t then Some (place + 4 * words) else None) ≡ Some behind → (behind ≡ place + 4 * words) × (behind ≤ ram)
    go true fits found = let same : place + 4 * words ≡ behind = cc in (sym same, grind (arith, nat_tests))
    go false fits found = absurd cc

moved_on : (ram place behind : ℕ) (statement : Option Statement) → place % 4 ≡ 0 → place_past ram place (count_in statement) ≡ Some behind → IsBehind ram place behind statement
moved_on ram place behind statement aligned is =
    let p = past ram place (count_in statement) behind aligned is in
    record {
      aligned = omega (arith, aligned, p.0);
      inside = p.1;
      words = omega (arith, p.0);
    }

no_words : (n : ℤ) → count_in (Some (statements.Origin n)) ≡ Some 0
unfolding count_of
no_words n = refl

-- an `.org` has no words, and doesn't go back
moved_to : (ram place behind : ℕ) (n : ℤ) → int_lt n (pos place) ≡ false → natural_where (is_reached ram) n ≡ Some behind → IsBehind ram place behind (Some (statements.Origin n))
moved_to ram place behind n onward is =
    let r = reached ram n behind is in
    let not_below : int_lt (pos behind) (pos place) ≡ false = subst (λ (m : ℤ). int_lt m (pos place) ≡ false) r.1 onward in
    let le : place ≤ behind = grind (arith, nat_tests, not_below) in
    record {
      aligned = grind (arith, nat_tests);
      inside = grind (arith, nat_tests);
      words = rw (no_words n) (omega (arith, le));
    }

is_behind : (ram place behind : ℕ) (statement : Option Statement) → place % 4 ≡ 0 → is_below place (origin_in statement) ≡ false → place_after_line ram place (origin_in statement) (count_in statement) ≡ Some behind → IsBehind ram place behind statement
is_behind ram place behind None aligned onward is = moved_on ram place behind None aligned is
is_behind ram place behind (Some (statements.Origin n)) aligned onward is = moved_to ram place behind n onward is
is_behind ram place behind (Some statement) aligned onward is = moved_on ram place behind (Some statement) aligned is

line_behind : (ram place behind : ℕ) (before : List Line) (line : Line) → place % 4 ≡ 0 → next_place ram before place line ≡ Ok behind → IsBehind ram place behind line.statement
unfolding next_place
line_behind ram place behind before line aligned is =
    let new = passes (demand (not (is_named line.label before)) kinds.Duplicate) _ behind is in
    let once = passes (demand (not (is_again line.statement before)) kinds.Order) _ behind new.rest in
    let onward = passes (demand (not (goes_back place line.statement)) kinds.Order) _ behind once.rest in
    is_behind ram place behind line.statement aligned (refuted (goes_back place line.statement) kinds.Order onward.value onward.first)
    (from_some (place_after_line ram place (origin_in line.statement) (count_in line.statement)) kinds.Range behind onward.rest)

-- ---- all lines

abbrev places_or_none : Result (List ℕ × ℕ) AsmError → List ℕ
places_or_none (Ok x) = x.0
places_or_none (Err error) = []

-- the first of the places is the one that was reached
first_place : (ram : ℕ) (before : List Line) (place : ℕ) (lines : List Line) (r : List ℕ × ℕ) → place ≤ ram → places_from ram before place lines ≡ Ok r → place ≤ place_or ram r.0
unfolding places_from
first_place ram before place [] r inside is = let none : [] ≡ r.0 = ap places_or_none is in subst (λ (ps : List ℕ). place ≤ place_or ram ps) none inside
first_place ram before place (line ∷ lines) r inside is =
    let behind = passes (at_line line.number (next_place ram before place line)) _ r is in
    let others = passes (places_from ram (before ++ line ∷ []) behind.value lines) _ r behind.rest in
    let prefix : place ∷ others.value.0 ≡ r.0 = ap places_or_none others.rest in
    subst (λ (ps : List ℕ). place ≤ place_or ram ps) prefix (omega arith)

all_placed : (ram : ℕ) (before : List Line) (place : ℕ) (lines : List Line) (r : List ℕ × ℕ) → place % 4 ≡ 0 → places_from ram before place lines ≡ Ok r → ArePlaced ram lines r.0
unfolding places_from
all_placed ram before place [] r aligned is = none r.0
  where
    none : (ps : List ℕ) → ArePlaced ram [] ps
    none [] = tt
    none (p ∷ ps) = tt
all_placed ram before place (line ∷ lines) r aligned is =
    let behind = passes (at_line line.number (next_place ram before place line)) _ r is in
    let b = line_behind ram place behind.value before line aligned (of_line line.number (next_place ram before place line) behind.value behind.first) in
    let others = passes (places_from ram (before ++ line ∷ []) behind.value lines) _ r behind.rest in
    let prefix : place ∷ others.value.0 ≡ r.0 = ap places_or_none others.rest in
    let first = first_place ram (before ++ line ∷ []) behind.value lines others.value b.inside others.first in
    let more = all_placed ram (before ++ line ∷ []) behind.value lines others.value b.aligned others.first in
    subst (λ (ps : List ℕ). ArePlaced ram (line ∷ lines) ps) prefix (aligned, omega (arith, b.words, first), more)

-- the lines of a layout stand at its places
pub are_placed : (lines : List Line) (layout : Layout) → layout_of lines ≡ Ok layout → ArePlaced layout.ram lines layout.places
unfolding layout_of
are_placed lines layout is =
    let version = passes (version_of lines) _ layout is in
    let harts = passes (harts_of lines) _ layout version.rest in
    let ram = passes (ram_of lines) _ layout harts.rest in
    let found = passes (places_from ram.value [] 0 lines) _ layout ram.rest in
    let same : record { version = version.value; harts = harts.value; ram = ram.value; places = found.value.0; end = found.value.1 } ≡ layout = ok_is _ layout found.rest in
    subst (λ (l : Layout). ArePlaced l.ram lines l.places) same (all_placed ram.value [] 0 lines found.value refl found.first)
