-- What was noted, with one more line.
use Rattle.std.proofs.Common.{◌≡◌, ℕ, Bool, true, false, cond, List, [], ◌∷◌, ◌++◌, Some, None, Option, refl, sym, ap, ◌∙◌}
use Rattle.std.specs.Prelude.{◌||◌, ℤ, is_some, if◌then◌else◌}
use Rattle.std.specs.BTreeSet.{contains}
use Rattle.std.specs.Cmp.Lexicographic.{nat_list_cmp_total}
use Rattle.std.specs.FinMap.{get, get-insert}
use Rattle.std.specs.List.{list_any}
use Rattle.std.specs.Ordering.{int_cmp}
use Rattle.std.proofs.lemmas.Bool.{or_right}
use Rattle.std.proofs.lemmas.Map.Text.{is_eq-slice_cmp}
use Rattle.asm_words.specs.NamePlaces.{NamePlaces}
use Rattle.asm_read.specs.declared.statements.Line.{Line}
use Rattle.asm_places.specs.declared.seen.Seen.{Seen}
use Rattle.asm_places.specs.Names.{names_with_label}
use Rattle.asm_places.specs.Seen.{IsSeen, enters, is_label, sets_heap}
use Rattle.asm_places.specs.Sizes.{harts_in, ram_in, version_in}
use Rattle.asm_places.proofs.BooleanLemmas.{any_more, or_false}

-- a label stands for its place, and the other names as before
pub get-labelled : (names : NamePlaces) (label : Option (List ℕ)) (place : ℕ) (name : List ℕ)
    → get (names_with_label names label place) name ≡ (if is_label name label then Some place else get names name)
get-labelled names None place name = refl
get-labelled names (Some label) place name =
    get-insert nat_list_cmp_total names label place name ∙ ap (λ b. cond b (Some place) (get names name)) (is_eq-slice_cmp name label)

some_cond : (t : Bool) (place : ℕ) (was : Option ℕ) → is_some (cond t (Some place) was) ≡ (is_some was || t)
some_cond true place was = sym (or_right (is_some was) true refl)
some_cond false place was = sym (or_false (is_some was))

has-labelled : (names : NamePlaces) (label : Option (List ℕ)) (place : ℕ) (name : List ℕ)
    → is_some (get (names_with_label names label place) name) ≡ (is_some (get names name) || is_label name label)
has-labelled names label place name = ap is_some (get-labelled names label place name) ∙ some_cond (is_label name label) place (get names name)

more : (test : Line → Bool) (was noted : Bool) (before : List Line) (line : Line) → noted ≡ (was || test line) → was ≡ list_any test before → noted ≡ list_any test (before ++ line ∷ [])
more test was noted before line notes so_far = notes ∙ ap (λ b. b || test line) so_far ∙ sym (any_more test before line)

-- a line is noted
pub noted : (old new : Seen) (before : List Line) (line : Line)
    → new.names ≡ names_with_label old.names line.label 0
    → new.version ≡ (old.version || is_some (version_in line.statement))
    → new.harts ≡ (old.harts || is_some (harts_in line.statement))
    → new.ram ≡ (old.ram || is_some (ram_in line.statement))
    → new.heap ≡ (old.heap || sets_heap line.statement)
    → ((hart : ℤ) → contains int_cmp new.entries hart ≡ (contains int_cmp old.entries hart || enters hart line.statement))
    → IsSeen old before → IsSeen new (before ++ line ∷ [])
noted old new before line names version harts ram heap entries seen = record {
  version = more (λ l. is_some (version_in l.statement)) old.version new.version before line version seen.version;
  harts = more (λ l. is_some (harts_in l.statement)) old.harts new.harts before line harts seen.harts;
  ram = more (λ l. is_some (ram_in l.statement)) old.ram new.ram before line ram seen.ram;
  heap = more (λ l. sets_heap l.statement) old.heap new.heap before line heap seen.heap;
  entries = λ hart. more (λ l. enters hart l.statement) (contains int_cmp old.entries hart) (contains int_cmp new.entries hart) before line (entries hart) (seen.entries hart);
  names = λ name. more (λ l. is_label name l.label) (is_some (get old.names name)) (is_some (get new.names name)) before line (ap (λ m. is_some (get m name)) names ∙ has-labelled old.names line.label 0 name) (seen.names name);
}
