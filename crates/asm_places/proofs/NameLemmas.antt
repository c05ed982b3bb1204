-- The names of lines, from the last line to the first.
use Rattle.std.proofs.Common.{◌≡◌, ℕ, ◌+◌, ◌<◌, List, ◌∷◌, length, get_or, drop, Some, cond, sym, ap, ◌∙◌, arith}
use Rattle.std.specs.Prelude.{if◌then◌else◌}
use Rattle.std.specs.Cmp.Lexicographic.{slice_cmp}
use Rattle.std.specs.Ordering.{nat_cmp}
use Rattle.std.specs.FinMap.{empty, get, get-empty}
use Rattle.std.proofs.lemmas.List.{at_drop_all, drop_more}
use Rattle.asm_words.specs.NamePlaces.{NamePlaces}
use Rattle.asm_read.specs.declared.statements.Line.{Line}
use Rattle.asm_places.specs.Names.{is_emitting, names_with_label, next_word, place_of_name}
use Rattle.asm_places.specs.Seen.{is_label}
use Rattle.asm_places.proofs.SeenLemmas.{get-labelled}

-- the line in front of those that are done, with its place
here : (lines : List Line) (places : List ℕ) (left i : ℕ) (line : Line) (place : ℕ) → left ≡ i + 1 → i < length lines → length places ≡ length lines → line ≡ get_or lines i line → place ≡ get_or places i place
    → (drop i lines ≡ line ∷ drop left lines) × (drop i places ≡ place ∷ drop left places)
here lines places left i line place one below same is place_is = (
  drop_more lines i line below ∙ ap (λ (l : Line). l ∷ drop (i + 1) lines) (sym is) ∙ ap (λ k. line ∷ drop k lines) (sym one),
  drop_more places i place (omega arith) ∙ ap (λ (p : ℕ). p ∷ drop (i + 1) places) (sym place_is) ∙ ap (λ k. place ∷ drop k places) (sym one),
)

-- the next word from the line on
pub next_more : (lines : List Line) (places : List ℕ) (end left i : ℕ) (line : Line) (place behind : ℕ) → left ≡ i + 1 → i < length lines → length places ≡ length lines → line ≡ get_or lines i line → place ≡ get_or places i place
    → behind ≡ next_word (drop left lines) (drop left places) end
    → (if is_emitting line.statement then place else behind) ≡ next_word (drop i lines) (drop i places) end
next_more lines places end left i line place behind one below same is place_is so_far =
    let at = here lines places left i line place one below same is place_is in
    rw (at.0, at.1) (ap (λ b. cond (is_emitting line.statement) (place) b) so_far)

-- the names from the line on
pub names_more : (lines : List Line) (places : List ℕ) (end left i : ℕ) (line : Line) (place next : ℕ) (names : NamePlaces) → left ≡ i + 1 → i < length lines → length places ≡ length lines → line ≡ get_or lines i line → place ≡ get_or places i place
    → next ≡ next_word (drop i lines) (drop i places) end
    → ((name : List ℕ) → get names name ≡ place_of_name (drop left lines) (drop left places) end name)
    → (name : List ℕ) → get (names_with_label names line.label next) name ≡ place_of_name (drop i lines) (drop i places) end name
names_more lines places end left i line place next names one below same is place_is word so_far name =
    let at = here lines places left i line place one below same is place_is in
    let word_here : next ≡ next_word (line ∷ drop left lines) (place ∷ drop left places) end = word ∙ ap (λ (ls : List Line). next_word ls (drop i places) end) at.0 ∙ ap (λ (ps : List ℕ). next_word (line ∷ drop left lines) ps end) at.1 in
    get-labelled names line.label next name
    ∙ ap (λ n. cond (is_label name line.label) (Some n) (get names name)) word_here
    ∙ ap (λ o. cond (is_label name line.label) (Some (next_word (line ∷ drop left lines) (place ∷ drop left places) end)) o) (so_far name)
    ∙ sym (ap (λ (ls : List Line). place_of_name ls (drop i places) end name) at.0 ∙ ap (λ (ps : List ℕ). place_of_name (line ∷ drop left lines) ps end name) at.1)

-- no line is done yet
pub no_word : (lines : List Line) (places : List ℕ) (end : ℕ) → end ≡ next_word (drop (length lines) lines) (drop (length lines) places) end
no_word lines places end = sym (at_drop_all (λ ls. next_word ls (drop (length lines) places) end) lines (length lines) (omega arith))

pub no_name : (lines : List Line) (places : List ℕ) (end : ℕ) (name : List ℕ) → get (empty {X = ℕ} {R = slice_cmp nat_cmp}) name ≡ place_of_name (drop (length lines) lines) (drop (length lines) places) end name
no_name lines places end name = get-empty (slice_cmp nat_cmp) name ∙ sym (at_drop_all (λ ls. place_of_name ls (drop (length lines) places) end name) lines (length lines) (omega arith))
