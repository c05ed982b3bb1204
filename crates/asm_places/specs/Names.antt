-- The places that names stand for.
use Rattle.std.specs.Prelude.{ℕ, Bool, false, nat_lt, List, [], ◌∷◌, Option, Some, None, if◌then◌else◌}
use Rattle.std.specs.FinMap as map
use Rattle.asm_words.specs.NamePlaces.{NamePlaces}
use Rattle.asm_read.specs.declared.statements.Line.{Line}
use Rattle.asm_read.specs.declared.statements.Statement.{Statement}
use Rattle.asm_places.specs.Counts.{count_in}
use Rattle.asm_places.specs.Seen.{is_label}

-- at least one word
abbrev pub is_some_words : Option ℕ → Bool
is_some_words None = false
is_some_words (Some words) = nat_lt 0 words

-- a line with this statement emits at least one word; one without a statement emits none
abbrev pub is_emitting : Option Statement → Bool
is_emitting statement = is_some_words (count_in statement)

-- the place of the next emitted word, or the end where none follows; the lines stand beside their places
abbrev pub next_word : List Line → List ℕ → ℕ → ℕ
next_word [] places end = end
next_word (line ∷ lines) [] end = end
next_word (line ∷ lines) (place ∷ places) end = if is_emitting line.statement then place else next_word lines places end

-- a name stands for the place of the next word emitted at its line or behind it, also where an `.org` comes between
abbrev pub place_of_name : List Line → List ℕ → ℕ → List ℕ → Option ℕ
place_of_name [] places end name = None
place_of_name (line ∷ lines) [] end name = None
place_of_name (line ∷ lines) (place ∷ places) end name = if is_label name line.label then Some (next_word (line ∷ lines) (place ∷ places) end) else place_of_name lines places end name

-- the names, with the label's place instead of what it had
abbrev pub names_with_label : NamePlaces → Option (List ℕ) → ℕ → NamePlaces
names_with_label names None place = names
names_with_label names (Some name) place = map.insert names name place
