-- Words that come in order: each one came before, or is the next.
use Rattle.std.specs.Prelude.{ℕ, ◌+◌, ◌≤◌, List, [], ◌∷◌, if◌then◌else◌, nat_lt}

-- how many words have come once one more comes
abbrev pub next : ℕ → ℕ → ℕ
next count word = if nat_lt word count then count else word + 1

-- how many have come once all of these come
abbrev pub counted : ℕ → List ℕ → ℕ
counted count [] = count
counted count (word ∷ words) = counted (next count word) words

-- each word came before, or is the next
abbrev pub ComeInOrder : ℕ → List ℕ → Type 0
ComeInOrder count [] = Unit {0}
ComeInOrder count (word ∷ words) = (word ≤ count) × ComeInOrder (next count word) words
