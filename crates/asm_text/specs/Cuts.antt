-- Where a text is cut, and what is dropped at its ends.
use Rattle.std.specs.Prelude.{ℕ, ◌==◌, List, [], ◌∷◌, reverse, Option, Some, None, if◌then◌else◌}
use Rattle.asm_text.specs.Bytes.{is_blank}

-- what stands before the first such byte; all where there is none
abbrev pub before : ℕ → List ℕ → List ℕ
before byte [] = []
before byte (here ∷ more) = if here == byte then [] else here ∷ before byte more

-- what stands behind the first such byte, if there is one
abbrev pub after : ℕ → List ℕ → Option (List ℕ)
after byte [] = None
after byte (here ∷ more) = if here == byte then Some more else after byte more

-- the text up to its first blank
abbrev pub first_word : List ℕ → List ℕ
first_word [] = []
first_word (byte ∷ more) = if is_blank byte then [] else byte ∷ first_word more

-- the text from its first blank on
abbrev pub after_word : List ℕ → List ℕ
after_word [] = []
after_word (byte ∷ more) = if is_blank byte then byte ∷ more else after_word more

-- without the blanks in front
abbrev pub without_front : List ℕ → List ℕ
without_front [] = []
without_front (byte ∷ more) = if is_blank byte then without_front more else byte ∷ more

-- without the blanks at the end
abbrev pub without_end : List ℕ → List ℕ
without_end text = reverse (without_front (reverse text))

-- without the blanks at both ends
abbrev pub without_blanks : List ℕ → List ℕ
without_blanks text = without_end (without_front text)
