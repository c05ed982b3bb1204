-- A line as words with spaces between them.
use Rattle.std.specs.Prelude.{ℕ, ◌==◌, Bool, true, false, not, List, [], ◌∷◌, filter}
use Rattle.std.specs.List.{slice_split}

-- the bytes of a line or of a word
abbrev pub Text : Type 0
Text = List ℕ

abbrev pub is_space : ℕ → Bool
is_space byte = byte == 32

-- a byte that is no space, and so part of a word
abbrev pub is_other : ℕ → Bool
is_other byte = not (is_space byte)

abbrev pub is_nonempty : Text → Bool
is_nonempty [] = false
is_nonempty (byte ∷ more) = true

-- what stands between the spaces, without what is empty
unfoldable pub words_of : Text → List Text
words_of line = filter is_nonempty (slice_split is_space line)
