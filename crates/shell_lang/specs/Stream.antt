-- A stream of bytes as lines: each newline ends one, and the last line may lack its own.
use Rattle.std.specs.Prelude.{ℕ, ◌==◌, nat_lt, Bool, List, [], ◌∷◌, ◌++◌, length, Option, Some, None, if◌then◌else◌}
use Rattle.std.specs.List.{slice_split}
use Rattle.shell_lang.specs.Grammar.{Answer, line_answer, most_bytes}
use Rattle.shell_lang.specs.Words.{Text}

abbrev pub is_newline : ℕ → Bool
is_newline byte = byte == 10

-- ---- the lines of a stream

abbrev pub all_but_last : List Text → List Text
all_but_last [] = []
all_but_last (line ∷ []) = []
all_but_last (line ∷ next ∷ more) = line ∷ all_but_last (next ∷ more)

-- the last line, empty where there is none
abbrev pub last_of : List Text → Text
last_of [] = []
last_of (line ∷ []) = line
last_of (line ∷ next ∷ more) = last_of (next ∷ more)

-- the lines that a newline ends
abbrev pub ended_lines : List ℕ → List Text
ended_lines bytes = all_but_last (slice_split is_newline bytes)

-- what stands behind the last newline
abbrev pub open_line : List ℕ → Text
open_line bytes = last_of (slice_split is_newline bytes)

-- ---- the reader, over what it keeps of the line begun: its first bytes, up to one more than a line may have

-- what is kept of a line when a byte comes that is no newline
abbrev pub longer_by : Text → ℕ → Text
longer_by line byte = if nat_lt most_bytes (length line) then line else line ++ byte ∷ []

-- what is kept after a byte
unfoldable pub line_after : Text → ℕ → Text
line_after line byte = if is_newline byte then [] else longer_by line byte

-- a newline is answered as its line is
unfoldable pub byte_answer : Text → ℕ → Option Answer
byte_answer line byte = if is_newline byte then Some (line_answer line) else None

-- the end of the stream is answered where a line was begun
unfoldable pub end_answer : Text → Option Answer
end_answer [] = None
end_answer (byte ∷ more) = Some (line_answer (byte ∷ more))

-- ---- the reader along the bytes of a stream

-- what is kept after them
unfoldable pub line_along : Text → List ℕ → Text
line_along line [] = line
line_along line (byte ∷ more) = line_along (line_after line byte) more

-- an answer, if there is one, and then the others
abbrev pub onto_answers : Option Answer → List Answer → List Answer
onto_answers None answers = answers
onto_answers (Some answer) answers = answer ∷ answers

-- the answers in their order
unfoldable pub answers_along : Text → List ℕ → List Answer
answers_along line [] = []
answers_along line (byte ∷ more) = onto_answers (byte_answer line byte) (answers_along (line_after line byte) more)
