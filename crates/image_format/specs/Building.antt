-- Segments that are built word by word.
use Rattle.std.specs.Prelude.{ℕ, ◌+◌, ◌*◌, List, [], ◌∷◌, ◌++◌, length, ◌==◌, if◌then◌else◌}
use Rattle.image_format.specs.Picture.{Segment}

-- where the words of a segment end
abbrev pub end_of : Segment → ℕ
end_of segment = segment.address + 4 * length segment.words

-- a segment of one word
abbrev pub one_word : ℕ → ℕ → Segment
one_word address word = record { address = address; words = word ∷ [] }

-- a segment with one word more
abbrev pub longer : Segment → ℕ → Segment
longer segment word = record { address = segment.address; words = segment.words ++ word ∷ [] }

-- a segment and a word at an address: one segment where the first ends there, and two elsewhere
abbrev pub with_next : Segment → ℕ → ℕ → List Segment
with_next segment address word =
    if end_of segment == address then longer segment word ∷ [] else segment ∷ one_word address word ∷ []

-- segments, and a word at an address behind the last of them
abbrev pub with_word : List Segment → ℕ → ℕ → List Segment
with_word [] address word = one_word address word ∷ []
with_word (segment ∷ []) address word = with_next segment address word
with_word (segment ∷ next ∷ segments) address word = segment ∷ with_word (next ∷ segments) address word
