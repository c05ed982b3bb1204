-- What the memory of an image holds, segment by segment.
use Rattle.std.specs.Prelude.{◌≡◌, ℕ, ◌+◌, ◌/◌, ◌<◌, ◌≤◌, ◌⊎◌, length, Some, slice_get, slice_index}
use Rattle.image_format.specs.Picture.{Picture, Segment}
use Rattle.tag_loader.specs.Start.{memory_of}

-- the word of this number is there, and is this one
abbrev pub WordAt : Picture → ℕ → ℕ → Type 0
WordAt g n word = slice_get (memory_of g) n ≡ Some word

-- each word of the segment stands where the segment's address says
abbrev pub HoldsWords : Picture → Segment → Type 0
HoldsWords g segment = (k : ℕ) → k < length segment.words → WordAt g (segment.address / 4 + k) (slice_index segment.words k)

-- the word of this number comes before all words of the segment, or behind them
abbrev pub LiesOutside : ℕ → Segment → Type 0
LiesOutside n segment = (n < segment.address / 4) ⊎ (segment.address / 4 + length segment.words ≤ n)
