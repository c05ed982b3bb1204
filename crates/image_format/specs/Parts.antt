-- Segments that are kept as one list of words, and where each begins and ends in it.
use Rattle.std.specs.Prelude.{◌≡◌, ℕ, ◌+◌, ◌-◌, ◌<◌, ◌≤◌, List, length, take, drop, slice_index_or, All}
use Rattle.image_format.specs.declared.segments.Extent.{Extent}
use Rattle.image_format.specs.Picture.{Segment}

-- the segment that an extent tells of
abbrev pub part_of : List ℕ → Extent → Segment
part_of contents extent = record { address = extent.address; words = take extent.words (drop extent.first contents) }

-- the extent ends within the words
abbrev pub EndsWithin : List ℕ → Extent → Type 0
EndsWithin contents extent = extent.first + extent.words ≤ length contents

-- where the words of the last extent end
abbrev pub LastEndsAt : ℕ → List Extent → Type 0
LastEndsAt end extents =
    (none : Extent) → 0 < length extents → (slice_index_or extents (length extents - 1) none).first + (slice_index_or extents (length extents - 1) none).words ≡ end

-- each extent ends within the words, and the last one where they end
pub record AreKept (contents : List ℕ) (extents : List Extent) : Type 0 where
  pub within : All (EndsWithin contents) extents
  pub last : LastEndsAt (length contents) extents
