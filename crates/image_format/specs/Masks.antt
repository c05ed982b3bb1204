-- A set of compartments as it is kept.
use Rattle.std.specs.Prelude.{◌≡◌, ℕ, ◌<◌, List, length, slice_index_or}

-- the bytes of a number that has sixteen
pub record AreSixteenBytes (bytes : List ℕ) : Type 0 where
  pub count : length bytes ≡ 16
  pub below : (i : ℕ) → slice_index_or bytes i 0 < 256
