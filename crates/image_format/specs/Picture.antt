-- What an image says: the value of an `Image` in contracts.
use Rattle.std.specs.Prelude.{ℕ, List, [], slice_index_or}
use Rattle.image_format.specs.declared.version.Version.{Version}
use Rattle.image_format.specs.declared.rows.WordRange.{WordRange}
use Rattle.image_format.specs.declared.rows.Label.{Label}
use Rattle.image_format.specs.declared.rows.Edge.{Edge}

-- words that the memory starts with, from an address on
pub record Segment : Type 0 where
  pub address : ℕ
  pub words : List ℕ

-- a row of the fifth list: words, the compartment that owns them, and the sets of those that may jump to them and may write
-- them, a bit for each compartment
pub record CompartmentRow : Type 0 where
  pub range : WordRange
  pub owner : ℕ
  pub into : ℕ
  pub write : ℕ

-- the file's version, sizes in bytes, one entry for each hart, and the five lists
pub record Picture : Type 0 where
  pub version : Version
  pub ram : ℕ
  pub heap_base : ℕ
  pub heap_bytes : ℕ
  pub entries : List ℕ
  pub segments : List Segment
  pub code : List WordRange
  pub labels : List Label
  pub edges : List Edge
  pub compartments : List CompartmentRow

-- no words, at 0
abbrev pub no_segment : Segment
no_segment = record { address = 0; words = [] }

-- the segment at a place of the list
abbrev pub nth_segment : Picture → ℕ → Segment
nth_segment g i = slice_index_or g.segments i no_segment
