-- The listing of an image: a piece for each word of its segments, in their order.
use Rattle.std.specs.Prelude.{ℕ, ◌+◌, List, [], ◌∷◌, ◌++◌}
use Rattle.host_io.specs.Pieces.{Piece, out}
use Rattle.image_format.specs.Picture.{Picture, Segment}
use Rattle.asm_show.specs.Listing.{listing_line}

-- the lines of the words from an address on
unfoldable pub words_listed : ℕ → List ℕ → List Piece
words_listed address [] = []
words_listed address (word ∷ words) = out (listing_line address word) ∷ words_listed (address + 4) words

unfoldable pub segments_listed : List Segment → List Piece
segments_listed [] = []
segments_listed (segment ∷ segments) = words_listed segment.address segment.words ++ segments_listed segments

abbrev pub listing : Picture → List Piece
listing picture = segments_listed picture.segments
