-- Words and segments, one after another.
use Rattle.std.proofs.Common.{◌≡◌, ℕ, ◌+◌, ◌<◌, List, [], ◌∷◌, ◌++◌, length, drop, slice_index_or, refl, ap}
use Rattle.std.proofs.lemmas.List.{drop_more}
use Rattle.host_io.specs.Pieces.{out}
use Rattle.image_format.specs.Picture.{Segment}
use Rattle.asm_show.specs.Listing.{listing_line}
use Rattle.image_listing.specs.Listing.{segments_listed, words_listed}

-- the next word, and those behind it
pub next_word : (address : ℕ) (words : List ℕ) (i : ℕ) → i < length words
    → words_listed address (drop i words) ≡ (out (listing_line address (slice_index_or words i 0)) ∷ []) ++ words_listed (address + 4) (drop (i + 1) words)
unfolding words_listed
next_word address words i below = ap (words_listed address) (drop_more words i 0 below)

-- no word is left
pub no_word : (address : ℕ) (words : List ℕ) → words_listed address (drop (length words) words) ≡ []
unfolding words_listed
no_word address [] = refl
no_word address (word ∷ words) = no_word address words

-- the next segment, and those behind it
pub next_segment : (segments : List Segment) (i : ℕ) (none : Segment) → i < length segments
    → segments_listed (drop i segments)
    ≡ words_listed (slice_index_or segments i none).address (slice_index_or segments i none).words ++ segments_listed (drop (i + 1) segments)
unfolding segments_listed
next_segment segments i none below = ap segments_listed (drop_more segments i none below)

pub no_segment_left : (segments : List Segment) → segments_listed (drop (length segments) segments) ≡ []
unfolding segments_listed
no_segment_left [] = refl
no_segment_left (segment ∷ segments) = no_segment_left segments
