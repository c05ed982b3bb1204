-- What is due of `dis`: each line of the listing assembles back to its word, since an image's words and addresses have 32 bits.
use Rattle.std.proofs.Common.{◌≡◌, ℕ, suc, ◌+◌, ◌*◌, ◌^◌, ◌<◌, ◌≤◌, true, ◌&&◌, List, [], ◌∷◌, ◌++◌, length, Option, Some, None, Result, Ok, refl, ap, ◌∙◌, arith}
use Rattle.std.proofs.lemmas.Bool.{leb-true}
use Rattle.std.proofs.lemmas.Bool.Decides.{nat_tests}
use Rattle.std.specs.List.{list_all}
use Rattle.host_io.specs.Bytes.{AreBytes}
use Rattle.host_io.specs.Pieces.{Piece, out}
use Rattle.image_format.proofs.FieldLemmas.{both}
use Rattle.image_format.proofs.FileLemmas.{ram_small}
use Rattle.image_format.specs.Conditions.{IsImage, are_rows, extent_of, in_order, is_clear_of, is_range, is_segment, is_u32}
use Rattle.image_format.specs.Picture.{Picture, Segment}
use Rattle.image_format.specs.declared.rows.WordRange.{WordRange}
use Rattle.rv_decode.proofs.TableLemmas.{decoded_is_row}
use Rattle.rv_decode.specs.Decoding.{instr_of_word}
use Rattle.asm_words.proofs.EncodingLemmas.{table_encoded}
use Rattle.asm_show.specs.Instructions.{text_at}
use Rattle.asm_show.specs.Listing.{listing_line}
use Rattle.asm_laws.proofs.RowLemmas.{reassembles}
use Rattle.image_listing.specs.Listing.{listing, segments_listed, words_listed}
use Rattle.pump_line.specs.Request.{DisassembleTask}
use Rattle.pump_line.specs.Task.{Task, disassemble, task_of}
use Rattle.pump_cli.specs.ListedBack.{AreLinesOf, IsLineOf, ListsBack, PlacedWord, words_from, words_in}
use Rattle.pump_cli.specs.Program.{outcome_of_content, outcome_of_image, outcome_of_listing, outcome_of_words, program}
use Rattle.pump_cli.specs.Reading.{image_read}
use Rattle.pump_cli.specs.declared.refusal.Refusal.{Refusal}
use Rattle.pump_cli.proofs.EachRunLemmas.{file_is_image}

-- ---- the words of a segment

word_small : (word : ℕ) → is_u32 word ≡ true → word < 2 ^ 32
word_small word test = grind (arith, nat_tests)

word_line : (address word : ℕ) → address < 2 ^ 32 → word < 2 ^ 32 → IsLineOf (record { address = address; word = word }) (out (listing_line address word))
unfolding listing_line
word_line address word address_fits word_fits = record {
  text = text_at address word (instr_of_word word);
  shows = refl;
  assembles = λ number. reassembles decoded_is_row table_encoded number address word address_fits word_fits;
}

lines_from : (address : ℕ) (words : List ℕ) → address + 4 * length words < 2 ^ 32 → list_all is_u32 words ≡ true
    → AreLinesOf (words_from address words) (words_listed address words)
unfolding words_listed
lines_from address [] inside fit = tt
lines_from address (word ∷ words) inside fit =
    let fits = both (is_u32 word) (list_all is_u32 words) fit in
    let here : address + 4 * suc (length words) < 2 ^ 32 = inside in
    (word_line address word (omega (arith, here)) (word_small word fits.0), lines_from (address + 4) words (omega (arith, here)) fits.1)

below_ram : (bytes ram : ℕ) → bytes ≤ ram → ram < 2 ^ 32 → bytes < 2 ^ 32
below_ram bytes ram inside small = omega (arith, inside, small)

segment_lines : (ram : ℕ) (segment : Segment) → ram < 2 ^ 32 → is_segment ram segment ≡ true
    → AreLinesOf (words_from segment.address segment.words) (words_listed segment.address segment.words)
segment_lines ram segment small fits =
    let parts = both (is_range ram (extent_of segment)) (list_all is_u32 segment.words) fits in
    let range = both _ _ parts.0 in
    let count = both _ _ range.1 in
    lines_from segment.address segment.words (below_ram (segment.address + 4 * length segment.words) ram (leb-true _ _ count.1) small) parts.1

-- ---- the segments of an image

lines_beside : (words others : List PlacedWord) (pieces more : List Piece) → AreLinesOf words pieces → AreLinesOf others more
    → AreLinesOf (words ++ others) (pieces ++ more)
lines_beside [] others [] more none are = are
lines_beside [] others (piece ∷ pieces) more none are = absurd none
lines_beside (placed ∷ words) others [] more none are = absurd none
lines_beside (placed ∷ words) others (piece ∷ pieces) more lines are = (lines.0, lines_beside words others pieces more lines.1 are)

segments_lines : (ram : ℕ) → ram < 2 ^ 32 → (before : Option WordRange) (segments : List Segment)
    → are_rows extent_of (is_segment ram) is_clear_of before segments ≡ true
    → AreLinesOf (words_in segments) (segments_listed segments)
unfolding segments_listed
segments_lines ram small before [] rows = tt
segments_lines ram small before (segment ∷ segments) rows =
    let parts = both (is_segment ram segment && in_order is_clear_of before (extent_of segment))
    (are_rows extent_of (is_segment ram) is_clear_of (Some (extent_of segment)) segments) rows in
    let fits = both (is_segment ram segment) (in_order is_clear_of before (extent_of segment)) parts.0 in
    lines_beside (words_from segment.address segment.words) (words_in segments) (words_listed segment.address segment.words) (segments_listed segments)
    (segment_lines ram segment small fits.0) (segments_lines ram small (Some (extent_of segment)) segments parts.1)

picture_lines : (picture : Picture) → IsImage picture → AreLinesOf (words_in picture.segments) (listing picture)
picture_lines picture is = segments_lines picture.ram (ram_small picture.ram is.ram) None picture.segments is.segments.rows

-- ---- what is due

pub listed_back : (words : List (List ℕ)) (task : DisassembleTask) (picture : Picture) (bytes : List ℕ)
    (held : List ℕ → Option (List ℕ)) (input : Option (List ℕ))
    → AreBytes bytes → task_of words ≡ Some (disassemble task) → held task.image ≡ Some bytes → image_read bytes ≡ Ok picture
    → ListsBack picture (program words held input)
unfolding program outcome_of_listing
listed_back words task picture bytes held input are_bytes asks told read = record {
  outcome = outcome_of_listing picture;
  is_due =
      ap (λ (asked : Option Task). outcome_of_words asked held input) asks
      ∙ ap (λ (content : Option (List ℕ)). outcome_of_content (disassemble task) content input) told
      ∙ ap (λ (image : Result Picture Refusal). outcome_of_image (disassemble task) bytes image input) read;
  lines = picture_lines picture (file_is_image bytes picture are_bytes read);
  done = refl;
}
