-- Tests of bytes and lists, and where a text of lines is cut.
use Rattle.std.proofs.Common.{◌≡◌, ℕ, zero, suc, ◌+◌, ◌-◌, true, false, List, [], ◌∷◌, length, refl, ap, ◌∙◌, arith}
use Rattle.std.specs.Prelude.{◌==◌, not, slice_index}
use Rattle.std.specs.List.{All, count_by, list_all, slice_split}
use Rattle.std.specs.Str.Lines.{lines, lines_of_parts, strip_carriage_return}
use Rattle.std.proofs.lemmas.Bool.{and_parts, not-true}
use Rattle.std.proofs.lemmas.List.Splits.{length-slice_split, slice_split_at}
use Rattle.asm_read.specs.Operands.{Text}
use Rattle.workload.specs.Source.{text_of}
use Rattle.workload_laws.proofs.StatementLemmas.{is_line, is_line_byte}

-- ---- lines

no_return : (text : Text) (k : ℕ) → is_line text ≡ true → (slice_index text k == 13) ≡ false
no_return [] k plain = refl
no_return (b ∷ text) zero plain = not-true (b == 13) (and_parts (not (b == 10)) (not (b == 13)) (and_parts (is_line_byte b) (is_line text) plain).0).1
no_return (b ∷ text) (suc k) plain = no_return text k (and_parts (is_line_byte b) (is_line text) plain).1

stripped : (text : Text) → is_line text ≡ true → strip_carriage_return text ≡ text
stripped text plain = rw (no_return text (length text - 1) plain) refl

no_newline : (text : Text) → is_line text ≡ true → All (λ b. (b == 10) ≡ false) text
no_newline [] plain k d below = absurd (omega arith)
no_newline (b ∷ text) plain zero d below = not-true (b == 10) (and_parts (not (b == 10)) (not (b == 13)) (and_parts (is_line_byte b) (is_line text) plain).0).0
no_newline (b ∷ text) plain (suc k) d below = no_newline text (and_parts (is_line_byte b) (is_line text) plain).1 k d (omega arith)

part_before : (part : Text) (parts : List Text) (n : ℕ) → length parts ≡ n + 1 → lines_of_parts (part ∷ parts) ≡ strip_carriage_return part ∷ lines_of_parts parts
part_before part [] n some = absurd (omega arith)
part_before part (next ∷ parts) n some = refl

-- the lines of a text that is made of lines are these
pub lines-text_of : (texts : List Text) → list_all is_line texts ≡ true → lines (text_of texts) ≡ texts
unfolding text_of
lines-text_of [] plain = refl
lines-text_of (text ∷ texts) plain =
    let here : is_line text ≡ true = (and_parts (is_line text) (list_all is_line texts) plain).0 in
    let cut = slice_split_at (λ b. b == 10) text 10 (text_of texts) (no_newline text here) refl in
    ap lines_of_parts cut
    ∙ part_before text (slice_split (λ b. b == 10) (text_of texts)) (count_by (λ b. b == 10) (text_of texts)) (length-slice_split (λ b. b == 10) (text_of texts))
    ∙ ap (λ (t : Text). t ∷ lines (text_of texts)) (stripped text here)
    ∙ ap (λ (ts : List Text). text ∷ ts) (lines-text_of texts (and_parts (is_line text) (list_all is_line texts) plain).1)
