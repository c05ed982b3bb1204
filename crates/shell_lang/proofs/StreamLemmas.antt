-- The reader of lines along a stream: what it keeps of a line tells the line's answer.
use Rattle.std.proofs.Common.{◌≡◌, ◌≤◌, ◌∙◌, ℕ, Bool, true, false, List, [], ◌∷◌, ◌++◌, length, map, take, append-nil, append_assoc, refl, ap, arith}
use Rattle.std.specs.Prelude.{Option, Some, None, nat_lt}
use Rattle.std.specs.List.{slice_split, onto_first}
use Rattle.std.proofs.lemmas.Bool.Decides.{nat_tests}
use Rattle.std.proofs.lemmas.List.{length-append, length-take-le, take_all, take-append-le}
use Rattle.shell_lang.specs.Grammar.{Answer, line_answer, most_bytes}
use Rattle.shell_lang.specs.Stream.{all_but_last, answers_along, byte_answer, end_answer, ended_lines, is_newline, last_of, line_after, line_along, longer_by, onto_answers, open_line}
use Rattle.shell_lang.specs.Words.{Text}

-- what the reader keeps of a line
abbrev kept : Text → Text
kept line = take 257 line

-- a line that is kept whole
whole : (line : Text) → length line ≤ 257 → kept line ≡ line
whole line short = take_all 257 line short

cut_length : (line : Text) → 257 ≤ length line → length (kept line) ≡ 257
cut_length line long = length-take-le 257 line long

-- a line is answered as what is kept of it
pub kept_answer : (line : Text) → line_answer (kept line) ≡ line_answer line
unfolding line_answer
kept_answer line = go (nat_lt most_bytes (length line)) refl
  where
    go : (t : Bool) → nat_lt most_bytes (length line) ≡ t → line_answer (kept line) ≡ line_answer line
    go true e = rw (e, cut_length line (grind (arith, nat_tests, e))) refl
    go false e = rw (whole line (grind (arith, nat_tests, e))) refl

-- a byte more
pub kept_longer : (line : Text) (byte : ℕ) → longer_by (kept line) byte ≡ kept (line ++ byte ∷ [])
kept_longer line byte = go (nat_lt most_bytes (length line)) refl
  where
    go : (t : Bool) → nat_lt most_bytes (length line) ≡ t → longer_by (kept line) byte ≡ kept (line ++ byte ∷ [])
    go true e =
        let long : 257 ≤ length line = grind (arith, nat_tests, e) in
        rw (cut_length line long, take-append-le 257 line (byte ∷ []) long) refl
    go false e =
        let short : length line ≤ 256 = grind (arith, nat_tests, e) in
        let more : length (line ++ byte ∷ []) ≤ 257 = omega (arith, length-append line (byte ∷ [])) in
        rw (whole line (omega arith), e, whole (line ++ byte ∷ []) more) refl

-- the lines of a stream, the first of which was begun before: there is always one
abbrev begun_by : Text → List Text → List Text
begun_by line [] = line ∷ []
begun_by line (part ∷ parts) = (line ++ part) ∷ parts

record Parts (bytes : List ℕ) : Type 0 where
  first : Text
  more : List Text
  are : slice_split is_newline bytes ≡ first ∷ more

parts_of : (bytes : List ℕ) → Parts bytes
parts_of [] = record { first = []; more = []; are = refl }
parts_of (byte ∷ bytes) = go (is_newline byte) refl (parts_of bytes)
  where
    go : (t : Bool) → is_newline byte ≡ t → Parts bytes → Parts (byte ∷ bytes)
    go true e parts = record { first = []; more = slice_split is_newline bytes; are = rw e refl }
    go false e parts = record { first = byte ∷ parts.first; more = parts.more; are = rw (e, parts.are) refl }

begun_empty : (bytes : List ℕ) → begun_by [] (slice_split is_newline bytes) ≡ slice_split is_newline bytes
begun_empty bytes = let parts = parts_of bytes in rw parts.are refl

begun_longer : (line : Text) (byte : ℕ) (bytes : List ℕ)
    → begun_by (line ++ byte ∷ []) (slice_split is_newline bytes) ≡ begun_by line (onto_first byte (slice_split is_newline bytes))
begun_longer line byte bytes =
    let parts = parts_of bytes in
    rw (parts.are, append_assoc line (byte ∷ []) parts.first) refl

-- the answers along a stream of which a line was begun before
answers_begun : (line : Text) (bytes : List ℕ)
    → answers_along (kept line) bytes ≡ map line_answer (all_but_last (begun_by line (slice_split is_newline bytes)))
unfolding answers_along byte_answer line_after
answers_begun line [] = refl
answers_begun line (byte ∷ bytes) = go (is_newline byte) refl (answers_begun [] bytes) (answers_begun (line ++ byte ∷ []) bytes)
  where
    go : (t : Bool) → is_newline byte ≡ t
        → answers_along (kept []) bytes ≡ map line_answer (all_but_last (begun_by [] (slice_split is_newline bytes)))
        → answers_along (kept (line ++ byte ∷ [])) bytes ≡ map line_answer (all_but_last (begun_by (line ++ byte ∷ []) (slice_split is_newline bytes)))
        → answers_along (kept line) (byte ∷ bytes) ≡ map line_answer (all_but_last (begun_by line (slice_split is_newline (byte ∷ bytes))))
    go true e next longer =
        let parts = parts_of bytes in
        rw (e, parts.are, append-nil line, kept_answer line) (ap (λ answers. line_answer line ∷ answers) (rw parts.are at next))
    go false e next longer = rw (e, kept_longer line byte, ← begun_longer line byte bytes) longer

-- what is kept along a stream of which a line was begun before
kept_begun : (line : Text) (bytes : List ℕ) → line_along (kept line) bytes ≡ kept (last_of (begun_by line (slice_split is_newline bytes)))
unfolding line_along line_after
kept_begun line [] = rw (append-nil line) refl
kept_begun line (byte ∷ bytes) = go (is_newline byte) refl (kept_begun [] bytes) (kept_begun (line ++ byte ∷ []) bytes)
  where
    go : (t : Bool) → is_newline byte ≡ t
        → line_along (kept []) bytes ≡ kept (last_of (begun_by [] (slice_split is_newline bytes)))
        → line_along (kept (line ++ byte ∷ [])) bytes ≡ kept (last_of (begun_by (line ++ byte ∷ []) (slice_split is_newline bytes)))
        → line_along (kept line) (byte ∷ bytes) ≡ kept (last_of (begun_by line (slice_split is_newline (byte ∷ bytes))))
    go true e next longer =
        let parts = parts_of bytes in
        rw (e, parts.are) (rw parts.are at next)
    go false e next longer = rw (e, kept_longer line byte, ← begun_longer line byte bytes) longer

-- the end of the stream is answered as what is kept of the line begun
kept_end : (line : Text) → end_answer (kept line) ≡ end_answer line
unfolding end_answer
kept_end [] = refl
kept_end (byte ∷ line) = ap Some (kept_answer (byte ∷ line))

pub answers_of : (bytes : List ℕ) → answers_along [] bytes ≡ map line_answer (ended_lines bytes)
answers_of bytes = answers_begun [] bytes ∙ ap (λ lines. map line_answer (all_but_last lines)) (begun_empty bytes)

pub rest_of : (bytes : List ℕ) → end_answer (line_along [] bytes) ≡ end_answer (open_line bytes)
rest_of bytes =
    ap end_answer (kept_begun [] bytes) ∙ kept_end (last_of (begun_by [] (slice_split is_newline bytes)))
    ∙ ap (λ lines. end_answer (last_of lines)) (begun_empty bytes)

-- a stream in two pieces is read as a whole
pub line_in_pieces : (line : Text) (prefix back : List ℕ) → line_along line (prefix ++ back) ≡ line_along (line_along line prefix) back
unfolding line_along
line_in_pieces line [] back = refl
line_in_pieces line (byte ∷ prefix) back = line_in_pieces (line_after line byte) prefix back

onto_append : (answer : Option Answer) (prefix back : List Answer) → onto_answers answer (prefix ++ back) ≡ onto_answers answer prefix ++ back
onto_append None prefix back = refl
onto_append (Some answer) prefix back = refl

pub answers_in_pieces : (line : Text) (prefix back : List ℕ)
    → answers_along line (prefix ++ back) ≡ answers_along line prefix ++ answers_along (line_along line prefix) back
unfolding answers_along line_along
answers_in_pieces line [] back = refl
answers_in_pieces line (byte ∷ prefix) back =
    let rest = answers_in_pieces (line_after line byte) prefix back in
    rw rest (onto_append (byte_answer line byte) (answers_along (line_after line byte) prefix) (answers_along (line_along (line_after line byte) prefix) back))
