-- The lines of a source, taken off it one after another, up to its first error.
use Rattle.std.proofs.Common.{◌≡◌, ◌+◌, ◌<◌, ◌∙◌, ℕ, Bool, true, false, List, [], ◌∷◌, ◌++◌, length, refl, sym, ap, append_assoc, arith}
use Rattle.std.specs.Prelude.{◌==◌, Some, None, Result, Ok, Err}
use Rattle.std.specs.List.{slice_split}
use Rattle.std.specs.Str.Lines.{lines, strip_carriage_return}
use Rattle.std.proofs.lemmas.Bool.Decides.{nat_tests}
use Rattle.std.proofs.lemmas.List.{append-nil}
use Rattle.asm_text.specs.Cuts.{after, before}
use Rattle.asm_read.specs.declared.errors.AsmError.{AsmError}
use Rattle.asm_read.specs.declared.statements.Line.{Line}
use Rattle.asm_read.specs.Lines.{line_of}
use Rattle.asm_read.specs.Operands.{Text}
use Rattle.asm_read.specs.Source.{at_line, lines_of, line_if_said, source_of}
use Rattle.shared_terms.specs.Steps.{◌>>=◌}

-- ---- one line

abbrev is_newline : ℕ → Bool
is_newline byte = byte == 10

-- with no newline there is one part
split-last : (text : Text) → after 10 text ≡ None → slice_split is_newline text ≡ before 10 text ∷ []
split-last [] none = refl
split-last (b ∷ text) none = go (b == 10) refl (split-last text) none
  where
    go : (t : Bool) → (b == 10) ≡ t → (after 10 text ≡ None → slice_split is_newline text ≡ before 10 text ∷ [])
        → after 10 (b ∷ text) ≡ None → slice_split is_newline (b ∷ text) ≡ before 10 (b ∷ text) ∷ []
    go true e more none = let found : Some text ≡ None = rw e at none in cc
    go false e more none = let behind : after 10 text ≡ None = rw e at none in rw (e, more behind) refl

-- a newline ends the first part
split-more : (text rest : Text) → after 10 text ≡ Some rest → slice_split is_newline text ≡ before 10 text ∷ slice_split is_newline rest
split-more [] rest found = cc
split-more (b ∷ text) rest found = go (b == 10) refl (split-more text rest) found
  where
    go : (t : Bool) → (b == 10) ≡ t → (after 10 text ≡ Some rest → slice_split is_newline text ≡ before 10 text ∷ slice_split is_newline rest)
        → after 10 (b ∷ text) ≡ Some rest → slice_split is_newline (b ∷ text) ≡ before 10 (b ∷ text) ∷ slice_split is_newline rest
    go true e more found = let here : Some text ≡ Some rest = rw e at found in let same : text ≡ rest = cc in rw (e, same) refl
    go false e more found = let behind : after 10 text ≡ Some rest = rw e at found in rw (e, more behind) refl

-- there is always a first part
record Parts (text : Text) : Type 0 where
  first : Text
  others : List Text
  whole : slice_split is_newline text ≡ first ∷ others

parts_of : (text : Text) → Parts text
parts_of [] = record { first = []; others = []; whole = refl }
parts_of (b ∷ text) = go (b == 10) refl (parts_of text)
  where
    go : (t : Bool) → (b == 10) ≡ t → Parts text → Parts (b ∷ text)
    go true e more = record { first = []; others = slice_split is_newline text; whole = rw e refl }
    go false e more = record { first = b ∷ more.first; others = more.others; whole = rw (e, more.whole) refl }

-- the last line may lack its newline
pub lines-last : (text : Text) → after 10 text ≡ None → 0 < length text → lines text ≡ before 10 text ∷ []
lines-last [] none some = absurd (omega arith)
lines-last (b ∷ text) none some = go (b == 10) refl
  where
    go : (t : Bool) → (b == 10) ≡ t → lines (b ∷ text) ≡ before 10 (b ∷ text) ∷ []
    go true e = let found : Some text ≡ None = rw e at none in cc
    go false e =
        let prefix : before 10 (b ∷ text) ≡ b ∷ before 10 text = rw e refl in
        let filled : (length (b ∷ before 10 text) == 0) ≡ false = grind (arith, nat_tests) in
        rw (split-last (b ∷ text) none, prefix, filled) refl

-- a line that a newline ends
pub lines-more : (text rest : Text) → after 10 text ≡ Some rest → lines text ≡ strip_carriage_return (before 10 text) ∷ lines rest
lines-more text rest found =
    let others : Parts rest = parts_of rest in
    let split = split-more text rest found in
    rw (split, others.whole) refl

-- what is left behind a newline is shorter
pub after-shorter : (text rest : Text) → after 10 text ≡ Some rest → length rest < length text
after-shorter [] rest found = cc
after-shorter (b ∷ text) rest found = go (b == 10) refl (after-shorter text rest) found
  where
    go : (t : Bool) → (b == 10) ≡ t → (after 10 text ≡ Some rest → length rest < length text) → after 10 (b ∷ text) ≡ Some rest → length rest < length (b ∷ text)
    go true e shorter found = let here : Some text ≡ Some rest = rw e at found in let same : text ≡ rest = cc in rw same (omega arith)
    go false e shorter found = let behind : after 10 text ≡ Some rest = rw e at found in omega (arith, shorter behind)

-- ---- all lines

-- what was read before, and what is still read
abbrev pub with_prefix : List Line → Result (List Line) AsmError → Result (List Line) AsmError
with_prefix prefix (Ok read) = Ok (prefix ++ read)
with_prefix prefix (Err error) = Err error

-- one more line behind the prefix, and what comes behind it
regroup : (prefix : List Line) (line : Line) (read : Result (List Line) AsmError) → with_prefix prefix (read >>= λ others. Ok (line_if_said line ++ others)) ≡ with_prefix (prefix ++ line_if_said line) read
regroup prefix line (Ok others) = ap (λ (all : List Line). Ok all) (sym (append_assoc prefix (line_if_said line) others))
regroup prefix line (Err error) = refl

-- nothing was read yet
pub starts : (source : Text) → with_prefix [] (lines_of 1 (lines source)) ≡ source_of source
unfolding source_of
starts source = go (lines_of 1 (lines source))
  where
    go : (read : Result (List Line) AsmError) → with_prefix [] read ≡ read
    go (Ok read) = refl
    go (Err error) = refl

-- a line was read: the loop goes on behind it
pub goes_on : (prefix : List Line) (number : ℕ) (text : Text) (left more : List Text) (line : Line) (total : Result (List Line) AsmError) → left ≡ text ∷ more → at_line number (line_of number text) ≡ Ok line
    → with_prefix prefix (lines_of number left) ≡ total → with_prefix (prefix ++ line_if_said line) (lines_of (number + 1) more) ≡ total
unfolding lines_of
goes_on prefix number text left more line total first read so_far =
    let one : with_prefix prefix (lines_of number left) ≡ with_prefix (prefix ++ line_if_said line) (lines_of (number + 1) more) = rw (first, read) (regroup prefix line (lines_of (number + 1) more)) in
    sym one ∙ so_far

-- a line was refused, and so is the whole
pub stops : (error : AsmError) (prefix : List Line) (number : ℕ) (text : Text) (left more : List Text) (total : Result (List Line) AsmError) → left ≡ text ∷ more → at_line number (line_of number text) ≡ Err error
    → with_prefix prefix (lines_of number left) ≡ total → total ≡ Err error
unfolding lines_of
stops error prefix number text left more total first refused so_far =
    let one : with_prefix prefix (lines_of number left) ≡ Err error = rw (first, refused) refl in
    sym so_far ∙ one

-- nothing is left
pub is_done : (prefix : List Line) (number : ℕ) (rest : Text) (total : Result (List Line) AsmError) → length rest ≡ 0 → with_prefix prefix (lines_of number (lines rest)) ≡ total → total ≡ Ok prefix
unfolding lines_of
is_done prefix number [] total none so_far =
    let one : with_prefix prefix (lines_of number (lines [])) ≡ Ok prefix = ap (λ (all : List Line). Ok all) (append-nil prefix) in
    sym so_far ∙ one
is_done prefix number (b ∷ rest) total none so_far = absurd (omega arith)
