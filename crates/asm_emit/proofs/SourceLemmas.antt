-- The lines of a source have registers below 32, and are no more than its bytes.
use Rattle.std.proofs.Common.{◌≡◌, ℕ, ◌+◌, ◌<◌, ◌≤◌, Bool, true, false, cond, List, [], ◌∷◌, ◌++◌, length, subst, arith}
use Rattle.std.specs.Prelude.{◌==◌, Option, Some, None, Ok, if◌then◌else◌}
use Rattle.std.specs.List.{list_all, onto_first, slice_split}
use Rattle.std.specs.Str.Lines.{lines, lines_of_parts}
use Rattle.std.proofs.lemmas.Bool.Decides.{nat_tests}
use Rattle.asm_text.specs.Bytes.{is_allowed}
use Rattle.asm_text.specs.Cuts.{after_word, before, first_word, without_blanks}
use Rattle.asm_read.specs.declared.errors.AsmErrorKind.TheVariants as kinds
use Rattle.asm_read.specs.declared.statements.Line.{Line}
use Rattle.asm_read.specs.declared.statements.Statement.{Statement}
use Rattle.asm_read.specs.Lines.{form_at, hash, label_in, line_of, statement_in, statement_of}
use Rattle.asm_read.specs.Operands.{Text}
use Rattle.asm_read.specs.Source.{at_line, is_said, lines_of, line_if_said, source_of}
use Rattle.asm_read.proofs.LineLemmas.{of_line}
use Rattle.shared_terms.specs.Steps.{demand}
use Rattle.asm_emit.proofs.RegisterLemmas.{HasRegisters, statement_read}
use Rattle.shared_terms.proofs.StepLemmas.{ok_is}
use Rattle.asm_emit.proofs.StepLemmas.{passes}

-- ---- lines

-- those of the statement, if there is one
abbrev pub HasRegistersIn : Option Statement → Type 0
HasRegistersIn None = Unit {0}
HasRegistersIn (Some statement) = HasRegisters statement

in_text : (text : Text) (statement : Option Statement) → statement_in text ≡ Ok statement → HasRegistersIn statement
unfolding statement_in
in_text [] statement is = subst HasRegistersIn (ok_is None statement is) tt
in_text (byte ∷ more) statement is =
    let form = passes (form_at (first_word (byte ∷ more))) _ statement is in
    let read = passes (statement_of form.value (after_word (byte ∷ more))) _ statement form.rest in
    subst HasRegistersIn (ok_is (Some read.value) statement read.rest) (statement_read form.value (after_word (byte ∷ more)) read.value read.first)

line_read : (number : ℕ) (text : Text) (line : Line) → line_of number text ≡ Ok line → HasRegistersIn line.statement
unfolding line_of
line_read number text line is =
    let allowed = passes (demand (list_all is_allowed text) kinds.Byte) _ line is in
    let label = passes (label_in (before hash text)) _ line allowed.rest in
    let statement = passes (statement_in (without_blanks label.value.1)) _ line label.rest in
    subst (λ (l : Line). HasRegistersIn l.statement) (ok_is _ line statement.rest) (in_text (without_blanks label.value.1) statement.value statement.first)

-- those of all lines
abbrev pub HaveRegisters : List Line → Type 0
HaveRegisters [] = Unit {0}
HaveRegisters (line ∷ lines) = HasRegistersIn line.statement × HaveRegisters lines

-- no more lines than so many texts, and their registers are below 32
record AreRead (texts : ℕ) (lines : List Line) : Type 0 where
  few : length lines ≤ texts
  small : HaveRegisters lines

one_more : (texts : ℕ) (line : Line) (lines : List Line) → HasRegistersIn line.statement → AreRead texts lines → AreRead (texts + 1) (line_if_said line ++ lines)
one_more texts line lines has read = go (is_said line)
  where
    go : (t : Bool) → AreRead (texts + 1) ((if t then line ∷ [] else []) ++ lines)
    go true = record { few = omega (arith, read.few); small = (has, read.small) }
    go false = record { few = omega (arith, read.few); small = read.small }

all_read : (number : ℕ) (texts : List Text) (read : List Line) → lines_of number texts ≡ Ok read → AreRead (length texts) read
unfolding lines_of
all_read number [] read is = subst (AreRead 0) (ok_is [] read is) (record { few = omega arith; small = tt })
all_read number (text ∷ texts) read is =
    let line = passes (at_line number (line_of number text)) _ read is in
    let others = passes (lines_of (number + 1) texts) _ read line.rest in
    let has = line_read number text line.value (of_line number (line_of number text) line.value line.first) in
    let more = one_more (length texts) line.value others.value has (all_read (number + 1) texts others.value others.first) in
    let all : AreRead (length (text ∷ texts)) (line_if_said line.value ++ others.value) = record { few = omega (arith, more.few); small = more.small } in
    subst (AreRead (length (text ∷ texts))) (ok_is _ read others.rest) all

-- ---- how many lines there are

abbrev is_newline : ℕ → Bool
is_newline byte = byte == 10

-- there is always a part
some_part : (source : Text) → 0 < length (slice_split is_newline source)
some_part [] = omega arith
some_part (byte ∷ source) = go (byte == 10) (slice_split is_newline source)
  where
    go : (t : Bool) (parts : List Text) → 0 < length (cond t ([] ∷ parts) (onto_first byte parts))
    go true parts = omega arith
    go false [] = omega arith
    go false (part ∷ parts) = omega arith

-- each line has a byte, if only its newline
few_lines : (source : Text) → length (lines source) ≤ length source
few_lines [] = omega arith
few_lines (byte ∷ source) = go (byte == 10) (slice_split is_newline source) (some_part source) (few_lines source)
  where
    go : (t : Bool) (parts : List Text) → 0 < length parts → length (lines_of_parts parts) ≤ length source → length (lines_of_parts (cond t ([] ∷ parts) (onto_first byte parts))) ≤ length (byte ∷ source)
    go t [] some few = absurd (omega arith)
    go true (part ∷ parts) some few = omega (arith, few)
    go false (part ∷ []) some few =
        let filled : (length (byte ∷ part) == 0) ≡ false = grind (arith, nat_tests) in
        rw filled (omega arith)
    go false (part ∷ next ∷ parts) some few = omega (arith, few)

-- ---- a source

-- no more lines than the source has bytes, and their registers are below 32
pub record IsRead (source : List ℕ) (lines : List Line) : Type 0 where
  pub few : length lines ≤ length source
  pub small : HaveRegisters lines

pub source_read : (source : List ℕ) (read : List Line) → source_of source ≡ Ok read → IsRead source read
unfolding source_of
source_read source read is =
    let all = all_read 1 (lines source) read is in
    record { few = omega (arith, all.few, few_lines source); small = all.small }
