-- The operands of a statement, and the line that it is.
use Rattle.std.proofs.Common.{◌≡◌, ℕ, true, false, [], ◌∷◌, ◌++◌, refl, ap, ◌∙◌}
use Rattle.std.specs.Prelude.{◌==◌, not, Some, None, Ok}
use Rattle.std.specs.List.{list_all}
use Rattle.std.proofs.lemmas.Bool.{and_parts}
use Rattle.asm_table.specs.declared.forms.Form.{Form}
use Rattle.asm_table.specs.Words.{form_named}
use Rattle.asm_read.specs.declared.statements.Statement.{Statement}
use Rattle.asm_read.specs.Addresses.{is_plain, parts_at}
use Rattle.asm_read.specs.Lines.{label_in, line_of, statement_in, statement_of}
use Rattle.asm_read.specs.Operands.{Text, next_operand, nonempty, one_operand, three_operands, two_operands}
use Rattle.asm_laws.proofs.PieceLemmas.{Piece, after_at, after_colon, after_comma, after_end, after_word_at, all_allowed, avoids, before_at, before_comma, before_end, before_hash, clean_piece, ends, ends_after, ends_joined, ends_piece, first_word_at, is_clean, is_filled, is_solid, joined, starts, starts_joined, starts_piece, trimmed_is, trimmed_piece, weaken}

-- ---- operands

nonempty_piece : (text : Text) → Piece text → nonempty text ≡ Ok text
nonempty_piece [] piece = let no : false ≡ true = piece.filled in absurd cc
nonempty_piece (b ∷ text) piece = refl

operand_next : (a rest : Text) → Piece a → next_operand (Some (32 ∷ (a ++ 44 ∷ rest))) ≡ Ok (a, Some rest)
unfolding next_operand
operand_next a rest piece =
    rw (before_comma a rest piece, trimmed_piece a piece, nonempty_piece a piece, after_comma a rest piece) refl

operand_last : (a : Text) → Piece a → next_operand (Some (32 ∷ a)) ≡ Ok (a, None)
unfolding next_operand
operand_last a piece =
    rw (before_end a piece, trimmed_piece a piece, nonempty_piece a piece, after_end a piece) refl

pub one : (a : Text) → Piece a → one_operand (32 ∷ a) ≡ Ok a
unfolding one_operand
one a piece = rw (operand_last a piece) refl

pub two : (a b : Text) → Piece a → Piece b → two_operands (32 ∷ (a ++ 44 ∷ 32 ∷ b)) ≡ Ok (a, b)
unfolding two_operands
two a b first second = rw (operand_next a (32 ∷ b) first, operand_last b second) refl

pub three : (a b c : Text) → Piece a → Piece b → Piece c → three_operands (32 ∷ (a ++ 44 ∷ 32 ∷ (b ++ 44 ∷ 32 ∷ c))) ≡ Ok (a, b, c)
unfolding three_operands
three a b c first second third =
    rw (operand_next a (32 ∷ (b ++ 44 ∷ 32 ∷ c)) first, operand_next b (32 ∷ c) second, operand_last c third) refl

-- ---- `n(r)`

opening_of_plain : (byte : ℕ) → is_plain byte ≡ true → avoids 40 byte ≡ true
opening_of_plain byte e = (and_parts (not (byte == 40)) (not (byte == 41)) e).0

closing_of_plain : (byte : ℕ) → is_plain byte ≡ true → avoids 41 byte ≡ true
closing_of_plain byte e = (and_parts (not (byte == 40)) (not (byte == 41)) e).1

pub parts : (offset base : Text) → list_all is_plain offset ≡ true → list_all is_plain base ≡ true → parts_at (offset ++ 40 ∷ (base ++ 41 ∷ [])) ≡ Ok (offset, base)
unfolding parts_at
parts offset base plain_offset plain_base =
    let no_opening : list_all (avoids 40) offset ≡ true = weaken is_plain (avoids 40) opening_of_plain offset plain_offset in
    let no_closing : list_all (avoids 41) base ≡ true = weaken is_plain (avoids 41) closing_of_plain base plain_base in
    rw (after_at 40 offset (base ++ 41 ∷ []) no_opening, after_at 41 base [] no_closing, before_at 40 offset (base ++ 41 ∷ []) no_opening, before_at 41 base [] no_closing, plain_offset, plain_base) refl

pub place_piece : (offset base : Text) → Piece offset → Piece base → Piece (offset ++ 40 ∷ (base ++ 41 ∷ []))
place_piece offset base first second = record {
  filled = filled_joined offset (40 ∷ (base ++ 41 ∷ [])) first.filled;
  solid = joined is_solid offset (40 ∷ (base ++ 41 ∷ [])) first.solid (joined is_solid base (41 ∷ []) second.solid refl);
}
  where
    filled_joined : (prefix text : Text) → is_filled prefix ≡ true → is_filled (prefix ++ text) ≡ true
    filled_joined [] text e = absurd cc
    filled_joined (b ∷ prefix) text e = refl

-- ---- a line

-- operands, up to the end of the line
pub record Tail (text : Text) : Type 0 where
  pub clean : list_all is_clean text ≡ true
  pub ended : ends text ≡ true

pub tail_last : (a : Text) → Piece a → Tail a
tail_last a piece = record { clean = clean_piece a piece; ended = ends_piece a piece }

pub tail_next : (a rest : Text) → Piece a → Tail rest → Tail (a ++ 44 ∷ 32 ∷ rest)
tail_next a rest piece tail = record {
  clean = joined is_clean a (44 ∷ 32 ∷ rest) (clean_piece a piece) tail.clean;
  ended = ends_joined a (44 ∷ 32 ∷ rest) (ends_after 44 (32 ∷ rest) (ends_after 32 rest tail.ended));
}

-- the first word of a form
pub record Named (name : Text) (form : Form) : Type 0 where
  pub piece : Piece name
  pub found : form_named name ≡ Some form

line_said : (number : ℕ) (text : Text) (statement : Statement) → list_all is_clean text ≡ true → starts text ≡ true → ends text ≡ true
    → statement_in text ≡ Ok (Some statement) → line_of number text ≡ Ok (record { number = number; label = None; statement = Some statement })
unfolding line_of label_in
line_said number text statement clean start end said =
    rw (all_allowed text clean, before_hash text clean, after_colon text clean, trimmed_is text start end, said) refl

statement_said : (name operands : Text) (form : Form) (statement : Statement) → Named name form → statement_of form (32 ∷ operands) ≡ Ok statement → statement_in (name ++ 32 ∷ operands) ≡ Ok (Some statement)
unfolding statement_in
statement_said [] operands form statement named read = let no : false ≡ true = named.piece.filled in absurd cc
statement_said (b ∷ name) operands form statement named read =
    let solid : list_all is_solid (b ∷ name) ≡ true = named.piece.solid in
    rw (first_word_at (b ∷ name) operands solid, named.found, after_word_at (b ∷ name) operands solid, read) refl

-- a name, a space, and operands
pub line : {text : Text} (number : ℕ) (name operands : Text) (form : Form) (statement : Statement) → text ≡ name ++ 32 ∷ operands → Named name form → Tail operands → statement_of form (32 ∷ operands) ≡ Ok statement
    → line_of number text ≡ Ok (record { number = number; label = None; statement = Some statement })
line number name operands form statement is named tail read =
    ap (λ (t : Text). line_of number t) is
    ∙ line_said number (name ++ 32 ∷ operands) statement
    (joined is_clean name (32 ∷ operands) (clean_piece name named.piece) tail.clean)
    (starts_joined name (32 ∷ operands) (starts_piece name named.piece))
    (ends_joined name (32 ∷ operands) (ends_after 32 operands tail.ended))
    (statement_said name operands form statement named read)
