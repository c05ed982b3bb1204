-- The bytes of a stream one after another, and the lines that end within them.
use Rattle.std.proofs.Common.{◌≡◌, ℕ, ◌+◌, ◌<◌, List, [], ◌∷◌, ◌++◌, drop, get_or, length, take, refl, ap, sym, ◌∙◌}
use Rattle.std.proofs.lemmas.List.{take-append-drop}
use Rattle.shared_terms.proofs.ListLemmas.{take_next}
use Rattle.shell_lang.specs.Stream.{answers_along, byte_answer, line_after, line_along, onto_answers}
use Rattle.shell_lang.specs.Words.{Text}
use Rattle.shell_lang.proofs.StreamLemmas.{answers_in_pieces, line_in_pieces}

line_of_one : (line : Text) (byte : ℕ) → line_along line (byte ∷ []) ≡ line_after line byte
unfolding line_along
line_of_one line byte = refl

answers_of_one : (line : Text) (byte : ℕ) → answers_along line (byte ∷ []) ≡ onto_answers (byte_answer line byte) []
unfolding answers_along
answers_of_one line byte = refl

pub line_of_none : (line : Text) → line_along line [] ≡ line
unfolding line_along
line_of_none line = refl

pub answers_of_none : (line : Text) → answers_along line [] ≡ []
unfolding answers_along
answers_of_none line = refl

-- the next byte of a stream
module _ (line : Text) (bytes : List ℕ) (k d byte : ℕ) (below : k < length bytes) (is : byte ≡ get_or bytes k d) where
  abbrev prefix : List ℕ
  prefix = take k bytes

  next_is : take (k + 1) bytes ≡ prefix ++ byte ∷ []
  next_is =
      take_next bytes k d below ∙ ap (λ next. prefix ++ next ∷ []) (sym is)

  pub line_next : line_along line (take (k + 1) bytes) ≡ line_after (line_along line prefix) byte
  line_next = ap (line_along line) next_is ∙ line_in_pieces line prefix (byte ∷ []) ∙ line_of_one (line_along line prefix) byte

  pub answers_next : answers_along line (take (k + 1) bytes) ≡ answers_along line prefix ++ onto_answers (byte_answer (line_along line prefix) byte) []
  answers_next =
      ap (answers_along line) next_is ∙ answers_in_pieces line prefix (byte ∷ [])
      ∙ ap (λ answers. answers_along line prefix ++ answers) (answers_of_one (line_along line prefix) byte)

-- all bytes of a stream, by some of the first
pub answers_all : (line : Text) (bytes : List ℕ) (k : ℕ) → answers_along line bytes ≡ answers_along line (take k bytes) ++ answers_along (line_along line (take k bytes)) (drop k bytes)
answers_all line bytes k =
    ap (answers_along line) (sym (take-append-drop k bytes)) ∙ answers_in_pieces line (take k bytes) (drop k bytes)
