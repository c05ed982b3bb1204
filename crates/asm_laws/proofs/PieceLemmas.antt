-- Texts of bytes that end nothing, and where texts that are put together of them are cut.
use Rattle.std.proofs.Common.{◌≡◌, ℕ, Bool, true, false, [], ◌∷◌, ◌++◌, refl, ap, ◌∙◌, arith}
use Rattle.std.specs.Prelude.{◌==◌, ◌&&◌, not, reverse, Some, None}
use Rattle.std.specs.List.{list_all}
use Rattle.std.proofs.lemmas.List.{reverse-append, reverse-reverse}
use Rattle.std.proofs.lemmas.List.Folds.{list_all-append}
use Rattle.std.proofs.lemmas.Bool.{and_from, and_parts, not-true}
use Rattle.std.proofs.lemmas.Bool.Decides.{nat_tests}
use Rattle.asm_text.specs.Bytes.{is_allowed, is_blank}
use Rattle.asm_text.specs.Cuts.{after, after_word, before, first_word, without_blanks, without_end, without_front}
use Rattle.asm_read.specs.Operands.{Text}

-- ---- bytes

-- a byte that neither ends a line nor a name of a place
abbrev pub is_clean : ℕ → Bool
is_clean byte = is_allowed byte && (not (byte == 35) && not (byte == 58))

-- nor a word nor an operand
abbrev pub is_solid : ℕ → Bool
is_solid byte = is_clean byte && (not (is_blank byte) && not (byte == 44))

-- not this byte
abbrev pub avoids : ℕ → ℕ → Bool
avoids byte here = not (here == byte)

clean_of_solid : (byte : ℕ) → is_solid byte ≡ true → is_clean byte ≡ true
clean_of_solid byte e = (and_parts (is_clean byte) (not (is_blank byte) && not (byte == 44)) e).0

comma_of_solid : (byte : ℕ) → is_solid byte ≡ true → avoids 44 byte ≡ true
comma_of_solid byte e = (and_parts (not (is_blank byte)) (not (byte == 44)) (and_parts (is_clean byte) (not (is_blank byte) && not (byte == 44)) e).1).1

blank_of_solid : (byte : ℕ) → is_solid byte ≡ true → not (is_blank byte) ≡ true
blank_of_solid byte e = (and_parts (not (is_blank byte)) (not (byte == 44)) (and_parts (is_clean byte) (not (is_blank byte) && not (byte == 44)) e).1).0

allowed_of_clean : (byte : ℕ) → is_clean byte ≡ true → is_allowed byte ≡ true
allowed_of_clean byte e = (and_parts (is_allowed byte) (not (byte == 35) && not (byte == 58)) e).0

hash_of_clean : (byte : ℕ) → is_clean byte ≡ true → avoids 35 byte ≡ true
hash_of_clean byte e = (and_parts (not (byte == 35)) (not (byte == 58)) (and_parts (is_allowed byte) (not (byte == 35) && not (byte == 58)) e).1).0

colon_of_clean : (byte : ℕ) → is_clean byte ≡ true → avoids 58 byte ≡ true
colon_of_clean byte e = (and_parts (not (byte == 35)) (not (byte == 58)) (and_parts (is_allowed byte) (not (byte == 35) && not (byte == 58)) e).1).1

-- ---- texts of such bytes

pub weaken : (p q : ℕ → Bool) → ((byte : ℕ) → p byte ≡ true → q byte ≡ true) → (text : Text) → list_all p text ≡ true → list_all q text ≡ true
weaken p q each [] all = refl
weaken p q each (b ∷ text) all =
    and_from (q b) (list_all q text) (each b (and_parts (p b) (list_all p text) all).0) (weaken p q each text (and_parts (p b) (list_all p text) all).1)

pub joined : (p : ℕ → Bool) (prefix text : Text) → list_all p prefix ≡ true → list_all p text ≡ true → list_all p (prefix ++ text) ≡ true
joined p prefix text x y = list_all-append p prefix text ∙ and_from (list_all p prefix) (list_all p text) x y

abbrev pub is_filled : Text → Bool
is_filled [] = false
is_filled (b ∷ text) = true

-- a word or an operand
pub record Piece (text : Text) : Type 0 where
  pub filled : is_filled text ≡ true
  pub solid : list_all is_solid text ≡ true

pub clean_piece : (text : Text) → Piece text → list_all is_clean text ≡ true
clean_piece text piece = weaken is_solid is_clean clean_of_solid text piece.solid

comma_piece : (text : Text) → Piece text → list_all (avoids 44) text ≡ true
comma_piece text piece = weaken is_solid (avoids 44) comma_of_solid text piece.solid

-- ---- cuts

before_all : (b : ℕ) (text : Text) → list_all (avoids b) text ≡ true → before b text ≡ text
before_all b [] all = refl
before_all b (x ∷ text) all =
    let here : (x == b) ≡ false = not-true (x == b) (and_parts (avoids b x) (list_all (avoids b) text) all).0 in
    rw (here, before_all b text (and_parts (avoids b x) (list_all (avoids b) text) all).1) refl

after_none : (b : ℕ) (text : Text) → list_all (avoids b) text ≡ true → after b text ≡ None
after_none b [] all = refl
after_none b (x ∷ text) all =
    let here : (x == b) ≡ false = not-true (x == b) (and_parts (avoids b x) (list_all (avoids b) text) all).0 in
    rw here (after_none b text (and_parts (avoids b x) (list_all (avoids b) text) all).1)

pub before_at : (b : ℕ) (text rest : Text) → list_all (avoids b) text ≡ true → before b (text ++ b ∷ rest) ≡ text
before_at b [] rest all = let here : (b == b) ≡ true = grind (arith, nat_tests) in rw here refl
before_at b (x ∷ text) rest all =
    let here : (x == b) ≡ false = not-true (x == b) (and_parts (avoids b x) (list_all (avoids b) text) all).0 in
    rw (here, before_at b text rest (and_parts (avoids b x) (list_all (avoids b) text) all).1) refl

pub after_at : (b : ℕ) (text rest : Text) → list_all (avoids b) text ≡ true → after b (text ++ b ∷ rest) ≡ Some rest
after_at b [] rest all = let here : (b == b) ≡ true = grind (arith, nat_tests) in rw here refl
after_at b (x ∷ text) rest all =
    let here : (x == b) ≡ false = not-true (x == b) (and_parts (avoids b x) (list_all (avoids b) text) all).0 in
    rw here (after_at b text rest (and_parts (avoids b x) (list_all (avoids b) text) all).1)

pub before_hash : (text : Text) → list_all is_clean text ≡ true → before 35 text ≡ text
before_hash text clean = before_all 35 text (weaken is_clean (avoids 35) hash_of_clean text clean)

pub after_colon : (text : Text) → list_all is_clean text ≡ true → after 58 text ≡ None
after_colon text clean = after_none 58 text (weaken is_clean (avoids 58) colon_of_clean text clean)

pub all_allowed : (text : Text) → list_all is_clean text ≡ true → list_all is_allowed text ≡ true
all_allowed text clean = weaken is_clean is_allowed allowed_of_clean text clean

pub before_comma : (text rest : Text) → Piece text → before 44 (text ++ 44 ∷ rest) ≡ text
before_comma text rest piece = before_at 44 text rest (comma_piece text piece)

pub after_comma : (text rest : Text) → Piece text → after 44 (text ++ 44 ∷ rest) ≡ Some rest
after_comma text rest piece = after_at 44 text rest (comma_piece text piece)

pub before_end : (text : Text) → Piece text → before 44 text ≡ text
before_end text piece = before_all 44 text (comma_piece text piece)

pub after_end : (text : Text) → Piece text → after 44 text ≡ None
after_end text piece = after_none 44 text (comma_piece text piece)

pub first_word_at : (name rest : Text) → list_all is_solid name ≡ true → first_word (name ++ 32 ∷ rest) ≡ name
first_word_at [] rest solid = refl
first_word_at (b ∷ name) rest solid =
    let here : is_blank b ≡ false = not-true (is_blank b) (blank_of_solid b (and_parts (is_solid b) (list_all is_solid name) solid).0) in
    rw (here, first_word_at name rest (and_parts (is_solid b) (list_all is_solid name) solid).1) refl

pub after_word_at : (name rest : Text) → list_all is_solid name ≡ true → after_word (name ++ 32 ∷ rest) ≡ 32 ∷ rest
after_word_at [] rest solid = refl
after_word_at (b ∷ name) rest solid =
    let here : is_blank b ≡ false = not-true (is_blank b) (blank_of_solid b (and_parts (is_solid b) (list_all is_solid name) solid).0) in
    rw here (after_word_at name rest (and_parts (is_solid b) (list_all is_solid name) solid).1)

-- ---- ends

-- no blank stands in front
abbrev pub starts : Text → Bool
starts [] = false
starts (b ∷ text) = not (is_blank b)

-- nor at the end
abbrev pub ends : Text → Bool
ends [] = false
ends (b ∷ []) = not (is_blank b)
ends (b ∷ c ∷ text) = ends (c ∷ text)

pub starts_joined : (prefix text : Text) → starts prefix ≡ true → starts (prefix ++ text) ≡ true
starts_joined [] text e = absurd cc
starts_joined (b ∷ prefix) text e = e

pub ends_after : (b : ℕ) (text : Text) → ends text ≡ true → ends (b ∷ text) ≡ true
ends_after b [] e = absurd cc
ends_after b (c ∷ text) e = e

pub ends_joined : (prefix text : Text) → ends text ≡ true → ends (prefix ++ text) ≡ true
ends_joined [] text e = e
ends_joined (b ∷ prefix) text e = ends_after b (prefix ++ text) (ends_joined prefix text e)

pub starts_piece : (text : Text) → Piece text → starts text ≡ true
starts_piece [] piece = let no : false ≡ true = piece.filled in absurd cc
starts_piece (b ∷ text) piece = blank_of_solid b (and_parts (is_solid b) (list_all is_solid text) piece.solid).0

ends_solid : (b : ℕ) (text : Text) → list_all is_solid (b ∷ text) ≡ true → ends (b ∷ text) ≡ true
ends_solid b [] solid = blank_of_solid b (and_parts (is_solid b) true solid).0
ends_solid b (c ∷ text) solid = ends_solid c text (and_parts (is_solid b) (list_all is_solid (c ∷ text)) solid).1

pub ends_piece : (text : Text) → Piece text → ends text ≡ true
ends_piece [] piece = let no : false ≡ true = piece.filled in absurd cc
ends_piece (b ∷ text) piece = ends_solid b text piece.solid

starts_reversed : (text : Text) → ends text ≡ true → starts (reverse text) ≡ true
starts_reversed [] e = absurd cc
starts_reversed (b ∷ []) e = e
starts_reversed (b ∷ c ∷ text) e =
    ap starts (reverse-append (b ∷ []) (c ∷ text)) ∙ starts_joined (reverse (c ∷ text)) (b ∷ []) (starts_reversed (c ∷ text) e)

prefix_kept : (text : Text) → starts text ≡ true → without_front text ≡ text
prefix_kept [] e = refl
prefix_kept (b ∷ text) e = let here : is_blank b ≡ false = not-true (is_blank b) e in rw here refl

end_kept : (text : Text) → ends text ≡ true → without_end text ≡ text
end_kept text e = ap (λ (t : Text). reverse t) (prefix_kept (reverse text) (starts_reversed text e)) ∙ reverse-reverse text

pub trimmed_is : (text : Text) → starts text ≡ true → ends text ≡ true → without_blanks text ≡ text
trimmed_is text start end = ap (λ (t : Text). without_end t) (prefix_kept text start) ∙ end_kept text end

-- behind a space
pub trimmed_piece : (text : Text) → Piece text → without_blanks (32 ∷ text) ≡ text
trimmed_piece text piece = trimmed_is text (starts_piece text piece) (ends_piece text piece)
