-- The words of a line, taken off it one after another.
use Rattle.std.proofs.Common.{◌≡◌, ◌+◌, ◌<◌, ◌≤◌, ◌∙◌, ℕ, suc, Bool, true, false, not, List, [], ◌∷◌, length, take, drop, refl, ap, sym, arith}
use Rattle.std.specs.Prelude.{nat_lt, filter, unwrap_or}
use Rattle.std.specs.List.{position, position_or_len, slice_split}
use Rattle.std.proofs.lemmas.Bool.Decides.{nat_tests}
use Rattle.std.proofs.lemmas.List.Sums.{prefix_len-le-length}
use Rattle.shell_lang.specs.Words.{Text, is_nonempty, is_other, is_space, words_of}

pub position_within : (p : ℕ → Bool) (xs : List ℕ) → position_or_len p xs ≤ length xs
position_within p xs = prefix_len-le-length (λ x. not (p x)) xs

-- the first place that passes, or the length where none does
pub first_or_length : (p : ℕ → Bool) (xs : List ℕ) → unwrap_or (position p xs) (length xs) ≡ position_or_len p xs
first_or_length p xs = go (nat_lt (position_or_len p xs) (length xs)) refl
  where
    go : (t : Bool) → nat_lt (position_or_len p xs) (length xs) ≡ t → unwrap_or (position p xs) (length xs) ≡ position_or_len p xs
    go true e = rw e refl
    go false e =
        let most = position_within p xs in
        let least : length xs ≤ position_or_len p xs = grind (arith, nat_tests, e) in
        rw e (omega arith)

one_more : (n : ℕ) → 1 + n ≡ suc n
one_more n = omega arith

-- spaces in front make no word
pub words_behind : (text : Text) → words_of text ≡ words_of (drop (position_or_len is_other text) text)
unfolding words_of
words_behind [] = refl
words_behind (b ∷ text) = go (is_space b) refl (words_behind text)
  where
    go : (t : Bool) → is_space b ≡ t → words_of text ≡ words_of (drop (position_or_len is_other text) text)
        → words_of (b ∷ text) ≡ words_of (drop (position_or_len is_other (b ∷ text)) (b ∷ text))
    go true e behind = rw (e, one_more (position_or_len is_other text)) behind
    go false e behind = rw (e, e) refl

-- what is cut off first, and the words of what is left
record Cut (text : Text) : Type 0 where
  parts : List Text
  whole : slice_split is_space text ≡ take (position_or_len is_space text) text ∷ parts
  rest : filter is_nonempty parts ≡ words_of (drop (position_or_len is_space text) text)

cut : (text : Text) → Cut text
unfolding words_of
cut [] = record { parts = []; whole = refl; rest = refl }
cut (b ∷ text) = go (is_space b) refl (cut text)
  where
    go : (t : Bool) → is_space b ≡ t → Cut text → Cut (b ∷ text)
    go true e more = record {
      parts = slice_split is_space text;
      whole = rw e refl;
      rest = rw (e, e) refl;
    }
    go false e more = record {
      parts = more.parts;
      whole = rw (e, one_more (position_or_len is_space text), more.whole) refl;
      rest = rw (e, one_more (position_or_len is_space text)) more.rest;
    }

-- behind the spaces in front there is none
starts_word : (text : Text) (b : ℕ) (more : Text) → drop (position_or_len is_other text) text ≡ b ∷ more → is_space b ≡ false
starts_word [] b more e = cc
starts_word (x ∷ text) b more e = go (is_space x) refl (starts_word text b more)
  where
    go : (t : Bool) → is_space x ≡ t → (drop (position_or_len is_other text) text ≡ b ∷ more → is_space b ≡ false) → is_space b ≡ false
    go true spaced behind = behind (rw (spaced, one_more (position_or_len is_other text)) at e)
    go false other behind = let same : x ∷ text ≡ b ∷ more = rw other at e in cc

-- a text that begins with no space begins with a word
first_word : (b : ℕ) (text : Text) → is_space b ≡ false
    → words_of (b ∷ text) ≡ take (position_or_len is_space (b ∷ text)) (b ∷ text) ∷ words_of (drop (position_or_len is_space (b ∷ text)) (b ∷ text))
unfolding words_of
first_word b text e =
    let prefix : Cut text = cut text in
    rw (e, one_more (position_or_len is_space text), prefix.whole) (ap (λ words. (b ∷ take (position_or_len is_space text) text) ∷ words) prefix.rest)

-- a text that has a byte behind the spaces in front has a word there
pub word_cut : (text from : Text) (count : ℕ) → from ≡ drop (position_or_len is_other text) text → 0 < length from → count ≡ position_or_len is_space from
    → words_of text ≡ take count from ∷ words_of (drop count from)
word_cut text [] count behind some is = absurd (omega arith)
word_cut text (b ∷ more) count behind some is =
    let spaces = words_behind text in
    let word = first_word b more (starts_word text b more (sym behind)) in
    rw (spaces, ← behind, is) word

-- a text that has none there has no word
pub no_word : (text from : Text) → from ≡ drop (position_or_len is_other text) text → length from ≡ 0 → words_of text ≡ []
unfolding words_of
no_word text [] behind none = words_behind text ∙ ap words_of (sym behind)
no_word text (b ∷ more) behind none = absurd (omega arith)
