-- The key book grows: what fits it at one time fits it ever after.
use Rattle.std.proofs.Common.{◌≡◌, ℕ, zero, suc, ◌+◌, ◌<◌, List, [], ◌∷◌, ◌++◌, length, Some, sym, ap, ◌∙◌, arith}
use Rattle.std.specs.List.{Contains, range_with_len}
use Rattle.std.proofs.lemmas.List.{length_push}
use Rattle.std.proofs.lemmas.List.Elements.{Contains-append_left}
use Rattle.std.proofs.lemmas.List.Sums.{fold-append}
use Rattle.engine_trait.specs.Events.{Event}
use Rattle.sealing_policy.specs.Sealing.{HasFewKeys, key_limit}
use Rattle.sealing_policy.specs.declared.tag.SealTag.{SealTag}
use Rattle.sealing_policy.specs.declared.tag.SealTag.TheVariants.{Data, Key, Sealed}
use Rattle.seal_runs.specs.KeyBook.{KeyBook, key_book, keys_after, no_keys, with_key, with_pair}
use Rattle.seal_runs.specs.SealInvariant.{Fits}

-- ---- one event more

pub book_after : (before : List (Event SealTag)) (e : Event SealTag) → key_book (before ++ e ∷ []) ≡ keys_after (key_book before) e
unfolding key_book
book_after before e = fold-append keys_after no_keys before (e ∷ [])

-- ---- a book that grows

-- what one book has, the other has too
pub record Grows (old new : KeyBook) : Type 0 where
  pub made : (key : ℕ) → Contains old.made key → Contains new.made key
  pub pairs : (pair : ℕ × ℕ) → Contains old.pairs pair → Contains new.pairs pair

pub same_grows : (book : KeyBook) → Grows book book
same_grows book = record { made = λ key has. has; pairs = λ pair has. has }

pub key_grows : (book : KeyBook) (key : ℕ) → Grows book (with_key book (Some key))
key_grows book key = record { made = λ other has. Contains-append_left book.made _ other has; pairs = λ pair has. has }

pub pair_grows : (book : KeyBook) (key value : ℕ) → Grows book (with_pair book key value)
pair_grows book key value = record { made = λ other has. has; pairs = λ pair has. Contains-append_left book.pairs _ pair has }

pub fits_grown : (old new : KeyBook) → Grows old new → (value : ℕ) (tag : SealTag) → Fits old value tag → Fits new value tag
fits_grown old new grows value Data fits = tt
fits_grown old new grows value (Key key) fits = (fits.0, grows.made key fits.1)
fits_grown old new grows value (Sealed key) fits = grows.pairs (key, value) fits

-- ---- keys are counted

-- the keys are 0, 1, 2 and so on, and there are so many
pub record HasKeys (book : KeyBook) (keys : ℕ) : Type 0 where
  pub numbered : book.made ≡ range_with_len 0 (length book.made)
  pub next : keys ≡ length book.made
  pub few : HasFewKeys keys

-- ---- the next key

range_more : (first count : ℕ) → range_with_len first (suc count) ≡ range_with_len first count ++ (first + count) ∷ []
range_more first zero = ap (λ n. n ∷ []) (let e : first ≡ first + 0 = omega arith in e)
range_more first (suc count) =
    let sum : first + 1 + count ≡ first + suc count = omega arith in
    ap (λ list. first ∷ list) (range_more (first + 1) count ∙ ap (λ n. range_with_len (first + 1) count ++ n ∷ []) sum)

pub has_next_key : (book : KeyBook) (keys : ℕ) → HasKeys book keys → keys < key_limit → HasKeys (with_key book (Some keys)) (keys + 1)
has_next_key book keys has below =
    let size : length (book.made ++ keys ∷ []) ≡ suc (length book.made) = (let more = length_push book.made keys in omega (arith, more)) in
    record {
      numbered =
          ap (λ list. list ++ keys ∷ []) has.numbered
          ∙ ap (λ n. range_with_len 0 (length book.made) ++ n ∷ []) (let e : keys ≡ 0 + length book.made = omega (arith, has.next) in e)
          ∙ sym (ap (range_with_len 0) size ∙ range_more 0 (length book.made));
      next = omega (arith, size, has.next);
      few = omega (arith, below);
    }
