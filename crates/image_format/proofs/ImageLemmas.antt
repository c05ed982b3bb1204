-- What callers learn of an image in numbers.
use Rattle.std.proofs.Common.{◌≡◌, ℕ, zero, suc, ◌+◌, ◌*◌, ◌%◌, ◌<◌, ◌≤◌, Bool, true, ◌&&◌, Option, Some, List, [], ◌∷◌, length, get_or, ap, subst, ◌∙◌, sym, arith}
use Rattle.std.proofs.lemmas.Bool.{eqb-true, leb-true}
use Rattle.image_format.specs.Picture.{Picture, no_segment, nth_segment}
use Rattle.image_format.specs.Conditions.{are_rows, in_order, IsImage, is_segment, extent_of}
use Rattle.image_format.proofs.FieldLemmas.{both}

-- each row of a list fits
pub row_fits : {A B : Type 0} (part : B → A) (fits : B → Bool) (follows : A → A → Bool) (before : Option A) (rows : List B) (i : ℕ) (d : B) → are_rows part fits follows before rows ≡ true → i < length rows → fits (get_or rows i d) ≡ true
row_fits part fits follows before [] i d e lt = absurd (omega arith)
row_fits part fits follows before (row ∷ rows) zero d e lt =
    (both (fits row) (in_order follows before (part row)) (both (fits row && in_order follows before (part row)) (are_rows part fits follows (Some (part row)) rows) e).0).0
row_fits part fits follows before (row ∷ rows) (suc i) d e lt =
    row_fits part fits follows (Some (part row)) rows i d (both (fits row && in_order follows before (part row)) (are_rows part fits follows (Some (part row)) rows) e).1 (omega arith)

-- a segment lies in the RAM, on whole words, and has some
pub record LiesIn (ram address words : ℕ) : Type 0 where
  pub aligned : address % 4 ≡ 0
  pub some : 1 ≤ words
  pub inside : address + 4 * words ≤ ram

segment_lies : (g : Picture) (i : ℕ) → IsImage g → i < length g.segments → LiesIn g.ram (nth_segment g i).address (length (nth_segment g i).words)
segment_lies g i is lt =
    let s = nth_segment g i in
    let fits = row_fits extent_of (is_segment g.ram) _ _ g.segments i no_segment is.segments.rows lt in
    let range = both _ _ fits in
    let parts = both _ _ range.0 in
    let count = both _ _ parts.1 in
    record { aligned = eqb-true _ _ parts.0; some = leb-true _ _ count.0; inside = leb-true _ _ count.1 }

-- the same of an address or of words that were read from an image's fields
pub address_lies : (fields g : Picture) (i address : ℕ) → fields ≡ g → IsImage fields → i < length g.segments → address ≡ (nth_segment fields i).address → LiesIn g.ram address (length (nth_segment g i).words)
address_lies fields g i address same is lt e =
    let read : address ≡ (nth_segment g i).address = e ∙ ap (λ (p : Picture). (nth_segment p i).address) same in
    subst (λ (a : ℕ). LiesIn g.ram a (length (nth_segment g i).words)) (sym read) (segment_lies g i (subst IsImage same is) lt)

pub words_lie : (fields g : Picture) (i : ℕ) (words : List ℕ) → fields ≡ g → IsImage fields → i < length g.segments → words ≡ (nth_segment fields i).words → LiesIn g.ram (nth_segment g i).address (length words)
words_lie fields g i words same is lt e =
    let read : words ≡ (nth_segment g i).words = e ∙ ap (λ (p : Picture). (nth_segment p i).words) same in
    subst (λ (w : List ℕ). LiesIn g.ram (nth_segment g i).address (length w)) (sym read) (segment_lies g i (subst IsImage same is) lt)
