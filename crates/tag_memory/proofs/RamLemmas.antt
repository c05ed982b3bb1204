-- What a memory reads after each write.
use Rattle.std.proofs.Common.{◌≡◌, ◌⊎◌, inl, inr, min, Some, None, if◌then◌else◌, ℕ, zero, suc, ◌+◌, ◌-◌, ◌*◌, ◌/◌, ◌%◌, ◌<◌, ◌≤◌, Bool, true, false, not, ◌&&◌, List, [], ◌∷◌, ◌++◌, drop, length, replicate, take, slice_index_or, slice_set, refl, ap, sym, ◌∙◌, arith}
use Rattle.std.specs.Bool.{then_some}
use Rattle.std.specs.List.{list_all}
use Rattle.std.proofs.lemmas.List.{append_assoc, drop_more, get_or-drop, length-drop, length-replicate, length-set, length-take-le, get_or-set_same, get_or-set_other, replicate_more, set-append_right, take-append-drop, take_all, take_more}
use Rattle.std.proofs.lemmas.Bool.{cases_lt}
use Rattle.std.proofs.lemmas.List.Folds.{list_all-append}
use Rattle.tag_memory.specs.Ram.{IsPlace, IsRam, IsRamOf, RamState, only_one, ram_bytes, with_ram_filled, with_ram_tag, with_ram_word}
use Rattle.tag_memory.specs.Writes.{WritesWord, WritesWordTag}

-- memory is as large as it was
pub word_bytes : {T : Type 0} (ram : RamState T) (address word : ℕ) → ram_bytes (with_ram_word ram address word) ≡ ram_bytes ram
word_bytes ram address word = ap (λ (n : ℕ). 4 * n) (length-set ram.words (address / 4) word)

pub writes_word : {T : Type 0} (ram : RamState T) (address word : ℕ) → IsPlace (ram_bytes ram) address → WritesWord ram address word (with_ram_word ram address word)
writes_word ram address word place = record {
  written = get_or-set_same ram.words (address / 4) word 0 (omega (arith, place.within));
  others = λ other differs. get_or-set_other ram.words (address / 4) (other / 4) word 0 differs;
  tags = λ other. refl;
  bytes = word_bytes ram address word;
  plain = refl;
}

pub writes_word_tag : {T : Type 0} (ram : RamState T) (address : ℕ) (tag : T) → IsRam ram → IsPlace (ram_bytes ram) address → WritesWordTag ram address tag (with_ram_tag ram address tag)
writes_word_tag ram address tag is place = record {
  written = get_or-set_same ram.tags (address / 4) tag ram.plain (omega (arith, place.within, is.tagged));
  others = λ other differs. get_or-set_other ram.tags (address / 4) (other / 4) tag ram.plain differs;
  words = λ other. refl;
  bytes = refl;
  plain = refl;
}

-- ---- a memory still, with the plain tag that it had

pub word_keeps : {T : Type 0} (plain : T) (ram : RamState T) (address word : ℕ) → IsRamOf plain ram → IsRamOf plain (with_ram_word ram address word)
word_keeps plain ram address word is =
    let size : length (with_ram_word ram address word).words ≡ length ram.words = length-set ram.words (address / 4) word in
    record {
      shape = record { tagged = omega (arith, size, is.shape.tagged); some = omega (arith, size, is.shape.some); few = omega (arith, size, is.shape.few) };
      plain = is.plain;
    }

pub word_tag_keeps : {T : Type 0} (plain : T) (ram : RamState T) (address : ℕ) (tag : T) → IsRamOf plain ram → IsRamOf plain (with_ram_tag ram address tag)
word_tag_keeps plain ram address tag is = record {
  shape = record { tagged = length-set ram.tags (address / 4) tag ∙ is.shape.tagged; some = is.shape.some; few = is.shape.few };
  plain = is.plain;
}

-- ---- pages and ranges

pub not_true : (b : Bool) → true ≡ not b → b ≡ false
not_true true is = is
not_true false is = refl

pub not_false : (b : Bool) → false ≡ not b → b ≡ true
not_false true is = refl
not_false false is = is

module _ {T : Type 0} where
  fill_more : (list : List T) (n : ℕ) (x : T) → n < length list → slice_set (replicate n x ++ drop n list) n x ≡ replicate (n + 1) x ++ drop (n + 1) list
  fill_more list n x lt =
      let first = drop_more list n x lt in
      let size = length-replicate n x in
      ap (λ rest. slice_set (replicate n x ++ rest) n x) first
      ∙ set-append_right (replicate n x) (slice_index_or list n x ∷ drop (n + 1) list) n n x size (omega arith)
      ∙ ap (λ k. replicate n x ++ slice_set (slice_index_or list n x ∷ drop (n + 1) list) k x) none
      ∙ sym (append_assoc (replicate n x) (x ∷ []) (drop (n + 1) list))
      ∙ ap (λ some. some ++ drop (n + 1) list) (replicate_more n x)
    where
      none : n - n ≡ 0
      none = omega arith

  -- one word more of a range
  pub filled_more : (ram : RamState T) (address n : ℕ) (tag : T) → address % 4 ≡ 0 → address / 4 + n < length ram.tags
      → with_ram_tag (with_ram_filled ram address n tag) (address + 4 * n) tag ≡ with_ram_filled ram address (n + 1) tag
  filled_more ram address n tag aligned lt =
      let place = address / 4 in
      let rest = drop place ram.tags in
      let at : (address + 4 * n) / 4 ≡ place + n = omega (arith, aligned) in
      let size = length-take-le place ram.tags (omega (arith, lt)) in
      let left = length-drop place ram.tags in
      let back : place + n - place ≡ n = omega arith in
      ap (λ (tags : List T). record ram { tags = tags })
      (ap (λ k. slice_set (take place ram.tags ++ (replicate n tag ++ drop n rest)) k tag) at
      ∙ set-append_right (take place ram.tags) (replicate n tag ++ drop n rest) place (place + n) tag size (omega arith)
      ∙ ap (λ k. take place ram.tags ++ slice_set (replicate n tag ++ drop n rest) k tag) back
      ∙ ap (λ some. take place ram.tags ++ some) (fill_more rest n tag (omega (arith, lt, left))))

  pub filled_none : (ram : RamState T) (address : ℕ) (tag : T) → ram ≡ with_ram_filled ram address 0 tag
  filled_none ram address tag = ap (λ (tags : List T). record ram { tags = tags }) (sym (take-append-drop (address / 4) ram.tags))

  module _ (test : T → Bool) (list : List T) (from n : ℕ) (x : T) (le : from ≤ n) (lt : n < length list) where
    here : slice_index_or (drop from list) (n - from) x ≡ slice_index_or list n x
    here = let at : from + (n - from) ≡ n = omega (arith, le) in get_or-drop from list (n - from) x ∙ ap (λ k. slice_index_or list k x) at

    one_longer : take (n + 1 - from) (drop from list) ≡ take (n - from) (drop from list) ++ slice_index_or list n x ∷ []
    one_longer =
        let left = length-drop from list in
        let more : n + 1 - from ≡ n - from + 1 = omega (arith, le) in
        ap (λ k. take k (drop from list)) more
        ∙ take_more (drop from list) (n - from) x (omega (arith, le, lt, left))
        ∙ ap (λ y. take (n - from) (drop from list) ++ y ∷ []) here

    -- one more passes
    pub all_more : list_all test (take (n - from) (drop from list)) ≡ true → test (slice_index_or list n x) ≡ true
        → list_all test (take (n + 1 - from) (drop from list)) ≡ true
    all_more before passes =
        let both = list_all-append test (take (n - from) (drop from list)) (slice_index_or list n x ∷ []) in
        let longer = ap (list_all test) one_longer in
        grind (arith, before, passes, both, longer)

    -- one doesn't pass
    pub one_fails : (end : ℕ) → n < end → test (slice_index_or list n x) ≡ false → list_all test (take (end - from) (drop from list)) ≡ false
    one_fails end before fails =
        fails_at (drop from list) (n - from) (end - from) (omega (arith, le, before)) (omega (arith, le, lt, length-drop from list)) (ap test here ∙ fails)
      where
        and_false : (b : Bool) → (b && false) ≡ false
        and_false true = refl
        and_false false = refl

        fails_at : (some : List T) (k m : ℕ) → k < m → k < length some → test (slice_index_or some k x) ≡ false → list_all test (take m some) ≡ false
        fails_at [] k m lt within is = absurd (omega (arith, within))
        fails_at (y ∷ some) k zero lt within is = absurd (omega (arith, lt))
        fails_at (y ∷ some) zero (suc m) lt within is = ap (λ b. b && list_all test (take m some)) is
        fails_at (y ∷ some) (suc k) (suc m) lt within is =
            let rest = fails_at some k m (omega (arith, lt)) (omega (arith, within)) is in
            ap (λ b. test y && b) rest ∙ and_false (test y)

  one_told : (b : Bool) (x : T) → (if b then Some x else None) ≡ then_some b x
  one_told true x = refl
  one_told false x = refl

  -- the tag of a page: that of its first word, where all behind it have it
  pub page_one : (eq : T → T → Bool) (list : List T) (first end : ℕ) (x : T) → first < length list → end ≡ min (length list) (first + 64)
      → x ≡ slice_index_or list first x
      → then_some (list_all (eq x) (take (end - (first + 1)) (drop (first + 1) list))) x ≡ only_one eq (take 64 (drop first list))
  page_one eq list first end x lt is at =
      let next = drop_more list first x lt in
      let left = length-drop (first + 1) list in
      sym (ap (λ some. only_one eq (take 64 some)) next
      ∙ ap (λ y. if list_all (eq y) (take 63 (drop (first + 1) list)) then Some y else None) (sym at)
      ∙ ap (λ some. if list_all (eq x) some then Some x else None) (by_end (cases_lt (first + 63) (length list)) left)
      ∙ one_told (list_all (eq x) (take (end - (first + 1)) (drop (first + 1) list))) x)
    where
      by_end : (first + 63 < length list) ⊎ (length list ≤ first + 63) → length (drop (first + 1) list) ≡ length list - (first + 1)
          → take 63 (drop (first + 1) list) ≡ take (end - (first + 1)) (drop (first + 1) list)
      by_end (inl long) left = let all : 63 ≡ end - (first + 1) = omega (arith, is, long) in ap (λ n. take n (drop (first + 1) list)) all
      by_end (inr short) left =
          take_all 63 (drop (first + 1) list) (omega (arith, left, short))
          ∙ sym (take_all (end - (first + 1)) (drop (first + 1) list) (omega (arith, left, is, short)))
