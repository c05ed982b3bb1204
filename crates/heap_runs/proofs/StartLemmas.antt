-- The invariant at the start: no block was handed out, each word of the heap region is free, and every other is static.
use Rattle.std.proofs.Common.{◌≡◌, inl, inr, ◌⊎◌, ℕ, zero, suc, ◌+◌, ◌-◌, ◌*◌, ◌%◌, ◌^◌, ◌<◌, ◌≤◌, ◌==◌, Bool, true, false, List, [], ◌∷◌, length, map, replicate, get_or, if◌then◌else◌, refl, sym, subst, ap, ◌∙◌, arith}
use Rattle.std.specs.List.{range_with_len}
use Rattle.std.proofs.lemmas.Bool.{cases_lt}
use Rattle.std.proofs.lemmas.List.{get_or_past}
use Rattle.std.proofs.lemmas.List.Elements.{All-nil}
use Rattle.std.proofs.lemmas.List.FromFn.{get_or-map-range_with_len, length-map-range_with_len}
use Rattle.policy_trait.specs.declared.birth.Birth.{Birth}
use Rattle.tag_memory.specs.Hart.{fresh_hart, reg_tag}
use Rattle.live_blocks.specs.Space.{IsSpace, IsWithin, region}
use Rattle.heap_policy.specs.Heap.{empty_heap, heap, heap_start_word}
use Rattle.heap_policy.specs.declared.tag.Content.TheVariants as contents
use Rattle.heap_policy.specs.declared.tag.HeapTag.{HeapTag}
use Rattle.heap_policy.specs.declared.tag.HeapTag.TheVariants.{Val, Static, Free}
use Rattle.part_turns.specs.Start.{first_machine}
use Rattle.heap_runs.specs.BlockBook.{block_book}
use Rattle.heap_runs.specs.HeapInvariant.{HeapInvariant, IsBelow}
use Rattle.heap_runs.specs.HeapSafe.{is_in_heap}

-- a region with no live blocks
empty_space : (base top : ℕ) → base % 4 ≡ 0 → base ≤ top → top < 2 ^ 32 → IsSpace (region base top [])
empty_space base top aligned rising small = record {
  aligned = aligned;
  rising = rising;
  small = small;
  within = All-nil (IsWithin base top);
  numbered = λ i j d lower in_range. absurd (omega arith);
  disjoint = λ i j d lower in_range. absurd (omega arith);
}

-- ---- words

module _ (birth : ℕ → Birth) (words : List ℕ) where
  abbrev tags : List HeapTag
  tags = map (λ n. heap_start_word (birth (4 * n))) (range_with_len 0 (length words))

  word_is : (n : ℕ) → n < length words → get_or tags n Val ≡ heap_start_word (birth (4 * n))
  word_is n lower = get_or-map-range_with_len (λ n. heap_start_word (birth (4 * n))) 0 (length words) n n Val lower (omega arith)

  start_is : (n : ℕ) (in_heap : Bool) → n < length words → (birth (4 * n)).heap ≡ in_heap
      → get_or tags n Val ≡ (if in_heap then Free else Static contents.Val)
  start_is n in_heap lower told = word_is n lower ∙ ap (λ (test : Bool). if test then Free else Static contents.Val) told

  start_below : (in_heap : Bool) → IsBelow 0 (if in_heap then Free else Static contents.Val)
  start_below true = tt
  start_below false = tt

  words_below : (n : ℕ) → IsBelow 0 (get_or tags n Val)
  words_below n = by_place (cases_lt n (length words))
    where
      by_place : (n < length words) ⊎ (length words ≤ n) → IsBelow 0 (get_or tags n Val)
      by_place (inl lower) = subst (IsBelow 0) (sym (word_is n lower)) (start_below (birth (4 * n)).heap)
      by_place (inr past) =
          let size : length tags ≡ length words = length-map-range_with_len (λ n. heap_start_word (birth (4 * n))) 0 (length words) in
          subst (IsBelow 0) (sym (get_or_past tags n Val (omega arith))) tt

-- ---- registers

plain_below : (count n : ℕ) → IsBelow 0 (get_or (replicate count Val) n Val)
plain_below zero n = tt
plain_below (suc count) zero = tt
plain_below (suc count) (suc n) = plain_below count n

fresh_below : (pc r : ℕ) → IsBelow 0 (reg_tag (fresh_hart pc Val Val) r)
fresh_below pc r = by_zero (r == 0)
  where
    by_zero : (is_zero : Bool) → IsBelow 0 (if is_zero then Val else get_or (replicate 31 Val) (r - 1) Val)
    by_zero true = tt
    by_zero false = plain_below 31 (r - 1)

-- each hart that is there, and what stands for one that is not
registers_below : (entries : List ℕ) (h r : ℕ)
    → IsBelow 0 (reg_tag (get_or (map (λ entry. fresh_hart entry Val Val) entries) h (fresh_hart 0 Val Val)) r)
registers_below [] h r = fresh_below 0 r
registers_below (entry ∷ entries) zero r = fresh_below entry r
registers_below (entry ∷ entries) (suc h) r = registers_below entries h r

-- each pc is plain
pc_below : (entries : List ℕ) (h : ℕ) → IsBelow 0 (get_or (map (λ entry. fresh_hart entry Val Val) entries) h (fresh_hart 0 Val Val)).pc_tag
pc_below [] h = tt
pc_below (entry ∷ entries) zero = tt
pc_below (entry ∷ entries) (suc h) = pc_below entries h

-- ---- the invariant

pub starts : (birth : ℕ → Birth) (words entries : List ℕ) (base bytes : ℕ) → base % 4 ≡ 0 → base + bytes < 2 ^ 32
    → ((n : ℕ) → n < length words → (birth (4 * n)).heap ≡ is_in_heap base (base + bytes) (4 * n))
    → HeapInvariant base (base + bytes) [] (first_machine heap (empty_heap base bytes) birth words entries)
unfolding block_book
starts birth words entries base bytes aligned small told = record {
  from = refl;
  to = refl;
  space = empty_space base (base + bytes) aligned (omega arith) small;
  live = refl;
  next = refl;
  static = λ n lower outside. (contents.Val, start_is birth words n false lower (told n lower ∙ outside));
  cells = λ n lower inside. start_is birth words n true lower (told n lower ∙ inside);
  harts = λ h. record { pc = pc_below entries h; registers = registers_below entries h };
  words = words_below birth words;
}
