-- The heap's words in a machine of which the invariant holds: each live block has its own, and a number that is below the next.
use Rattle.std.proofs.Common.{◌≡◌, ◌≢◌, ◌⊎◌, inl, inr, ℕ, ◌*◌, ◌/◌, ◌<◌, ◌≤◌, true, List, length, get_or, Option, Some, None, refl, subst, arith}
use Rattle.std.specs.List.{All, Contains, find}
use Rattle.std.proofs.lemmas.Bool.{and_from, cases_eq, le-leb, lt-ltb}
use Rattle.std.proofs.lemmas.List.Elements.{All-contains, All-contains_itself}
use Rattle.engine_trait.specs.Events.{Event}
use Rattle.engine_trait.specs.Machine.{IsMachine, Machine}
use Rattle.live_blocks.specs.Space.{IsApart, IsWithin, end_of}
use Rattle.live_blocks.specs.declared.block.Block.{Block}
use Rattle.heap_policy.specs.Heap.{HeapState, heap}
use Rattle.heap_policy.specs.declared.tag.HeapTag.{HeapTag}
use Rattle.heap_policy.specs.declared.tag.HeapTag.TheVariants.{Cell}
use Rattle.part_turns.proofs.PlaceLemmas.{nth_tag}
use Rattle.heap_runs.specs.HeapInvariant.{HeapInvariant, IsBelow, IsCellOf, is_in_block}
use Rattle.heap_runs.specs.HeapSafe.{is_in_heap}
use Rattle.heap_runs.proofs.FindLemmas.{apart, has_word, lies_in, none_passes}
use Rattle.live_blocks.proofs.ListLemmas.{IsFound, found}

-- a word from the region's base on and below its top
pub heap_has : (base top n : ℕ) → base ≤ 4 * n → 4 * n < top → is_in_heap base top (4 * n) ≡ true
heap_has base top n from below = and_from _ _ (le-leb base (4 * (4 * n / 4)) (omega arith)) (lt-ltb (4 * (4 * n / 4)) top (omega arith))

-- a cell's block is below the next
cell_below : (next : ℕ) (block : Block) (tag : HeapTag) → IsCellOf (Some block) tag → IsBelow next tag → block.number < next
cell_below next block tag cell below = let named : IsBelow next (Cell block.number cell.0) = subst (IsBelow next) cell.1 below in named.0

module _ (base top : ℕ) (events : List (Event HeapTag)) (s : Machine HeapState HeapTag) (is : IsMachine heap s)
    (invariant : HeapInvariant base top events s) where
  pub live_within : (block : Block) → Contains s.policy.space.live block → IsWithin base top block
  live_within block live =
      subst (λ (end : ℕ). IsWithin base end block) invariant.to
      (subst (λ (start : ℕ). IsWithin start s.policy.space.top block) invariant.from
      (All-contains (IsWithin s.policy.space.base s.policy.space.top) s.policy.space.live block invariant.space.within live))

  -- a live block has its first word
  first_word : (block : Block) → Contains s.policy.space.live block → (n : ℕ) → 4 * n ≡ block.base → is_in_block (4 * n) block ≡ true
  first_word block live n at = let within = live_within block live in has_word (4 * n) block (omega arith) (omega (arith, within.some))

  number_by : (block : Block) → Contains s.policy.space.live block → (n : ℕ) → 4 * n ≡ block.base → n < length s.core.ram.words
      → (holder : Option Block) → find (is_in_block (4 * n)) s.policy.space.live ≡ holder → IsCellOf holder (nth_tag s.core.ram n)
      → block.number < s.policy.next
  number_by block live n at there None none cell =
      absurd (let fails = none_passes (is_in_block (4 * n)) s.policy.space.live block none live in let passes = first_word block live n at in cc)
  number_by block live n at there (Some other) holds cell = by_number (cases_eq other.number block.number)
    where
      is_found : IsFound (is_in_block (4 * n)) s.policy.space.live other
      is_found = found (is_in_block (4 * n)) s.policy.space.live other holds

      -- two blocks of one word are not apart
      meet : (block.base ≤ 4 * n) × (4 * n < end_of block) → (other.base ≤ 4 * n) × (4 * n < end_of other) → IsApart other.base other.words block → ⊥
      meet one two (inl before) = omega (arith, one.0, two.1)
      meet one two (inr behind) = omega (arith, one.1, two.0)

      by_number : (other.number ≡ block.number) ⊎ (other.number ≢ block.number) → block.number < s.policy.next
      by_number (inl same) =
          subst (λ (number : ℕ). number < s.policy.next) same (cell_below s.policy.next other (nth_tag s.core.ram n) cell (invariant.words n))
      by_number (inr differs) = absurd
          (meet (lies_in (4 * n) block (first_word block live n at)) (lies_in (4 * n) other is_found.passes)
          (apart s.policy.space invariant.space other block is_found.among live differs))

  live_below : (block : Block) → Contains s.policy.space.live block → block.number < s.policy.next
  live_below block live =
      let within = live_within block live in
      let n = block.base / 4 in
      let at : 4 * n ≡ block.base = omega (arith, within.aligned) in
      let there : n < length s.core.ram.words = omega (arith, within.some, within.to, is.room, invariant.to) in
      let inside : is_in_heap base top (4 * n) ≡ true = heap_has base top n (omega (arith, within.from)) (omega (arith, within.some, within.to)) in
      number_by block live n at there (find (is_in_block (4 * n)) s.policy.space.live) refl (invariant.cells n there inside)

  pub newest : All (λ block. block.number < s.policy.next) s.policy.space.live
  newest k d lower = live_below (get_or s.policy.space.live k d) (All-contains_itself s.policy.space.live k d lower)
