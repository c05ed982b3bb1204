-- The invariant after a service that was carried out: a block handed out, a block taken back, or the words of another policy.
use Rattle.std.proofs.Common.{◌≡◌, ℕ, ◌+◌, ◌*◌, ◌<◌, ◌≤◌, Bool, true, false, List, [], ◌∷◌, ◌++◌, length, map, Option, Some, None, Result, Ok, if◌then◌else◌, refl, sym, ap, ◌∙◌, subst, arith}
use Rattle.std.specs.List.{Contains, filter, find}
use Rattle.std.proofs.lemmas.List.{length-map}
use Rattle.policy_trait.specs.declared.rules.Refused.{Refused}
use Rattle.std.proofs.lemmas.Option.{none-some, same_Some}
use Rattle.policy_trait.specs.declared.services.Plan.{Plan}
use Rattle.policy_trait.specs.declared.services.Words.{Words}
use Rattle.policy_parts.specs.Part.{word_tag}
use Rattle.tag_memory.specs.Ram.{RamState}
use Rattle.tag_memory.specs.Rows.{LiesOutsideRow}
use Rattle.engine_trait.specs.Events.{Event}
use Rattle.engine_trait.specs.Machine.{CoreState, IsMachine, Machine, hart_at}
use Rattle.live_blocks.specs.Space.{IsFirstFit}
use Rattle.live_blocks.specs.SpaceEdits.{first_within, space_filter, space_insert}
use Rattle.live_blocks.specs.declared.block.Block.{Block}
use Rattle.heap_policy.specs.Heap.{HeapState, freeing, handed_out, handing_out, heap, heap_knows, taken_back, wipe_tag}
use Rattle.heap_policy.specs.declared.tag.Content.TheVariants as contents
use Rattle.heap_policy.specs.declared.tag.HeapTag.{HeapTag}
use Rattle.heap_policy.specs.declared.tag.HeapTag.TheVariants.{Cell, Free}
use Rattle.part_turns.proofs.PlaceLemmas.{IsServed, kept, nth_tag, written}
use Rattle.heap_runs.specs.BlockBook.{BlockBook, block_book, freed_where, live_in}
use Rattle.heap_runs.specs.HeapInvariant.{HeapInvariant, IsBelow, IsCellOf, IsHartBelow, IsStatic, is_in_block}
use Rattle.heap_runs.specs.HeapSafe.{is_in_heap}
use Rattle.heap_runs.proofs.BookLemmas.{is_other, length_pushed, live_freed, live_pushed, lives}
use Rattle.heap_runs.proofs.FindLemmas.{found_before, found_last, free_word, gone, has_word, lies_out, stays}
use Rattle.heap_runs.proofs.KeptLemmas.{StaysMemory}
use Rattle.heap_runs.proofs.RegionLemmas.{heap_has, live_within, newest}
use Rattle.shared_terms.proofs.StepLemmas.{ok_is}
use Rattle.heap_runs.proofs.TagLemmas.{IsKept, below_more, given, same_kept, wiped_below, wiped_kept}

-- ---- a service of heap safety's own: each word of the range gets one tag, and every other keeps its own

data IsLeft (range : Words) (result old new : HeapTag) (n : ℕ) : Type 0 where
  inside : range.base ≤ 4 * n → 4 * n < range.base + 4 * range.count → new ≡ result → IsLeft range result old new n
  outside : LiesOutsideRow range.base range.count (4 * n) → new ≡ old → IsLeft range result old new n

module _ (v : HeapState) (p : Plan HeapTag) (ram new : RamState HeapTag) (range : Words) (result : HeapTag) (n : ℕ) where
  left_by : p.range ≡ Some range → word_tag heap v p (nth_tag ram n) ≡ given result → IsServed heap v p ram new n
      → IsLeft range result (nth_tag ram n) (nth_tag new n) n
  left_by ranged row (written other ranged_there from below tag word) =
      let same : other ≡ range = same_Some other range (let first = ranged in let second = ranged_there in cc) in
      inside (subst (λ (r : Words). r.base ≤ 4 * n) same from) (subst (λ (r : Words). 4 * n < r.base + 4 * r.count) same below)
      (ok_is {E = Refused} (nth_tag new n) result (let first = row in let second = tag in cc))
  left_by ranged row (kept beyond tag word) = outside (beyond range ranged) tag

-- a word outside the heap is none of a range of the heap
static_left : (base top : ℕ) (range : Words) (result old new : HeapTag) (n : ℕ) → base ≤ range.base → range.base + 4 * range.count ≤ top
    → is_in_heap base top (4 * n) ≡ false → IsStatic old → IsLeft range result old new n → IsStatic new
static_left base top range result old new n from to elsewhere static (inside lower higher is) =
    absurd (let heaped = heap_has base top n (omega arith) (omega arith) in cc)
static_left base top range result old new n from to elsewhere static (outside beyond is) = subst IsStatic (sym is) static

below_left : (next : ℕ) (range : Words) (result old new : HeapTag) (n : ℕ) → IsBelow next result → IsBelow next old
    → IsLeft range result old new n → IsBelow next new
below_left next range result old new n below was (inside lower higher is) = subst (IsBelow next) (sym is) below
below_left next range result old new n below was (outside beyond is) = subst (IsBelow next) (sym is) was

module _ (base top : ℕ) (events : List (Event HeapTag)) (s : Machine HeapState HeapTag) (is : IsMachine heap s)
    (invariant : HeapInvariant base top events s) (later : List (Event HeapTag)) (core : CoreState HeapTag)
    (size : length core.ram.words ≡ length s.core.ram.words) where
  abbrev book : BlockBook
  book = block_book events

  abbrev next : ℕ
  next = s.policy.next

  abbrev live : List Block
  live = s.policy.space.live

  -- a word's tag before and after
  abbrev old : ℕ → HeapTag
  old n = nth_tag s.core.ram n

  abbrev new : ℕ → HeapTag
  new n = nth_tag core.ram n

  there : (n : ℕ) → n < length core.ram.words → n < length s.core.ram.words
  there n lower = omega (arith, size)

  -- the block that has a word
  abbrev holder_in : List Block → ℕ → Option Block
  holder_in blocks n = find (is_in_block (4 * n)) blocks

  held_by : (n : ℕ) (found holder : Option Block) → found ≡ holder → IsCellOf holder (new n) → IsCellOf found (new n)
  held_by n found holder same cell = subst (λ (holder : Option Block). IsCellOf holder (new n)) (sym same) cell

  still_held : (n : ℕ) → new n ≡ old n → IsCellOf (holder_in live n) (old n) → IsCellOf (holder_in live n) (new n)
  still_held n same cell = subst (IsCellOf (holder_in live n)) (sym same) cell

  -- ---- a block handed out

  module _ (at count : ℕ) (some : 1 ≤ count) (fit : IsFirstFit s.policy.space count at) where
    abbrev range : Words
    range = record { base = at; count = count }

    abbrev block : Block
    block = record { number = next; base = at; words = count }

    handed_cell : (n : ℕ) → IsCellOf (holder_in live n) (old n) → IsLeft range (Cell next contents.Val) (old n) (new n) n
        → IsCellOf (holder_in (live ++ block ∷ []) n) (new n)
    handed_cell n cell (inside from below tag) =
        let none = free_word s.policy.space count at (4 * n) fit.lies_free from below in
        held_by n _ (Some block) (found_last (is_in_block (4 * n)) live block none (has_word (4 * n) block from below)) (contents.Val, tag)
    handed_cell n cell (outside beyond tag) =
        held_by n _ (holder_in live n) (found_before (is_in_block (4 * n)) live block (lies_out (4 * n) block beyond)) (still_held n tag cell)

    in_region : (base ≤ at) × (at + 4 * count ≤ top)
    in_region = (omega (arith, fit.lies_free.from, invariant.from), omega (arith, fit.lies_free.to, invariant.to))

    pub handed_invariant : (pc : HeapTag) → block_book later ≡ book ++ lives block ∷ []
        → ((n : ℕ) → IsServed heap s.policy (handing_out next range pc) s.core.ram core.ram n)
        → ((h : ℕ) → IsHartBelow (next + 1) (hart_at core h))
        → HeapInvariant base top later (record { policy = handed_out s.policy next (Some range); core = core })
    handed_invariant pc noted served harts = record {
      from = invariant.from;
      to = invariant.to;
      space = space_insert s.policy.space block invariant.space (first_within s.policy.space next count at some fit) fit.lies_free
          (newest base top events s is invariant);
      live = ap (λ (l : List Block). l ++ block ∷ []) invariant.live ∙ sym (live_pushed book block) ∙ ap live_in (sym noted);
      next = ap (λ (n : ℕ). n + 1) invariant.next ∙ sym (length_pushed book block) ∙ ap length (sym noted);
      static = λ n lower elsewhere. static_left base top range _ (old n) (new n) n in_region.0 in_region.1 elsewhere
          (invariant.static n (there n lower) elsewhere) (word_left n);
      cells = λ n lower heaped. handed_cell n (invariant.cells n (there n lower) heaped) (word_left n);
      harts = harts;
      words = λ n. below_left (next + 1) range _ (old n) (new n) n (omega arith, tt)
          (below_more next (next + 1) (omega arith) (old n) (invariant.words n)) (word_left n);
    }
      where
        word_left : (n : ℕ) → IsLeft range (Cell next contents.Val) (old n) (new n) n
        word_left n = left_by s.policy (handing_out next range pc) s.core.ram core.ram range (Cell next contents.Val) n refl refl (served n)

  -- ---- a block taken back

  module _ (block : Block) (is_live : Contains live block) where
    abbrev rest : List Block
    rest = filter (is_other block.number) live

    abbrev words_back : Words
    words_back = record { base = block.base; count = block.words }

    freed_cell : (n : ℕ) → IsCellOf (holder_in live n) (old n) → IsLeft words_back Free (old n) (new n) n
        → IsCellOf (holder_in rest n) (new n)
    freed_cell n cell (inside from below tag) =
        held_by n _ None (gone s.policy.space invariant.space block is_live (4 * n) (has_word (4 * n) block from below)) tag
    freed_cell n cell (outside beyond tag) =
        held_by n _ (holder_in live n) (stays s.policy.space invariant.space block is_live (4 * n) (lies_out (4 * n) block beyond))
        (still_held n tag cell)

    pub freed_invariant : (pc : HeapTag) → block_book later ≡ map (freed_where block.number) book
        → ((n : ℕ) → IsServed heap s.policy (freeing block pc) s.core.ram core.ram n)
        → ((h : ℕ) → IsHartBelow next (hart_at core h))
        → HeapInvariant base top later (record { policy = taken_back s.policy block.number; core = core })
    freed_invariant pc noted served harts = let within = live_within base top events s is invariant block is_live in record {
      from = invariant.from;
      to = invariant.to;
      space = space_filter s.policy.space block.number invariant.space;
      live = ap (filter (is_other block.number)) invariant.live ∙ sym (live_freed block.number book) ∙ ap live_in (sym noted);
      next = invariant.next ∙ sym (length-map book (freed_where block.number)) ∙ ap length (sym noted);
      static = λ n lower elsewhere. static_left base top words_back _ (old n) (new n) n within.from within.to elsewhere
          (invariant.static n (there n lower) elsewhere) (word_left n);
      cells = λ n lower heaped. freed_cell n (invariant.cells n (there n lower) heaped) (word_left n);
      harts = harts;
      words = λ n. below_left next words_back _ (old n) (new n) n tt (invariant.words n) (word_left n);
    }
      where
        word_left : (n : ℕ) → IsLeft words_back Free (old n) (new n) n
        word_left n = left_by s.policy (freeing block pc) s.core.ram core.ram words_back Free n refl refl (served n)

  -- ---- another policy's service

  abbrev beside : Bool → HeapTag → Result HeapTag Refused
  beside zero tag = if zero then wipe_tag tag else Ok tag

  beside_kept : (zero : Bool) (tag result : HeapTag) → beside zero tag ≡ given result → IsKept tag result
  beside_kept true tag result e = wiped_kept tag result e
  beside_kept false tag result e = subst (IsKept tag) (ok_is tag result e) (same_kept tag)

  beside_below : (zero : Bool) (tag result : HeapTag) → IsBelow next tag → beside zero tag ≡ given result → IsBelow next result
  beside_below true tag result below e = wiped_below next tag result below e
  beside_below false tag result below e = subst (IsBelow next) (ok_is tag result e) below

  module _ (p : Plan HeapTag) (unknown : heap_knows p.service ≡ false) where
    beside_is : (tag : HeapTag) → word_tag heap s.policy p tag ≡ beside p.zero tag
    beside_is tag = rw unknown refl

    others_kept : (n : ℕ) → IsServed heap s.policy p s.core.ram core.ram n → IsKept (old n) (new n)
    others_kept n (written words_there ranged from below tag word) = beside_kept p.zero (old n) (new n) (sym (beside_is (old n)) ∙ tag)
    others_kept n (kept beyond tag word) = subst (IsKept (old n)) (sym tag) (same_kept (old n))

    others_below : (n : ℕ) → IsServed heap s.policy p s.core.ram core.ram n → IsBelow next (new n)
    others_below n (written words_there ranged from below tag word) =
        beside_below p.zero (old n) (new n) (invariant.words n) (sym (beside_is (old n)) ∙ tag)
    others_below n (kept beyond tag word) = subst (IsBelow next) (sym tag) (invariant.words n)

    pub others_memory : ((n : ℕ) → IsServed heap s.policy p s.core.ram core.ram n) → StaysMemory next s.core.ram core.ram
    others_memory served = record { size = size; kinds = λ n lower. others_kept n (served n); below = λ n. others_below n (served n) }

  -- ---- a service with no range

  module _ (p : Plan HeapTag) (none : p.range ≡ None) where
    same_tag : (n : ℕ) → IsServed heap s.policy p s.core.ram core.ram n → old n ≡ new n
    same_tag n (written words_there ranged from below tag word) = absurd (none-some words_there (sym none ∙ ranged))
    same_tag n (kept beyond tag word) = sym tag

    pub unranged_memory : ((n : ℕ) → IsServed heap s.policy p s.core.ram core.ram n) → StaysMemory next s.core.ram core.ram
    unranged_memory served = record {
      size = size;
      kinds = λ n lower. subst (IsKept (old n)) (same_tag n (served n)) (same_kept (old n));
      below = λ n. subst (IsBelow next) (same_tag n (served n)) (invariant.words n);
    }
