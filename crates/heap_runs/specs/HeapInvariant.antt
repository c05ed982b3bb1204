-- What holds of heap safety in each state that a run comes to.
use Rattle.std.specs.Prelude.{◌≡◌, ℕ, ◌*◌, ◌<◌, nat_le, nat_lt, Bool, true, false, ◌&&◌, List, length, Option, Some, None, slice_index_or}
use Rattle.std.specs.List.{find}
use Rattle.tag_memory.specs.Hart.{HartState, reg_tag}
use Rattle.engine_trait.specs.Events.{Event}
use Rattle.engine_trait.specs.Machine.{Machine, hart_at}
use Rattle.live_blocks.specs.Space.{IsSpace, end_of}
use Rattle.live_blocks.specs.declared.block.Block.{Block}
use Rattle.heap_policy.specs.Heap.{HeapState}
use Rattle.heap_policy.specs.declared.tag.Content.{Content}
use Rattle.heap_policy.specs.declared.tag.Content.TheVariants as contents
use Rattle.heap_policy.specs.declared.tag.HeapTag.{HeapTag}
use Rattle.heap_policy.specs.declared.tag.HeapTag.TheVariants.{Val, Ptr, Static, Cell, Free}
use Rattle.heap_runs.specs.BlockBook.{block_book, live_in}
use Rattle.heap_runs.specs.HeapSafe.{is_in_heap}

-- the word at the address lies in the block
abbrev pub is_in_block : ℕ → Block → Bool
is_in_block address block = nat_le block.base address && nat_lt address (end_of block)

-- the word's tag outside the heap, in a live block of the heap, and elsewhere in the heap

abbrev pub IsStatic : HeapTag → Type 0
IsStatic tag = (content : Content) × (tag ≡ Static content)

abbrev pub IsCellOf : Option Block → HeapTag → Type 0
IsCellOf None tag = tag ≡ Free
IsCellOf (Some block) tag = (content : Content) × (tag ≡ Cell block.number content)

-- each block that a tag or a content names has a number below that
abbrev pub IsContentBelow : ℕ → Content → Type 0
IsContentBelow next contents.Val = Unit {0}
IsContentBelow next (contents.Ptr number) = number < next

abbrev pub IsBelow : ℕ → HeapTag → Type 0
IsBelow next Val = Unit {0}
IsBelow next (Ptr number) = number < next
IsBelow next (Static content) = IsContentBelow next content
IsBelow next (Cell number content) = (number < next) × IsContentBelow next content
IsBelow next Free = Unit {0}

-- so do the tags of the pc and of all registers
pub record IsHartBelow (next : ℕ) (hart : HartState HeapTag) : Type 0 where
  pub pc : IsBelow next hart.pc_tag
  pub registers : (r : ℕ) → IsBelow next (reg_tag hart r)

module _ (base top : ℕ) where
  -- The policy's region is that region, its live blocks are the book's, each with a number of its own and the words of none
  -- other, and the next number is how many were handed out, which is above all that any tag names. A word of the heap is a
  -- cell of the live block that has it, or free; every other is static.
  pub record HeapInvariant (events : List (Event HeapTag)) (s : Machine HeapState HeapTag) : Type 0 where
    pub from : s.policy.space.base ≡ base
    pub to : s.policy.space.top ≡ top
    pub space : IsSpace s.policy.space
    pub live : s.policy.space.live ≡ live_in (block_book events)
    pub next : s.policy.next ≡ length (block_book events)
    pub static : (n : ℕ) → n < length s.core.ram.words → is_in_heap base top (4 * n) ≡ false
        → IsStatic (slice_index_or s.core.ram.tags n s.core.ram.plain)
    pub cells : (n : ℕ) → n < length s.core.ram.words → is_in_heap base top (4 * n) ≡ true
        → IsCellOf (find (is_in_block (4 * n)) s.policy.space.live) (slice_index_or s.core.ram.tags n s.core.ram.plain)
    pub harts : (h : ℕ) → IsHartBelow s.policy.next (hart_at s.core h)
    pub words : (n : ℕ) → IsBelow s.policy.next (slice_index_or s.core.ram.tags n s.core.ram.plain)
