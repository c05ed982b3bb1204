-- Heap safety on a run: each access to the heap lies in its pointer's live block.
use Rattle.std.specs.Prelude.{◌≡◌, ℕ, ◌+◌, ◌*◌, ◌/◌, ◌≤◌, nat_le, nat_lt, Bool, true, false, ◌&&◌, List, length, Some}
use Rattle.std.specs.List.{Contains}
use Rattle.policy_trait.specs.declared.services.Answer.{Answer}
use Rattle.engine_trait.specs.Events.{Asked, Event, Touch, is_retirement}
use Rattle.live_blocks.specs.declared.block.Block.{Block}
use Rattle.heap_policy.specs.Heap.{malloc_service}
use Rattle.heap_policy.specs.declared.tag.HeapTag.{HeapTag}
use Rattle.heap_policy.specs.declared.tag.HeapTag.TheVariants.{Val, Ptr}
use Rattle.part_turns.specs.Moments.{Moment, Service, service_of}
use Rattle.heap_runs.specs.BlockBook.{BlockBook, block_book, live_in}

-- an access to a live block by a pointer to it: the tag is that of the register with the address
pub record ReachesBlock (book : BlockBook) (base_tag : HeapTag) (touch : Touch) : Type 0 where
  pub block : Block
  pub live : Contains (live_in book) block
  pub pointer : base_tag ≡ Ptr block.number
  pub from : block.base ≤ touch.address
  pub to : touch.address + touch.bytes ≤ block.base + 4 * block.words

-- the heap region: from `base` up to `top`
module _ (base top : ℕ) where
  -- the word at the address lies in it
  abbrev pub is_in_heap : ℕ → Bool
  is_in_heap address = nat_le base (4 * (address / 4)) && nat_lt (4 * (address / 4)) top

  -- What a turn does, in the book as it stands before it. Blocks are 0, 1, 2 and so on. A retired access to the heap reaches
  -- a live block by its pointer, any other has a plain value as its address, and no word of the heap is executed.
  pub record HeapTurn (book : BlockBook) (event : Event HeapTag) : Type 0 where
    pub numbers : (x : Service HeapTag) (answer : Answer HeapTag) (number : ℕ) → service_of event ≡ Some x → x.number ≡ malloc_service → x.answer ≡ Some answer
        → answer.tag ≡ Ptr number → number ≡ length book
    pub inside : (touch : Touch) (asked : Asked HeapTag) → is_retirement event ≡ true → event.access ≡ Some touch → event.asked ≡ Some asked
        → is_in_heap touch.address ≡ true → ReachesBlock book asked.inputs.t1 touch
    pub outside : (touch : Touch) (asked : Asked HeapTag) → is_retirement event ≡ true → event.access ≡ Some touch → event.asked ≡ Some asked
        → is_in_heap touch.address ≡ false → asked.inputs.t1 ≡ Val
    pub fetched : is_retirement event ≡ true → is_in_heap event.pc ≡ false

  abbrev pub HeapSafe : List (Event HeapTag) → Type 0
  HeapSafe events = (x : Moment events) → HeapTurn (block_book x.before) x.event
