-- The block book of a run: the blocks that were handed out, and which of them are live.
use Rattle.std.specs.Prelude.{ℕ, ◌==◌, Bool, true, false, List, [], ◌∷◌, ◌++◌, map, Option, Some, None, if◌then◌else◌}
use Rattle.std.specs.List.{filter, fold}
use Rattle.policy_trait.specs.declared.services.Answer.{Answer}
use Rattle.engine_trait.specs.Events.{Event}
use Rattle.live_blocks.specs.declared.block.Block.{Block}
use Rattle.heap_policy.specs.Heap.{free_service, malloc_service, words_of}
use Rattle.heap_policy.specs.declared.tag.HeapTag.{HeapTag}
use Rattle.heap_policy.specs.declared.tag.HeapTag.TheVariants.{Val, Ptr, Static, Cell, Free}
use Rattle.part_turns.specs.Moments.{Service, service_of}

-- a block that was handed out, and whether it has not been freed since
pub record Handed : Type 0 where
  pub block : Block
  pub is_live : Bool

-- in the order in which they were handed out
abbrev pub BlockBook : Type 0
BlockBook = List Handed

-- the block of the number that the answer's tag has, at the answer's value, of so many bytes in whole words
abbrev pub book_with : ℕ → ℕ → HeapTag → BlockBook → BlockBook
book_with bytes value (Ptr number) book =
    book ++ record { block = record { number = number; base = value; words = words_of bytes }; is_live = true } ∷ []
book_with bytes value Val book = book
book_with bytes value (Static content) book = book
book_with bytes value (Cell number content) book = book
book_with bytes value Free book = book

abbrev pub handed_by : ℕ → Option (Answer HeapTag) → BlockBook → BlockBook
handed_by bytes None book = book
handed_by bytes (Some answer) book = book_with bytes answer.value answer.tag book

abbrev pub freed_where : ℕ → Handed → Handed
freed_where number x = if x.block.number == number then record x { is_live = false } else x

-- the block that the pointer has the number of is no more live
abbrev pub book_without : HeapTag → BlockBook → BlockBook
book_without (Ptr number) book = map (freed_where number) book
book_without Val book = book
book_without (Static content) book = book
book_without (Cell number content) book = book
book_without Free book = book

-- malloc hands out a block of a0 bytes, free takes that of the pointer in a0 back
abbrev pub blocks_by : BlockBook → Option (Service HeapTag) → BlockBook
blocks_by book None = book
blocks_by book (Some x) =
    if x.number == malloc_service then handed_by x.arguments.a0 x.answer book else
    if x.number == free_service then book_without x.arguments.t0 book else
    book

abbrev pub blocks_after : BlockBook → Event HeapTag → BlockBook
blocks_after book event = blocks_by book (service_of event)

unfoldable pub block_book : List (Event HeapTag) → BlockBook
block_book events = fold blocks_after [] events

-- the live ones
abbrev pub live_in : BlockBook → List Block
live_in book = map (λ x. x.block) (filter (λ x. x.is_live) book)
