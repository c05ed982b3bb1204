-- What the block book tells once an event more has happened.
use Rattle.std.proofs.Common.{Option, ◌≡◌, ℕ, ◌+◌, ◌==◌, Bool, true, false, not, List, [], ◌∷◌, ◌++◌, length, map, refl, ap, ◌∙◌}
use Rattle.std.specs.List.{filter}
use Rattle.std.proofs.lemmas.List.{length-append, map-append}
use Rattle.std.proofs.lemmas.List.Elements.{filter-append}
use Rattle.std.proofs.lemmas.List.Sums.{fold-append}
use Rattle.engine_trait.specs.Events.{Event}
use Rattle.live_blocks.specs.declared.block.Block.{Block}
use Rattle.heap_policy.specs.declared.tag.HeapTag.{HeapTag}
use Rattle.part_turns.specs.Moments.{Service, service_of}
use Rattle.heap_runs.specs.BlockBook.{BlockBook, Handed, block_book, blocks_after, blocks_by, freed_where, live_in}

-- an event is noted in the book as it stands, by its service
pub book_by : (before : List (Event HeapTag)) (event : Event HeapTag) (x : Option (Service HeapTag)) → service_of event ≡ x
    → block_book (before ++ event ∷ []) ≡ blocks_by (block_book before) x
unfolding block_book
book_by before event x is = fold-append blocks_after [] before (event ∷ []) ∙ ap (blocks_by (block_book before)) is

-- a live block
abbrev pub lives : Block → Handed
lives block = record { block = block; is_live = true }

-- ---- a block more

pub live_pushed : (book : BlockBook) (block : Block) → live_in (book ++ lives block ∷ []) ≡ live_in book ++ block ∷ []
live_pushed book block =
    ap (map (λ (x : Handed). x.block)) (filter-append (λ (x : Handed). x.is_live) book (lives block ∷ []))
    ∙ map-append (λ (x : Handed). x.block) (filter (λ (x : Handed). x.is_live) book) (lives block ∷ [])

pub length_pushed : (book : BlockBook) (block : Block) → length (book ++ lives block ∷ []) ≡ length book + 1
length_pushed book block = length-append book (lives block ∷ [])

-- ---- a block less

module _ (number : ℕ) where
  -- the block has another number
  abbrev pub is_other : Block → Bool
  is_other block = not (block.number == number)

  freed_one : (block : Block) (is_live same : Bool) (book : BlockBook) → (block.number == number) ≡ same
      → live_in (map (freed_where number) book) ≡ filter is_other (live_in book)
      → live_in (map (freed_where number) (record { block = block; is_live = is_live } ∷ book))
      ≡ filter is_other (live_in (record { block = block; is_live = is_live } ∷ book))
  freed_one block true true book e rest = rw e rest
  freed_one block true false book e rest = rw e (ap (λ (l : List Block). block ∷ l) rest)
  freed_one block false true book e rest = rw e rest
  freed_one block false false book e rest = rw e rest

  pub live_freed : (book : BlockBook) → live_in (map (freed_where number) book) ≡ filter is_other (live_in book)
  live_freed [] = refl
  live_freed (x ∷ book) = freed_one x.block x.is_live (x.block.number == number) book refl (live_freed book)
