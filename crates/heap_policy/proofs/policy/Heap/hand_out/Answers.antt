-- There is room for the next block, and the heap with it is one.
use Rattle.std.proofs.Common.{◌≡◌, ℕ, ◌+◌, ◌<◌, max, List, length, Some, sym, subst, ap, ◌∙◌, arith}
use Rattle.std.specs.List.{All}
use Rattle.live_blocks.proofs.BackLemmas.{put_newest}
use Rattle.live_blocks.proofs.PlaceLemmas.{few_below}
use Rattle.live_blocks.specs.declared.block.Block.{Block}
use Rattle.live_blocks.specs.Room.{Blocks, blocks_of}
use Rattle.live_blocks.specs.Space.{put_block, region, with_block}
use Rattle.heap_policy.specs.Heap.{CanHandOut, HasRoom, HeapState, block_at, handed_out}
use Rattle.heap_policy.specs.HeapLaws.{block_newest, handed_out_holds}
use Rattle.heap_policy.proofs.policy.Heap.hand_out.Goals as goal

-- the blocks, once there is room and the newest one is in
put_in : (old made new : Blocks) (room : ℕ) (block : Block) → made ≡ blocks_of old.space (max old.room room) → new ≡ blocks_of (put_block made.space block) made.room
    → All (λ other. other.number < block.number) old.space.live → new ≡ blocks_of (with_block old.space block) (max old.room room)
put_in old made new room block made_is new_is newest =
    new_is ∙ ap (λ (b : Blocks). blocks_of (put_block b.space block) b.room) made_is
    ∙ ap (λ (l : List Block). blocks_of (region old.space.base old.space.top l) (max old.room room)) (put_newest old.space.live block newest)

pub insert-requires-clause-room : goal.insert-requires-clause-room
insert-requires-clause-room c =
    let before : HeapState = record { space = c.self.inside.blocks.space; next = c.self.inside.next } in
    let can : CanHandOut before c.args.number c.args.words = subst (λ s. CanHandOut s c.args.number c.args.words) (sym c.self.view_is) c.requires in
    let few = few_below before.space.live before.next c.self.invariant.heap.space.numbered c.self.invariant.heap.below in
    subst (λ (b : Blocks). length b.space.live < b.room) (sym c.in_ok-make_room.ensures.ok) (omega (arith, few, can.next))

pub invariant_of-self-2 : goal.invariant_of-self-2
invariant_of-self-2 c =
    let before : HeapState = record { space = c.self.inside.blocks.space; next = c.self.inside.next } in
    let can : CanHandOut before c.args.number c.args.words = subst (λ s. CanHandOut s c.args.number c.args.words) (sym c.self.view_is) c.requires in
    let made = c.make_room.new.self in
    let block = block_at c.args.number c.args.words in
    let put_is = c.insert.ensures ∙ ap (λ (b : Block). blocks_of (put_block made.space b) made.room) c.block_at.ensures in
    let blocks_are = put_in c.self.inside.blocks made c.insert.new.self (c.args.number + 1) block c.in_ok-make_room.ensures.ok put_is
    (block_newest before c.args.number c.args.words can c.self.invariant.heap) in
    subst (λ (b : Blocks). HasRoom (record { space = b.space; next = before.next + 1 }) b.room) (sym blocks_are)
    (record { heap = handed_out_holds before c.args.number c.args.words can c.self.invariant.heap; enough = omega (arith, can.next) })

pub returns-clause-ok : goal.returns-clause-ok
returns-clause-ok c =
    let before : HeapState = record { space = c.self.inside.blocks.space; next = c.self.inside.next } in
    let can : CanHandOut before c.args.number c.args.words = subst (λ s. CanHandOut s c.args.number c.args.words) (sym c.self.view_is) c.requires in
    let made = c.make_room.new.self in
    let block = block_at c.args.number c.args.words in
    let put_is = c.insert.ensures ∙ ap (λ (b : Block). blocks_of (put_block made.space b) made.room) c.block_at.ensures in
    let blocks_are = put_in c.self.inside.blocks made c.insert.new.self (c.args.number + 1) block c.in_ok-make_room.ensures.ok put_is
    (block_newest before c.args.number c.args.words can c.self.invariant.heap) in
    ap (λ (b : Blocks). record { space = b.space; next = before.next + 1 }) blocks_are
    ∙ ap (λ (s : HeapState). handed_out s c.args.number (Some c.args.words)) c.self.view_is
