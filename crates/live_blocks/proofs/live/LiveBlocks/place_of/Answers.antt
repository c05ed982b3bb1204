-- The numbers rise, so a binary search ends at the block of the number, or none has it.
use Rattle.std.proofs.Common.{rules}
use Rattle.std.proofs.lemmas.List.Sorted.{answers_always}
use Rattle.live_blocks.specs.declared.block.Block.{Block}
use Rattle.live_blocks.proofs.NumberLemmas.{searched}
use Rattle.live_blocks.proofs.live.LiveBlocks.place_of.Goals as goal

pub returns-clause-found : goal.returns-clause-found
returns-clause-found c =
    let call = c.binary_search_by_key in
    let by_number = call.ensures.position (λ (block : Block). block.number) (answers_always _ _ _ (λ f a r g called. search rules)) in
    let is = searched c.deref.result.now (rw c.deref.ensures.value c.self.invariant.kept.sound.numbered) c.args.number
    call.result call.ensures.bound by_number in
    rw (c.ok.ensures.value, ← c.self.view_is, ← c.deref.ensures.value) is.found

pub returns-clause-absent : goal.returns-clause-absent
returns-clause-absent c =
    let call = c.binary_search_by_key in
    let by_number = call.ensures.position (λ (block : Block). block.number) (answers_always _ _ _ (λ f a r g called. search rules)) in
    let is = searched c.deref.result.now (rw c.deref.ensures.value c.self.invariant.kept.sound.numbered) c.args.number
    call.result call.ensures.bound by_number in
    rw (c.ok.ensures.value, ← c.self.view_is, ← c.deref.ensures.value) is.absent
