-- The heap with one block less is one, and the room stays.
use Rattle.std.proofs.Common.{sym, subst}
use Rattle.live_blocks.specs.Room.{Blocks}
use Rattle.heap_policy.specs.Heap.{HasRoom, HeapState}
use Rattle.heap_policy.specs.HeapLaws.{taken_back_holds}
use Rattle.heap_policy.proofs.policy.Heap.take_back.Goals as goal

pub invariant_of-self : goal.invariant_of-self
invariant_of-self c =
    let before : HeapState = record { space = c.self.inside.blocks.space; next = c.self.inside.next } in
    subst (λ (b : Blocks). HasRoom (record { space = b.space; next = before.next }) b.room) (sym c.remove.ensures)
    (record { heap = taken_back_holds before c.args.number c.self.invariant.heap; enough = c.self.invariant.enough })
