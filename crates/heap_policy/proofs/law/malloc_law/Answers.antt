use Rattle.heap_policy.specs.HeapLaws.{new_block}
use Rattle.heap_policy.proofs.law.malloc_law.Goals as goal

pub returns : goal.returns
returns c = new_block
