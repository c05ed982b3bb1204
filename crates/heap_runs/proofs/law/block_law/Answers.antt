use Rattle.heap_runs.proofs.TurnLemmas.{keeps}
use Rattle.heap_runs.proofs.law.block_law.Goals as goal

pub returns : goal.returns
returns c = keeps
