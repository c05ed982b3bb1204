use Rattle.heap_runs.proofs.StartLemmas.{starts}
use Rattle.heap_runs.proofs.law.start_law.Goals as goal

pub returns : goal.returns
returns c = starts
