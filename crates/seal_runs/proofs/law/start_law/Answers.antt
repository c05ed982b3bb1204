use Rattle.seal_runs.proofs.StartLemmas.{first_invariant}
use Rattle.seal_runs.proofs.law.start_law.Goals as goal

pub returns : goal.returns
returns c = first_invariant
