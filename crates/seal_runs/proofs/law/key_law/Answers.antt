use Rattle.seal_runs.proofs.TurnLemmas.{keeps_invariant}
use Rattle.seal_runs.proofs.law.key_law.Goals as goal

pub returns : goal.returns
returns c = keeps_invariant
