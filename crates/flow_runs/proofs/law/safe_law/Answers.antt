use Rattle.flow_runs.proofs.SafeLemmas.{run_is_safe}
use Rattle.flow_runs.proofs.law.safe_law.Goals as goal

pub returns : goal.returns
returns c = run_is_safe
