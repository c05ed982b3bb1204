use Rattle.flow_runs.proofs.StartLemmas.{holds_at_the_start}
use Rattle.flow_runs.proofs.law.start_law.Goals as goal

pub returns : goal.returns
returns c = holds_at_the_start
