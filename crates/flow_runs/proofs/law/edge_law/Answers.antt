use Rattle.flow_runs.proofs.KeepsLemmas.{turns_keep}
use Rattle.flow_runs.proofs.law.edge_law.Goals as goal

pub returns : goal.returns
returns c = turns_keep
