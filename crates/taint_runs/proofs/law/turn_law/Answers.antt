use Rattle.taint_runs.proofs.TurnLemmas.{keeps_taint}
use Rattle.taint_runs.proofs.law.turn_law.Goals as goal

pub returns : goal.returns
returns c = keeps_taint
