use Rattle.comp_runs.proofs.TurnLemmas.{comp_keeps}
use Rattle.comp_runs.proofs.law.owner_law.Goals as goal

pub returns : goal.returns
returns c = comp_keeps
