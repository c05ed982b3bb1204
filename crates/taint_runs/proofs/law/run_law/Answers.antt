use Rattle.part_turns.proofs.RunLemmas.{runs_keep}
use Rattle.taint_policy.specs.Taint.{taint}
use Rattle.taint_runs.specs.TaintTurn.{NoInvariant, TaintTurn}
use Rattle.taint_runs.proofs.TurnLemmas.{keeps_taint}
use Rattle.taint_runs.proofs.law.run_law.Goals as goal

pub returns : goal.returns
returns g c l s feed items part on is valid =
    runs_keep g.P.Policy.model taint l g.P.Policy.holds g.met.P.Policy.lawful part NoInvariant TaintTurn keeps_taint s feed items on is valid tt
