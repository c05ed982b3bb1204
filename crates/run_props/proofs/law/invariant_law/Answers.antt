use Rattle.run_props.proofs.RunLemmas.{run_meets_invariant}
use Rattle.run_props.proofs.law.invariant_law.Goals as goal

pub returns : goal.returns
returns c basis g feed items is = run_meets_invariant basis g feed items is
