use Rattle.run_props.proofs.RunLemmas.{run_is_safe}
use Rattle.run_props.proofs.law.run_law.Goals as goal

pub returns : goal.returns
returns c = λ basis g feed items is. run_is_safe basis g feed items is
