use Rattle.policy_choice.proofs.AllLemmas.{all_told_flat}
use Rattle.policy_choice.proofs.law.flat_law.Goals as goal

pub returns : goal.returns
returns g = all_told_flat
