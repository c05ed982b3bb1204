use Rattle.policy_choice.proofs.NothingLemmas.{nothing_mirrors}
use Rattle.policy_choice.proofs.law.nothing_law.Goals as goal

pub returns : goal.returns
returns g = nothing_mirrors
