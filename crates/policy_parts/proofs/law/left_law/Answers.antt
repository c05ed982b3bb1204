use Rattle.policy_parts.proofs.PairLemmas.{part_of_left}
use Rattle.policy_parts.proofs.law.left_law.Goals as goal

pub returns : goal.returns
returns g c l part =
    part_of_left g.P.Policy.model g.Q.Policy.model g.P.Policy.holds g.Q.Policy.holds g.met.P.Policy.lawful g.met.Q.Policy.lawful g.R.Policy.model l part
