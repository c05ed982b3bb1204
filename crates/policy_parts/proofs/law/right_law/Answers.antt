use Rattle.policy_parts.proofs.PairLemmas.{part_of_right}
use Rattle.policy_parts.proofs.law.right_law.Goals as goal

pub returns : goal.returns
returns g c l apart part =
    part_of_right g.P.Policy.model g.Q.Policy.model g.P.Policy.holds g.Q.Policy.holds g.met.P.Policy.lawful g.met.Q.Policy.lawful apart g.R.Policy.model l part
