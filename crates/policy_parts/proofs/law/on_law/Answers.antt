use Rattle.policy_parts.proofs.OnLemmas.{part_of_itself}
use Rattle.policy_parts.proofs.law.on_law.Goals as goal

pub returns : goal.returns
returns g c plain absent same = part_of_itself g.P.Policy.model g.P.Policy.holds g.met.P.Policy.lawful plain absent same
