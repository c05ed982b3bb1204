use Rattle.run_props.proofs.RunLemmas.{beside_is_safe}
use Rattle.run_props.proofs.law.beside_law.Goals as goal

pub returns : goal.returns
returns g c = λ basis image own feed items is held room.
    beside_is_safe g.Q.Policy.model g.Q.Policy.holds g.met.Q.Policy.lawful basis image own feed items is held room
