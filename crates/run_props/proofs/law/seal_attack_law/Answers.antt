use Rattle.run_props.proofs.AttackLemmas.{seal_stops}
use Rattle.run_props.proofs.law.seal_attack_law.Goals as goal

pub returns : goal.returns
returns c events s feed h stands ready attack = seal_stops s feed h events stands ready attack
