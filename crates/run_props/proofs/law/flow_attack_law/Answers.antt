use Rattle.run_props.proofs.AttackLemmas.{flow_stops}
use Rattle.run_props.proofs.law.flow_attack_law.Goals as goal

pub returns : goal.returns
returns c birth words edges events s feed h stands ready attack = flow_stops s feed h birth words edges events stands ready attack
