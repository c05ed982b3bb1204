use Rattle.run_props.proofs.AttackLemmas.{comp_stops}
use Rattle.run_props.proofs.law.comp_attack_law.Goals as goal

pub returns : goal.returns
returns c birth entries events s feed h stands ready attack = comp_stops s feed h birth entries events stands ready attack
