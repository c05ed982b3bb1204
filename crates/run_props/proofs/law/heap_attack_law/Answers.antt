use Rattle.run_props.proofs.AttackLemmas.{heap_stops}
use Rattle.run_props.proofs.law.heap_attack_law.Goals as goal

pub returns : goal.returns
returns c base top events s feed h stands ready attack = heap_stops s feed h base top events stands ready attack
