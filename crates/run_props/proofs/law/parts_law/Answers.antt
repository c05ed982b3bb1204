use Rattle.run_props.proofs.PartLemmas.{comp_is_part, flow_is_part, heap_is_part, seal_is_part}
use Rattle.run_props.proofs.law.parts_law.Goals as goal

pub returns-clause-seal : goal.returns-clause-seal
returns-clause-seal g = seal_is_part

pub returns-clause-comp : goal.returns-clause-comp
returns-clause-comp g = comp_is_part

pub returns-clause-flow : goal.returns-clause-flow
returns-clause-flow g = flow_is_part

pub returns-clause-heap : goal.returns-clause-heap
returns-clause-heap g = heap_is_part
