use Rattle.taint_runs.proofs.PartLemmas.{part_alone, part_of_pair}
use Rattle.taint_runs.proofs.law.part_law.Goals as goal

pub returns-clause-alone : goal.returns-clause-alone
returns-clause-alone c = part_alone

pub returns-clause-pair : goal.returns-clause-pair
returns-clause-pair c = part_of_pair
