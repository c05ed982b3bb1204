use Rattle.compartment_policy.proofs.UsesLemmas.{compartments_use_exactly}
use Rattle.compartment_policy.proofs.law.ignores_law.Goals as goal

pub returns : goal.returns
returns c = compartments_use_exactly
