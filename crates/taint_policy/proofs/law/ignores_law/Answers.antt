use Rattle.taint_policy.proofs.UsesLemmas.{taint_uses_exactly}
use Rattle.taint_policy.proofs.law.ignores_law.Goals as goal

pub returns : goal.returns
returns c = taint_uses_exactly
