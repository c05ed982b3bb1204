use Rattle.sealing_policy.proofs.UsesLemmas.{sealing_uses_exactly}
use Rattle.sealing_policy.proofs.law.ignores_law.Goals as goal

pub returns : goal.returns
returns c = sealing_uses_exactly
