use Rattle.secrecy_policy.proofs.UsesLemmas.{secret_uses_exactly}
use Rattle.secrecy_policy.proofs.law.ignores_law.Goals as goal

pub returns : goal.returns
returns c = secret_uses_exactly
