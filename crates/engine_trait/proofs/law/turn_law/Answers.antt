use Rattle.engine_trait.proofs.MachineLemmas.{turn_keeps}
use Rattle.engine_trait.proofs.law.turn_law.Goals as goal

pub returns-clause-stays : goal.returns-clause-stays
returns-clause-stays g c s feed h valid is = (turn_keeps g.P.Policy.model g.P.Policy.holds g.met.P.Policy.lawful s valid is feed h).stays

pub returns-clause-holds : goal.returns-clause-holds
returns-clause-holds g c s feed h valid is = (turn_keeps g.P.Policy.model g.P.Policy.holds g.met.P.Policy.lawful s valid is feed h).valid
