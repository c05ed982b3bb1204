use Rattle.engine_trait.proofs.ValueLemmas.{turn_words}
use Rattle.engine_trait.proofs.law.words_law.Goals as goal

pub returns : goal.returns
returns g c s feed h valid is has = turn_words g.P.Policy.model g.P.Policy.holds g.met.P.Policy.lawful s valid is has feed h
