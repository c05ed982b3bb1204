use Rattle.engine_trait.proofs.HistoryLemmas.{turn_back}
use Rattle.engine_trait.proofs.RunBackLemmas.{last_back, run_back}
use Rattle.engine_trait.proofs.law.history_law.Goals as goal

pub returns-clause-turn : goal.returns-clause-turn
returns-clause-turn g c s feed h valid is ready = turn_back g.P.Policy.model g.P.Policy.holds g.met.P.Policy.lawful s valid is feed h ready

pub returns-clause-run : goal.returns-clause-run
returns-clause-run g c = run_back g.P.Policy.model g.P.Policy.holds g.met.P.Policy.lawful

pub returns-clause-back : goal.returns-clause-back
returns-clause-back g c = last_back g.P.Policy.model g.P.Policy.holds g.met.P.Policy.lawful
