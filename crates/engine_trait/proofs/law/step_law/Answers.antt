use Rattle.engine_trait.proofs.StepLemmas.{step_follows, step_not_memory, step_runs_out, step_stays_idle}
use Rattle.engine_trait.proofs.law.step_law.Goals as goal

pub returns-clause-made : goal.returns-clause-made
returns-clause-made g c = step_follows g.P.Tag.PartialEq.eq g.P.Policy.model

pub returns-clause-out : goal.returns-clause-out
returns-clause-out g c = step_runs_out g.P.Tag.PartialEq.eq g.P.Policy.model

pub returns-clause-idle : goal.returns-clause-idle
returns-clause-idle g c = step_stays_idle g.P.Tag.PartialEq.eq g.P.Policy.model

pub returns-clause-memory : goal.returns-clause-memory
returns-clause-memory g c = step_not_memory g.P.Tag.PartialEq.eq g.P.Policy.model
