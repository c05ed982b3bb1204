use Rattle.engine_trait.proofs.TurnLemmas.{event_idle, turn_idle}
use Rattle.engine_trait.proofs.law.idle_law.Goals as goal

pub returns-clause-idle : goal.returns-clause-idle
returns-clause-idle g c = turn_idle g.P.Policy.model

pub returns-clause-event : goal.returns-clause-event
returns-clause-event g c = event_idle g.P.Policy.model
