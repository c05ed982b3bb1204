use Rattle.engine_trait.proofs.MirrorLemmas.{step_mirrored, turn_by_mirror}
use Rattle.engine_trait.proofs.law.mirror_law.Goals as goal

pub returns-clause-turn : goal.returns-clause-turn
returns-clause-turn g c f s t feed h mirrors = turn_by_mirror f _ _ s t mirrors feed h

pub returns-clause-step : goal.returns-clause-step
returns-clause-step g c f e d feed h mirrored = step_mirrored g.P.Tag.PartialEq.eq g.Q.Tag.PartialEq.eq f _ _ e d feed h mirrored
