use Rattle.run_props.proofs.EngineRunLemmas.{along_machine}
use Rattle.run_props.proofs.law.engine_law.Goals as goal

pub returns : goal.returns
returns g c e feed items runs = along_machine g.P.Tag.PartialEq.eq g.P.Policy.model items e feed runs
