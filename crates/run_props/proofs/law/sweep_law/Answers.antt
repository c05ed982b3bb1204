use Rattle.run_props.proofs.EngineRunLemmas.{along_account, along_trace, along_unswept, never_over}
use Rattle.run_props.proofs.law.sweep_law.Goals as goal

pub returns-clause-trace : goal.returns-clause-trace
returns-clause-trace g c = along_trace g.P.Tag.PartialEq.eq g.P.Policy.model

pub returns-clause-account : goal.returns-clause-account
returns-clause-account g c = along_account g.P.Tag.PartialEq.eq g.P.Policy.model

pub returns-clause-sweeps : goal.returns-clause-sweeps
returns-clause-sweeps g c = along_unswept g.P.Tag.PartialEq.eq g.P.Policy.model

pub returns-clause-enough : goal.returns-clause-enough
returns-clause-enough g c = never_over g.P.Tag.PartialEq.eq g.P.Policy.model
