use Rattle.run_props.proofs.MigrationLemmas.{runs_alike, start_is}
use Rattle.run_props.proofs.law.migration_law.Goals as goal

pub returns-clause-start : goal.returns-clause-start
returns-clause-start c = start_is

pub returns-clause-events : goal.returns-clause-events
returns-clause-events c = runs_alike
