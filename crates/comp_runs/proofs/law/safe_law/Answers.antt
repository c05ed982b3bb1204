use Rattle.comp_runs.proofs.SafeLemmas.{comp_law}
use Rattle.comp_runs.proofs.StandingLemmas.{owners_are}
use Rattle.comp_runs.proofs.law.safe_law.Goals as goal

pub returns-clause-safe : goal.returns-clause-safe
returns-clause-safe c = comp_law

pub returns-clause-owners : goal.returns-clause-owners
returns-clause-owners c = owners_are
