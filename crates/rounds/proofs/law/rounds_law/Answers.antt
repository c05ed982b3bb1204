use Rattle.rounds.proofs.RunLemmas.{rounds_are_few, rounds_are_run}
use Rattle.rounds.proofs.SpentLemmas.{rounds_spent}
use Rattle.rounds.proofs.law.rounds_law.Goals as goal

pub returns-clause-run : goal.returns-clause-run
returns-clause-run g c = rounds_are_run g.P.Tag.PartialEq.eq g.P.Policy.model

pub returns-clause-few : goal.returns-clause-few
returns-clause-few g c = rounds_are_few g.P.Tag.PartialEq.eq g.P.Policy.model

pub returns-clause-spent : goal.returns-clause-spent
returns-clause-spent g c = rounds_spent g.P.Tag.PartialEq.eq g.P.Policy.model
