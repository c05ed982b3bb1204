use Rattle.shell_turns.proofs.EventLemmas.{turns_tell}
use Rattle.shell_turns.proofs.PastLemmas.{turns_remembered}
use Rattle.shell_turns.proofs.RunLemmas.{turns_few, turns_run}
use Rattle.shell_turns.proofs.law.turns_law.Goals as goal

pub returns-clause-run : goal.returns-clause-run
returns-clause-run g c = turns_run g.P.Tag.PartialEq.eq g.P.Policy.model

pub returns-clause-few : goal.returns-clause-few
returns-clause-few g c = turns_few g.P.Tag.PartialEq.eq g.P.Policy.model

pub returns-clause-told : goal.returns-clause-told
returns-clause-told g c = turns_tell g.P.Tag.PartialEq.eq g.P.Policy.model

pub returns-clause-remembers : goal.returns-clause-remembers
returns-clause-remembers g c = turns_remembered g.P.Tag.PartialEq.eq g.P.Policy.model
