use Rattle.engine_trait.proofs.StepLemmas.{plain_in_words, plain_stays, plain_step_hits}
use Rattle.engine_trait.proofs.law.plain_law.Goals as goal

pub returns-clause-in_words : goal.returns-clause-in_words
returns-clause-in_words g c = plain_in_words g.P.Tag.PartialEq.eq g.P.Policy.model

pub returns-clause-stays : goal.returns-clause-stays
returns-clause-stays g c = plain_stays g.P.Tag.PartialEq.eq g.P.Policy.model

pub returns-clause-hits : goal.returns-clause-hits
returns-clause-hits g c = plain_step_hits g.P.Tag.PartialEq.eq g.P.Policy.model
