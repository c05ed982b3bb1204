use Rattle.turn_steps.proofs.MapLemmas.{asked_by, carried_out_by, looked_by}
use Rattle.turn_steps.proofs.PeekLemmas.{peeked_by}
use Rattle.turn_steps.proofs.law.map_law.Goals as goal

pub returns-clause-looked : goal.returns-clause-looked
returns-clause-looked g c = looked_by

pub returns-clause-asked : goal.returns-clause-asked
returns-clause-asked g c = asked_by

pub returns-clause-carried : goal.returns-clause-carried
returns-clause-carried g c = carried_out_by

pub returns-clause-peeked : goal.returns-clause-peeked
returns-clause-peeked g c = peeked_by
