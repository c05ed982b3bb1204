use Rattle.turn_steps.proofs.KeptLemmas.{answered_keeps, carried_keeps}
use Rattle.turn_steps.proofs.LookLemmas.{looked_is_asked, looked_is_placed, looked_is_sound}
use Rattle.turn_steps.proofs.law.steps_law.Goals as goal

pub returns-clause-looked : goal.returns-clause-looked
returns-clause-looked g c = looked_is_sound

pub returns-clause-asked : goal.returns-clause-asked
returns-clause-asked g c = looked_is_asked

pub returns-clause-placed : goal.returns-clause-placed
returns-clause-placed g c = looked_is_placed

pub returns-clause-carried : goal.returns-clause-carried
returns-clause-carried g c = carried_keeps

pub returns-clause-answered : goal.returns-clause-answered
returns-clause-answered g c = answered_keeps
