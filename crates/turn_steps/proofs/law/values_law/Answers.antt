use Rattle.turn_steps.proofs.ValueLemmas.{answer_words, carried_words, looked_words, written_words}
use Rattle.turn_steps.proofs.law.values_law.Goals as goal

pub returns-clause-looked : goal.returns-clause-looked
returns-clause-looked g c = looked_words

pub returns-clause-carried : goal.returns-clause-carried
returns-clause-carried g c hart ram feed look outs gives hart_has ram_has = carried_words hart ram look outs gives hart_has ram_has feed

pub returns-clause-answered : goal.returns-clause-answered
returns-clause-answered g c = answer_words

pub returns-clause-written : goal.returns-clause-written
returns-clause-written g c = written_words
