use Rattle.tag_memory.specs.Ram.{IsPlace}
use Rattle.word_service.proofs.WordLemmas.{answer_below, answer_decoded, below, decoded, placed}
use Rattle.word_service.proofs.writing.intern_job.Goals as goal

pub returns-in-Ok-clause-words : goal.returns-in-Ok-clause-words
returns-in-Ok-clause-words g c plain =
    decoded plain (g.T.TagTable.state c.intern_parts.new.tags).tags c.in-Ok.written.words.items c.args.job.now.words.items c.in-Ok.ensures.words

pub returns-in-Ok-clause-answer : goal.returns-in-Ok-clause-answer
returns-in-Ok-clause-answer g c plain =
    answer_decoded (g.T.TagTable.state c.intern_parts.new.tags).tags plain c.in-Ok.written.answer c.args.job.now.plan.answer c.in-Ok.ensures.answer

pub returns-in-Ok-clause-below : goal.returns-in-Ok-clause-below
returns-in-Ok-clause-below g c =
    below (g.T.TagTable.state c.intern_parts.new.tags).tags c.in-Ok.written.words.items c.args.job.now.words.items c.in-Ok.ensures.words

pub returns-in-Ok-clause-answer_below : goal.returns-in-Ok-clause-answer_below
returns-in-Ok-clause-answer_below g c =
    answer_below (g.T.TagTable.state c.intern_parts.new.tags).tags c.in-Ok.written.answer c.args.job.now.plan.answer c.in-Ok.ensures.answer

pub returns-in-Ok-clause-places : goal.returns-in-Ok-clause-places
returns-in-Ok-clause-places g c bytes =
    placed (IsPlace bytes) (g.T.TagTable.state c.intern_parts.new.tags).tags c.in-Ok.written.words.items c.args.job.now.words.items c.in-Ok.ensures.words
