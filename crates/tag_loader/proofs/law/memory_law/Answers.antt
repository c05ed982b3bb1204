use Rattle.tag_loader.proofs.MemoryLemmas.{length-memory_of, memory_holds, memory_words, others_are_zero}
use Rattle.tag_loader.proofs.law.memory_law.Goals as goal

pub returns-clause-size : goal.returns-clause-size
returns-clause-size c = length-memory_of

pub returns-clause-held : goal.returns-clause-held
returns-clause-held c = memory_holds

pub returns-clause-others : goal.returns-clause-others
returns-clause-others c = others_are_zero

pub returns-clause-words : goal.returns-clause-words
returns-clause-words c = memory_words
