use Rattle.tag_memory.proofs.RamLemmas.{word_keeps, word_tag_keeps, writes_word, writes_word_tag}
use Rattle.tag_memory.proofs.law.ram_law.Goals as goal

pub returns-clause-word : goal.returns-clause-word
returns-clause-word g c = writes_word

pub returns-clause-tag : goal.returns-clause-tag
returns-clause-tag g c = writes_word_tag

pub returns-clause-word_keeps : goal.returns-clause-word_keeps
returns-clause-word_keeps g c = word_keeps

pub returns-clause-tag_keeps : goal.returns-clause-tag_keeps
returns-clause-tag_keeps g c = word_tag_keeps
