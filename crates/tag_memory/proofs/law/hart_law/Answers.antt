use Rattle.tag_memory.proofs.HartLemmas.{pc_keeps, tag_keeps, value_keeps, writes_pc, writes_tag, writes_value}
use Rattle.tag_memory.proofs.law.hart_law.Goals as goal

pub returns-clause-value : goal.returns-clause-value
returns-clause-value g c = writes_value

pub returns-clause-tag : goal.returns-clause-tag
returns-clause-tag g c = writes_tag

pub returns-clause-pc : goal.returns-clause-pc
returns-clause-pc g c = writes_pc

pub returns-clause-value_keeps : goal.returns-clause-value_keeps
returns-clause-value_keeps g c = value_keeps

pub returns-clause-tag_keeps : goal.returns-clause-tag_keeps
returns-clause-tag_keeps g c = tag_keeps

pub returns-clause-pc_keeps : goal.returns-clause-pc_keeps
returns-clause-pc_keeps g c = pc_keeps
