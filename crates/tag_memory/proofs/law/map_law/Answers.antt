use Rattle.tag_memory.proofs.MapLemmas.{ram_tag_by, reg_tag_by, with_ram_tag_by, with_reg_by, with_reg_tag_by}
use Rattle.tag_memory.proofs.law.map_law.Goals as goal

pub returns-clause-reg_tag : goal.returns-clause-reg_tag
returns-clause-reg_tag g c = reg_tag_by

pub returns-clause-with_reg : goal.returns-clause-with_reg
returns-clause-with_reg g c = with_reg_by

pub returns-clause-with_reg_tag : goal.returns-clause-with_reg_tag
returns-clause-with_reg_tag g c = with_reg_tag_by

pub returns-clause-ram_tag : goal.returns-clause-ram_tag
returns-clause-ram_tag g c = ram_tag_by

pub returns-clause-with_ram_tag : goal.returns-clause-with_ram_tag
returns-clause-with_ram_tag g c = with_ram_tag_by
