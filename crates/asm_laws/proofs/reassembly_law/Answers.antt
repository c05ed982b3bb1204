use Rattle.asm_laws.proofs.RowLemmas.{reassembles}
use Rattle.asm_laws.proofs.reassembly_law.Goals as goal

pub returns : goal.returns
returns c = reassembles c.table_law.ensures c.encoding_law.ensures
