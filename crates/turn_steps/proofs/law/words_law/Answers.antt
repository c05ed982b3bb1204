use Rattle.turn_steps.proofs.KeptLemmas.{words_bytes, words_keep}
use Rattle.turn_steps.proofs.RowLemmas.{writes_row}
use Rattle.turn_steps.proofs.law.words_law.Goals as goal

pub returns-clause-row : goal.returns-clause-row
returns-clause-row g c = writes_row

pub returns-clause-kept : goal.returns-clause-kept
returns-clause-kept g c = words_keep

pub returns-clause-bytes : goal.returns-clause-bytes
returns-clause-bytes g c = words_bytes
