use Rattle.rv_decode.proofs.TableLemmas.{one_word, one_instruction}
use Rattle.rv_decode.proofs.laws.form_law.Goals as goal

pub returns-clause-words : goal.returns-clause-words
returns-clause-words c = one_word

pub returns-clause-instructions : goal.returns-clause-instructions
returns-clause-instructions c = one_instruction
