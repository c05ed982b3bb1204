use Rattle.asm_emit.proofs.EmittedLemmas.{made_of_words}
use Rattle.asm_emit.proofs.laws.words_law.Goals as goal

pub returns : goal.returns
returns c = made_of_words
