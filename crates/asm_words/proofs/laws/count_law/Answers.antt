use Rattle.asm_words.proofs.CountLemmas.{counted}
use Rattle.asm_words.proofs.laws.count_law.Goals as goal

pub returns : goal.returns
returns c = counted
