use Rattle.asm_words.proofs.EncodingLemmas.{table_encoded}
use Rattle.asm_words.proofs.laws.encoding_law.Goals as goal

pub returns : goal.returns
returns c = table_encoded
