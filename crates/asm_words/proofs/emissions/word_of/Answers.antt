use Rattle.std.proofs.Common.{refl}
use Rattle.asm_words.proofs.EncodingLemmas.{table_encoded}
use Rattle.asm_words.proofs.emissions.word_of.Goals as goal

pub returns : goal.returns
returns c = table_encoded c.encode.result c.args.instr ((c.encode.ensures.table c.encode.result).0 refl)
