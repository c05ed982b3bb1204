use Rattle.std.proofs.Common.{◌*◌, ◌%◌, arith}
use Rattle.pump_words.proofs.PartLemmas.{merged}
use Rattle.pump_words.proofs.parts.with_byte.Goals as goal

pub returns : goal.returns
returns c = merged c.args.word (8 * (c.args.index % 4)) 8 c.args.byte (omega arith) (omega arith)
