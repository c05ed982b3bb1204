use Rattle.std.proofs.Common.{◌*◌, ◌%◌, arith}
use Rattle.pump_words.proofs.PartLemmas.{merged}
use Rattle.pump_words.proofs.parts.with_half.Goals as goal

pub returns : goal.returns
returns c = merged c.args.word (16 * (c.args.index % 2)) 16 c.args.half (omega arith) (omega arith)
