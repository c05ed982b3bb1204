use Rattle.std.proofs.Common.{arith}
use Rattle.pump_words.specs.TextLaws.{hex8_text_value}
use Rattle.pump_words.proofs.texts.hex8.Goals as goal

pub returns-clause-value : goal.returns-clause-value
returns-clause-value c = hex8_text_value c.args.word (omega arith)
