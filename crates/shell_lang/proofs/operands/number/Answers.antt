use Rattle.std.proofs.Common.{◌∙◌}
use Rattle.shell_lang.proofs.NumberLemmas.{read_is}
use Rattle.shell_lang.proofs.operands.number.Goals as goal

pub returns : goal.returns
returns c = c.ok_or.ensures.value ∙ read_is 10 10 c.args.text.now c.read_number.result c.read_number.ensures
