use Rattle.std.proofs.Common.{length, ap, ◌∙◌, arith}
use Rattle.pump_web.proofs.exchange.answer.Goals as goal

pub returns-in-Ok-clause-none : goal.returns-in-Ok-clause-none
returns-in-Ok-clause-none c zero = rw zero at (c.put_in.ensures.behind (omega arith))

pub returns-in-Ok-clause-replied : goal.returns-in-Ok-clause-replied
returns-in-Ok-clause-replied c some = record {
  text = c.text_of.result.now;
  is_text = c.text_of.ensures;
  bytes = c.in-Ok.bytes.items;
  replies = c.in-Ok.ensures;
  counted = c.put_in.ensures.count ∙ ap length c.deref.ensures.value;
  filled = λ fits. c.put_in.ensures.filled fits ∙ c.deref.ensures.value;
  behind = c.put_in.ensures.behind;
  unfit = c.put_in.ensures.unfit;
}
