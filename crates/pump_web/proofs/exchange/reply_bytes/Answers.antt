use Rattle.pump_web.proofs.exchange.reply_bytes.Goals as goal

pub returns : goal.returns
returns c = record {
  status = c.in_ok-reply.reply.status;
  out = c.in_ok-reply.reply.out.items;
  err = c.in_ok-reply.reply.err.items;
  image = c.in_ok-reply.reply.image.items;
  bytes_are = c.in_ok-bytes.ensures;
  told = c.in_ok-reply.ensures.told;
  due = c.in_ok-reply.ensures.due;
  prefix = c.in_ok-reply.ensures.prefix;
  saved = c.in_ok-reply.ensures.saved;
  unsaved = c.in_ok-reply.ensures.unsaved;
}
