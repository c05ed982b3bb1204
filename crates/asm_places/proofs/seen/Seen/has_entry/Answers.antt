use Rattle.std.proofs.Common.{◌∙◌}
use Rattle.asm_places.proofs.seen.Seen.has_entry.Goals as goal

pub returns : goal.returns
returns c = λ before seen. c.contains.ensures ∙ seen.entries c.args.hart.now
