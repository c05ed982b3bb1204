use Rattle.std.proofs.Common.{◌∙◌, refl}
use Rattle.tag_memory.proofs.PagesLemmas.{shifts_more}
use Rattle.tag_memory.proofs.pages.push_shifts.Goals as goal

pub loop-k-preserved : goal.loop-k-preserved
loop-k-preserved c = c.in_ok-push.ensures.items ∙ shifts_more c.loop-k.shifts.items c.args.shifts.now.items c.args.place c.args.count c.loop-k.k _ c.loop-k.invariant refl
