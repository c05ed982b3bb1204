use Rattle.std.proofs.Common.{◌-◌, ap, arith}
use Rattle.tag_memory.proofs.PagesLemmas.{one_more}
use Rattle.tag_memory.proofs.pages.Pages.fill_last.Goals as goal

pub loop-self-preserved : goal.loop-self-preserved
loop-self-preserved g c =
    let before = c.loop-self.invariant in
    let one = c.push_within.ensures in
    let first = c.args.self.now.count in
    record {
      items = one_more _ _ _ (c.loop-self.self.count - first) (c.push_within.new.self.count - first) c.args.item before.items one.items
          (omega (arith, one.count, before.more));
      more = omega (arith, one.count, before.more);
      most = let count = ap (λ pages. pages.count) c.self.view_is in omega (arith, one.count, count, c.loop-self-test.true);
    }
