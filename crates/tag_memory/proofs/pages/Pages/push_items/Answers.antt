use Rattle.std.proofs.Common.{◌<◌, ◌≤◌, ap, arith, length}
use Rattle.tag_memory.specs.Pages.{items_of}
use Rattle.tag_memory.proofs.PagesLemmas.{count_is, pushed_all, pushed_more}
use Rattle.tag_memory.proofs.pages.Pages.push_items.Goals as goal

pub loop-n-preserved : goal.loop-n-preserved
loop-n-preserved g c =
    let all = items_of c.args.self.now in
    let count = ap (λ pages. pages.count) c.self.view_is in
    let lt : c.loop-n.n < length all = omega (arith, count, count_is c.args.self.now, c.loop-n-test.true) in
    pushed_more c.args.list.now.items all c.loop-n.list.items c.push.new.self.items c.loop-n.n c.at.result.now lt c.loop-n.invariant
    c.in_ok-push.ensures.items (c.at.ensures c.at.result.now)

pub returns : goal.returns
returns g c =
    let all = items_of c.args.self.now in
    let count = ap (λ pages. pages.count) c.self.view_is in
    let le : length all ≤ c.loop-n.n = omega (arith, count, count_is c.args.self.now, c.loop-n-test.false) in
    pushed_all c.args.list.now.items all c.loop-n.list.items c.loop-n.n c.loop-n.invariant le
