use Rattle.std.proofs.Common.{◌∙◌, ap, arith, sym}
use Rattle.tag_memory.specs.Pages.{items_of}
use Rattle.tag_memory.proofs.RamLemmas.{all_more, not_false, not_true, one_fails}
use Rattle.tag_memory.proofs.ram.are_all.Goals as goal

pub returns-then-ne : goal.returns-then-ne
returns-then-ne g c =
    let eq = g.T.PartialEq.eq in
    let item = c.at.result.now in
    let fails = ap (eq c.args.item) (sym (c.at.ensures item)) ∙ not_true (eq c.args.item item) (c.if-ne.ensures) in
    sym (one_fails (eq c.args.item) (items_of c.args.items.now) c.args.from c.loop-n.n item (c.loop-n.auto.n)
    (omega (arith, c.loop-n-test.true, c.requires.within)) c.args.end c.loop-n-test.true fails)

pub loop-n-preserved : goal.loop-n-preserved
loop-n-preserved g c =
    let eq = g.T.PartialEq.eq in
    let item = c.at.result.now in
    let passes = ap (eq c.args.item) (sym (c.at.ensures item)) ∙ not_false (eq c.args.item item) (c.if-ne.ensures) in
    all_more (eq c.args.item) (items_of c.args.items.now) c.args.from c.loop-n.n item (c.loop-n.auto.n)
    (omega (arith, c.loop-n-test.true, c.requires.within)) c.loop-n.invariant passes
