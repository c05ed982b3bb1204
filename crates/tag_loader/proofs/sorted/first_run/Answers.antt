use Rattle.std.proofs.Common.{◌<◌, arith, sym}
use Rattle.std.proofs.lemmas.Bool.{ltb-true}
use Rattle.tag_loader.proofs.SortedLemmas.{none_begun}
use Rattle.tag_loader.proofs.sorted.first_run.Goals as goal

pub returns-else-start-address-clause-told : goal.returns-else-start-address-clause-told
returns-else-start-address-clause-told g c = λ at from below.
    let first = g.R.Placed.first in
    let here = c.in-Some.ensures.item in
    let not_begun : at < first c.in-Some.row.now = omega (arith, below, c.from.ensures, c.start-else-start-address.ensures) in
    none_begun first g.R.Placed.past at c.args.rows.now c.in-Some.row.now c.requires.ascends (ltb-true _ _ (sym here.0)) here.1 not_begun
