use Rattle.std.proofs.Common.{ap, arith, sym, ◌∙◌}
use Rattle.std.specs.List.{find}
use Rattle.std.proofs.lemmas.List.{take_rest}
use Rattle.tag_loader.specs.Sorted.{holds}
use Rattle.tag_loader.proofs.SortedLemmas.{find_behind}
use Rattle.tag_loader.proofs.sorted.row_at.Goals as goal

pub returns : goal.returns
returns g c =
    let first = g.R.Placed.first in
    let past = g.R.Placed.past in
    sym (c.first_run.ensures.told c.args.address (omega arith) c.first_run.ensures.some)
    ∙ ap (find (holds first past c.args.address)) (take_rest c.args.rows.now c.ended.result)
    ∙ find_behind first past c.args.address c.args.rows.now c.ended.result c.ended.ensures.point
