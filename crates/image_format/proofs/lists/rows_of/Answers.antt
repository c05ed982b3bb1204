use Rattle.std.proofs.lemmas.Result.{err_from_is_err_and}
use Rattle.image_format.specs.Reading.{row_at, times}
use Rattle.image_format.proofs.LoopLemmas.{placed, start, goes_on, refuses, is_done, rows_refused, rows_done}
use Rattle.image_format.proofs.RoomLemmas.{has_place, places_on}
use Rattle.image_format.proofs.lists.rows_of.Goals as goal

pub returns-in_err-next : goal.returns-in_err-next
returns-in_err-next g c =
    let p = err_from_is_err_and c.from_residual-in_err-next.result c.from_residual-in_err-next.ensures.1 in
    let step = row_at c.args.list g.R.Row.follows (g.R.Row.fields c.args.bounds.size c.args.bounds.ram) in
    let place = placed c.loop-row.row c.loop-row.before c.loop-row.rest.now in
    rw (p.1, p.2) (rows_refused c.in_err-next.field-0.0 c.args.count step c.args.bytes.now (refuses c.in_err-next.field-0.0 step c.loop-row.rows.items c.args.count c.loop-row.row place (times c.args.count step (start c.args.bytes.now)) c.loop-row-test.true c.in_err-next.ensures.row c.loop-row.invariant.read))

pub push-requires : goal.push-requires
push-requires g c =
    has_place c.args.count g.R.Kept.BYTES c.loop-row.row c.loop-row.rest.now c.in_ok-next.after.now c.loop-row.rows c.loop-row-test.true c.in_ok-next.ensures.takes c.loop-row.invariant.left

pub loop-row-preserved : goal.loop-row-preserved
loop-row-preserved g c =
    let step = row_at c.args.list g.R.Row.follows (g.R.Row.fields c.args.bounds.size c.args.bounds.ram) in
    record {
      read = rw c.push.ensures.items (goes_on step c.loop-row.rows.items c.args.count c.loop-row.row (placed c.loop-row.row c.loop-row.before c.loop-row.rest.now) _ c.in_ok-next.next (times c.args.count step (start c.args.bytes.now)) c.loop-row-test.true c.in_ok-next.ensures.row c.loop-row.invariant.read);
      left = places_on c.args.count g.R.Kept.BYTES c.loop-row.row c.loop-row.rest.now c.in_ok-next.after.now c.loop-row.rows c.push.new.self c.in_ok-next.next c.loop-row-test.true c.in_ok-next.ensures.takes c.push.ensures.items c.push.ensures.places c.loop-row.invariant.left;
    }

pub returns : goal.returns
returns g c =
    let step = row_at c.args.list g.R.Row.follows (g.R.Row.fields c.args.bounds.size c.args.bounds.ram) in
    let place = placed c.loop-row.row c.loop-row.before c.loop-row.rest.now in
    rw c.into_items.ensures.items (rows_done c.args.count step c.args.bytes.now c.loop-row.rows.items place (is_done step c.loop-row.rows.items c.args.count c.loop-row.row place (times c.args.count step (start c.args.bytes.now)) c.loop-row-test.false c.loop-row.invariant.read))
