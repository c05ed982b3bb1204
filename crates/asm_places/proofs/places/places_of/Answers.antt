use Rattle.std.proofs.Common.{[], subst, sym, take}
use Rattle.std.proofs.lemmas.Result.{err_from_is_err_and}
use Rattle.asm_places.specs.Places.{places_from}
use Rattle.asm_places.specs.Seen.{IsSeen}
use Rattle.asm_places.proofs.PlaceLemmas.{goes_on, is_done, next-reached, stops, take_line}
use Rattle.asm_places.proofs.places.places_of.Goals as goal

pub returns-in_err-behind : goal.returns-in_err-behind
returns-in_err-behind c =
    let p = err_from_is_err_and c.from_residual-in_err-behind.result c.from_residual-in_err-behind.ensures.1 in
    let before = take c.loop-line.line-index c.args.lines.now in
    let so_far = c.loop-line.invariant in
    rw (p.1, p.2) (stops c.in_err-behind.field-0.0 c.loop-line.places.items c.args.ram c.loop-line.place c.args.lines.now c.loop-line.line-index c.line-item.result (places_from c.args.ram [] 0 c.args.lines.now) c.loop-line-test.true c.line-item.is (sym (c.in_err-behind.ensures before so_far.noted)) so_far.so_far)

pub loop-line-preserved : goal.loop-line-preserved
loop-line-preserved c =
    let before = take c.loop-line.line-index c.args.lines.now in
    let so_far = c.loop-line.invariant in
    let placed = sym (c.in_ok-behind.ensures before so_far.noted) in
    record {
      so_far = rw c.in_ok-push.ensures.items (goes_on c.loop-line.places.items c.args.ram c.loop-line.place c.in_ok-behind.behind c.args.lines.now c.loop-line.line-index c.line-item.result (places_from c.args.ram [] 0 c.args.lines.now) c.loop-line-test.true c.line-item.is placed so_far.so_far);
      noted = subst (IsSeen c.note.new.self) (sym (take_line c.args.lines.now c.loop-line.line-index c.line-item.result c.loop-line-test.true c.line-item.is)) (c.in_ok-note.ensures before so_far.noted);
      reached = next-reached c.args.ram before c.loop-line.place c.line-item.result c.in_ok-behind.behind so_far.reached placed;
    }

pub returns : goal.returns
returns c = is_done c.loop-line.places.items c.args.ram c.loop-line.place c.args.lines.now c.loop-line.line-index (places_from c.args.ram [] 0 c.args.lines.now) c.loop-line-test.false c.loop-line.invariant.so_far
