use Rattle.std.proofs.Common.{rules, arith, ◌≡◌, ◌++◌, ◌+◌, [], length, refl, ap, sym, ◌∙◌}
use Rattle.std.proofs.lemmas.List.{length-append}
use Rattle.std.proofs.lemmas.Result.{err_from_is_err_and}
use Rattle.engine_trait.specs.Standing.{step}
use Rattle.shell_turns.specs.Order.{order_of}
use Rattle.shell_turns.specs.Told.{counted_harts, is_last}
use Rattle.shell_turns.specs.Turns.{step_pieces}
use Rattle.shell_turns.proofs.PutLemmas.{done, puts_as, puts_cut_as, puts_nothing, puts_on}
use Rattle.shell_turns.proofs.TurnLemmas.{finishes, way_begins, way_cut, way_ends, way_goes_on, way_lasts, way_stands, way_stops}
use Rattle.shell_turns.proofs.turning.make_turns.Goals as goal

pub loop-init : goal.loop-init
loop-init g c = record {
  pieces = [];
  harts = [];
  way = way_begins g.E.P.Tag.PartialEq.eq g.E.P.Policy.model c.args.breaks.now (order_of c.args.order) (g.E.Engine.standing c.args.engine.now) c.args.feed.now;
  named = c.requires;
  count = refl;
  few = omega arith;
  stay = refl;
  puts = puts_nothing (g.K.Sink.taken c.args.out.now) tt;
  faults = refl;
}

pub returns-in_err-end-clause-puts : goal.returns-in_err-end-clause-puts
returns-in_err-end-clause-puts g c =
    let eq = g.E.P.Tag.PartialEq.eq in
    let m = g.E.P.Policy.model in
    let start = g.E.Engine.standing c.args.engine.now in
    let here = g.E.Engine.standing c.loop.engine in
    let p = err_from_is_err_and c.from_residual.result c.from_residual.ensures.1 in
    rw p.1
    (way_cut eq m c.args.breaks.now (order_of c.args.order) start c.args.feed.now c.loop.counter c.loop.invariant.pieces c.loop.invariant.harts
    (order_of c.loop.order) here c.loop.feed c.loop.invariant.way c.in-Some.h (order_of c.in-Some.others) (search rules) c.args.budget c.loop-test.true
    (g.K.Sink.taken c.args.out.now) (g.K.Sink.taken c.loop.out) (g.K.Sink.taken c.make_turn.new.out) _ _ c.in_err-end.field-0.0 p.0
    c.loop.invariant.puts c.in_err-end.ensures.puts)

pub returns-in_err-end-clause-cut : goal.returns-in_err-end-clause-cut
returns-in_err-end-clause-cut g c =
    let eq = g.E.P.Tag.PartialEq.eq in
    let m = g.E.P.Policy.model in
    let start = g.E.Engine.standing c.args.engine.now in
    let here = g.E.Engine.standing c.loop.engine in
    let stepped = step eq m here c.loop.feed c.in-Some.h in
    let p = err_from_is_err_and c.from_residual.result c.from_residual.ensures.1 in
    rw (p.1, p.2)
    (way_stands eq m c.args.breaks.now (order_of c.args.order) start c.args.feed.now c.loop.counter c.loop.invariant.pieces c.loop.invariant.harts
    (order_of c.loop.order) here c.loop.feed c.loop.invariant.way c.in-Some.h (order_of c.in-Some.others) (search rules) c.args.budget c.loop-test.true
    (g.E.Engine.standing c.make_turn.new.engine) c.make_turn.new.feed
    (g.K.Sink.taken c.args.out.now) (g.K.Sink.taken c.loop.out) (g.K.Sink.taken c.make_turn.new.out) c.in_err-end.field-0.0 c.loop.invariant.puts
    (puts_cut_as _ (Unit {0}) _ _ (step_pieces c.args.breaks.now c.in-Some.h stepped) c.in_err-end.field-0.0 c.in_err-end.field-0.0 c.in_err-end.ensures.puts)
    c.in_err-end.ensures.cut)

pub loop-preserved : goal.loop-preserved
loop-preserved g c =
    let eq = g.E.P.Tag.PartialEq.eq in
    let m = g.E.P.Policy.model in
    let start = g.E.Engine.standing c.args.engine.now in
    let here = g.E.Engine.standing c.loop.engine in
    let stepped = step eq m here c.loop.feed c.in-Some.h in
    let counts : c.count_of-count.result ≡ length (counted_harts c.in-Some.h stepped.ended)
    = c.count_of-count.ensures.count c.in-Some.h ∙ ap (λ ended. length (counted_harts c.in-Some.h ended)) c.in_ok-end.ensures.ended in
    let last = (λ j. is_last c.args.breaks.now (sym c.in_ok-end.ensures.pc j) (sym c.in_ok-end.ensures.ended j)) ∙ sym c.is_last.ensures in
    record {
      pieces = c.loop.invariant.pieces ++ step_pieces c.args.breaks.now c.in-Some.h stepped;
      harts = c.loop.invariant.harts ++ counted_harts c.in-Some.h stepped.ended;
      way =
          way_goes_on eq m c.args.breaks.now (order_of c.args.order) start c.args.feed.now c.loop.counter c.loop.invariant.pieces c.loop.invariant.harts
          (order_of c.loop.order) here c.loop.feed c.loop.invariant.way c.in-Some.h (order_of c.in-Some.others) (search rules) (last ∙ c.if-is_last.false)
          (g.E.Engine.standing c.make_turn.new.engine) c.make_turn.new.feed c.in_ok-end.ensures.standing c.in_ok-end.ensures.feed;
      named = search rules;
      count =
          (λ j. c.loop.invariant.count j + counts j)
          ∙ sym (length-append c.loop.invariant.harts (counted_harts c.in-Some.h stepped.ended));
      few = omega (arith, c.loop.invariant.few, c.count_of-count.ensures.few);
      stay = c.in_ok-end.ensures.harts ∙ c.loop.invariant.stay;
      puts =
          puts_on (g.K.Sink.taken c.args.out.now) (g.K.Sink.taken c.loop.out) (g.K.Sink.taken c.make_turn.new.out) c.loop.invariant.pieces
          (step_pieces c.args.breaks.now c.in-Some.h stepped) tt done c.loop.invariant.puts
          (puts_as (g.K.Sink.taken c.loop.out) (g.K.Sink.taken c.make_turn.new.out) (step_pieces c.args.breaks.now c.in-Some.h stepped) (c.in_ok-end.end, c.in_ok-end.pc) tt c.in_ok-end.ensures.puts);
      faults = c.in_ok-end.ensures.cause ∙ c.loop.invariant.faults;
    }

pub returns-after-loop-clause-made : goal.returns-after-loop-clause-made
returns-after-loop-clause-made g c =
    let eq = g.E.P.Tag.PartialEq.eq in
    let m = g.E.P.Policy.model in
    let start = g.E.Engine.standing c.args.engine.now in
    let here = g.E.Engine.standing c.loop.engine in
    let done_all = way_ends eq m c.args.breaks.now (order_of c.args.order) start c.args.feed.now c.loop.counter c.loop.invariant.pieces c.loop.invariant.harts
    (order_of c.loop.order) here c.loop.feed c.loop.invariant.way c.args.budget (omega (arith, c.loop-test.false, c.loop.auto.counter-end)) in
    let all = finishes eq m c.args.breaks.now (order_of c.args.order) start c.args.feed.now c.args.budget c.loop.invariant.pieces c.loop.invariant.harts
    here c.loop.feed c.loop.count (g.K.Sink.taken c.args.out.now) (g.K.Sink.taken c.loop.out) done_all c.loop.invariant.count c.loop.invariant.puts in
    all.leaves

pub returns-after-loop-clause-puts : goal.returns-after-loop-clause-puts
returns-after-loop-clause-puts g c =
    let eq = g.E.P.Tag.PartialEq.eq in
    let m = g.E.P.Policy.model in
    let start = g.E.Engine.standing c.args.engine.now in
    let here = g.E.Engine.standing c.loop.engine in
    let done_all = way_ends eq m c.args.breaks.now (order_of c.args.order) start c.args.feed.now c.loop.counter c.loop.invariant.pieces c.loop.invariant.harts
    (order_of c.loop.order) here c.loop.feed c.loop.invariant.way c.args.budget (omega (arith, c.loop-test.false, c.loop.auto.counter-end)) in
    let all = finishes eq m c.args.breaks.now (order_of c.args.order) start c.args.feed.now c.args.budget c.loop.invariant.pieces c.loop.invariant.harts
    here c.loop.feed c.loop.count (g.K.Sink.taken c.args.out.now) (g.K.Sink.taken c.loop.out) done_all c.loop.invariant.count c.loop.invariant.puts in
    all.puts

pub returns-in_default-clause-made : goal.returns-in_default-clause-made
returns-in_default-clause-made g c =
    let eq = g.E.P.Tag.PartialEq.eq in
    let m = g.E.P.Policy.model in
    let start = g.E.Engine.standing c.args.engine.now in
    let here = g.E.Engine.standing c.loop.engine in
    let done_all = way_stops eq m c.args.breaks.now (order_of c.args.order) start c.args.feed.now c.loop.counter c.loop.invariant.pieces c.loop.invariant.harts
    (order_of c.loop.order) here c.loop.feed c.loop.invariant.way c.args.budget (omega (arith, c.loop-test.true)) (search rules) in
    let all = finishes eq m c.args.breaks.now (order_of c.args.order) start c.args.feed.now c.args.budget c.loop.invariant.pieces c.loop.invariant.harts
    here c.loop.feed c.loop.count (g.K.Sink.taken c.args.out.now) (g.K.Sink.taken c.loop.out) done_all c.loop.invariant.count c.loop.invariant.puts in
    all.leaves

pub returns-in_default-clause-puts : goal.returns-in_default-clause-puts
returns-in_default-clause-puts g c =
    let eq = g.E.P.Tag.PartialEq.eq in
    let m = g.E.P.Policy.model in
    let start = g.E.Engine.standing c.args.engine.now in
    let here = g.E.Engine.standing c.loop.engine in
    let done_all = way_stops eq m c.args.breaks.now (order_of c.args.order) start c.args.feed.now c.loop.counter c.loop.invariant.pieces c.loop.invariant.harts
    (order_of c.loop.order) here c.loop.feed c.loop.invariant.way c.args.budget (omega (arith, c.loop-test.true)) (search rules) in
    let all = finishes eq m c.args.breaks.now (order_of c.args.order) start c.args.feed.now c.args.budget c.loop.invariant.pieces c.loop.invariant.harts
    here c.loop.feed c.loop.count (g.K.Sink.taken c.args.out.now) (g.K.Sink.taken c.loop.out) done_all c.loop.invariant.count c.loop.invariant.puts in
    all.puts

pub returns-then-is_last-clause-made : goal.returns-then-is_last-clause-made
returns-then-is_last-clause-made g c =
    let eq = g.E.P.Tag.PartialEq.eq in
    let m = g.E.P.Policy.model in
    let start = g.E.Engine.standing c.args.engine.now in
    let here = g.E.Engine.standing c.loop.engine in
    let stepped = step eq m here c.loop.feed c.in-Some.h in
    let counts : c.count_of-count.result ≡ length (counted_harts c.in-Some.h stepped.ended)
    = c.count_of-count.ensures.count c.in-Some.h ∙ ap (λ ended. length (counted_harts c.in-Some.h ended)) c.in_ok-end.ensures.ended in
    let last = (λ j. is_last c.args.breaks.now (sym c.in_ok-end.ensures.pc j) (sym c.in_ok-end.ensures.ended j)) ∙ sym c.is_last.ensures in
    let done_all = way_lasts eq m c.args.breaks.now (order_of c.args.order) start c.args.feed.now c.loop.counter c.loop.invariant.pieces c.loop.invariant.harts
    (order_of c.loop.order) here c.loop.feed c.loop.invariant.way c.in-Some.h (order_of c.in-Some.others) (search rules) (last ∙ c.if-is_last.true)
    (g.E.Engine.standing c.make_turn.new.engine) c.make_turn.new.feed c.in_ok-end.ensures.standing c.in_ok-end.ensures.feed c.args.budget c.loop-test.true in
    let all = finishes eq m c.args.breaks.now (order_of c.args.order) start c.args.feed.now c.args.budget
    (c.loop.invariant.pieces ++ step_pieces c.args.breaks.now c.in-Some.h stepped) (c.loop.invariant.harts ++ counted_harts c.in-Some.h stepped.ended)
    (g.E.Engine.standing c.make_turn.new.engine) c.make_turn.new.feed (c.loop.count + c.count_of-count.result)
    (g.K.Sink.taken c.args.out.now) (g.K.Sink.taken c.make_turn.new.out) done_all
    ((λ j. c.loop.invariant.count j + counts j) ∙ sym (length-append c.loop.invariant.harts (counted_harts c.in-Some.h stepped.ended)))
    (puts_on (g.K.Sink.taken c.args.out.now) (g.K.Sink.taken c.loop.out) (g.K.Sink.taken c.make_turn.new.out) c.loop.invariant.pieces
    (step_pieces c.args.breaks.now c.in-Some.h stepped) tt done c.loop.invariant.puts
    (puts_as (g.K.Sink.taken c.loop.out) (g.K.Sink.taken c.make_turn.new.out) (step_pieces c.args.breaks.now c.in-Some.h stepped) (c.in_ok-end.end, c.in_ok-end.pc) tt c.in_ok-end.ensures.puts)) in
    all.leaves

pub returns-then-is_last-clause-puts : goal.returns-then-is_last-clause-puts
returns-then-is_last-clause-puts g c =
    let eq = g.E.P.Tag.PartialEq.eq in
    let m = g.E.P.Policy.model in
    let start = g.E.Engine.standing c.args.engine.now in
    let here = g.E.Engine.standing c.loop.engine in
    let stepped = step eq m here c.loop.feed c.in-Some.h in
    let counts : c.count_of-count.result ≡ length (counted_harts c.in-Some.h stepped.ended)
    = c.count_of-count.ensures.count c.in-Some.h ∙ ap (λ ended. length (counted_harts c.in-Some.h ended)) c.in_ok-end.ensures.ended in
    let last = (λ j. is_last c.args.breaks.now (sym c.in_ok-end.ensures.pc j) (sym c.in_ok-end.ensures.ended j)) ∙ sym c.is_last.ensures in
    let done_all = way_lasts eq m c.args.breaks.now (order_of c.args.order) start c.args.feed.now c.loop.counter c.loop.invariant.pieces c.loop.invariant.harts
    (order_of c.loop.order) here c.loop.feed c.loop.invariant.way c.in-Some.h (order_of c.in-Some.others) (search rules) (last ∙ c.if-is_last.true)
    (g.E.Engine.standing c.make_turn.new.engine) c.make_turn.new.feed c.in_ok-end.ensures.standing c.in_ok-end.ensures.feed c.args.budget c.loop-test.true in
    let all = finishes eq m c.args.breaks.now (order_of c.args.order) start c.args.feed.now c.args.budget
    (c.loop.invariant.pieces ++ step_pieces c.args.breaks.now c.in-Some.h stepped) (c.loop.invariant.harts ++ counted_harts c.in-Some.h stepped.ended)
    (g.E.Engine.standing c.make_turn.new.engine) c.make_turn.new.feed (c.loop.count + c.count_of-count.result)
    (g.K.Sink.taken c.args.out.now) (g.K.Sink.taken c.make_turn.new.out) done_all
    ((λ j. c.loop.invariant.count j + counts j) ∙ sym (length-append c.loop.invariant.harts (counted_harts c.in-Some.h stepped.ended)))
    (puts_on (g.K.Sink.taken c.args.out.now) (g.K.Sink.taken c.loop.out) (g.K.Sink.taken c.make_turn.new.out) c.loop.invariant.pieces
    (step_pieces c.args.breaks.now c.in-Some.h stepped) tt done c.loop.invariant.puts
    (puts_as (g.K.Sink.taken c.loop.out) (g.K.Sink.taken c.make_turn.new.out) (step_pieces c.args.breaks.now c.in-Some.h stepped) (c.in_ok-end.end, c.in_ok-end.pc) tt c.in_ok-end.ensures.puts)) in
    all.puts
