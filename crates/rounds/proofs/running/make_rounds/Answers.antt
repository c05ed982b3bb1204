use Rattle.std.proofs.Common.{Err, arith, refl, ap, subst, sym, ◌∙◌, ◌≡◌, ◌+◌, ◌-◌, ◌<◌, ℕ}
use Rattle.std.proofs.lemmas.Result.{err_from_is_err_and}
use Rattle.rounds.specs.Course.{is_stop, rounds}
use Rattle.rounds.proofs.ReadinessLemmas.{next_ready, next_there}
use Rattle.rounds.proofs.StopLemmas.{order_stays}
use Rattle.rounds.proofs.TurnLemmas.{left_begins, left_ends, left_goes_on, left_is_cut, left_is_cut_between, rounds-none, rounds-over, same_err}
use Rattle.rounds.proofs.running.make_rounds.Goals as goal

pub loop-init : goal.loop-init
loop-init g c =
    let whole : c.args.limit - 0 ≡ c.args.limit = omega arith in
    record {
      from = 0;
      next = c.next_turn-next.ensures.next;
      order = c.order_of-order.ensures;
      rest =
          left_begins g.E.P.Tag.PartialEq.eq g.E.P.Policy.model c.args.limit (c.args.limit - 0) (g.E.Engine.standing c.args.engine.now) c.args.feed.now
          (record { out = g.K.Sink.taken c.args.out.now; err = g.L.Sink.taken c.args.err.now }) whole;
      out_faults = refl;
      err_faults = refl;
    }

pub returns-in_err-end-clause-puts : goal.returns-in_err-end-clause-puts
returns-in_err-end-clause-puts g c =
    let p = err_from_is_err_and c.from_residual.result c.from_residual.ensures.1 in
    rw p.1
    (left_is_cut g.E.P.Tag.PartialEq.eq g.E.P.Policy.model c.args.limit c.loop.counter c.loop.invariant.from c.in-Some.h (g.E.Engine.standing c.loop.engine) c.loop.feed
    (rounds g.E.P.Tag.PartialEq.eq g.E.P.Policy.model c.args.limit 0 (g.E.Engine.standing c.args.engine.now) c.args.feed.now)
    (record { out = g.K.Sink.taken c.args.out.now; err = g.L.Sink.taken c.args.err.now })
    (record { out = g.K.Sink.taken c.loop.out; err = g.L.Sink.taken c.loop.err })
    (record { out = g.K.Sink.taken c.make_turn.new.out; err = g.L.Sink.taken c.make_turn.new.err })
    c.loop-test.true (sym c.loop.invariant.next ∙ c.in-Some.is) c.loop.invariant.rest
    c.in_err-end.ensures.puts)

pub returns-in_err-end-clause-whole : goal.returns-in_err-end-clause-whole
returns-in_err-end-clause-whole g c = λ sound.
    let p = err_from_is_err_and c.from_residual.result c.from_residual.ensures.1 in
    left_is_cut_between g.E.P.Tag.PartialEq.eq g.E.P.Policy.model c.args.limit c.loop.counter c.loop.invariant.from c.in-Some.h (g.E.Engine.standing c.loop.engine) c.loop.feed
    (rounds g.E.P.Tag.PartialEq.eq g.E.P.Policy.model c.args.limit 0 (g.E.Engine.standing c.args.engine.now) c.args.feed.now)
    (record { out = g.K.Sink.taken c.args.out.now; err = g.L.Sink.taken c.args.err.now })
    (record { out = g.K.Sink.taken c.loop.out; err = g.L.Sink.taken c.loop.err })
    (record { out = g.K.Sink.taken c.make_turn.new.out; err = g.L.Sink.taken c.make_turn.new.err })
    c.loop-test.true (sym c.loop.invariant.next ∙ c.in-Some.is) c.loop.invariant.rest
    (c.in_err-end.ensures.whole (λ failed. sound (p.1 ∙ ap Err (p.2 ∙ same_err _ _ failed))))

pub next_after-next-requires-clause-hart : goal.next_after-next-requires-clause-hart
next_after-next-requires-clause-hart g c =
    subst (λ (n : ℕ). c.in-Some.h < n) (sym c.in_ok-end.ensures.harts)
    (next_there (g.E.Engine.standing c.loop.engine) c.loop.invariant.from c.in-Some.h (sym c.loop.invariant.next ∙ c.in-Some.is))

pub next_after-next-requires-clause-kept : goal.next_after-next-requires-clause-kept
next_after-next-requires-clause-kept g c = λ goes_on.
    order_stays g.E.P.Tag.PartialEq.eq g.E.P.Policy.model (g.E.Engine.standing c.loop.engine) c.loop.feed c.in-Some.h c.loop.order.items (g.E.Engine.standing c.make_turn.new.engine)
    c.loop.invariant.order c.in_ok-end.ensures.standing (sym (ap is_stop c.in_ok-end.ensures.ended) ∙ goes_on)

pub make_turn-requires-clause-hart : goal.make_turn-requires-clause-hart
make_turn-requires-clause-hart g c = next_there (g.E.Engine.standing c.loop.engine) c.loop.invariant.from c.in-Some.h (sym c.loop.invariant.next ∙ c.in-Some.is)

pub make_turn-requires-clause-ready : goal.make_turn-requires-clause-ready
make_turn-requires-clause-ready g c = next_ready (g.E.Engine.standing c.loop.engine) c.loop.invariant.from c.in-Some.h (sym c.loop.invariant.next ∙ c.in-Some.is)

pub loop-preserved : goal.loop-preserved
loop-preserved g c = record {
  from = c.in-Some.h + 1;
  next = c.next_after-next.ensures.next;
  order = c.next_after-next.ensures.order;
  rest =
      left_goes_on g.E.P.Tag.PartialEq.eq g.E.P.Policy.model c.args.limit c.loop.counter c.loop.invariant.from c.in-Some.h (g.E.Engine.standing c.loop.engine) c.loop.feed
      (rounds g.E.P.Tag.PartialEq.eq g.E.P.Policy.model c.args.limit 0 (g.E.Engine.standing c.args.engine.now) c.args.feed.now)
      (record { out = g.K.Sink.taken c.args.out.now; err = g.L.Sink.taken c.args.err.now })
      (record { out = g.K.Sink.taken c.loop.out; err = g.L.Sink.taken c.loop.err })
      (record { out = g.K.Sink.taken c.make_turn.new.out; err = g.L.Sink.taken c.make_turn.new.err })
      c.loop-test.true (sym c.loop.invariant.next ∙ c.in-Some.is) c.loop.invariant.rest
      (g.E.Engine.standing c.make_turn.new.engine) c.make_turn.new.feed
      c.in_ok-end.ensures.standing c.in_ok-end.ensures.feed c.in_ok-end.ensures.puts;
  out_faults = ap (λ faults. faults.out) c.in_ok-end.ensures.cause ∙ c.loop.invariant.out_faults;
  err_faults = ap (λ faults. faults.err) c.in_ok-end.ensures.cause ∙ c.loop.invariant.err_faults;
}

pub returns-after-loop-clause-standing : goal.returns-after-loop-clause-standing
returns-after-loop-clause-standing g c =
    (left_ends g.E.P.Tag.PartialEq.eq g.E.P.Policy.model _ (g.E.Engine.standing c.loop.engine) c.loop.feed
    (rounds g.E.P.Tag.PartialEq.eq g.E.P.Policy.model c.args.limit 0 (g.E.Engine.standing c.args.engine.now) c.args.feed.now)
    (record { out = g.K.Sink.taken c.args.out.now; err = g.L.Sink.taken c.args.err.now })
    (record { out = g.K.Sink.taken c.loop.out; err = g.L.Sink.taken c.loop.err })
    (rounds-over g.E.P.Tag.PartialEq.eq g.E.P.Policy.model (c.args.limit - c.loop.counter) c.loop.invariant.from (g.E.Engine.standing c.loop.engine) c.loop.feed (omega arith))
    c.loop.invariant.rest).standing

pub returns-after-loop-clause-feed : goal.returns-after-loop-clause-feed
returns-after-loop-clause-feed g c =
    (left_ends g.E.P.Tag.PartialEq.eq g.E.P.Policy.model _ (g.E.Engine.standing c.loop.engine) c.loop.feed
    (rounds g.E.P.Tag.PartialEq.eq g.E.P.Policy.model c.args.limit 0 (g.E.Engine.standing c.args.engine.now) c.args.feed.now)
    (record { out = g.K.Sink.taken c.args.out.now; err = g.L.Sink.taken c.args.err.now })
    (record { out = g.K.Sink.taken c.loop.out; err = g.L.Sink.taken c.loop.err })
    (rounds-over g.E.P.Tag.PartialEq.eq g.E.P.Policy.model (c.args.limit - c.loop.counter) c.loop.invariant.from (g.E.Engine.standing c.loop.engine) c.loop.feed (omega arith))
    c.loop.invariant.rest).feed

pub returns-after-loop-clause-puts : goal.returns-after-loop-clause-puts
returns-after-loop-clause-puts g c =
    (left_ends g.E.P.Tag.PartialEq.eq g.E.P.Policy.model _ (g.E.Engine.standing c.loop.engine) c.loop.feed
    (rounds g.E.P.Tag.PartialEq.eq g.E.P.Policy.model c.args.limit 0 (g.E.Engine.standing c.args.engine.now) c.args.feed.now)
    (record { out = g.K.Sink.taken c.args.out.now; err = g.L.Sink.taken c.args.err.now })
    (record { out = g.K.Sink.taken c.loop.out; err = g.L.Sink.taken c.loop.err })
    (rounds-over g.E.P.Tag.PartialEq.eq g.E.P.Policy.model (c.args.limit - c.loop.counter) c.loop.invariant.from (g.E.Engine.standing c.loop.engine) c.loop.feed (omega arith))
    c.loop.invariant.rest).puts

pub returns-in_default-clause-standing : goal.returns-in_default-clause-standing
returns-in_default-clause-standing g c =
    (left_ends g.E.P.Tag.PartialEq.eq g.E.P.Policy.model _ (g.E.Engine.standing c.loop.engine) c.loop.feed
    (rounds g.E.P.Tag.PartialEq.eq g.E.P.Policy.model c.args.limit 0 (g.E.Engine.standing c.args.engine.now) c.args.feed.now)
    (record { out = g.K.Sink.taken c.args.out.now; err = g.L.Sink.taken c.args.err.now })
    (record { out = g.K.Sink.taken c.loop.out; err = g.L.Sink.taken c.loop.err })
    (rounds-none g.E.P.Tag.PartialEq.eq g.E.P.Policy.model (c.args.limit - c.loop.counter) c.loop.invariant.from (g.E.Engine.standing c.loop.engine) c.loop.feed (sym c.loop.invariant.next ∙ c.in_default.is))
    c.loop.invariant.rest).standing

pub returns-in_default-clause-feed : goal.returns-in_default-clause-feed
returns-in_default-clause-feed g c =
    (left_ends g.E.P.Tag.PartialEq.eq g.E.P.Policy.model _ (g.E.Engine.standing c.loop.engine) c.loop.feed
    (rounds g.E.P.Tag.PartialEq.eq g.E.P.Policy.model c.args.limit 0 (g.E.Engine.standing c.args.engine.now) c.args.feed.now)
    (record { out = g.K.Sink.taken c.args.out.now; err = g.L.Sink.taken c.args.err.now })
    (record { out = g.K.Sink.taken c.loop.out; err = g.L.Sink.taken c.loop.err })
    (rounds-none g.E.P.Tag.PartialEq.eq g.E.P.Policy.model (c.args.limit - c.loop.counter) c.loop.invariant.from (g.E.Engine.standing c.loop.engine) c.loop.feed (sym c.loop.invariant.next ∙ c.in_default.is))
    c.loop.invariant.rest).feed

pub returns-in_default-clause-puts : goal.returns-in_default-clause-puts
returns-in_default-clause-puts g c =
    (left_ends g.E.P.Tag.PartialEq.eq g.E.P.Policy.model _ (g.E.Engine.standing c.loop.engine) c.loop.feed
    (rounds g.E.P.Tag.PartialEq.eq g.E.P.Policy.model c.args.limit 0 (g.E.Engine.standing c.args.engine.now) c.args.feed.now)
    (record { out = g.K.Sink.taken c.args.out.now; err = g.L.Sink.taken c.args.err.now })
    (record { out = g.K.Sink.taken c.loop.out; err = g.L.Sink.taken c.loop.err })
    (rounds-none g.E.P.Tag.PartialEq.eq g.E.P.Policy.model (c.args.limit - c.loop.counter) c.loop.invariant.from (g.E.Engine.standing c.loop.engine) c.loop.feed (sym c.loop.invariant.next ∙ c.in_default.is))
    c.loop.invariant.rest).puts
