use Rattle.std.proofs.Common.{List, Option, ap, subst, ◌∙◌}
use Rattle.std.proofs.lemmas.Result.{err_from_is_err_and}
use Rattle.host_io.specs.Pieces.{PutsAll, PutsPrefix}
use Rattle.turn_steps.specs.declared.stop.Stop.{Stop}
use Rattle.engine_trait.specs.Standing.{Standing}
use Rattle.rounds.specs.Course.{hart_stops, rounds}
use Rattle.pump_cli.specs.Endings.{last_pieces, status_of}
use Rattle.pump_cli.proofs.EndLemmas.{last_cut, run_ended, turns_cut}
use Rattle.pump_cli.proofs.ending.run_engine.Goals as goal

pub returns-in_err-make_rounds-clause-does : goal.returns-in_err-make_rounds-clause-does
returns-in_err-make_rounds-clause-does g c =
    let p = err_from_is_err_and c.from_residual.result c.from_residual.ensures.1 in
    turns_cut (rounds g.E.P.Tag.PartialEq.eq g.E.P.Policy.model c.args.limit 0 (g.E.Engine.standing c.args.engine.now) c.args.feed.now) _ _ c.from_residual.result _ p.1 c.in_err-make_rounds.ensures.puts

pub returns-in_err-tell_last-clause-does : goal.returns-in_err-tell_last-clause-does
returns-in_err-tell_last-clause-does g c =
    let p = err_from_is_err_and c.from_residual-in_err-tell_last.result c.from_residual-in_err-tell_last.ensures.1 in
    let course = rounds g.E.P.Tag.PartialEq.eq g.E.P.Policy.model c.args.limit 0 (g.E.Engine.standing c.args.engine.now) c.args.feed.now in
    last_cut course (record { out = g.K.Sink.taken c.args.out.now; err = g.L.Sink.taken c.args.err.now }) (record { out = g.K.Sink.taken c.make_rounds.new.out; err = g.L.Sink.taken c.tell_last.new.err })
    (record { out = g.K.Sink.taken c.make_rounds.new.out; err = g.L.Sink.taken c.make_rounds.new.err }) c.halt-halt.result c.stops_of-stops.result.items
    (c.halt-halt.ensures ∙ ap (λ (e : Standing g.row.E-P.Denot g.row.E-P-Tag.Denot). e.account.halt) c.in_ok-make_rounds.ensures.standing)
    (c.stops_of-stops.ensures ∙ ap (λ (e : Standing g.row.E-P.Denot g.row.E-P-Tag.Denot). hart_stops e.machine.core) c.in_ok-make_rounds.ensures.standing)
    c.in_ok-make_rounds.ensures.puts c.from_residual-in_err-tell_last.result _ p.1
    (subst (λ (stops : List (Option Stop)). PutsPrefix (record { out = g.K.Sink.taken c.make_rounds.new.out; err = g.L.Sink.taken c.make_rounds.new.err }) (record { out = g.K.Sink.taken c.make_rounds.new.out; err = g.L.Sink.taken c.tell_last.new.err }) (last_pieces c.halt-halt.result stops)) c.deref.ensures.0 (c.in_err-tell_last.ensures.told (g.K.Sink.taken c.make_rounds.new.out)))

pub returns-clause-does : goal.returns-clause-does
returns-clause-does g c =
    let course = rounds g.E.P.Tag.PartialEq.eq g.E.P.Policy.model c.args.limit 0 (g.E.Engine.standing c.args.engine.now) c.args.feed.now in
    run_ended course (record { out = g.K.Sink.taken c.args.out.now; err = g.L.Sink.taken c.args.err.now }) (record { out = g.K.Sink.taken c.make_rounds.new.out; err = g.L.Sink.taken c.tell_last.new.err })
    (record { out = g.K.Sink.taken c.make_rounds.new.out; err = g.L.Sink.taken c.make_rounds.new.err }) c.halt-halt.result c.stops_of-stops.result.items
    (c.halt-halt.ensures ∙ ap (λ (e : Standing g.row.E-P.Denot g.row.E-P-Tag.Denot). e.account.halt) c.in_ok-make_rounds.ensures.standing)
    (c.stops_of-stops.ensures ∙ ap (λ (e : Standing g.row.E-P.Denot g.row.E-P-Tag.Denot). hart_stops e.machine.core) c.in_ok-make_rounds.ensures.standing)
    c.in_ok-make_rounds.ensures.puts c.status_of.result (c.status_of.ensures.value ∙ ap (status_of c.halt-halt.result) c.deref-2.ensures.0)
    (subst (λ (stops : List (Option Stop)). PutsAll (record { out = g.K.Sink.taken c.make_rounds.new.out; err = g.L.Sink.taken c.make_rounds.new.err }) (record { out = g.K.Sink.taken c.make_rounds.new.out; err = g.L.Sink.taken c.tell_last.new.err }) (last_pieces c.halt-halt.result stops)) c.deref.ensures.0 (c.in_ok-tell_last.ensures.told (g.K.Sink.taken c.make_rounds.new.out)))
