use Rattle.std.proofs.lemmas.Result.{err_from_is_err_and}
use Rattle.pump_cli.proofs.EndLemmas.{start_cut, start_told}
use Rattle.pump_cli.proofs.ending.end_at_start.Goals as goal

pub returns-in_err-tell_last-clause-does : goal.returns-in_err-tell_last-clause-does
returns-in_err-tell_last-clause-does g c = λ out.
    let p = err_from_is_err_and c.from_residual.result c.from_residual.ensures.1 in
    start_cut (record { out = out; err = g.L.Sink.taken c.args.err.now }) (record { out = out; err = g.L.Sink.taken c.tell_last.new.err }) _ c.from_residual.result _ p.1
    (c.in_err-tell_last.ensures.told out)

pub returns-clause-does : goal.returns-clause-does
returns-clause-does g c = λ out.
    start_told (record { out = out; err = g.L.Sink.taken c.args.err.now }) (record { out = out; err = g.L.Sink.taken c.tell_last.new.err }) _ (c.in_ok-tell_last.ensures.told out)
