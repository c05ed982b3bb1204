use Rattle.std.proofs.Common.{◌∷◌, [], Bool, false, subst}
use Rattle.std.proofs.lemmas.Result.{err_from_is_err_and}
use Rattle.host_io.specs.Pieces.{out}
use Rattle.shell_turns.specs.Cuts.{PutsOut}
use Rattle.shell_turns.proofs.PutLemmas.{fails, gives, puts_as, puts_cut_as}
use Rattle.shell_run.specs.Lines.{refusal_line}
use Rattle.shell_script.proofs.lines.obey_line.Goals as goal

pub returns-in_err-put_refusal-in-Err-clause-puts : goal.returns-in_err-put_refusal-in-Err-clause-puts
returns-in_err-put_refusal-in-Err-clause-puts g c =
    let old = g.K.Sink.taken c.args.out.now in
    let new = g.K.Sink.taken c.put_refusal.new.out in
    let p = err_from_is_err_and c.from_residual.result c.from_residual.ensures.1 in
    rw (p.1, c.in-Err.is)
    (subst (λ number. PutsOut old new (out (refusal_line number) ∷ []) (fails Bool p.0)) c.number.ensures
    (puts_cut_as (Unit {0}) Bool old new (out (refusal_line c.number.result) ∷ []) c.in_err-put_refusal-in-Err.field-0.0 p.0 c.in_err-put_refusal-in-Err.ensures.puts))

pub returns-in_ok-put_refusal-in-Err-clause-puts : goal.returns-in_ok-put_refusal-in-Err-clause-puts
returns-in_ok-put_refusal-in-Err-clause-puts g c =
    let old = g.K.Sink.taken c.args.out.now in
    let new = g.K.Sink.taken c.put_refusal.new.out in
    rw c.in-Err.is
    (subst (λ number. PutsOut old new (out (refusal_line number) ∷ []) (gives false)) c.number.ensures
    (puts_as old new (out (refusal_line c.number.result) ∷ []) c.in_ok-put_refusal-in-Err.field-0 false c.in_ok-put_refusal-in-Err.ensures.puts))
