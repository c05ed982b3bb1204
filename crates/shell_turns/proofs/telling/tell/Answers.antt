use Rattle.std.proofs.Common.{◌++◌, subst}
use Rattle.std.proofs.lemmas.Result.{err_from_is_err_and}
use Rattle.shell_turns.specs.Cuts.{PutsOut}
use Rattle.shell_turns.specs.Told.{break_pieces, end_pieces}
use Rattle.shell_turns.proofs.PutLemmas.{puts_cut_in, puts_on}
use Rattle.shell_turns.proofs.telling.tell.Goals as goal

pub returns-in_err-tell_end-clause-puts : goal.returns-in_err-tell_end-clause-puts
returns-in_err-tell_end-clause-puts g c =
    let p = err_from_is_err_and c.from_residual.result c.from_residual.ensures.1 in
    rw p.1
    (puts_cut_in (Unit {0}) (Unit {0}) (g.K.Sink.taken c.args.out.now) (g.K.Sink.taken c.tell_end.new.out) _ _
    c.in_err-tell_end.field-0.0 p.0 c.in_err-tell_end.ensures.puts)

pub returns-clause-puts : goal.returns-clause-puts
returns-clause-puts g c =
    let old = g.K.Sink.taken c.args.out.now in
    let new = g.K.Sink.taken c.tell_break.new.out in
    subst (λ breaks. PutsOut old new (end_pieces c.args.h c.args.end ++ break_pieces breaks c.args.h c.args.pc) c.tell_break.result) c.is_break.ensures
    (puts_on old (g.K.Sink.taken c.tell_end.new.out) new _ _ c.in_ok-tell_end.field-0 c.tell_break.result
    c.in_ok-tell_end.ensures.puts c.tell_break.ensures.puts)
