use Rattle.pump_line.specs.Told.{shell_value}
use Rattle.pump_cli.proofs.SessionLemmas.{broken_faults, counts, ended_faults, no_read_after, no_start_broken, no_start_ended, over_is, past_limit, session_broken, session_closed, session_ended, session_ok, session_read_failed, session_replied, whatever}
use Rattle.std.proofs.Common.{IsTrue, ap, refl, sym, ◌∙◌}
use Rattle.pump_cli.proofs.shell.obey_lines.Goals as goal

pub returns-in-Ok-clause-does : goal.returns-in-Ok-clause-does
returns-in-Ok-clause-does g c =
    session_ended (shell_value c.args.task) c.basis_of.result c.basis_of.ensures c.args.secret.now c.args.image.now (g.S.Source.left c.args.input.now) (g.K.Sink.taken c.args.out.now) (g.K.Sink.taken c.run_session.new.out)
    (g.L.Sink.taken c.args.err.now) (g.L.Sink.taken c.end_session.new.err) c.in-Ok.end c.end_session.result c.in-Ok.ensures.done c.in-Ok.ensures.puts c.end_session.ensures.does

pub returns-in-Ok-clause-faults : goal.returns-in-Ok-clause-faults
returns-in-Ok-clause-faults g c =
    ended_faults (g.S.Source.faults c.args.input.now) (g.S.Source.faults c.run_session.new.input) (g.K.Sink.faults c.args.out.now) (g.K.Sink.faults c.run_session.new.out)
    (g.L.Sink.faults c.args.err.now) (g.L.Sink.faults c.end_session.new.err) c.end_session.result c.in-Ok.ensures.cause c.end_session.ensures.faults

pub returns-in-Ok-clause-long : goal.returns-in-Ok-clause-long
returns-in-Ok-clause-long g c too_long =
    past_limit (g.S.Source.left c.args.input.now) (c.in-Ok.ensures.long (ap session_ok (c.end_session.ensures.long too_long)))

pub returns-in-Ok-clause-tags_out : goal.returns-in-Ok-clause-tags_out
returns-in-Ok-clause-tags_out g c out =
    sym (over_is (shell_value c.args.task) c.basis_of.result c.args.secret.now c.args.image.now c.basis_of.ensures) ∙ c.in-Ok.ensures.out_of_tags (ap session_ok (c.end_session.ensures.tags_out out))

pub returns-in-Ok-clause-no_start : goal.returns-in-Ok-clause-no_start
returns-in-Ok-clause-no_start g c over =
    let none = c.in-Ok.ensures.over (over_is (shell_value c.args.task) c.basis_of.result c.args.secret.now c.args.image.now c.basis_of.ensures ∙ over) in
    no_start_ended (g.K.Sink.taken c.args.out.now) (g.K.Sink.taken c.run_session.new.out) (g.L.Sink.taken c.args.err.now) (g.L.Sink.taken c.end_session.new.err) none.silent
    c.in-Ok.end c.end_session.result none.ends c.end_session.ensures.does

pub returns-in-Ok-clause-unread : goal.returns-in-Ok-clause-unread
returns-in-Ok-clause-unread g c over =
    (c.in-Ok.ensures.over (over_is (shell_value c.args.task) c.basis_of.result c.args.secret.now c.args.image.now c.basis_of.ensures ∙ over)).unread

pub returns-in-Ok-clause-closed : goal.returns-in-Ok-clause-closed
returns-in-Ok-clause-closed g c =
    whatever c.end_session.result _
    (session_closed (shell_value c.args.task) c.basis_of.result c.basis_of.ensures c.args.secret.now c.args.image.now (g.S.Source.left c.args.input.now) (g.K.Sink.taken c.args.out.now) (g.K.Sink.taken c.run_session.new.out)
    (IsTrue (g.S.Source.closed c.run_session.new.input)) c.in-Ok.end c.in-Ok.ensures.done (λ ended. c.in-Ok.ensures.closed (ap session_ok ended)))

pub returns-in-Err-clause-does : goal.returns-in-Err-clause-does
returns-in-Err-clause-does g c =
    session_broken (shell_value c.args.task) c.basis_of.result c.basis_of.ensures c.args.secret.now c.args.image.now (g.S.Source.left c.args.input.now) (g.K.Sink.taken c.args.out.now) (g.K.Sink.taken c.run_session.new.out)
    (g.L.Sink.taken c.args.err.now) c.in-Err.cut c.from.result c.in-Err.ensures.puts

pub returns-in-Err-clause-faults : goal.returns-in-Err-clause-faults
returns-in-Err-clause-faults g c =
    broken_faults (g.S.Source.faults c.args.input.now) (g.S.Source.faults c.run_session.new.input) (g.K.Sink.faults c.args.out.now) (g.K.Sink.faults c.run_session.new.out)
    (g.L.Sink.faults c.args.err.now) c.in-Err.cut c.from.result c.from.ensures c.in-Err.ensures.cause

pub returns-in-Err-clause-no_start : goal.returns-in-Err-clause-no_start
returns-in-Err-clause-no_start g c over =
    no_start_broken (g.K.Sink.taken c.args.out.now) (g.K.Sink.taken c.run_session.new.out) (g.L.Sink.taken c.args.err.now) (g.L.Sink.taken c.args.err.now)
    (c.in-Err.ensures.over (over_is (shell_value c.args.task) c.basis_of.result c.args.secret.now c.args.image.now c.basis_of.ensures ∙ over)).silent c.from.result refl

pub returns-in-Err-clause-unread : goal.returns-in-Err-clause-unread
returns-in-Err-clause-unread g c over =
    (c.in-Err.ensures.over (over_is (shell_value c.args.task) c.basis_of.result c.args.secret.now c.args.image.now c.basis_of.ensures ∙ over)).unread

pub returns-in-Ok-clause-replied : goal.returns-in-Ok-clause-replied
returns-in-Ok-clause-replied g c failed =
    absurd (no_read_after (counts 0 (g.L.Sink.faults c.args.err.now)) (counts 0 (g.L.Sink.faults c.end_session.new.err)) c.end_session.result (c.end_session.ensures.faults 0) failed)

pub returns-in-Err-clause-replied : goal.returns-in-Err-clause-replied
returns-in-Err-clause-replied g c failed =
    session_replied (shell_value c.args.task) c.basis_of.result c.basis_of.ensures c.args.secret.now c.args.image.now (g.S.Source.left c.args.input.now) (g.K.Sink.taken c.args.out.now) (g.K.Sink.taken c.run_session.new.out)
    (g.S.Source.left c.run_session.new.input) (g.L.Sink.taken c.args.err.now) (c.in-Err.ensures.replied (session_read_failed c.in-Err.cut c.from.result c.from.ensures failed))
