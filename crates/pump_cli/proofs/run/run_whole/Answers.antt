use Rattle.std.proofs.Common.{subst}
use Rattle.pump_line.specs.Told.{run_value}
use Rattle.policy_choice.specs.declared.basis.Basis.{Basis}
use Rattle.pump_cli.specs.Endings.{Outcome}
use Rattle.pump_cli.specs.Facts.{Does}
use Rattle.pump_cli.proofs.SessionLemmas.{sinks}
use Rattle.pump_cli.proofs.StartLemmas.{started_outcome}
use Rattle.pump_cli.proofs.run.run_whole.Goals as goal

pub returns-in-Asked-clause-does : goal.returns-in-Asked-clause-does
returns-in-Asked-clause-does g c =
    let ran = c.run_load in
    subst (λ (due : Outcome). Does due (sinks (g.K.Sink.taken c.args.out.now) (g.L.Sink.taken c.args.err.now)) (sinks (g.K.Sink.taken ran.new.out) (g.L.Sink.taken ran.new.err)) ran.result)
    (started_outcome g.W.Tag.PartialEq.eq g.W.Policy.model (λ (basis : Basis). g.W.Whole.chosen basis c.args.secret.now c.args.image.now) (run_value c.args.task) c.args.image.now c.basis_of-basis.result c.basis_of-basis.ensures _ c.in-Asked.ensures.starts c.args.fed.items)
    ran.ensures.does

pub returns-in-Kept-clause-does : goal.returns-in-Kept-clause-does
returns-in-Kept-clause-does g c =
    let ran = c.run_load-in-Kept in
    subst (λ (due : Outcome). Does due (sinks (g.K.Sink.taken c.args.out.now) (g.L.Sink.taken c.args.err.now)) (sinks (g.K.Sink.taken ran.new.out) (g.L.Sink.taken ran.new.err)) ran.result)
    (started_outcome g.W.Tag.PartialEq.eq g.W.Policy.model (λ (basis : Basis). g.W.Whole.chosen basis c.args.secret.now c.args.image.now) (run_value c.args.task) c.args.image.now c.basis_of-basis.result c.basis_of-basis.ensures _ c.in-Kept.ensures.starts c.args.fed.items)
    ran.ensures.does

pub returns-in-InSets-clause-does : goal.returns-in-InSets-clause-does
returns-in-InSets-clause-does g c =
    let ran = c.run_load-in-InSets in
    subst (λ (due : Outcome). Does due (sinks (g.K.Sink.taken c.args.out.now) (g.L.Sink.taken c.args.err.now)) (sinks (g.K.Sink.taken ran.new.out) (g.L.Sink.taken ran.new.err)) ran.result)
    (started_outcome g.W.Tag.PartialEq.eq g.W.Policy.model (λ (basis : Basis). g.W.Whole.chosen basis c.args.secret.now c.args.image.now) (run_value c.args.task) c.args.image.now c.basis_of-basis.result c.basis_of-basis.ensures _ c.in-InSets.ensures.starts c.args.fed.items)
    ran.ensures.does
