use Rattle.std.proofs.Common.{subst}
use Rattle.pump_line.specs.Told.{load_value}
use Rattle.pump_cli.specs.Endings.{Outcome}
use Rattle.pump_cli.specs.Facts.{Does}
use Rattle.pump_cli.proofs.SessionLemmas.{sinks}
use Rattle.pump_cli.proofs.WorkloadLemmas.{started_work}
use Rattle.pump_cli.proofs.load.run_workload.Goals as goal

pub returns-in-Asked-clause-does : goal.returns-in-Asked-clause-does
returns-in-Asked-clause-does g c = λ err.
    let ran = c.run_blocks in
    subst (λ (due : Outcome). Does due (sinks (g.K.Sink.taken c.args.out.now) err) (sinks (g.K.Sink.taken ran.new.out) err) ran.result)
    (started_work (load_value c.args.task) c.args.image.now c.basis_of.result c.basis_of.ensures _ c.in-Asked.ensures.starts)
    (ran.ensures.does err)

pub returns-in-Kept-clause-does : goal.returns-in-Kept-clause-does
returns-in-Kept-clause-does g c = λ err.
    let ran = c.run_blocks-in-Kept in
    subst (λ (due : Outcome). Does due (sinks (g.K.Sink.taken c.args.out.now) err) (sinks (g.K.Sink.taken ran.new.out) err) ran.result)
    (started_work (load_value c.args.task) c.args.image.now c.basis_of.result c.basis_of.ensures _ c.in-Kept.ensures.starts)
    (ran.ensures.does err)

pub returns-in-InSets-clause-does : goal.returns-in-InSets-clause-does
returns-in-InSets-clause-does g c = λ err.
    let ran = c.run_blocks-in-InSets in
    subst (λ (due : Outcome). Does due (sinks (g.K.Sink.taken c.args.out.now) err) (sinks (g.K.Sink.taken ran.new.out) err) ran.result)
    (started_work (load_value c.args.task) c.args.image.now c.basis_of.result c.basis_of.ensures _ c.in-InSets.ensures.starts)
    (ran.ensures.does err)
