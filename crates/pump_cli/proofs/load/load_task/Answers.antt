use Rattle.std.proofs.Common.{refl}
use Rattle.pump_line.specs.Told.{load_value}
use Rattle.pump_cli.proofs.LoadWayLemmas.{work_ends, worked}
use Rattle.pump_cli.proofs.load.load_task.Goals as goal

pub returns-in-Ok : goal.returns-in-Ok
returns-in-Ok g c =
    let work = c.run_workload.ensures in
    worked (load_value c.args.task) _ _ c.in-Ok.image c.run_workload.result c.in-Ok.ensures.taken work.does work.faults work.kind
    refl refl refl refl refl refl refl refl refl

pub returns-in-Err : goal.returns-in-Err
returns-in-Err g c =
    work_ends (load_value c.args.task) _ _ c.in-Err.end _ c.end_early.result c.in-Err.ensures.refused c.in-Err.ensures.of_file c.in-Err.ensures.cut
    c.end_early.ensures refl refl refl refl refl refl refl refl refl
