use Rattle.std.proofs.Common.{refl}
use Rattle.pump_line.specs.Task.{disassemble}
use Rattle.pump_line.specs.Told.{disassemble_value}
use Rattle.pump_cli.proofs.DisWayLemmas.{listed}
use Rattle.pump_cli.proofs.WayLemmas.{file_ends}
use Rattle.pump_cli.proofs.dis.disassemble_task.Goals as goal

pub returns-in-Ok : goal.returns-in-Ok
returns-in-Ok g c =
    let read = c.in-Ok.ensures in
    let list = c.list_words.ensures in
    listed (disassemble_value c.args.task) _ _ c.in-Ok.image c.list_words.result read.taken list.does list.faults list.done refl refl
    read.faults read.writes refl read.held read.calls refl refl

pub returns-in-Err : goal.returns-in-Err
returns-in-Err g c =
    file_ends (disassemble (disassemble_value c.args.task)) _ _ c.args.task.image.now refl c.in-Err.end _ c.end_early.result c.in-Err.ensures.refused c.in-Err.ensures.of_file
    c.in-Err.ensures.faults c.in-Err.ensures.writes c.end_early.ensures refl refl refl c.in-Err.ensures.held c.in-Err.ensures.calls refl refl
