use Rattle.std.proofs.Common.{ap}
use Rattle.pump_line.specs.Task.{disassemble, elf, load, run, save, shell}
use Rattle.pump_line.specs.Told.{disassemble_value, elf_value, load_value, run_value, save_value, shell_value, task_value}
use Rattle.pump_cli.proofs.WordWayLemmas.{done_as}
use Rattle.pump_cli.proofs.program.do_task.Goals as goal

pub returns-in-Run : goal.returns-in-Run
returns-in-Run g c = done_as (task_value c.args.task) (run (run_value c.in-Run.task)) _ _ _ (ap task_value c.in-Run.is) c.run_task.ensures

pub returns-in-Shell : goal.returns-in-Shell
returns-in-Shell g c = done_as (task_value c.args.task) (shell (shell_value c.in-Shell.task)) _ _ _ (ap task_value c.in-Shell.is) c.shell_task.ensures

pub returns-in-Save : goal.returns-in-Save
returns-in-Save g c = done_as (task_value c.args.task) (save (save_value c.in-Save.task)) _ _ _ (ap task_value c.in-Save.is) c.save_task.ensures

pub returns-in-Elf : goal.returns-in-Elf
returns-in-Elf g c = done_as (task_value c.args.task) (elf (elf_value c.in-Elf.task)) _ _ _ (ap task_value c.in-Elf.is) c.elf_task.ensures

pub returns-in-Disassemble : goal.returns-in-Disassemble
returns-in-Disassemble g c = done_as (task_value c.args.task) (disassemble (disassemble_value c.in-Disassemble.task)) _ _ _ (ap task_value c.in-Disassemble.is) c.disassemble_task.ensures

pub returns-in-Load : goal.returns-in-Load
returns-in-Load g c = done_as (task_value c.args.task) (load (load_value c.in-Load.task)) _ _ _ (ap task_value c.in-Load.is) c.load_task.ensures
