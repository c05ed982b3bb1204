use Rattle.std.proofs.Common.{rules}
use Rattle.pump_line.specs.Line.{asm_shape, dis_shape, elf_shape, load_shape, migrate_shape, pump_app, run_shape, shell_shape}
use Rattle.pump_line.proofs.command.pump_command.Goals as goal

pub returns : goal.returns
unfolding pump_app run_shape shell_shape asm_shape migrate_shape elf_shape dis_shape load_shape
returns c = search rules
