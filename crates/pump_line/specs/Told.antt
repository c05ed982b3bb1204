-- The words as lists of bytes, and a task as the definitions see it.
use Rattle.std.specs.Prelude.{ℕ, List, map, Option, option_map, String, string_bytes}
use Rattle.std.specs.Borrow.{Bor}
use Rattle.pump_line.specs.Request.{DisassembleTask, ElfTask, SaveTask}
use Rattle.pump_line.specs.Task.{LoadTask, RunTask, ShellTask, Task, disassemble, elf, load, run, save, shell}
use Rattle.pump_line.specs.declared.task.DisassembleTask.{DisassembleTask as DisassembleWords}
use Rattle.pump_line.specs.declared.task.ElfTask.{ElfTask as ElfWords}
use Rattle.pump_line.specs.declared.task.LoadTask.{LoadTask as LoadWords}
use Rattle.pump_line.specs.declared.task.RunTask.{RunTask as RunWords}
use Rattle.pump_line.specs.declared.task.SaveTask.{SaveTask as SaveWords}
use Rattle.pump_line.specs.declared.task.ShellTask.{ShellTask as ShellWords}
use Rattle.pump_line.specs.declared.task.Task.{Task as TaskWords}
use Rattle.pump_line.specs.declared.task.Task.TheVariants.{Disassemble, Elf, Load, Run, Save, Shell}

-- each word by the bytes of its text
abbrev pub texts_of : {A : Type 0} → List (String A) → List (List ℕ)
texts_of words = map string_bytes words

-- what an optional text holds
abbrev pub text_value : Option (Bor (List ℕ)) → Option (List ℕ)
text_value = option_map (λ text. text.now)

-- the task of each subcommand, and any task, as the definitions see it
abbrev pub run_value : RunWords → RunTask
run_value task = record {
  image = task.image.now;
  choice = task.choice;
  secret = text_value task.secret;
  cache = task.cache;
  tags = task.tags;
  turns = task.turns;
}

abbrev pub shell_value : ShellWords → ShellTask
shell_value task = record {
  image = task.image.now;
  choice = task.choice;
  secret = text_value task.secret;
  cache = task.cache;
  tags = task.tags;
  history = task.history;
}

abbrev pub save_value : SaveWords → SaveTask
save_value task = record { making = task.making; source = task.source.now; image = task.image.now }

abbrev pub elf_value : ElfWords → ElfTask
elf_value task = record { elf = task.elf.now; tags = task.tags.now; image = task.image.now }

abbrev pub disassemble_value : DisassembleWords → DisassembleTask
disassemble_value task = record { image = task.image.now }

abbrev pub load_value : LoadWords → LoadTask
load_value task = record { count = task.count; cache = task.cache; tags = task.tags }

abbrev pub task_value : TaskWords → Task
task_value (Run task) = run (run_value task)
task_value (Shell task) = shell (shell_value task)
task_value (Save task) = save (save_value task)
task_value (Elf task) = elf (elf_value task)
task_value (Disassemble task) = disassemble (disassemble_value task)
task_value (Load task) = load (load_value task)
