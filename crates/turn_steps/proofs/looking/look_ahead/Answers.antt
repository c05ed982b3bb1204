use Rattle.tag_memory.specs.Ram.{ram_bytes}
use Rattle.turn_steps.proofs.looking.look_ahead.Goals as goal

pub returns-then-is_system-clause-safe : goal.returns-then-is_system-clause-safe
returns-then-is_system-clause-safe g c = c.system_look.ensures.safe (ram_bytes c.args.ram.now)
