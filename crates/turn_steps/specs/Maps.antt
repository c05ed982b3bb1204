-- What stands after an instruction's effect, with each tag changed.
use Rattle.tag_memory.specs.Maps.{hart_by, ram_by}
use Rattle.turn_steps.specs.Effects.{Carried}

-- the hart and memory by the function
abbrev pub carry_by : {T U : Type 0} → (T → U) → Carried T → Carried U
carry_by f carried = record { hart = hart_by f carried.hart; ram = ram_by f carried.ram; feed = carried.feed; done = carried.done }
