-- A hart and a memory with each tag changed, and a list in pages with each item changed.
use Rattle.std.specs.Prelude.{map}
use Rattle.tag_memory.specs.Hart.{HartState}
use Rattle.tag_memory.specs.Pages.{PagesState}
use Rattle.tag_memory.specs.Ram.{RamState}

abbrev pub hart_by : {T U : Type 0} → (T → U) → HartState T → HartState U
hart_by f hart = record { values = hart.values; tags = map f hart.tags; pc = hart.pc; pc_tag = f hart.pc_tag; plain = f hart.plain }

abbrev pub ram_by : {T U : Type 0} → (T → U) → RamState T → RamState U
ram_by f ram = record { words = ram.words; tags = map f ram.tags; plain = f ram.plain }

-- the pages share the slots that they shared
abbrev pub pages_by : {T U : Type 0} → (T → U) → PagesState T → PagesState U
pages_by f pages = record { shifts = pages.shifts; owned = pages.owned; slots = map f pages.slots; count = pages.count; shared = pages.shared; room = pages.room; blank = f pages.blank }
