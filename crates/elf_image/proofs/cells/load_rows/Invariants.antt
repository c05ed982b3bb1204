use Rattle.std.proofs.Common.{length}
use Rattle.elf_image.specs.Headers.{header_count}
use Rattle.elf_image.proofs.RowLemmas.{AreLoaded}
use Rattle.elf_image.proofs.cells.load_rows.Given as goal

abbrev pub invariant-loop-row : goal.invariant-loop-row
invariant-loop-row l = AreLoaded l.elf (length l.fn.cells) (header_count l.elf) l.row l.cells
