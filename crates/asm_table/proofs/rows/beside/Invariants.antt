use Rattle.std.proofs.Common.{◌≡◌, drop}
use Rattle.asm_table.specs.Rows.{beside, read_rows}
use Rattle.asm_table.proofs.rows.beside.Given as goal

-- the rows so far haven't the text
abbrev pub invariant-loop-row : goal.invariant-loop-row
invariant-loop-row g l = beside l.text (read_rows (drop l.row-index l.rows)) ≡ beside l.text (read_rows l.rows)
