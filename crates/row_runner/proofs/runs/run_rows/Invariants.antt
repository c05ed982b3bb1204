-- Each row so far is counted.
use Rattle.std.proofs.Common.{◌≡◌, ◌+◌, ◌<◌, ◌^◌, length}
use Rattle.row_lang.specs.Counted.{rows_in}
use Rattle.row_runner.proofs.runs.run_rows.Given as goal

abbrev pub invariant-loop-row : goal.invariant-loop-row
invariant-loop-row g l = rows_in l.fn.before + length l.rows < 2 ^ 64 → rows_in l.tally ≡ rows_in l.fn.before + l.row-index
