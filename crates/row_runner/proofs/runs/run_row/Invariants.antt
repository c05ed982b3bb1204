-- Each call so far has left something.
use Rattle.std.proofs.Common.{◌≡◌, vec_len}
use Rattle.row_runner.proofs.runs.run_row.Given as goal

abbrev pub invariant-loop-words : goal.invariant-loop-words
invariant-loop-words g l = vec_len l.came ≡ l.words-index
