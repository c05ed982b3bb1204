-- Each file so far has its bytes.
use Rattle.std.proofs.Common.{◌≡◌, vec_len}
use Rattle.row_runner.proofs.calls.all_bytes_of.Given as goal

abbrev pub invariant-loop-file : goal.invariant-loop-file
invariant-loop-file g l = vec_len l.all ≡ l.file-index
