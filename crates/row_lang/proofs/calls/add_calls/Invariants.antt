-- There is a call more for each number so far.
use Rattle.std.proofs.Common.{◌≡◌, ◌+◌, vec_len}
use Rattle.row_lang.proofs.calls.add_calls.Given as goal

abbrev pub invariant-loop-cache : goal.invariant-loop-cache
invariant-loop-cache l = vec_len l.calls ≡ vec_len l.initial.calls + l.cache-index
