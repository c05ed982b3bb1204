-- Each command line so far has its calls.
use Rattle.std.proofs.Common.{◌≡◌, ◌*◌, max, vec_len}
use Rattle.row_lang.proofs.calls.calls_of.Given as goal

abbrev pub invariant-loop-words : goal.invariant-loop-words
invariant-loop-words l = vec_len l.calls ≡ l.words-index * max 1 (vec_len l.fn.row.caches)
