use Rattle.std.proofs.Common.{◌≡◌, ℕ, ◌+◌, ◌%◌, ◌<◌, length, slice_index}
use Rattle.set_cache.proofs.numbers.set_numbers.Given as goal

abbrev pub invariant-loop-place : goal.invariant-loop-place
invariant-loop-place l = record {
  size : length l.numbers ≡ 21;
  each : (place : ℕ) → place < l.place → slice_index l.numbers place ≡ (place + 1) % l.sets;
}
