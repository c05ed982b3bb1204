use Rattle.std.proofs.Common.{◌≡◌, ℕ, ◌<◌, None}
use Rattle.rule_cache.specs.Fronts.{slot_at}
use Rattle.rule_cache.proofs.front.empty_all.Given as goal

abbrev pub invariant-loop-slot : goal.invariant-loop-slot
invariant-loop-slot l = (number : ℕ) → number < l.slot-index → slot_at l.slot-items number ≡ None
