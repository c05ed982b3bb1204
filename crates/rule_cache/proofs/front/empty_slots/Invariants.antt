use Rattle.std.proofs.Common.{◌≤◌, ◌-◌, vec_len}
use Rattle.rule_cache.specs.Fronts.{AreEmpty}
use Rattle.rule_cache.proofs.front.empty_slots.Given as goal

abbrev pub invariant-loop-slots : goal.invariant-loop-slots
invariant-loop-slots l = (vec_len l.slots ≤ 256) × AreEmpty l.slots.items

abbrev pub decreases-loop-slots : goal.decreases-loop-slots
decreases-loop-slots l = 256 - vec_len l.slots
