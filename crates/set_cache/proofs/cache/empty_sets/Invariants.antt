use Rattle.std.proofs.Common.{◌≡◌, [], replicate}
use Rattle.std.specs.List.{AllByRecursion}
use Rattle.set_cache.specs.Sets.{IsHeld, rules_of}
use Rattle.set_cache.proofs.cache.empty_sets.Given as goal

abbrev pub invariant-loop-set : goal.invariant-loop-set
invariant-loop-set l = record {
  rules : rules_of l.made.items ≡ replicate l._set [];
  each : AllByRecursion (IsHeld l.ways) l.made.items;
}
