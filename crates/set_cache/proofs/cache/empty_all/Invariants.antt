use Rattle.std.proofs.Common.{◌≡◌, ℕ, [], ◌++◌, List, drop, map, take}
use Rattle.set_cache.specs.Sets.{AreHeld, rules_of}
use Rattle.set_cache.proofs.cache.empty_all.Given as goal

-- the sets that were passed have no rules
abbrev pub invariant-loop-set : goal.invariant-loop-set
invariant-loop-set l = record {
  rules : rules_of l.set-items ≡ map (λ _. []) (take l.set-index (rules_of l.fn.sets.items)) ++ drop l.set-index (rules_of l.fn.sets.items);
  held : (ways : ℕ) (numbers : List ℕ) → AreHeld ways numbers l.fn.sets.items → AreHeld ways numbers l.set-items;
}
