use Rattle.std.proofs.Common.{◌≡◌, drop}
use Rattle.rule_cache.specs.Fronts.{brought_up}
use Rattle.rule_cache.proofs.front.bring_up.Given as goal

-- the slots that were passed have gone to the front of the first list
abbrev pub invariant-loop-place : goal.invariant-loop-place
invariant-loop-place l = record {
  rules : l.rules.entries ≡ brought_up l.slots (drop l.place l.numbers) l.fn.rules.entries;
  capacity : l.rules.cap ≡ l.fn.rules.cap;
}
