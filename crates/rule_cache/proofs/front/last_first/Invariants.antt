use Rattle.std.proofs.Common.{◌≡◌, ◌+◌, ◌≤◌, List, length, drop}
use Rattle.rule_cache.specs.Fronts.{AreNoted, Slot, brought_up, replayed}
use Rattle.rule_cache.specs.Stores.{Rules}
use Rattle.rule_cache.proofs.front.last_first.Given as goal

-- the numbers that are noted make of any list what the places of the log that were passed make of it
abbrev pub invariant-loop-place : goal.invariant-loop-place
invariant-loop-place l = record {
  numbers : (slots : List Slot) (rules : Rules) → brought_up slots l.numbers.items rules ≡ replayed slots (drop l.place l.log) rules;
  length : length l.numbers.items + l.place ≤ length l.log;
  places : AreNoted l.numbers.items l.places;
}
