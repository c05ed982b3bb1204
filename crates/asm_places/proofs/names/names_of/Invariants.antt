use Rattle.std.proofs.Common.{◌≡◌, ◌≤◌, ℕ, List, drop, length}
use Rattle.std.specs.FinMap as map
use Rattle.asm_places.specs.Names.{next_word, place_of_name}
use Rattle.asm_places.proofs.names.names_of.Given as goal

-- the next word and the names of the lines that are done
abbrev pub invariant-loop-left : goal.invariant-loop-left
invariant-loop-left l = record {
  within : l.left ≤ length l.lines;
  word : l.next ≡ next_word (drop l.left l.lines) (drop l.left l.layout.places.items) l.layout.end;
  given : (name : List ℕ) → map.get l.names name ≡ place_of_name (drop l.left l.lines) (drop l.left l.layout.places.items) l.layout.end name;
}

abbrev pub decreases-loop-left : goal.decreases-loop-left
decreases-loop-left l = l.left
