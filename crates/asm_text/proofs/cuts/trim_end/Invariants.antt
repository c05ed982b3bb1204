use Rattle.std.proofs.Common.{◌≡◌, length}
use Rattle.asm_text.specs.Cuts.{without_end}
use Rattle.asm_text.proofs.cuts.trim_end.Given as goal

-- what was dropped makes no difference
abbrev pub invariant-loop-left : goal.invariant-loop-left
invariant-loop-left l = without_end l.left ≡ without_end l.fn.text

abbrev pub decreases-loop-left : goal.decreases-loop-left
decreases-loop-left l = length l.left
