use Rattle.std.proofs.Common.{◌≡◌, length}
use Rattle.asm_text.specs.Cuts.{without_front}
use Rattle.asm_text.proofs.cuts.trim_front.Given as goal

-- what was dropped makes no difference
abbrev pub invariant-loop-left : goal.invariant-loop-left
invariant-loop-left l = without_front l.left ≡ without_front l.fn.text

abbrev pub decreases-loop-left : goal.decreases-loop-left
decreases-loop-left l = length l.left
