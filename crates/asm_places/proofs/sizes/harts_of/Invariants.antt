use Rattle.std.proofs.Common.{◌≡◌, drop}
use Rattle.asm_places.specs.Sizes.{harts_of}
use Rattle.asm_places.proofs.sizes.harts_of.Given as goal

-- the lines that are left decide
abbrev pub invariant-loop-line : goal.invariant-loop-line
invariant-loop-line l = harts_of (drop l.line-index l.lines) ≡ harts_of l.lines
