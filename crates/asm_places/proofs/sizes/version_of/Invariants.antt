use Rattle.std.proofs.Common.{◌≡◌, drop}
use Rattle.asm_places.specs.Sizes.{version_of}
use Rattle.asm_places.proofs.sizes.version_of.Given as goal

-- the lines that are left decide
abbrev pub invariant-loop-line : goal.invariant-loop-line
invariant-loop-line l = version_of (drop l.line-index l.lines) ≡ version_of l.lines
