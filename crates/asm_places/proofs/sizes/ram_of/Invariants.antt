use Rattle.std.proofs.Common.{◌≡◌, drop}
use Rattle.asm_places.specs.Sizes.{ram_of}
use Rattle.asm_places.proofs.sizes.ram_of.Given as goal

-- the lines that are left decide
abbrev pub invariant-loop-line : goal.invariant-loop-line
invariant-loop-line l = ram_of (drop l.line-index l.lines) ≡ ram_of l.lines
