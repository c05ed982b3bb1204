use Rattle.std.proofs.Common.{◌≡◌, ◌++◌, take, drop}
use Rattle.asm_text.specs.Cuts.{after, before}
use Rattle.asm_text.proofs.cuts.cut.Given as goal

-- the byte isn't among those so far
abbrev pub invariant-loop-i : goal.invariant-loop-i
invariant-loop-i l = record {
  prefix : take l.i l.text ++ before l.byte (drop l.i l.text) ≡ before l.byte l.text;
  rest : after l.byte (drop l.i l.text) ≡ after l.byte l.text;
}
