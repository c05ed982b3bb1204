use Rattle.std.proofs.Common.{◌≡◌, ◌++◌, take, drop}
use Rattle.asm_text.specs.Cuts.{after_word, first_word}
use Rattle.asm_text.proofs.cuts.first_word.Given as goal

-- no blank is among the bytes so far
abbrev pub invariant-loop-i : goal.invariant-loop-i
invariant-loop-i l = record {
  word : take l.i l.text ++ first_word (drop l.i l.text) ≡ first_word l.text;
  rest : after_word (drop l.i l.text) ≡ after_word l.text;
}
