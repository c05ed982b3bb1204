use Rattle.std.proofs.Common.{◌≡◌, ◌++◌}
use Rattle.pump_words.specs.Texts.{first_digits}
use Rattle.pump_words.proofs.texts.write_digits.Given as goal

-- the line has gained the digits so far
abbrev pub invariant-loop-k : goal.invariant-loop-k
invariant-loop-k l = l.line.items ≡ l.initial.line.items ++ first_digits l.word l.k
