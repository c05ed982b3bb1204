use Rattle.std.proofs.Common.{◌≡◌, ◌++◌, take}
use Rattle.pump_words.proofs.texts.write_text.Given as goal

-- the line has gained the bytes so far
abbrev pub invariant-loop-byte : goal.invariant-loop-byte
invariant-loop-byte l = l.line.items ≡ l.initial.line.items ++ take l.byte-index l.text
