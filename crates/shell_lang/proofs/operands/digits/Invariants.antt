use Rattle.std.proofs.Common.{◌≡◌, map, take}
use Rattle.std.specs.Char.{digit_value}
use Rattle.std.specs.Str.Parse.{AllDigits}
use Rattle.shell_lang.proofs.operands.digits.Given as goal

-- the bytes so far are digits, and their values were gathered
abbrev pub invariant-loop-byte : goal.invariant-loop-byte
invariant-loop-byte l =
    AllDigits 10 (take l.byte-index l.text) × (l.values.items ≡ map digit_value (take l.byte-index l.text))
