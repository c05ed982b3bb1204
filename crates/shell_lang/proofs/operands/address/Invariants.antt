use Rattle.std.proofs.Common.{◌≡◌, ◌<◌, ◌^◌, take}
use Rattle.std.specs.Str.Parse.{AllDigits, digits_value}
use Rattle.shell_lang.proofs.operands.address.Given as goal

-- the bytes so far are digits, and the address is the one that they write
abbrev pub invariant-loop-byte : goal.invariant-loop-byte
invariant-loop-byte l =
    AllDigits 16 (take l.byte-index l.text) × (l.address ≡ digits_value 16 (take l.byte-index l.text)) × (l.address < 16 ^ l.byte-index)
