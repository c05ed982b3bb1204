use Rattle.std.proofs.Common.{◌≡◌, ◌<◌, ◌^◌, take}
use Rattle.std.specs.Str.Parse.{AllDigits, digits_value}
use Rattle.pump_words.proofs.numbers.read_number.Given as goal

-- the bytes so far are digits, and the number is the one that they write
abbrev pub invariant-loop-byte : goal.invariant-loop-byte
invariant-loop-byte l =
    AllDigits 10 (take l.byte-index l.text) × (l.number ≡ digits_value 10 (take l.byte-index l.text)) × (l.number < 10 ^ l.byte-index)
