use Rattle.std.proofs.Common.{◌≡◌, true, take}
use Rattle.std.specs.Char.{is_digit}
use Rattle.std.specs.List.{list_all}
use Rattle.std.specs.Str.Parse.{digits_value}
use Rattle.asm_text.proofs.numbers.numeral.Given as goal

-- the bytes so far are digits, and the number is the one that they write
abbrev pub invariant-loop-byte : goal.invariant-loop-byte
invariant-loop-byte l = record {
  are_digits : list_all (λ c. is_digit c l.radix) (take l.byte-index l.text) ≡ true;
  value : l.number ≡ digits_value l.radix (take l.byte-index l.text);
}
