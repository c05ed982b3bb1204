-- The operands of a command: how many they are, what each of them writes, and the range that it lies in.
use Rattle.std.specs.Prelude.{ℕ, ◌%◌, ◌==◌, nat_le, Bool, ◌&&◌, List, [], ◌∷◌, length, map, Result, Ok, Err, if◌then◌else◌}
use Rattle.std.specs.Char.{digit_value, is_digit}
use Rattle.std.specs.List.{list_all}
use Rattle.std.specs.Str.Parse.{digits_value}
use Rattle.hex.specs.Hex.{decode_of}
use Rattle.hex.specs.declared.error.FromHexError.{FromHexError}
use Rattle.shell_lang.specs.declared.bad_command.BadCommand.{BadCommand}
use Rattle.shell_lang.specs.declared.bad_command.BadCommand.TheVariants.{OperandCount, Malformed, OutOfRange, OddHexadecimal}
use Rattle.shell_lang.specs.Words.{Text}

-- ---- how many

-- exactly so many words behind the command's name, else `OperandCount`
abbrev pub no_operand : List Text → Result (Unit {0}) BadCommand
no_operand [] = Ok tt
no_operand (text ∷ more) = Err OperandCount

abbrev pub one_operand : List Text → Result Text BadCommand
one_operand (text ∷ []) = Ok text
one_operand _ = Err OperandCount

abbrev pub two_operands : List Text → Result (Text × Text) BadCommand
two_operands (first ∷ second ∷ []) = Ok (first, second)
two_operands _ = Err OperandCount

-- ---- what a word writes

-- digits in the radix, of either case, and nothing else
abbrev pub are_digits : ℕ → Text → Bool
are_digits radix text = list_all (λ c. is_digit c radix) text

-- 1 to `most` digits; zeros may lead
abbrev pub is_numeral : ℕ → ℕ → Text → Bool
is_numeral radix most text = nat_le 1 (length text) && nat_le (length text) most && are_digits radix text

-- the number that 1 to 10 decimal digits write
abbrev pub number_in : Text → Result ℕ BadCommand
number_in text = if is_numeral 10 10 text then Ok (digits_value 10 text) else Err Malformed

-- the address that 1 to 8 hexadecimal digits write
abbrev pub address_in : Text → Result ℕ BadCommand
address_in text = if is_numeral 16 8 text then Ok (digits_value 16 text) else Err Malformed

-- decimal digits, each by its value
abbrev pub digits_in : Text → Result (List ℕ) BadCommand
digits_in text = if are_digits 10 text then Ok (map digit_value text) else Err Malformed

-- what is no hexadecimal text is refused as odd, whatever is wrong with it
abbrev pub bytes_or_odd : Result (List ℕ) FromHexError → Result (List ℕ) BadCommand
bytes_or_odd (Ok bytes) = Ok bytes
bytes_or_odd (Err error) = Err OddHexadecimal

-- the bytes that an even number of hexadecimal digits write, two digits a byte
abbrev pub bytes_in : Text → Result (List ℕ) BadCommand
bytes_in text = bytes_or_odd (decode_of text)

-- ---- the range

-- a number from `least` to `most`
abbrev pub within : ℕ → ℕ → ℕ → Result ℕ BadCommand
within least most n = if nat_le least n && nat_le n most then Ok n else Err OutOfRange

-- the address of a word: a multiple of 4
abbrev pub word_address : ℕ → Result ℕ BadCommand
word_address address = if address % 4 == 0 then Ok address else Err OutOfRange
