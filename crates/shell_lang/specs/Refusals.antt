-- The refusals of a line.
use Rattle.std.specs.Prelude.{ℕ}
use Rattle.shell_lang.specs.declared.bad_command.BadCommand.{BadCommand}
use Rattle.shell_lang.specs.declared.bad_command.BadCommand.TheVariants.{UnknownWord, OperandCount, Malformed, OutOfRange, OddHexadecimal, TooLong}

-- the number by which a refusal is told
abbrev pub number_of : BadCommand → ℕ
number_of UnknownWord = 1
number_of OperandCount = 2
number_of Malformed = 3
number_of OutOfRange = 4
number_of OddHexadecimal = 5
number_of TooLong = 6
