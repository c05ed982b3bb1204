-- The command language of the shell: what a line asks for, or why it is refused. A line that is too long is refused first, then
-- an unknown word, then a wrong number of operands; then an operand that is badly written, then one that is out of range.
use Rattle.std.specs.Prelude.{ℕ, List, [], ◌∷◌, length, nat_lt, codes, Option, Some, None, Result, Ok, Err, if◌then◌else◌, unwrap_or}
use Rattle.std.specs.Option.{option_or}
use Rattle.std.specs.Str.{bytes_eq}
use Rattle.shell_lang.specs.declared.bad_command.BadCommand.{BadCommand}
use Rattle.shell_lang.specs.declared.bad_command.BadCommand.TheVariants.{UnknownWord, TooLong}
use Rattle.shell_lang.specs.declared.command.Command.{Command}
use Rattle.shell_lang.specs.declared.command.Command.TheVariants.{Blank, Step, Run, Turns, Back, Feed, Regs, Pc, Mem, Tags, Dis, Why, Blocks, Stats, Sweeps, Break, Clear, Reset, Quit}
use Rattle.shell_lang.specs.Operands.{no_operand, one_operand, two_operands, number_in, address_in, digits_in, bytes_in, within, word_address}
use Rattle.shared_terms.specs.Steps.{◌>>=◌}
use Rattle.shell_lang.specs.Words.{Text, words_of}

-- what is answered to a line
abbrev pub Answer : Type 0
Answer = Result Command BadCommand

-- harts are numbered from 0 to 7
abbrev pub hart_within : ℕ → Result ℕ BadCommand
hart_within h = within 0 7 h

-- the turns of one command
abbrev pub turns_within : ℕ → Result ℕ BadCommand
turns_within n = within 0 1000000000 n

-- the turns that one command takes back
abbrev pub back_within : ℕ → Result ℕ BadCommand
back_within n = within 0 65536 n

-- the words of memory that one command shows
abbrev pub count_within : ℕ → Result ℕ BadCommand
count_within n = within 1 1024 n

-- ---- commands by their operands

-- a hart alone
unfoldable pub hart_operand : List Text → Result ℕ BadCommand
hart_operand operands = do
  text ← one_operand operands
  h ← number_in text
  hart_within h

-- the address of a word alone
unfoldable pub place_operand : List Text → Result ℕ BadCommand
place_operand operands = do
  text ← one_operand operands
  a ← address_in text
  word_address a

-- the address of a word, and how many words from there on
unfoldable pub range_operands : List Text → Result (ℕ × ℕ) BadCommand
range_operands operands = do
  texts ← two_operands operands
  a ← address_in texts.0
  n ← number_in texts.1
  address ← word_address a
  count ← count_within n
  Ok (address, count)

-- no operand
unfoldable pub plain_command : Command → List Text → Answer
plain_command command operands = do
  nothing ← no_operand operands
  Ok command

-- `step H N`: at most N turns of hart H, where N is at most 1000000000
unfoldable pub step_command : List Text → Answer
step_command operands = do
  texts ← two_operands operands
  h ← number_in texts.0
  n ← number_in texts.1
  hart ← hart_within h
  turns ← turns_within n
  Ok (Step hart turns)

-- `run N`: at most N turns of all harts in rounds, where N is at most 1000000000
unfoldable pub run_command : List Text → Answer
run_command operands = do
  text ← one_operand operands
  n ← number_in text
  turns ← turns_within n
  Ok (Run turns)

-- `back N`: the last N turns taken back, where N is at most 65536
unfoldable pub back_command : List Text → Answer
back_command operands = do
  text ← one_operand operands
  n ← number_in text
  turns ← back_within n
  Ok (Back turns)

-- `turns DIGITS`: a turn for each digit, of the hart with this number
unfoldable pub turns_command : List Text → Answer
turns_command operands = do
  text ← one_operand operands
  digits ← digits_in text
  Ok (Turns digits)

-- `feed HEX`: bytes of two hexadecimal digits each
unfoldable pub feed_command : List Text → Answer
feed_command operands = do
  text ← one_operand operands
  bytes ← bytes_in text
  Ok (Feed bytes)

-- a command that takes a hart, 0 to 7, alone
abbrev pub hart_command : (ℕ → Command) → List Text → Answer
hart_command command operands = do
  hart ← hart_operand operands
  Ok (command hart)

-- a command that takes the address of a word alone
abbrev pub place_command : (ℕ → Command) → List Text → Answer
place_command command operands = do
  address ← place_operand operands
  Ok (command address)

-- a command that takes the address of a word, and how many words from there on, 1 to 1024
abbrev pub range_command : (ℕ → ℕ → Command) → List Text → Answer
range_command command operands = do
  range ← range_operands operands
  Ok (command range.0 range.1)

-- ---- commands by their names

-- the commands that make turns, and what feeds them
unfoldable pub running_command : Text → List Text → Option Answer
running_command name operands =
    if bytes_eq name (codes "step") then Some (step_command operands)
    else if bytes_eq name (codes "run") then Some (run_command operands)
    else if bytes_eq name (codes "turns") then Some (turns_command operands)
    else if bytes_eq name (codes "feed") then Some (feed_command operands)
    else None

-- the command that takes turns back
unfoldable pub past_command : Text → List Text → Option Answer
past_command name operands = if bytes_eq name (codes "back") then Some (back_command operands) else None

-- the commands that show a hart
unfoldable pub hart_view : Text → List Text → Option Answer
hart_view name operands =
    if bytes_eq name (codes "regs") then Some (hart_command Regs operands)
    else if bytes_eq name (codes "pc") then Some (hart_command Pc operands)
    else if bytes_eq name (codes "why") then Some (hart_command Why operands)
    else None

-- the commands that show what the harts share
unfoldable pub machine_view : Text → List Text → Option Answer
machine_view name operands =
    if bytes_eq name (codes "mem") then Some (range_command Mem operands)
    else if bytes_eq name (codes "tags") then Some (range_command Tags operands)
    else if bytes_eq name (codes "dis") then Some (range_command Dis operands)
    else if bytes_eq name (codes "blocks") then Some (plain_command Blocks operands)
    else None

-- the commands that tell what was counted
unfoldable pub counts_view : Text → List Text → Option Answer
counts_view name operands =
    if bytes_eq name (codes "stats") then Some (plain_command Stats operands)
    else if bytes_eq name (codes "sweeps") then Some (plain_command Sweeps operands)
    else None

-- the commands that set breakpoints, start again and end
unfoldable pub session_command : Text → List Text → Option Answer
session_command name operands =
    if bytes_eq name (codes "break") then Some (place_command Break operands)
    else if bytes_eq name (codes "clear") then Some (place_command Clear operands)
    else if bytes_eq name (codes "reset") then Some (plain_command Reset operands)
    else if bytes_eq name (codes "quit") then Some (plain_command Quit operands)
    else None

-- no two commands have the same name, so that the order is of no matter
abbrev pub named_command : Text → List Text → Option Answer
named_command name operands =
    option_or (running_command name operands)
    (option_or (past_command name operands)
    (option_or (hart_view name operands)
    (option_or (machine_view name operands) (option_or (counts_view name operands) (session_command name operands)))))

-- a line without words is executed as nothing
abbrev pub words_answer : List Text → Answer
words_answer [] = Ok Blank
words_answer (name ∷ operands) = unwrap_or (named_command name operands) (Err UnknownWord)

-- the most bytes of a line, without its newline
abbrev pub most_bytes : ℕ
most_bytes = 256

-- the answer to a line without its newline; one of more than 256 bytes is `TooLong`, whatever it says
unfoldable pub line_answer : Text → Answer
line_answer line = if nat_lt most_bytes (length line) then Err TooLong else words_answer (words_of line)
