-- Lines, each with what is answered to it, computed by the definitions alone.
use Rattle.std.proofs.Common.{◌≡◌, [], ◌∷◌, codes, refl}
use Rattle.std.specs.Prelude.{⊤, Ok, Err, replicate}
use Rattle.hex.proofs.OnLiterals.{hex_on_literals}
use Rattle.shell_lang.specs.declared.bad_command.BadCommand.TheVariants.{UnknownWord, OperandCount, Malformed, OutOfRange, OddHexadecimal, TooLong}
use Rattle.shell_lang.specs.declared.command.Command.TheVariants.{Blank, Step, Run, Turns, Back, Feed, Regs, Pc, Mem, Tags, Dis, Why, Blocks, Stats, Sweeps, Break, Clear, Reset, Quit}
use Rattle.shell_lang.specs.Grammar.{back_command, counts_view, feed_command, hart_operand, hart_view, line_answer, machine_view, past_command, place_operand, plain_command, range_operands, run_command, running_command, session_command, step_command, turns_command}
use Rattle.shell_lang.specs.Words.{words_of}

-- what computes on lines that are written out
unfoldable on_rows : ⊤
unfolding hex_on_literals words_of hart_operand place_operand range_operands plain_command step_command run_command back_command turns_command feed_command running_command past_command hart_view machine_view counts_view session_command line_answer
on_rows = tt

-- ---- lines that ask for something

-- no byte
empty : line_answer (codes "") ≡ Ok Blank
unfolding on_rows
empty = refl

-- spaces alone
spaces : line_answer (codes "   ") ≡ Ok Blank
unfolding on_rows
spaces = refl

-- turns of one hart
step_row : line_answer (codes "step 3 12") ≡ Ok (Step 3 12)
unfolding on_rows
step_row = refl

-- spaces around the words, zeros in front, and the most turns
step_with_spaces : line_answer (codes " step  0000000007 1000000000 ") ≡ Ok (Step 7 1000000000)
unfolding on_rows
step_with_spaces = refl

-- turns of all harts
run_row : line_answer (codes "run 5") ≡ Ok (Run 5)
unfolding on_rows
run_row = refl

-- the most turns that are taken back
back_row : line_answer (codes "back 65536") ≡ Ok (Back 65536)
unfolding on_rows
back_row = refl

-- a digit for each turn
turns_row : line_answer (codes "turns 0192") ≡ Ok (Turns (0 ∷ 1 ∷ 9 ∷ 2 ∷ []))
unfolding on_rows
turns_row = refl

-- bytes in digits of either case
feed_row : line_answer (codes "feed 2aFF") ≡ Ok (Feed (42 ∷ 255 ∷ []))
unfolding on_rows
feed_row = refl

-- registers
regs_row : line_answer (codes "regs 7") ≡ Ok (Regs 7)
unfolding on_rows
regs_row = refl

-- a program counter
pc_row : line_answer (codes "pc 0") ≡ Ok (Pc 0)
unfolding on_rows
pc_row = refl

-- the most words of memory, and an address in digits of either case
mem_row : line_answer (codes "mem 00fFfFfC 1024") ≡ Ok (Mem 16777212 1024)
unfolding on_rows
mem_row = refl

-- tags
tags_row : line_answer (codes "tags 10 2") ≡ Ok (Tags 16 2)
unfolding on_rows
tags_row = refl

-- words with their statements
dis_row : line_answer (codes "dis 1C 3") ≡ Ok (Dis 28 3)
unfolding on_rows
dis_row = refl

-- why a hart stopped
why_row : line_answer (codes "why 2") ≡ Ok (Why 2)
unfolding on_rows
why_row = refl

-- blocks
blocks_row : line_answer (codes "blocks") ≡ Ok Blocks
unfolding on_rows
blocks_row = refl

-- counts
stats_row : line_answer (codes "stats") ≡ Ok Stats
unfolding on_rows
stats_row = refl

-- the count of sweeps
sweeps_row : line_answer (codes "sweeps") ≡ Ok Sweeps
unfolding on_rows
sweeps_row = refl

-- a breakpoint
break_row : line_answer (codes "break 1c") ≡ Ok (Break 28)
unfolding on_rows
break_row = refl

-- no breakpoint
clear_row : line_answer (codes "clear 1C") ≡ Ok (Clear 28)
unfolding on_rows
clear_row = refl

-- the start
reset_row : line_answer (codes "reset") ≡ Ok Reset
unfolding on_rows
reset_row = refl

-- the end
quit_row : line_answer (codes "quit") ≡ Ok Quit
unfolding on_rows
quit_row = refl

-- ---- lines that are refused

-- a word that is no command
unknown : line_answer (codes "walk 1") ≡ Err UnknownWord
unfolding on_rows
unknown = refl

-- a command in upper case
upper_case : line_answer (codes "Quit") ≡ Err UnknownWord
unfolding on_rows
upper_case = refl

-- too few operands, one of which is out of its range
few_operands : line_answer (codes "step 9") ≡ Err OperandCount
unfolding on_rows
few_operands = refl

-- too many operands
many_operands : line_answer (codes "quit now") ≡ Err OperandCount
unfolding on_rows
many_operands = refl

-- an operand where a command has none
sweeps_operand : line_answer (codes "sweeps 1") ≡ Err OperandCount
unfolding on_rows
sweeps_operand = refl

-- an operand that is badly written, beside one that is out of its range
malformed : line_answer (codes " step  9 x ") ≡ Err Malformed
unfolding on_rows
malformed = refl

-- a count that is badly written, beside an address that is no word's
malformed_count : line_answer (codes "mem 2 x") ≡ Err Malformed
unfolding on_rows
malformed_count = refl

-- eleven digits
eleven_digits : line_answer (codes "run 00000000007") ≡ Err Malformed
unfolding on_rows
eleven_digits = refl

-- nine hexadecimal digits
nine_digits : line_answer (codes "break 000000004") ≡ Err Malformed
unfolding on_rows
nine_digits = refl

-- a digit alone, where two make a byte
odd_digits : line_answer (codes "feed 4") ≡ Err OddHexadecimal
unfolding on_rows
odd_digits = refl

-- bytes in what are no digits
no_digits : line_answer (codes "feed 4g") ≡ Err OddHexadecimal
unfolding on_rows
no_digits = refl

-- a hart past the last
hart_eight : line_answer (codes "step 8 1") ≡ Err OutOfRange
unfolding on_rows
hart_eight = refl

-- a turn too many
turn_too_many : line_answer (codes "run 1000000001") ≡ Err OutOfRange
unfolding on_rows
turn_too_many = refl

-- an address that is no word's
unaligned : line_answer (codes "mem 2 1") ≡ Err OutOfRange
unfolding on_rows
unaligned = refl

-- one turn too many that is taken back
back_too_many : line_answer (codes "back 65537") ≡ Err OutOfRange
unfolding on_rows
back_too_many = refl

-- no word at all
no_word : line_answer (codes "mem 4 0") ≡ Err OutOfRange
unfolding on_rows
no_word = refl

-- a word too many
word_too_many : line_answer (codes "tags 4 1025") ≡ Err OutOfRange
unfolding on_rows
word_too_many = refl

-- words with their statements that are a word too many
statement_too_many : line_answer (codes "dis 4 1025") ≡ Err OutOfRange
unfolding on_rows
statement_too_many = refl

-- the longest line
longest : line_answer (replicate 256 32) ≡ Ok Blank
unfolding on_rows
longest = refl

-- a byte more, though it is a space
too_long : line_answer (replicate 257 32) ≡ Err TooLong
unfolding on_rows
too_long = refl
