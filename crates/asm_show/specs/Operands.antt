-- The operands of an instruction, as assembler source writes them.
use Rattle.std.specs.Prelude.{ℕ, ◌+◌, ◌%◌, ◌^◌, List, ◌++◌, codes}
use Rattle.std.specs.Fmt.{decimal, signed_decimal}
use Rattle.pump_words.specs.Texts.{hex5_text, hex8_text}
use Rattle.pump_words.specs.Words.{signed}

-- the bytes of a text
abbrev pub Text : Type 0
Text = List ℕ

-- a register by its number: x0 to x31
abbrev pub register : ℕ → Text
register r = codes "x" ++ decimal r

-- an immediate of 12 bits: the sign-extended word as a signed number in decimal
abbrev pub immediate : ℕ → Text
immediate imm = signed_decimal (signed imm)

-- the amount of a shift, in decimal
abbrev pub amount : ℕ → Text
amount count = decimal count

-- an immediate of the upper 20 bits
abbrev pub upper : ℕ → Text
upper imm = codes "0x" ++ hex5_text imm

-- a whole word, as eight hexadecimal digits
abbrev pub whole : ℕ → Text
whole word = codes "0x" ++ hex8_text word

-- where a branch or a jump at an address goes: its address and its offset, added modulo 2 ^ 32
abbrev pub target : ℕ → ℕ → Text
target pc offset = whole ((pc + offset) % 2 ^ 32)

-- a place of memory, or of a jump: an offset from what a register holds
abbrev pub place : ℕ → ℕ → Text
place imm base = immediate imm ++ codes "(" ++ register base ++ codes ")"
