-- Statements of assembler source: a name, and behind a space the operands, with a comma and a space between two.
use Rattle.std.specs.Prelude.{ℕ, List, [], ◌∷◌, ◌++◌, codes}
use Rattle.asm_show.specs.Operands.{Text, register, immediate, amount, upper, whole, target, place}

abbrev pub comma_list : List Text → Text
comma_list [] = []
comma_list (operand ∷ []) = operand
comma_list (operand ∷ next ∷ more) = operand ++ codes ", " ++ comma_list (next ∷ more)

abbrev pub statement : Text → List Text → Text
statement name operands = name ++ codes " " ++ comma_list operands

-- a statement up to its second operand, behind the comma
abbrev pub statement_start : Text → ℕ → Text
statement_start name r = name ++ codes " " ++ register r ++ codes ", "

-- ---- the statements of instructions, by their operands

-- `add rd, rs1, rs2` and its like
abbrev pub with_registers : Text → ℕ → ℕ → ℕ → Text
with_registers name rd rs1 rs2 = statement name (register rd ∷ register rs1 ∷ register rs2 ∷ [])

-- `addi rd, rs1, n` and its like, where n is signed and decimal
abbrev pub with_immediate : Text → ℕ → ℕ → ℕ → Text
with_immediate name rd rs1 imm = statement name (register rd ∷ register rs1 ∷ immediate imm ∷ [])

-- `slli rd, rs1, n` and its like, where n is decimal
abbrev pub with_amount : Text → ℕ → ℕ → ℕ → Text
with_amount name rd rs1 count = statement name (register rd ∷ register rs1 ∷ amount count ∷ [])

-- `lui rd, n` and its like, where n is that of the upper 20 bits, as `0x` and five hexadecimal digits
abbrev pub with_upper : Text → ℕ → ℕ → Text
with_upper name rd imm = statement name (register rd ∷ upper imm ∷ [])

-- a load and a jump to a register have the result's register first, a store the stored one
abbrev pub with_place : Text → ℕ → ℕ → ℕ → Text
with_place name r base imm = statement name (register r ∷ place imm base ∷ [])

-- `beq rs1, rs2, T` and its like, where T is the address that the branch at pc goes to
abbrev pub branch : Text → ℕ → ℕ → ℕ → ℕ → Text
branch name pc rs1 rs2 imm = statement name (register rs1 ∷ register rs2 ∷ target pc imm ∷ [])

-- `jal rd, T`, where T is the address that the jump at pc goes to
abbrev pub jump : Text → ℕ → ℕ → ℕ → Text
jump name pc rd imm = statement name (register rd ∷ target pc imm ∷ [])

-- a word that is written as a number
abbrev pub plain_word : ℕ → Text
plain_word word = statement (codes ".word") (whole word ∷ [])
