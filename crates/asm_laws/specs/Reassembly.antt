-- A text that assembles at an address to one word.
use Rattle.std.specs.Prelude.{◌≡◌, ℕ, None, Some, Ok}
use Rattle.asm_read.specs.declared.statements.Statement.{Statement}
use Rattle.asm_read.specs.Lines.{line_of}
use Rattle.asm_read.specs.Operands.{Text}
use Rattle.asm_words.specs.declared.emissions.Emission.TheVariants.{One}
use Rattle.asm_words.specs.Emission.{Places, emission_of}

-- the text is read as a line without a name, whose statement emits just the word at the address, whatever names stand for
pub record Assembles (number pc w : ℕ) (text : Text) : Type 0 where
  pub statement : Statement
  pub is_read : line_of number text ≡ Ok (record { number = number; label = None; statement = Some statement })
  pub emits : (places : Places) → emission_of places pc statement ≡ Ok (One w)
