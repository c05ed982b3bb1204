-- The line of a word in a listing.
use Rattle.std.specs.Prelude.{ℕ, ◌++◌, codes}
use Rattle.pump_words.specs.Texts.{hex8_text}
use Rattle.rv_decode.specs.Decoding.{instr_of_word}
use Rattle.asm_show.specs.Instructions.{text_at}
use Rattle.asm_show.specs.Operands.{Text}

-- the address, the word, and its text there; a newline ends the line
unfoldable pub listing_line : ℕ → ℕ → Text
listing_line address word =
    hex8_text address ++ (codes " " ++ (hex8_text word ++ (codes " " ++ (text_at address word (instr_of_word word) ++ codes "\n"))))
