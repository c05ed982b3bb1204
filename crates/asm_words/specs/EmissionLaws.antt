-- What holds of each emission.
use Rattle.std.specs.Prelude.{◌≡◌, ℕ, ◌^◌, ◌<◌, length, Some, Ok}
use Rattle.std.specs.List.{All}
use Rattle.asm_read.specs.declared.statements.Statement.{Statement}
use Rattle.asm_words.specs.declared.emissions.Emission.{Emission}
use Rattle.asm_words.specs.Emission.{Places, count_of, emission_of, words_of}

-- each of the words is below 2 ^ 32
abbrev pub Fits : Emission → Type 0
Fits emission = All (λ word. word < 2 ^ 32) (words_of emission)

-- a statement emits as many words as are counted, wherever it stands and whatever names stand for
abbrev pub IsCounted : Type 0
IsCounted =
    (places : Places) (place : ℕ) (statement : Statement) (emission : Emission)
    → emission_of places place statement ≡ Ok emission
    → count_of statement ≡ Some (length (words_of emission))
