-- The lines of a source, each with what it says and adds.
use Rattle.std.proofs.Common.{◌≡◌, ℕ, zero, suc, ◌+◌, ◌*◌, ◌%◌, ◌≤◌, Bool, true, false, List, [], ◌∷◌}
use Rattle.std.specs.Prelude.{◌==◌, ◌&&◌, not, Some, None, Ok}
use Rattle.std.specs.List.{list_all}
use Rattle.image_format.specs.declared.version.Version.TheVariants.{One}
use Rattle.asm_read.specs.declared.statements.Line.{Line}
use Rattle.asm_read.specs.declared.statements.Statement.{Statement}
use Rattle.asm_read.specs.Lines.{line_of}
use Rattle.asm_read.specs.Operands.{Text}
use Rattle.asm_words.specs.Emission.{Places, count_of}
use Rattle.asm_places.specs.Places.{origin_in}
use Rattle.asm_places.specs.Seen.{is_again}
use Rattle.asm_places.specs.Sizes.{version_in}
use Rattle.asm_emit.specs.declared.values.Addition.{Addition}
use Rattle.asm_emit.specs.Values.{addition_of}

-- ---- rows

-- a comment; or a text with its statement, how many words that emits, and what it adds at a place
pub data Row : Type 0 where
  Comment : Text → Row
  Said : Text → Statement → ℕ → (ℕ → Addition) → Row

abbrev pub text_in : Row → Text
text_in (Comment text) = text
text_in (Said text statement size addition) = text

abbrev pub texts_of : List Row → List Text
texts_of [] = []
texts_of (row ∷ rows) = text_in row ∷ texts_of rows

-- a line without a name
abbrev pub unnamed : ℕ → Statement → Line
unnamed number statement = record { number = number; label = None; statement = Some statement }

-- the lines that say something, numbered from the given number on
abbrev pub numbered : ℕ → List Row → List Line
numbered number [] = []
numbered number (Comment text ∷ rows) = numbered (number + 1) rows
numbered number (Said text statement size addition ∷ rows) = unnamed number statement ∷ numbered (number + 1) rows

-- the place behind so many words
abbrev pub past : ℕ → ℕ → ℕ
past place zero = place
past place (suc more) = place + 4 * suc more

-- the place of each of these lines, from a place on
abbrev pub places : ℕ → List Row → List ℕ
places place [] = []
places place (Comment text ∷ rows) = places place rows
places place (Said text statement size addition ∷ rows) = place ∷ places (past place size) rows

-- and the one behind them
abbrev pub end : ℕ → List Row → ℕ
end place [] = place
end place (Comment text ∷ rows) = end place rows
end place (Said text statement size addition ∷ rows) = end (past place size) rows

-- what they add
abbrev pub added : ℕ → List Row → List (ℕ × Addition)
added place [] = []
added place (Comment text ∷ rows) = added place rows
added place (Said text statement size addition ∷ rows) = (place, addition place) ∷ added (past place size) rows

-- ---- good rows

-- no byte that ends a line
abbrev pub is_line_byte : ℕ → Bool
is_line_byte byte = not (byte == 10) && not (byte == 13)

abbrev pub is_line : Text → Bool
is_line text = list_all is_line_byte text

pub record IsComment (text : Text) : Type 0 where
  pub line : is_line text ≡ true
  pub read : (number : ℕ) → line_of number text ≡ Ok (record { number = number; label = None; statement = None })

-- a line that may stand anywhere, with as many words as are told, and which adds what is told
pub record IsSaid (text : Text) (statement : Statement) (size : ℕ) (addition : ℕ → Addition) : Type 0 where
  pub line : is_line text ≡ true
  pub read : (number : ℕ) → line_of number text ≡ Ok (unnamed number statement)
  pub once : (before : List Line) → is_again (Some statement) before ≡ false
  pub onward : origin_in (Some statement) ≡ None
  pub unversioned : version_in (Some statement) ≡ None
  pub count : count_of statement ≡ Some size
  pub adds : (names : Places) (place : ℕ) → place % 4 ≡ 0 → place ≤ 65536 → addition_of One 1 65536 names place statement ≡ Ok (addition place)

abbrev pub IsGood : Row → Type 0
IsGood (Comment text) = IsComment text
IsGood (Said text statement size addition) = IsSaid text statement size addition

abbrev pub AreGood : List Row → Type 0
AreGood [] = Unit {0}
AreGood (row ∷ rows) = IsGood row × AreGood rows
