-- What `dis` lists of an image, as lines of source that assemble back to its words.
use Rattle.std.specs.Prelude.{◌≡◌, ℕ, ◌+◌, List, [], ◌∷◌, ◌++◌, codes, Option, Some}
use Rattle.host_io.specs.Pieces.{Piece, out}
use Rattle.image_format.specs.Picture.{Picture, Segment}
use Rattle.pump_words.specs.Texts.{hex8_text}
use Rattle.asm_laws.specs.Reassembly.{Assembles}
use Rattle.pump_cli.specs.Endings.{Outcome}
use Rattle.pump_cli.specs.declared.status.Status.TheVariants.{Done}

-- a word, and the address that it stands at
pub record PlacedWord : Type 0 where
  pub address : ℕ
  pub word : ℕ

-- words one after another, from an address on
abbrev pub words_from : ℕ → List ℕ → List PlacedWord
words_from address [] = []
words_from address (word ∷ words) = record { address = address; word = word } ∷ words_from (address + 4) words

-- the words of segments, in their order
abbrev pub words_in : List Segment → List PlacedWord
words_in [] = []
words_in (segment ∷ segments) = words_from segment.address segment.words ++ words_in segments

-- the line of a word: its address, the word, and a text that is read as a line of source and emits just that word there
pub record IsLineOf (placed : PlacedWord) (piece : Piece) : Type 0 where
  pub text : List ℕ
  pub shows : piece ≡ out (hex8_text placed.address ++ (codes " " ++ (hex8_text placed.word ++ (codes " " ++ (text ++ codes "\n")))))
  pub assembles : (number : ℕ) → Assembles number placed.address placed.word text

-- a line for each word, in their order, and no other
abbrev pub AreLinesOf : List PlacedWord → List Piece → Type 0
AreLinesOf [] [] = Unit {0}
AreLinesOf (placed ∷ words) (piece ∷ pieces) = IsLineOf placed piece × AreLinesOf words pieces
AreLinesOf _ _ = ⊥

-- what is due is told, and is a line for each word of the image
pub record ListsBack (picture : Picture) (due : Option Outcome) : Type 0 where
  pub outcome : Outcome
  pub is_due : due ≡ Some outcome
  pub lines : AreLinesOf (words_in picture.segments) outcome.pieces
  pub done : outcome.status ≡ Done
