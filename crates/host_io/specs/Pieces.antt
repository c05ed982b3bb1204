-- Pieces that are put on two sinks one after another, and what the sinks have taken of them.
use Rattle.std.specs.Prelude.{◌≡◌, ℕ, List, [], ◌∷◌, ◌++◌, Option, Some, None, Result, Ok, Err}
use Rattle.std.specs.List.{flat_map}
use Rattle.std.specs.Io.KnownBytes.{append_known}

-- Bytes that are put in one call, on standard output or on standard error.
pub data Piece : Type 0 where
  out : List ℕ → Piece
  err : List ℕ → Piece

-- What the two sinks have taken, where they tell it.
pub record Taken : Type 0 where
  pub out : Option (List ℕ)
  pub err : Option (List ℕ)

-- What the sinks have taken after a piece, or after pieces in their order. Untold bytes stay untold.
abbrev pub with_piece : Taken → Piece → Taken
with_piece taken (out bytes) = record taken { out = append_known taken.out bytes }
with_piece taken (err bytes) = record taken { err = append_known taken.err bytes }

abbrev pub with_pieces : Taken → List Piece → Taken
with_pieces taken [] = taken
with_pieces taken (piece ∷ pieces) = with_pieces (with_piece taken piece) pieces

-- The bytes of a piece, and of all the pieces, on one of the sinks.
abbrev pub out_of : Piece → List ℕ
out_of (out bytes) = bytes
out_of (err bytes) = []

abbrev pub err_of : Piece → List ℕ
err_of (out bytes) = []
err_of (err bytes) = bytes

abbrev pub outs_of : List Piece → List ℕ
outs_of pieces = flat_map out_of pieces

abbrev pub errs_of : List Piece → List ℕ
errs_of pieces = flat_map err_of pieces

-- The first bytes of a piece, on the same sink.
abbrev pub IsPrefixOf : Piece → Piece → Type 0
IsPrefixOf (out prefix) (out bytes) = (rest : List ℕ) × (prefix ++ rest ≡ bytes)
IsPrefixOf (err prefix) (err bytes) = (rest : List ℕ) × (prefix ++ rest ≡ bytes)
IsPrefixOf (out prefix) (err bytes) = ⊥
IsPrefixOf (err prefix) (out bytes) = ⊥

-- At most a prefix of the next piece.
abbrev pub Begins : Option Piece → List Piece → Type 0
Begins None rest = Unit {0}
Begins (Some begun) [] = ⊥
Begins (Some begun) (piece ∷ rest) = IsPrefixOf begun piece

-- What they have taken after the begun piece, if there is one.
abbrev pub with_begun : Taken → Option Piece → Taken
with_begun taken None = taken
with_begun taken (Some begun) = with_piece taken begun

-- All of the pieces were put, in their order.
abbrev pub PutsAll : Taken → Taken → List Piece → Type 0
PutsAll old new pieces = new ≡ with_pieces old pieces

-- On the way from `start` to all of `pieces`: those before `rest` were put, each as a whole and in
-- their order, and `rest` is to come.
pub record PutsSoFar (start now : Taken) (rest pieces : List Piece) : Type 0 where
  pub whole : List Piece
  pub taken : now ≡ with_pieces start whole
  pub due : whole ++ rest ≡ pieces

-- The first ones of the pieces were put, each as a whole, and of the others nothing.
abbrev pub PutsFirst : Taken → Taken → List Piece → Type 0
PutsFirst old new pieces = (rest : List Piece) × PutsSoFar old new rest pieces

-- On the way to all of the pieces: the first ones were put as a whole, in their order; of the next
-- one at most a prefix was put; and of the others nothing.
pub record PutsPrefix (old new : Taken) (pieces : List Piece) : Type 0 where
  pub whole : List Piece
  pub begun : Option Piece
  pub rest : List Piece
  pub due : whole ++ rest ≡ pieces
  pub prefix : Begins begun rest
  pub taken : new ≡ with_begun (with_pieces old whole) begun

-- All of them, or, where the call was cut short, a prefix of them.
abbrev pub Puts : {A E : Type 0} → Taken → Taken → List Piece → Result A E → Type 0
Puts old new pieces (Ok _) = PutsAll old new pieces
Puts old new pieces (Err _) = PutsPrefix old new pieces
