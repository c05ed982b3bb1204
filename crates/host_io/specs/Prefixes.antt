-- What a sink holds after a put, and after a part of the puts that are due. What a source has left
-- after some reads.
use Rattle.std.specs.Prelude.{◌≡◌, ℕ, ◌≤◌, List, ◌++◌, length, Option}
use Rattle.std.specs.Io.KnownBytes.{append_known, prepend_known}

-- Told bytes grew by all of `bytes`, and untold ones stay untold.
abbrev pub TakesAll : Option (List ℕ) → Option (List ℕ) → List ℕ → Type 0
TakesAll old new bytes = new ≡ append_known old bytes

-- On the way from `start` to all of `whole`: `now` is `start` and a prefix of `whole`, and `rest` is
-- what is to come.
pub record SoFar (start now : Option (List ℕ)) (rest whole : List ℕ) : Type 0 where
  pub prefix : List ℕ
  pub taken : now ≡ append_known start prefix
  pub complete : prefix ++ rest ≡ whole

-- Told bytes grew by a prefix of `bytes`, and untold ones stay untold.
abbrev pub TakesPrefix : Option (List ℕ) → Option (List ℕ) → List ℕ → Type 0
TakesPrefix old new bytes = (rest : List ℕ) × SoFar old new rest bytes

-- A prefix of the bytes left was moved out, of at most `most` bytes. Untold bytes stay untold.
pub record LosesPrefix (old new : Option (List ℕ)) (most : ℕ) : Type 0 where
  pub prefix : List ℕ
  pub moved : old ≡ prepend_known prefix new
  pub within : length prefix ≤ most
