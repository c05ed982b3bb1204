-- What a source in memory has to give.
use Rattle.std.specs.Prelude.{◌≡◌, ℕ, Bool, true, false, IsTrue, List, [], refl}
use Rattle.std.proofs.lemmas.Bool.{false≢true}

-- Bytes, which may be none, or an end that was told.
pub data Supply : Type 0 where
  Open : List ℕ → Supply
  Closed : Supply

-- The bytes left.
abbrev pub left_in : Supply → List ℕ
left_in (Open bytes) = bytes
left_in Closed = []

-- Whether the end was told.
abbrev pub is_closed : Supply → Bool
is_closed (Open bytes) = false
is_closed Closed = true

-- Where the end was told, no byte is left.
pub closed-left : (supply : Supply) → IsTrue (is_closed supply) → left_in supply ≡ []
closed-left (Open bytes) told = absurd (false≢true told)
closed-left Closed told = refl
