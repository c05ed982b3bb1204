-- Types whose `==` tells values apart.
use Rattle.std.specs.Prelude.{◌≡◌, Bool, IsTrue}

-- two values that the test calls equal are one
abbrev pub TellsApart : {T : Type 0} → (T → T → Bool) → Type 0
TellsApart {T} eq = (a b : T) → IsTrue (eq a b) → a ≡ b
