-- Room for what is read.
use Rattle.std.specs.Prelude.{◌≡◌, ℕ, ◌+◌, ◌*◌, ◌≤◌, List, length, Ok}
use Rattle.image_format.specs.Reading.{Reads}

-- what was read, and how many places were made for it, be they taken or not
pub record RoomState (T : Type 0) : Type 0 where
  pub items : List T
  pub places : ℕ

-- a place that isn't taken yet for as many as are counted, if each has so many of the bytes
abbrev pub HasPlacesFor : {T : Type 0} → ℕ → ℕ → ℕ → RoomState T → Type 0
HasPlacesFor count each bytes room = (n : ℕ) → n ≤ count → each * n ≤ bytes → length room.items + n ≤ room.places

-- what is read takes at least so many bytes
abbrev pub TakesAtLeast : {A : Type 0} → ℕ → Reads A → Type 0
TakesAtLeast {A} least read = (bytes : List ℕ) (x : A × List ℕ) → read bytes ≡ Ok x → length x.1 + least ≤ length bytes
