-- Which bytes a line may have, and which texts are names.
use Rattle.std.specs.Prelude.{ℕ, ◌==◌, nat_le, Bool, false, ◌&&◌, ◌||◌, List, [], ◌∷◌}
use Rattle.std.specs.List.{list_all}

-- a tab or a space
abbrev pub is_blank : ℕ → Bool
is_blank byte = byte == 9 || byte == 32

-- a tab, or a character that ASCII prints
abbrev pub is_allowed : ℕ → Bool
is_allowed byte = byte == 9 || nat_le 32 byte && nat_le byte 126

-- what may begin a name: a letter or `_`
abbrev pub is_letter : ℕ → Bool
is_letter byte = nat_le 97 byte && nat_le byte 122 || nat_le 65 byte && nat_le byte 90 || byte == 95

-- what may go on a name: a letter, `_` or a decimal digit
abbrev pub is_name_byte : ℕ → Bool
is_name_byte byte = is_letter byte || nat_le 48 byte && nat_le byte 57

-- a letter or `_`, and then letters, `_` and decimal digits
abbrev pub is_name : List ℕ → Bool
is_name [] = false
is_name (byte ∷ more) = is_letter byte && list_all is_name_byte more
