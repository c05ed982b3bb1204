-- Files in memory: the bytes of each name, and the bytes that the file holds.
use Rattle.std.specs.Prelude.{ℕ, List, [], ◌∷◌, map, String, string_bytes, Option, IsNone, unwrap_or}
use Rattle.std.specs.Str.{bytes_eq}
use Rattle.std.specs.Map.{lookup}
use Rattle.std.specs.declared.vec.Vec.{Vec}

-- The files of a list of names and bytes.
abbrev pub files_of : {A B : Type 0} → List (String A × Vec ℕ B) → List (List ℕ × List ℕ)
files_of entries = map (λ entry. (string_bytes entry.0, entry.1.items)) entries

-- What the file of a name holds, where there is one.
abbrev pub bytes_held : List (List ℕ × List ℕ) → List ℕ → Option (List ℕ)
bytes_held files name = lookup (λ held. bytes_eq held name) files

-- The same, where a name that isn't listed has an empty file.
abbrev pub sure_bytes : List (List ℕ × List ℕ) → List ℕ → List ℕ
sure_bytes files name = unwrap_or (bytes_held files name) []

-- No two files have one name.
abbrev pub AreNamesDistinct : List (List ℕ × List ℕ) → Type 0
AreNamesDistinct [] = Unit {0}
AreNamesDistinct (file ∷ files) = IsNone (bytes_held files file.0) × AreNamesDistinct files
