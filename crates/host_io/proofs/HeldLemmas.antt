-- Files in memory, as the code holds them.
use Rattle.std.proofs.Common.{◌≡◌, ℕ, Bool, true, false, List, [], ◌∷◌, Some, find, refl, get_or, All, IsNone, String, string_bytes, if◌then◌else◌}
use Rattle.std.specs.Option.{option_map}
use Rattle.std.specs.Str.{bytes_eq}
use Rattle.std.proofs.lemmas.Slice.Eq.{bytes_eq-Decides}
use Rattle.std.proofs.lemmas.List.Elements.{All-cons, All-nil}
use Rattle.std.specs.declared.vec.Vec.{Vec}
use Rattle.host_io.specs.Held.{files_of, bytes_held, AreNamesDistinct}

-- What the file of a name holds is what the first entry of that name does.
pub bytes_held-find : {A B : Type 0} → (entries : List (String A × Vec ℕ B)) (name : List ℕ) →
    bytes_held (files_of entries) name ≡
    option_map (λ entry. entry.1.items)
    (find (λ entry. bytes_eq (string_bytes entry.0) name) entries)
bytes_held-find [] name = refl
bytes_held-find (entry ∷ entries) name =
    elim (bytes_eq (string_bytes entry.0) name) as (λ same.
    (if same then Some entry.1.items else bytes_held (files_of entries) name) ≡
    option_map (λ entry. entry.1.items)
    (if same then Some entry else find (λ entry. bytes_eq (string_bytes entry.0) name) entries)) [
      | true ↦ refl
      | false ↦ bytes_held-find entries name
    ]

-- A file holds what it held before another was put in front, whose name no file had.
held_behind : (files : List (List ℕ × List ℕ)) (prefix file : List ℕ × List ℕ) (same : Bool) →
    bytes_eq prefix.0 file.0 ≡ same → IsNone (bytes_held files prefix.0) →
    bytes_held files file.0 ≡ Some file.1 →
    (if same then Some prefix.1 else bytes_held files file.0) ≡ Some file.1
held_behind files prefix file true named unheld held =
    let name : prefix.0 ≡ file.0 = (bytes_eq-Decides _ _).0 named in
    let some : IsNone (Some file.1) = rw (name, held) at unheld in
    absurd (cc some)
held_behind files prefix file false named unheld held = held

-- Where no name is repeated, each file is what its name holds.
pub held_of_each : (files : List (List ℕ × List ℕ)) → AreNamesDistinct files →
    All (λ file. bytes_held files file.0 ≡ Some file.1) files
held_of_each [] distinct = All-nil _
held_of_each (file ∷ files) distinct =
    let same = (bytes_eq-Decides file.0 file.0).1 refl in
    All-cons (λ each. bytes_held (file ∷ files) each.0 ≡ Some each.1) file files (rw same refl)
    (λ k other below.
    let held = held_of_each files distinct.1 k other below in
    held_behind files file (get_or files k other) _ refl distinct.0 held)
