-- What the one file of a call tells of itself.
use Rattle.std.proofs.Common.{◌≡◌, ℕ, ◌<◌, Bool, true, false, List, [], codes, Some, None, Ok, unwrap_or, get_or, refl, if◌then◌else◌, Option, ◌∷◌}
use Rattle.std.specs.Str.{bytes_eq}
use Rattle.host_io.specs.Bytes.{told_bytes}
use Rattle.host_io.proofs.ToldLemmas.{sure_told}
use Rattle.pump_cli.specs.Calls.{FileCall, Load, Save, held_after, held_with}
use Rattle.pump_web.specs.Replies.{held_in, only_file, told_in}

-- bytes are told as they are
pub bytes_told : (bytes : List ℕ) → ((i : ℕ) → get_or bytes i 0 < 256) → told_bytes bytes ≡ Some bytes
bytes_told bytes small = sure_told {A = Unit {0}} {E = Unit {0}} (Ok tt) (Some bytes) bytes small refl

told_at : (bytes : List ℕ) → ((i : ℕ) → get_or bytes i 0 < 256) → (named : Bool)
    → told_bytes (unwrap_or (if named then Some bytes else None) []) ≡ Some (unwrap_or (if named then Some bytes else None) [])
told_at bytes small true = bytes_told bytes small
told_at bytes small false = refl

-- so the one file is told as it is, and each other name as an empty file
pub only_told : (bytes : List ℕ) → ((i : ℕ) → get_or bytes i 0 < 256) → told_in (only_file bytes) ≡ held_in (only_file bytes)
only_told bytes small = λ i name. told_at bytes small (bytes_eq (codes "file") name) i

-- what calls leave in a file that was empty is what they save there, or nothing
pub left_by : (calls : List FileCall) (name : List ℕ) (held saved : List ℕ → Option (List ℕ)) → held name ≡ Some (unwrap_or (saved name) [])
    → held_after true calls held name ≡ Some (unwrap_or (held_after true calls saved name) [])
left_by [] name held saved same = same
left_by (Load other ∷ calls) name held saved same = left_by calls name held saved same
left_by (Save other bytes ∷ calls) name held saved same =
    left_by calls name (held_with true other bytes held) (held_with true other bytes saved)
    (elim (bytes_eq name other) as
    (λ is. (if is then Some bytes else held name) ≡ Some (unwrap_or (if is then Some bytes else saved name) [])) [
      | true ↦ refl
      | false ↦ same
    ])
