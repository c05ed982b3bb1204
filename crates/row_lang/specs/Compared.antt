-- What is due of a call beside what came of it.
use Rattle.std.specs.Prelude.{◌≡◌, ℕ, List, map, Option}
use Rattle.std.specs.Option.{option_map}
use Rattle.std.specs.declared.vec.Vec.{Vec}
use Rattle.row_lang.specs.declared.outcome.Outcome.{Outcome}

-- The bytes of a file that may not be there.
abbrev pub bytes_held : {A : Type 0} → Option (Vec ℕ A) → Option (List ℕ)
bytes_held file = option_map (λ bytes. bytes.items) file

-- The bytes of each of some files.
abbrev pub files_held : {A : Type 0} → List (Option (Vec ℕ A)) → List (Option (List ℕ))
files_held files = map bytes_held files

-- What came is what is due, in each part of it.
pub record IsAsDue (due came : Outcome) : Type 0 where
  pub out : due.out.items ≡ came.out.items
  pub err : due.err.items ≡ came.err.items
  pub status : due.status ≡ came.status
  pub left : due.left ≡ came.left
  pub held : files_held due.held.items ≡ files_held came.held.items
