-- A result, from the same with the number of its line.
use Rattle.std.proofs.Common.{◌≡◌, ℕ, refl}
use Rattle.std.specs.Prelude.{Result, Ok, Err}
use Rattle.asm_read.specs.declared.errors.AsmErrorKind.{AsmErrorKind}
use Rattle.asm_read.specs.Source.{at_line}

-- what a line gives does not know its number
pub of_line : {A : Type 0} (number : ℕ) (r : Result A AsmErrorKind) (x : A) → at_line number r ≡ Ok x → r ≡ Ok x
of_line number (Ok y) x is = let same : y ≡ x = cc in rw same refl
of_line number (Err kind) x is = absurd cc
