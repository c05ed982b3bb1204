-- What a row of steps came through, where it refused nothing.
use Rattle.std.proofs.Common.{◌≡◌, refl}
use Rattle.std.specs.Prelude.{Option, Some, None, Result, Ok, Err}
use Rattle.std.specs.Option.{ok_or}
use Rattle.asm_read.specs.declared.errors.AsmErrorKind.{AsmErrorKind}
use Rattle.shared_terms.specs.Steps.{◌>>=◌}

-- the value of a step, and what the steps behind it give
pub record Passes {E A B : Type 0} (r : Result A E) (f : A → Result B E) (b : B) : Type 0 where
  pub value : A
  pub first : r ≡ Ok value
  pub rest : f value ≡ Ok b

pub passes : {E A B : Type 0} (r : Result A E) (f : A → Result B E) (b : B) → (r >>= f) ≡ Ok b → Passes r f b
passes (Ok value) f b is = record { value = value; first = refl; rest = is }
passes (Err error) f b is = absurd cc

pub from_some : {A : Type 0} (o : Option A) (kind : AsmErrorKind) (x : A) → ok_or o kind ≡ Ok x → o ≡ Some x
from_some (Some y) kind x is = let same : y ≡ x = cc in rw same refl
from_some None kind x is = absurd cc
