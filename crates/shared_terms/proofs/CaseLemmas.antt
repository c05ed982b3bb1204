-- Cases of results: two that differ are not one.
use Rattle.std.proofs.Common.{◌≡◌, Result, Ok, Err}

-- a refusal is no value
pub not_refused : {A E P : Type 0} {refusal : E} {x : A} → ◌≡◌ {A = Result A E} (Err refusal) (Ok x) → P
not_refused e = cc
