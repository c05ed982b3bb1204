-- Taint at the start of an image.
use Rattle.std.specs.Prelude.{ℕ, List}
use Rattle.std.proofs.Common.{refl}
use Rattle.image_format.specs.Picture.{Picture}
use Rattle.policy_start.specs.Services.{IsFromFirst, OffersNone, none_from_first}
use Rattle.taint_policy.specs.Taint.{taint}
use Rattle.taint_policy.specs.declared.policy.Taint.{Taint}

-- the one value
abbrev pub begun : List ℕ → Picture → Taint
begun secret g = record {}

pub taint_offers_none : OffersNone taint
taint_offers_none policy number = refl

pub taint_apart : (secret : List ℕ) (g : Picture) → IsFromFirst taint (begun secret g)
taint_apart secret g = none_from_first taint taint_offers_none (begun secret g)
