-- Secrecy at the start of an image.
use Rattle.std.specs.Prelude.{ℕ, List}
use Rattle.std.proofs.Common.{arith}
use Rattle.std.proofs.lemmas.Bool.Decides.{nat_tests}
use Rattle.image_format.specs.Picture.{Picture}
use Rattle.policy_start.specs.Services.{IsFromFirst}
use Rattle.secrecy_policy.specs.Secrecy.{SecretState, secrecy}

-- secret bytes of which none was answered
abbrev pub unanswered : List ℕ → SecretState
unanswered bytes = record { bytes = bytes; next = 0 }

-- whatever the image
abbrev pub begun : List ℕ → Picture → SecretState
begun bytes g = unanswered bytes

pub secrecy_apart : (bytes : List ℕ) (g : Picture) → IsFromFirst secrecy (begun bytes g)
secrecy_apart bytes g number known = grind (arith, nat_tests)
