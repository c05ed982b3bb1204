-- The texts of the two tags begin with different letters.
use Rattle.std.proofs.Common.{ℕ, List, refl, ap, arith}
use Rattle.std.specs.Prelude.{get_or}
use Rattle.secrecy_policy.specs.Secrecy.{secret_text}
use Rattle.secrecy_policy.specs.TextLaws.{TellsApart}
use Rattle.secrecy_policy.specs.declared.tag.SecretTag.TheVariants.{Open, Secret}

pub texts_tell : TellsApart secret_text
texts_tell Open Open e = refl
texts_tell Secret Secret e = refl
texts_tell Open Secret e = absurd (let h = ap (λ (text : List ℕ). get_or text 0 0) e in omega arith)
texts_tell Secret Open e = absurd (let h = ap (λ (text : List ℕ). get_or text 0 0) e in omega arith)
