-- The texts of the two tags begin with different letters.
use Rattle.std.proofs.Common.{ℕ, List, refl, ap, arith}
use Rattle.std.specs.Prelude.{get_or}
use Rattle.taint_policy.specs.Taint.{taint_text}
use Rattle.taint_policy.specs.TextLaws.{TellsApart}
use Rattle.taint_policy.specs.declared.tag.TaintTag.TheVariants.{Clean, Tainted}

pub texts_tell : TellsApart taint_text
texts_tell Clean Clean e = refl
texts_tell Tainted Tainted e = refl
texts_tell Clean Tainted e = absurd (let h = ap (λ (text : List ℕ). get_or text 0 0) e in omega arith)
texts_tell Tainted Clean e = absurd (let h = ap (λ (text : List ℕ). get_or text 0 0) e in omega arith)
