-- What an answer leaves to the other parts of a product.
use Rattle.std.proofs.Common.{◌≡◌, sym, ◌∙◌}
use Rattle.policy_trait.specs.PolicyLaws.{KeepsValue}
use Rattle.policy_trait.specs.declared.services.Answer.{Answer}
use Rattle.policy_trait.specs.declared.services.Args.{Args}
use Rattle.policy_trait.specs.declared.services.Rest.TheVariants.{Plain, AsA0}

plain_not_as_a0 : {P : Type 0} → Plain ≡ AsA0 → P
plain_not_as_a0 e = cc

-- an answer whose rest is plain may have any value
pub plain_keeps : {T : Type 0} (a : Args T) (x : Answer T) → x.rest ≡ Plain → KeepsValue a x
plain_keeps a x plain as_a0 = plain_not_as_a0 (sym plain ∙ as_a0)
