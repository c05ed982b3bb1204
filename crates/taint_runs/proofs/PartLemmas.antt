-- What taint is a part of.
use Rattle.std.proofs.Common.{◌≡◌, ℕ, true, false, Option, Some, None, refl, arith}
use Rattle.policy_parts.specs.Part.{IsPart}
use Rattle.policy_parts.specs.Lens.{on_lens, right_lens}
use Rattle.policy_parts.proofs.OnLemmas.{part_of_itself}
use Rattle.policy_parts.proofs.PairLemmas.{part_of_right}
use Rattle.policy_product.specs.Both.{IsApart, both}
use Rattle.policy_product.specs.Maybe.{MaybeHolds, knows_in, maybe}
use Rattle.policy_product.specs.MaybeLaws.{maybe_laws}
use Rattle.policy_product.specs.declared.maybe.Maybe.{Maybe}
use Rattle.sealing_policy.specs.Sealing.{HasFewKeys, sealing}
use Rattle.sealing_policy.specs.SealingLaws.{sealing_laws}
use Rattle.taint_policy.specs.Taint.{HoldsAlways, taint}
use Rattle.taint_policy.specs.TaintLaws.{taint_laws}
use Rattle.taint_policy.specs.declared.policy.Taint.{Taint}
use Rattle.taint_policy.specs.declared.tag.TaintTag.TheVariants.{Clean}
use Rattle.taint_runs.specs.Whole.{whole_lens}

unknown : {P : Type 0} → false ≡ true → P
unknown e = absurd cc

pub part_alone : IsPart taint taint whole_lens
part_alone = record {
  plain = λ s on. refl;
  room = λ s on. omega arith;
  knows = λ s k on known. known;
  rule = λ s g x outs on e. e;
  wipe = λ s pc old new on e. e;
  plan = λ s k a pc p on known e. unknown known;
  retag = λ s p old new on known e. unknown known;
  commit = λ s p on known. unknown known;
  stays = λ s p on known. refl;
  start_pc = λ s b on. refl;
  start_word = λ s b on. refl;
}

offers_none : (part : Option Taint) (k : ℕ) → knows_in taint part k ≡ false
offers_none None k = refl
offers_none (Some policy) k = refl

-- taint offers no service that another policy offers
apart : (s : Maybe ℕ) (r : Maybe Taint) → IsApart (maybe sealing) (maybe taint) s r
apart s r k owned = offers_none r.part k

pub part_of_pair : (policy : Taint) → IsPart (both (maybe sealing) (maybe taint)) taint (right_lens (on_lens Clean policy))
part_of_pair policy =
    part_of_right (maybe sealing) (maybe taint) (MaybeHolds HasFewKeys) (MaybeHolds HoldsAlways)
    (maybe_laws sealing HasFewKeys sealing_laws) (maybe_laws taint HoldsAlways taint_laws) apart taint (on_lens Clean policy)
    (part_of_itself taint HoldsAlways taint_laws Clean policy (λ v. refl))
