-- The policy that is nothing keeps the laws.
use Rattle.std.proofs.Common.{◌≤◌, refl, arith}
use Rattle.policy_trait.specs.PolicyLaws.{KeepsLaws}
use Rattle.policy_product.specs.Nothing.{nothing}

-- each by computing
pub nothing_laws : KeepsLaws nothing (λ s. Unit {0})
nothing_laws = record {
  masks = λ s g x. refl;
  unpeeked = λ s shape first second none. refl;
  parted = λ s shape first second one other. refl;
  keeps = λ s p given. record {
    plain = refl;
    rule = λ g x. refl;
    ignores = λ g. refl;
    peeks = refl;
    peek = λ shape first second. refl;
    knows = λ k. refl;
    uses = λ k. refl;
    lend = λ t. refl;
    room = refl;
    wipe = λ pc old. refl;
    start_pc = λ b. refl;
    start_word = λ b. refl;
    text = λ t. refl;
  };
  stays = λ s p given holds. tt;
  undoes = λ s p given holds. refl;
  ranges = λ s k a pc p can holds given. absurd (cc given);
  few = λ s k known. let e : 0 ≤ 3 = omega arith in e;
  service = λ s k a pc p known given. absurd (cc given);
  value = λ s k a pc p known given. absurd (cc given);
  unused = λ s k a b pc known same. refl;
  blind_retag = λ s p x old. refl;
  blind_commit = λ s p x. refl;
  words = λ s k a pc p can holds are given. absurd (cc given);
}
