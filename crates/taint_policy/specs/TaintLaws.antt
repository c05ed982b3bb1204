-- Taint keeps the laws of a policy.
use Rattle.std.proofs.Common.{◌≡◌, refl}
use Rattle.std.proofs.lemmas.Bool.{false≢true}
use Rattle.rv_decode.specs.declared.groups.Group.{Group}
use Rattle.rv_decode.specs.declared.groups.Group.TheVariants as group
use Rattle.policy_trait.specs.PolicyLaws.{KeepsLaws}
use Rattle.policy_trait.specs.Model.{masked_inputs}
use Rattle.policy_trait.specs.declared.rules.Ins.{Ins}
use Rattle.taint_policy.specs.Taint.{HoldsAlways, taint, taint_ignores, taint_rule}
use Rattle.taint_policy.specs.declared.tag.TaintTag.{TaintTag}
use Rattle.taint_policy.specs.declared.tag.TaintTag.TheVariants.{Clean}

-- no group's rule looks at an input that its mask ignores
rule_masked : (g : Group) (x : Ins TaintTag) → taint_rule g x ≡ taint_rule g (masked_inputs (taint_ignores g) Clean x)
rule_masked = elim [
  | group.Const ↦ λ x. refl
  | group.Here ↦ λ x. refl
  | group.Jal ↦ λ x. refl
  | group.Jalr ↦ λ x. refl
  | group.Branch ↦ λ x. refl
  | group.LoadWord ↦ λ x. refl
  | group.LoadPart ↦ λ x. refl
  | group.StoreWord ↦ λ x. refl
  | group.StorePart ↦ λ x. refl
  | group.Move ↦ λ x. refl
  | group.AddImm ↦ λ x. refl
  | group.AluImm ↦ λ x. refl
  | group.Add ↦ λ x. refl
  | group.Sub ↦ λ x. refl
  | group.Alu ↦ λ x. refl
  | group.Fence ↦ λ x. refl
  | group.Exit ↦ λ x. refl
  | group.Put ↦ λ x. refl
  | group.Get ↦ λ x. refl
  | group.Break ↦ λ x. refl
  | group.Call ↦ λ x. refl
]

pub taint_laws : KeepsLaws taint HoldsAlways
taint_laws = record {
  masks = λ policy g x. rule_masked g x;
  unpeeked = λ policy shape first second none. refl;
  parted = λ policy shape first second one other. refl;
  keeps = λ policy p given. record {
    plain = refl;
    rule = λ g x. refl;
    ignores = λ g. refl;
    peeks = refl;
    peek = λ shape first second. refl;
    knows = λ k. refl;
    uses = λ k. refl;
    lend = λ t. refl;
    room = refl;
    wipe = λ pc old. refl;
    start_pc = λ b. refl;
    start_word = λ b. refl;
    text = λ t. refl;
  };
  stays = λ policy p given held. held;
  undoes = λ policy p given held. refl;
  ranges = λ policy k a pc p can held given. absurd (false≢true can.known);
  few = λ policy k known. absurd (false≢true known);
  service = λ policy k a pc p known given. absurd (false≢true known);
  value = λ policy k a pc p known given. absurd (false≢true known);
  unused = λ policy k a b pc known same. refl;
  blind_retag = λ policy p x old. refl;
  blind_commit = λ policy p x. refl;
  words = λ policy k a pc p can held are given. absurd (false≢true can.known);
}
