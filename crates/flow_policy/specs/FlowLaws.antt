-- Flow keeps the laws of a policy.
use Rattle.std.proofs.Common.{◌≡◌, ℕ, Option, Some, None, List, refl}
use Rattle.std.proofs.lemmas.Bool.{false≢true}
use Rattle.rv_decode.specs.declared.groups.Group.{Group}
use Rattle.policy_trait.specs.PolicyLaws.{KeepsLaws}
use Rattle.policy_trait.specs.Model.{masked_inputs}
use Rattle.policy_trait.specs.declared.rules.Ins.{Ins}
use Rattle.flow_policy.specs.Flow.{HoldsAlways, effect_of, entry_label, flow, flow_rule, flow_ignores, ignores_by, rule_by}
use Rattle.flow_policy.specs.declared.table.Effect.{Effect}
use Rattle.flow_policy.specs.declared.table.Effect.TheVariants.{Jumps, Stores, GoesOn}
use Rattle.flow_policy.specs.declared.tag.FlowTag.{FlowTag}
use Rattle.flow_policy.specs.declared.tag.FlowTag.TheVariants.{Plain}

-- the memory word's tag, or the plain one where it is ignored
abbrev word_seen : Effect → FlowTag → FlowTag
word_seen effect word = (masked_inputs (ignores_by effect) Plain (record { pc = Plain; ci = Plain; t1 = Plain; t2 = Plain; tm = word })).tm

word_masked : (effect : Effect) (g : Group) (label : Option (Option ℕ)) (word : FlowTag)
    → rule_by effect g label word ≡ rule_by effect g label (word_seen effect word)
word_masked Stores g label word = refl
word_masked Jumps g None word = refl
word_masked Jumps g (Some label) word = refl
word_masked GoesOn g None word = refl
word_masked GoesOn g (Some label) word = refl

rule_masked : (edges : List (ℕ × ℕ)) (g : Group) (x : Ins FlowTag) → flow_rule edges g x ≡ flow_rule edges g (masked_inputs (flow_ignores g) Plain x)
rule_masked edges g x = word_masked (effect_of g) g (entry_label edges x.pc x.ci) x.tm

pub flow_laws : KeepsLaws flow HoldsAlways
flow_laws = record {
  masks = rule_masked;
  unpeeked = λ edges shape first second none. refl;
  parted = λ edges shape first second one other. refl;
  keeps = λ edges p given. record {
    plain = refl;
    rule = λ g x. refl;
    ignores = λ g. refl;
    peeks = refl;
    peek = λ shape first second. refl;
    knows = λ k. refl;
    uses = λ k. refl;
    lend = λ t. refl;
    room = refl;
    wipe = λ pc old. refl;
    start_pc = λ b. refl;
    start_word = λ b. refl;
    text = λ t. refl;
  };
  stays = λ edges p given held. held;
  undoes = λ edges p given held. refl;
  ranges = λ edges k a pc p can held given. absurd (false≢true can.known);
  few = λ edges k known. absurd (false≢true known);
  service = λ edges k a pc p known given. absurd (false≢true known);
  value = λ edges k a pc p known given. absurd (false≢true known);
  unused = λ edges k a b pc known same. refl;
  blind_retag = λ edges p x old. refl;
  blind_commit = λ edges p x. refl;
  words = λ edges k a pc p can held are given. absurd (false≢true can.known);
}
