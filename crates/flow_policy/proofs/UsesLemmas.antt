-- Each input that a rule does not ignore changes an answer: where all is allowed, a tag in its place that is not.
use Rattle.std.proofs.Common.{◌≡◌, ℕ, false, List, Some, Result, true≢false}
use Rattle.shared_terms.proofs.CaseLemmas.{not_refused}
use Rattle.rv_decode.specs.declared.groups.Group.{Group}
use Rattle.policy_trait.specs.UseLaws.{ignored_input}
use Rattle.policy_trait.specs.Uses.{Input, Pc, Instruction, First, Second, Word, UsesExactly, is_ignored, with_input}
use Rattle.policy_trait.specs.declared.rules.Ins.{Ins}
use Rattle.policy_trait.specs.declared.rules.Outs.{Outs}
use Rattle.policy_trait.specs.declared.rules.Refused.{Refused}
use Rattle.flow_policy.specs.Flow.{HoldsAlways, effect_of, entry_label, flow, ignores_by, rule_by}
use Rattle.flow_policy.specs.FlowLaws.{flow_laws}
use Rattle.flow_policy.specs.declared.table.Effect.{Effect}
use Rattle.flow_policy.specs.declared.table.Effect.TheVariants.{Jumps, Stores, GoesOn}
use Rattle.flow_policy.specs.declared.tag.FlowTag.{FlowTag}
use Rattle.flow_policy.specs.declared.tag.FlowTag.TheVariants.{Plain, Still, Code, Data}

-- a labelled code word that no jump led to, and data in the memory word: every group allows that
abbrev allowed : Ins FlowTag
allowed = record { pc = Still; ci = Code (Some 0); t1 = Plain; t2 = Plain; tm = Data }

abbrev rule_at : List (ℕ × ℕ) → Effect → Group → Ins FlowTag → Result (Outs FlowTag) Refused
rule_at edges effect g x = rule_by effect g (entry_label edges x.pc x.ci) x.tm

-- the plain tag is allowed at none of the three
differs : (edges : List (ℕ × ℕ)) (g : Group) (effect : Effect) (i : Input) → is_ignored (ignores_by effect) i ≡ false
    → ¬ (rule_at edges effect g (with_input i Plain allowed) ≡ rule_at edges effect g allowed)
differs edges g Jumps Pc is e = not_refused e
differs edges g Stores Pc is e = not_refused e
differs edges g GoesOn Pc is e = not_refused e
differs edges g Jumps Instruction is e = not_refused e
differs edges g Stores Instruction is e = not_refused e
differs edges g GoesOn Instruction is e = not_refused e
differs edges g Stores Word is e = not_refused e
differs edges g Jumps Word is e = absurd (true≢false is)
differs edges g GoesOn Word is e = absurd (true≢false is)
differs edges g effect First is e = absurd (true≢false is)
differs edges g effect Second is e = absurd (true≢false is)

pub flow_uses_exactly : (edges : List (ℕ × ℕ)) → UsesExactly flow edges
flow_uses_exactly edges = record {
  ignored = λ g i is. ignored_input flow HoldsAlways flow_laws edges g i is;
  used = λ g i is. record { inputs = allowed; tag = Plain; differs = differs edges g (effect_of g) i is };
}
