-- What control flow's rule tells where it allows an instruction.
use Rattle.std.proofs.Common.{◌≡◌, ℕ, Bool, true, false, List, Option, Some, None, Result, Ok, if◌then◌else◌, refl, sym, ap}
use Rattle.rv_decode.specs.declared.groups.Group.{Group}
use Rattle.rv_decode.specs.declared.groups.Group.TheVariants as group
use Rattle.policy_trait.specs.declared.rules.Ins.{Ins}
use Rattle.policy_trait.specs.declared.rules.Outs.{Outs}
use Rattle.policy_trait.specs.declared.rules.Refused.{Refused}
use Rattle.flow_policy.specs.Flow.{outs_or_refusal, effect_of, entry_label, flow_rule, may_enter, outs_by, rule_by}
use Rattle.flow_policy.specs.declared.tag.FlowTag.{FlowTag}
use Rattle.flow_policy.specs.declared.tag.FlowTag.TheVariants.{Plain, Still, From, Code, Data}
use Rattle.part_turns.specs.Turns.{is_jalr_group}
use Rattle.flow_runs.specs.FlowInvariant.{from_label}

abbrev allowed : Outs FlowTag → Result (Outs FlowTag) Refused
allowed outs = Ok outs

same_outs : (outs given : Outs FlowTag) → allowed outs ≡ allowed given → outs ≡ given
same_outs outs given e = cc

-- the instruction is a code word with that label, to which the pc may come, and these are the next tags
pub record Entered (edges : List (ℕ × ℕ)) (g : Group) (pc ci tm : FlowTag) (outs : Outs FlowTag) : Type 0 where
  pub label : Option ℕ
  pub code : ci ≡ Code label
  pub may : may_enter edges pc label ≡ true
  pub outs_are : outs_by (effect_of g) label tm ≡ Some outs

module _ (edges : List (ℕ × ℕ)) (g : Group) (pc tm : FlowTag) (outs : Outs FlowTag) where
  by_outs : (given : Option (Outs FlowTag)) → outs_or_refusal g given ≡ Ok outs → given ≡ Some outs
  by_outs None e = absurd cc
  by_outs (Some given) e = ap (λ (o : Outs FlowTag). Some o) (same_outs given outs e)

  by_entry : (label : Option ℕ) (may : Bool) → may_enter edges pc label ≡ may
      → rule_by (effect_of g) g (if may then Some label else None) tm ≡ Ok outs
      → Entered edges g pc (Code label) tm outs
  by_entry label true is e = record { label = label; code = refl; may = is; outs_are = by_outs (outs_by (effect_of g) label tm) e }
  by_entry label false is e = absurd cc

  by_instruction : (ci : FlowTag) → rule_by (effect_of g) g (entry_label edges pc ci) tm ≡ Ok outs → Entered edges g pc ci tm outs
  by_instruction (Code label) e = by_entry label (may_enter edges pc label) refl e
  by_instruction Plain e = absurd cc
  by_instruction Still e = absurd cc
  by_instruction (From source) e = absurd cc
  by_instruction Data e = absurd cc

pub rule_enters : (edges : List (ℕ × ℕ)) (g : Group) (x : Ins FlowTag) (outs : Outs FlowTag) → flow_rule edges g x ≡ Ok outs
    → Entered edges g x.pc x.ci x.tm outs
rule_enters edges g x outs e = by_instruction edges g x.pc x.tm outs x.ci e

-- ---- the next tags

some_outs : (outs given : Outs FlowTag) → Some outs ≡ Some given → outs ≡ given
some_outs outs given e = cc

-- a jump by register has a label
jump_label : (label : Option ℕ) (tm : FlowTag) (outs : Outs FlowTag) → outs_by (effect_of group.Jalr) label tm ≡ Some outs
    → (l : ℕ) × (label ≡ Some l)
jump_label (Some l) tm outs e = (l, refl)
jump_label None tm outs e = absurd cc

pub jalr_label : (g : Group) (label : Option ℕ) (tm : FlowTag) (outs : Outs FlowTag) → is_jalr_group g ≡ true
    → outs_by (effect_of g) label tm ≡ Some outs
    → (l : ℕ) × (label ≡ Some l)
jalr_label group.Jalr label tm outs is e = jump_label label tm outs e
jalr_label _ label tm outs is e = absurd cc

jump_pc : (label : Option ℕ) (tm : FlowTag) (outs : Outs FlowTag) → outs_by (effect_of group.Jalr) label tm ≡ Some outs → outs.pc ≡ from_label label
jump_pc (Some l) tm outs e = ap (λ (o : Outs FlowTag). o.pc) (sym (some_outs (record { pc = From l; result = Plain }) outs e))
jump_pc None tm outs e = absurd cc

-- a store goes to data, and leaves data
pub store_outs : (label : Option ℕ) (tm : FlowTag) (outs : Outs FlowTag) → outs_by (effect_of group.StoreWord) label tm ≡ Some outs
    → (tm ≡ Data) × (record { pc = Still; result = Data } ≡ outs)
store_outs label Data outs e = (refl, some_outs (record { pc = Still; result = Data }) outs e)
store_outs label Plain outs e = absurd cc
store_outs label Still outs e = absurd cc
store_outs label (From source) outs e = absurd cc
store_outs label (Code l) outs e = absurd cc

pub pc_is : (g : Group) (label : Option ℕ) (tm : FlowTag) (outs : Outs FlowTag) → outs_by (effect_of g) label tm ≡ Some outs
    → outs.pc ≡ (if is_jalr_group g then from_label label else Still)
pc_is group.Jalr label tm outs e = jump_pc label tm outs e
pc_is group.StoreWord label tm outs e = ap (λ (o : Outs FlowTag). o.pc) (sym (store_outs label tm outs e).1)
pc_is group.StorePart label tm outs e = ap (λ (o : Outs FlowTag). o.pc) (sym (store_outs label tm outs e).1)
pc_is _ label tm outs e = ap (λ (o : Outs FlowTag). o.pc) (sym (some_outs (record { pc = Still; result = Plain }) outs e))
