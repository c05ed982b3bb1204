-- Taint: what came from the input, and what was computed from that. The policy has one value, since it keeps no state.
use Rattle.std.specs.Prelude.{ℕ, Bool, true, false, not, ◌&&◌, ◌||◌, List, codes, None, Result, Ok, Err, if◌then◌else◌}
use Rattle.rv_decode.specs.declared.groups.Group.{Group}
use Rattle.rv_decode.specs.declared.groups.Group.TheVariants as group
use Rattle.policy_trait.specs.Model.{PolicyModel}
use Rattle.policy_trait.specs.declared.rules.Ins.{Ins}
use Rattle.policy_trait.specs.declared.rules.Mask.{Mask}
use Rattle.policy_trait.specs.declared.rules.Outs.{Outs}
use Rattle.policy_trait.specs.declared.rules.Part.TheVariants as part
use Rattle.policy_trait.specs.declared.rules.Refused.{Refused}
use Rattle.policy_trait.specs.declared.rules.Why.{Why}
use Rattle.policy_trait.specs.declared.rules.Why.TheVariants as why
use Rattle.policy_trait.specs.declared.services.PlanEnd.TheVariants as plan_end
use Rattle.taint_policy.specs.declared.policy.Taint.{Taint}
use Rattle.taint_policy.specs.declared.table.Row.{Row}
use Rattle.taint_policy.specs.declared.table.Source.{Source}
use Rattle.taint_policy.specs.declared.table.Source.TheVariants as source
use Rattle.taint_policy.specs.declared.tag.TaintTag.{TaintTag}
use Rattle.taint_policy.specs.declared.tag.TaintTag.TheVariants.{Clean, Tainted}

-- there is no state that could break an invariant
abbrev pub HoldsAlways : Taint → Type 0
HoldsAlways policy = Unit {0}

-- ---- the rules, one row a group

-- the row of a group that allows every operand, and that of one that jumps to its first operand or stores there

abbrev pub open_row : Source → Row
open_row from = record { is_guarded = false; result = from }

abbrev pub guarded_row : Source → Row
guarded_row from = record { is_guarded = true; result = from }

-- the table of taint: whether the first operand has to be clean, and where the result's taint is from
abbrev pub row_of : Group → Row
row_of group.Const = open_row source.Nowhere
row_of group.Here = open_row source.Nowhere
row_of group.Jal = open_row source.Nowhere
row_of group.Jalr = guarded_row source.Nowhere
row_of group.Branch = open_row source.Nowhere
row_of group.LoadWord = open_row source.FirstOrWord
row_of group.LoadPart = open_row source.FirstOrWord
row_of group.StoreWord = guarded_row source.Second
row_of group.StorePart = guarded_row source.SecondOrWord
row_of group.Move = open_row source.First
row_of group.AddImm = open_row source.First
row_of group.AluImm = open_row source.First
row_of group.Add = open_row source.FirstOrSecond
row_of group.Sub = open_row source.FirstOrSecond
row_of group.Alu = open_row source.FirstOrSecond
row_of group.Fence = open_row source.Nowhere
row_of group.Exit = open_row source.Nowhere
row_of group.Put = open_row source.Nowhere
row_of group.Get = open_row source.Input
row_of group.Break = open_row source.Nowhere
row_of group.Call = open_row source.Nowhere

-- ---- what a row says

abbrev pub is_clean : TaintTag → Bool
is_clean Clean = true
is_clean Tainted = false

-- the tag of what is computed from two values: tainted where one of them is
abbrev pub merged_tag : TaintTag → TaintTag → TaintTag
merged_tag Clean other = other
merged_tag Tainted other = Tainted

-- the tag of a result whose taint is from there
abbrev pub tag_from : Source → Ins TaintTag → TaintTag
tag_from source.Nowhere x = Clean
tag_from source.Input x = Tainted
tag_from source.First x = x.t1
tag_from source.FirstOrSecond x = merged_tag x.t1 x.t2
tag_from source.FirstOrWord x = merged_tag x.t1 x.tm
tag_from source.Second x = x.t2
tag_from source.SecondOrWord x = merged_tag x.t2 x.tm

-- which of the operands and of the memory word it looks at

abbrev pub has_first : Source → Bool
has_first source.First = true
has_first source.FirstOrSecond = true
has_first source.FirstOrWord = true
has_first _ = false

abbrev pub has_second : Source → Bool
has_second source.Second = true
has_second source.FirstOrSecond = true
has_second source.SecondOrWord = true
has_second _ = false

abbrev pub has_word : Source → Bool
has_word source.FirstOrWord = true
has_word source.SecondOrWord = true
has_word _ = false

-- the instruction's own word is clean, and the first operand where it has to be
abbrev pub meets_row : Row → Ins TaintTag → Bool
meets_row row x = is_clean x.ci && (not row.is_guarded || is_clean x.t1)

-- the pc's tag is never looked at, the instruction's always, and of the others what has to be clean or taints the result
abbrev pub row_ignores : Row → Mask
row_ignores row = record {
  pc = true;
  ci = false;
  t1 = not (row.is_guarded || has_first row.result);
  t2 = not (has_second row.result);
  tm = not (has_word row.result);
}

-- a refusal goes by the name that authors' own policies have
abbrev pub refusal_for : Why → Refused
refusal_for reason = record { part = part.Own; why = reason }

-- the rule of a group with this row; the pc stays clean, so what a branch decides by tainted operands taints nothing
abbrev pub rule_by : Row → Group → Ins TaintTag → Result (Outs TaintTag) Refused
rule_by row g x =
    if meets_row row x then Ok (record { pc = Clean; result = tag_from row.result x }) else Err (refusal_for (why.Rule g))

abbrev pub taint_rule : Group → Ins TaintTag → Result (Outs TaintTag) Refused
taint_rule g x = rule_by (row_of g) g x

abbrev pub taint_ignores : Group → Mask
taint_ignores g = row_ignores (row_of g)

-- ---- the policy

abbrev pub taint_text : TaintTag → List ℕ
taint_text Clean = codes "clean"
taint_text Tainted = codes "tainted"

-- No service is offered, so `uses`, `plan`, `retag`, `commit` and `uncommit` are asked of none. Every value is lent to the
-- services of others, tainted ones too; a word that such a service makes zero is clean, and so is all of an image.
abbrev pub taint : PolicyModel TaintTag Taint
taint = record {
  plain = λ policy. Clean;
  rule = λ policy g x. taint_rule g x;
  ignores = λ policy g. taint_ignores g;
  peeks = λ policy. false;
  peek = λ policy shape first second. Ok tt;
  knows = λ policy number. false;
  uses = λ policy number. 0;
  lend = λ policy tag. Ok tt;
  room = λ policy. 0;
  plan = λ policy number a pc. Err plan_end.Spent;
  retag = λ policy plan old. Ok old;
  wipe = λ policy pc old. Ok Clean;
  commit = λ policy plan. policy;
  uncommit = λ policy plan. policy;
  start_pc = λ policy birth. Clean;
  start_word = λ policy birth. Clean;
  text = λ policy tag. taint_text tag;
  listed = λ policy place. None;
}
