-- Control-flow integrity: code is executed and not written, and jumps by register go along edges between labels. The
-- policy's value is the list of its edges (s, d): a jump labelled s may go to a word labelled d.
use Rattle.std.specs.Prelude.{ℕ, ◌==◌, Bool, true, false, not, ◌&&◌, List, ◌++◌, codes, Option, Some, None, option_map, Result, Ok, Err, if◌then◌else◌}
use Rattle.std.specs.Fmt.{decimal}
use Rattle.std.specs.List.{list_any}
use Rattle.rv_decode.specs.declared.groups.Group.{Group}
use Rattle.rv_decode.specs.declared.groups.Group.TheVariants as group
use Rattle.policy_trait.specs.Model.{PolicyModel}
use Rattle.policy_trait.specs.declared.birth.Birth.{Birth}
use Rattle.policy_trait.specs.declared.rules.Ins.{Ins}
use Rattle.policy_trait.specs.declared.rules.Mask.{Mask}
use Rattle.policy_trait.specs.declared.rules.Outs.{Outs}
use Rattle.policy_trait.specs.declared.rules.Part.TheVariants as part
use Rattle.policy_trait.specs.declared.rules.Refused.{Refused}
use Rattle.policy_trait.specs.declared.rules.Why.{Why}
use Rattle.policy_trait.specs.declared.rules.Why.TheVariants as why
use Rattle.policy_trait.specs.declared.services.PlanEnd.TheVariants as plan_end
use Rattle.flow_policy.specs.declared.table.Effect.{Effect}
use Rattle.flow_policy.specs.declared.table.Effect.TheVariants.{Jumps, Stores, GoesOn}
use Rattle.flow_policy.specs.declared.tag.FlowTag.{FlowTag}
use Rattle.flow_policy.specs.declared.tag.FlowTag.TheVariants.{Plain, Still, From, Code, Data}

-- any edges will do
abbrev pub HoldsAlways : List (ℕ × ℕ) → Type 0
HoldsAlways edges = Unit {0}

-- ---- where a pc may go

-- a jump labelled `source` may go to a word labelled `target`
abbrev pub is_edge : List (ℕ × ℕ) → ℕ → ℕ → Bool
is_edge edges source target = list_any (λ edge. (edge.0 == source) && (edge.1 == target)) edges

-- a pc that no jump by register led to may come to any code word; a jump's, to a labelled one that an edge joins to it
abbrev pub may_enter : List (ℕ × ℕ) → FlowTag → Option ℕ → Bool
may_enter edges Still label = true
may_enter edges (From source) (Some target) = is_edge edges source target
may_enter edges (From source) None = false
may_enter edges Plain label = false
may_enter edges (Code l) label = false
may_enter edges Data label = false

-- the label of a code word, if it has one; none at all of another word
abbrev pub label_of : FlowTag → Option (Option ℕ)
label_of (Code label) = Some label
label_of _ = None

abbrev pub entered_by : List (ℕ × ℕ) → FlowTag → Option (Option ℕ) → Option (Option ℕ)
entered_by edges pc None = None
entered_by edges pc (Some label) = if may_enter edges pc label then Some label else None

-- the label, if there is one, of the code word that the pc may come to; none at all where it may not
abbrev pub entry_label : List (ℕ × ℕ) → FlowTag → FlowTag → Option (Option ℕ)
entry_label edges pc instruction = entered_by edges pc (label_of instruction)

-- ---- the rules

-- what a group does
abbrev pub effect_of : Group → Effect
effect_of group.Jalr = Jumps
effect_of group.StoreWord = Stores
effect_of group.StorePart = Stores
effect_of _ = GoesOn

abbrev pub is_data : FlowTag → Bool
is_data Data = true
is_data _ = false

-- the next tags, at a code word with this label and a memory word with that tag: a jump needs a label, and a store data
abbrev pub outs_by : Effect → Option ℕ → FlowTag → Option (Outs FlowTag)
outs_by Jumps label word = option_map (λ source. record { pc = From source; result = Plain }) label
outs_by Stores label word = if is_data word then Some (record { pc = Still; result = Data }) else None
outs_by GoesOn label word = Some (record { pc = Still; result = Plain })

-- the memory word is used where it is written, and no operand ever
abbrev pub is_store : Effect → Bool
is_store Stores = true
is_store _ = false

abbrev pub ignores_by : Effect → Mask
ignores_by effect = record { pc = false; ci = false; t1 = true; t2 = true; tm = not (is_store effect) }

abbrev pub refused_for : Why → Refused
refused_for reason = record { part = part.Flow; why = reason }

abbrev pub outs_or_refusal : Group → Option (Outs FlowTag) → Result (Outs FlowTag) Refused
outs_or_refusal g None = Err (refused_for (why.Rule g))
outs_or_refusal g (Some outs) = Ok outs

-- the rule of a group with this effect, where the pc comes to a code word with this label
abbrev pub rule_by : Effect → Group → Option (Option ℕ) → FlowTag → Result (Outs FlowTag) Refused
rule_by effect g None word = Err (refused_for (why.Rule g))
rule_by effect g (Some label) word = outs_or_refusal g (outs_by effect label word)

abbrev pub flow_rule : List (ℕ × ℕ) → Group → Ins FlowTag → Result (Outs FlowTag) Refused
flow_rule edges g x = rule_by (effect_of g) g (entry_label edges x.pc x.ci) x.tm

abbrev pub flow_ignores : Group → Mask
flow_ignores g = ignores_by (effect_of g)

-- ---- zeroing, starts and texts

-- only data may become zero by another policy's service
abbrev pub flow_wipe : FlowTag → Result FlowTag Refused
flow_wipe old = if is_data old then Ok Data else Err (refused_for why.Consent)

abbrev pub flow_start_word : Birth → FlowTag
flow_start_word birth = if birth.code then Code birth.label else Data

abbrev pub label_text : Option ℕ → List ℕ
label_text None = codes "-"
label_text (Some number) = decimal number

abbrev pub flow_text : FlowTag → List ℕ
flow_text Plain = codes "plain"
flow_text Still = codes "still"
flow_text (From source) = codes "from(" ++ decimal source ++ codes ")"
flow_text (Code label) = codes "code(" ++ label_text label ++ codes ")"
flow_text Data = codes "data"

-- no service is offered
abbrev pub flow : PolicyModel FlowTag (List (ℕ × ℕ))
flow = record {
  plain = λ edges. Plain;
  rule = flow_rule;
  ignores = λ edges g. flow_ignores g;
  peeks = λ edges. false;
  peek = λ edges shape first second. Ok tt;
  knows = λ edges number. false;
  uses = λ edges number. 0;
  lend = λ edges tag. Ok tt;
  room = λ edges. 0;
  plan = λ edges number a pc. Err plan_end.Spent;
  retag = λ edges plan old. Ok old;
  wipe = λ edges pc old. flow_wipe old;
  commit = λ edges plan. edges;
  uncommit = λ edges plan. edges;
  start_pc = λ edges birth. Still;
  start_word = λ edges birth. flow_start_word birth;
  text = λ edges tag. flow_text tag;
  listed = λ edges place. None;
}
