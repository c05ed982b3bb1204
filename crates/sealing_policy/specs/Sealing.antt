-- Dynamic sealing: values sealed by a key, which only that key unseals. The policy's value is how many keys were made.
use Rattle.std.specs.Prelude.{ℕ, ◌+◌, ◌-◌, ◌≤◌, ◌==◌, nat_lt, Bool, true, false, not, ◌&&◌, ◌||◌, List, ◌++◌, codes, Some, None, Result, Ok, Err, if◌then◌else◌}
use Rattle.std.specs.Fmt.{decimal}
use Rattle.rv_decode.specs.declared.groups.Group.{Group}
use Rattle.rv_decode.specs.declared.groups.Group.TheVariants as group
use Rattle.policy_trait.specs.Model.{PolicyModel}
use Rattle.policy_trait.specs.declared.rules.Ins.{Ins}
use Rattle.policy_trait.specs.declared.rules.Mask.{Mask}
use Rattle.policy_trait.specs.declared.rules.Outs.{Outs}
use Rattle.policy_trait.specs.declared.rules.Part.{Part}
use Rattle.policy_trait.specs.declared.rules.Part.TheVariants.{Seal}
use Rattle.policy_trait.specs.declared.rules.Refused.{Refused}
use Rattle.policy_trait.specs.declared.rules.Why.{Why}
use Rattle.policy_trait.specs.declared.rules.Why.TheVariants as why
use Rattle.policy_trait.specs.declared.services.Args.{Args}
use Rattle.policy_trait.specs.declared.services.Plan.{Plan}
use Rattle.policy_trait.specs.declared.services.PlanEnd.{PlanEnd}
use Rattle.policy_trait.specs.declared.services.PlanEnd.TheVariants as plan_end
use Rattle.policy_trait.specs.declared.services.Rest.{Rest}
use Rattle.policy_trait.specs.declared.services.Rest.TheVariants as rest
use Rattle.sealing_policy.specs.declared.table.Row.{Row}
use Rattle.sealing_policy.specs.declared.table.Source.{Source}
use Rattle.sealing_policy.specs.declared.table.Source.TheVariants.{Plain, OfFirst, OfSecond, OfWord}
use Rattle.sealing_policy.specs.declared.tag.SealTag.{SealTag}
use Rattle.sealing_policy.specs.declared.tag.SealTag.TheVariants.{Data, Key, Sealed}

-- so many keys can be made; none is ever used again
abbrev pub key_limit : ℕ
key_limit = 65536

abbrev pub HasFewKeys : ℕ → Type 0
HasFewKeys keys = keys ≤ key_limit

-- ---- the rules, one row a group

-- the row of a group that needs nothing and whose result is data
abbrev pub free : Row
free = record { first = false; second = false; word = false; result = Plain }

-- the table of sealing: what a group needs to be data, and where its result's tag is from
abbrev pub row_of : Group → Row
row_of group.Const = free
row_of group.Here = free
row_of group.Jal = free
row_of group.Jalr = record free { first = true }
row_of group.Branch = record free { first = true; second = true }
row_of group.LoadWord = record free { first = true; result = OfWord }
row_of group.LoadPart = record free { first = true; word = true }
row_of group.StoreWord = record free { first = true; result = OfSecond }
row_of group.StorePart = record free { first = true; second = true; word = true }
row_of group.Move = record free { result = OfFirst }
row_of group.AddImm = record free { first = true }
row_of group.AluImm = record free { first = true }
row_of group.Add = record free { first = true; second = true }
row_of group.Sub = record free { first = true; second = true }
row_of group.Alu = record free { first = true; second = true }
row_of group.Fence = free
row_of group.Exit = record free { first = true; second = true }
row_of group.Put = record free { first = true; second = true }
row_of group.Get = record free { first = true; second = true }
row_of group.Break = free
row_of group.Call = record free { second = true }

-- ---- what a row says

-- which of the operands and of the memory word the result has its tag from

abbrev pub is_of_first : Source → Bool
is_of_first OfFirst = true
is_of_first _ = false

abbrev pub is_of_second : Source → Bool
is_of_second OfSecond = true
is_of_second _ = false

abbrev pub is_of_word : Source → Bool
is_of_word OfWord = true
is_of_word _ = false

-- what the result has its tag from is used, and what has to be data; the instruction's tag always, the pc's never
abbrev pub row_ignores : Row → Mask
row_ignores row = record {
  pc = true;
  ci = false;
  t1 = not (row.first || is_of_first row.result);
  t2 = not (row.second || is_of_second row.result);
  tm = not (row.word || is_of_word row.result);
}

abbrev pub is_data : SealTag → Bool
is_data Data = true
is_data (Key k) = false
is_data (Sealed k) = false

-- a tag is data where it has to be
abbrev pub is_fit : Bool → SealTag → Bool
is_fit needed tag = if needed then is_data tag else true

abbrev pub meets_row : Row → Ins SealTag → Bool
meets_row row x = is_data x.ci && is_fit row.first x.t1 && is_fit row.second x.t2 && is_fit row.word x.tm

abbrev pub tag_from : Source → Ins SealTag → SealTag
tag_from Plain x = Data
tag_from OfFirst x = x.t1
tag_from OfSecond x = x.t2
tag_from OfWord x = x.tm

abbrev pub refused_for : Why → Refused
refused_for reason = record { part = Seal; why = reason }

-- the rule of a group with this row
abbrev pub rule_by : Row → Group → Ins SealTag → Result (Outs SealTag) Refused
rule_by row g x =
    if meets_row row x then Ok (record { pc = Data; result = tag_from row.result x }) else Err (refused_for (why.Rule g))

abbrev pub sealing_rule : Group → Ins SealTag → Result (Outs SealTag) Refused
sealing_rule g x = rule_by (row_of g) g x

abbrev pub sealing_ignores : Group → Mask
sealing_ignores g = row_ignores (row_of g)

-- ---- the services, by their numbers

-- makes a key
abbrev pub make_key_service : ℕ
make_key_service = 16

-- seals a0 with the key in a1
abbrev pub seal_service : ℕ
seal_service = 17

-- unseals a0 with the key in a1
abbrev pub unseal_service : ℕ
unseal_service = 18

abbrev pub sealing_knows : ℕ → Bool
sealing_knows number = (number == make_key_service) || (number == seal_service) || (number == unseal_service)

abbrev pub sealing_uses : ℕ → ℕ
sealing_uses number = if number == make_key_service then 0 else 2

-- only data is lent
abbrev pub sealing_lend : SealTag → Result (Unit {0}) Part
sealing_lend tag = if is_data tag then Ok tt else Err Seal

abbrev pub answering : ℕ → SealTag → ℕ → SealTag → Rest → Plan SealTag
answering number pc value tag others =
    record { service = number; pc = pc; note = 0; range = None; zero = false; answer = Some (record { value = value; tag = tag; rest = others }) }

abbrev pub refused_plan : Why → Result (Plan SealTag) PlanEnd
refused_plan reason = Err (plan_end.Refused (refused_for reason))

-- the next key
abbrev pub key_plan : ℕ → SealTag → Result (Plan SealTag) PlanEnd
key_plan keys pc = if nat_lt keys key_limit then Ok (answering make_key_service pc keys (Key keys) rest.Plain) else Err plan_end.Spent

-- data in a0 and a key in a1: a0 sealed by that key
abbrev pub seal_plan : Args SealTag → SealTag → SealTag → SealTag → Result (Plan SealTag) PlanEnd
seal_plan a pc Data (Key k) = Ok (answering seal_service pc a.a0 (Sealed k) rest.AsA0)
seal_plan a pc Data Data = refused_plan why.Args
seal_plan a pc Data (Sealed k) = refused_plan why.Args
seal_plan a pc (Key k) lock = refused_plan why.Args
seal_plan a pc (Sealed k) lock = refused_plan why.Args

-- a sealed value in a0 and its key in a1: a0 as data. The tag of a1 says which key it is.
abbrev pub unseal_plan : Args SealTag → SealTag → SealTag → SealTag → Result (Plan SealTag) PlanEnd
unseal_plan a pc (Sealed k) (Key j) = if k == j then Ok (answering unseal_service pc a.a0 Data rest.AsA0) else refused_plan why.WrongKey
unseal_plan a pc (Sealed k) Data = refused_plan why.Args
unseal_plan a pc (Sealed k) (Sealed j) = refused_plan why.Args
unseal_plan a pc Data key = refused_plan why.Args
unseal_plan a pc (Key k) key = refused_plan why.Args

abbrev pub sealing_plan : ℕ → ℕ → Args SealTag → SealTag → Result (Plan SealTag) PlanEnd
sealing_plan keys number a pc =
    if number == make_key_service then key_plan keys pc else
    if number == seal_service then seal_plan a pc a.t0 a.t1 else
    unseal_plan a pc a.t0 a.t1

-- a key that was made is never made again
abbrev pub sealing_commit : ℕ → Plan SealTag → ℕ
sealing_commit keys plan = if plan.service == make_key_service then keys + 1 else keys

abbrev pub sealing_uncommit : ℕ → Plan SealTag → ℕ
sealing_uncommit keys plan = if plan.service == make_key_service then keys - 1 else keys

abbrev pub sealing_text : SealTag → List ℕ
sealing_text Data = codes "data"
sealing_text (Key k) = codes "key(" ++ decimal k ++ codes ")"
sealing_text (Sealed k) = codes "sealed(" ++ decimal k ++ codes ")"

abbrev pub sealing : PolicyModel SealTag ℕ
sealing = record {
  plain = λ keys. Data;
  rule = λ keys g x. sealing_rule g x;
  ignores = λ keys g. sealing_ignores g;
  peeks = λ keys. false;
  peek = λ keys shape first second. Ok tt;
  knows = λ keys number. sealing_knows number;
  uses = λ keys number. sealing_uses number;
  lend = λ keys tag. sealing_lend tag;
  room = λ keys. 0;
  plan = sealing_plan;
  retag = λ keys plan old. Ok old;
  wipe = λ keys pc old. Ok Data;
  commit = sealing_commit;
  uncommit = sealing_uncommit;
  start_pc = λ keys birth. Data;
  start_word = λ keys birth. Data;
  text = λ keys tag. sealing_text tag;
  listed = λ keys place. None;
}
