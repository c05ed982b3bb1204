-- Secrecy: what may be told, and what may not. The value is the secret file's bytes, and how many of them were answered.
use Rattle.std.specs.Prelude.{ℕ, ◌+◌, ◌-◌, ◌%◌, ◌^◌, ◌≤◌, ◌==◌, nat_lt, Bool, true, false, not, ◌&&◌, ◌||◌, List, codes, Some, None, Result, Ok, Err, length, slice_index, if◌then◌else◌}
use Rattle.rv_decode.specs.declared.groups.Group.{Group}
use Rattle.rv_decode.specs.declared.groups.Group.TheVariants as group
use Rattle.policy_trait.specs.Model.{PolicyModel}
use Rattle.policy_trait.specs.declared.rules.Ins.{Ins}
use Rattle.policy_trait.specs.declared.rules.Mask.{Mask}
use Rattle.policy_trait.specs.declared.rules.Outs.{Outs}
use Rattle.policy_trait.specs.declared.rules.Part.{Part}
use Rattle.policy_trait.specs.declared.rules.Part.TheVariants as part
use Rattle.policy_trait.specs.declared.rules.Refused.{Refused}
use Rattle.policy_trait.specs.declared.rules.Why.{Why}
use Rattle.policy_trait.specs.declared.rules.Why.TheVariants as why
use Rattle.policy_trait.specs.declared.services.Plan.{Plan}
use Rattle.policy_trait.specs.declared.services.Rest.TheVariants as rest
use Rattle.secrecy_policy.specs.declared.table.Row.{Row}
use Rattle.secrecy_policy.specs.declared.table.Source.{Source}
use Rattle.secrecy_policy.specs.declared.table.Source.TheVariants as source
use Rattle.secrecy_policy.specs.declared.tag.SecretTag.{SecretTag}
use Rattle.secrecy_policy.specs.declared.tag.SecretTag.TheVariants.{Open, Secret}

-- the secret bytes, and how many of them were answered
pub record SecretState : Type 0 where
  pub bytes : List ℕ
  pub next : ℕ

-- no more were answered than there are
abbrev pub IsLeft : SecretState → Type 0
IsLeft s = s.next ≤ length s.bytes

-- ---- the rules, one row a group

-- the row of a group that needs these operands open, and of one that needs none

abbrev pub needing : Bool → Bool → Source → Row
needing first second from = record { first = first; second = second; result = from }

abbrev pub free : Source → Row
free from = needing false false from

-- the table of secrecy: which operands have to be open, and where the result's tag is from
abbrev pub row_of : Group → Row
row_of group.Const = free source.Nowhere
row_of group.Here = free source.Nowhere
row_of group.Jal = free source.Nowhere
row_of group.Jalr = needing true false source.Nowhere
row_of group.Branch = needing true true source.Nowhere
row_of group.LoadWord = needing true false source.Word
row_of group.LoadPart = needing true false source.Word
row_of group.StoreWord = needing true false source.Second
row_of group.StorePart = needing true false source.SecondOrWord
row_of group.Move = free source.First
row_of group.AddImm = free source.First
row_of group.AluImm = free source.First
row_of group.Add = free source.FirstOrSecond
row_of group.Sub = free source.FirstOrSecond
row_of group.Alu = free source.FirstOrSecond
row_of group.Fence = free source.Nowhere
row_of group.Exit = needing true true source.Nowhere
row_of group.Put = needing true true source.Nowhere
row_of group.Get = needing false true source.Nowhere
row_of group.Break = free source.Nowhere
row_of group.Call = needing false true source.Nowhere

-- ---- what a row says

abbrev pub is_open : SecretTag → Bool
is_open Open = true
is_open Secret = false

-- a tag is open where it has to be
abbrev pub is_fit : Bool → SecretTag → Bool
is_fit needed tag = not needed || is_open tag

-- the tag of what is computed from two values: secret where one of them is
abbrev pub merged_tag : SecretTag → SecretTag → SecretTag
merged_tag Open other = other
merged_tag Secret other = Secret

-- the tag of a result that is from there
abbrev pub tag_from : Source → Ins SecretTag → SecretTag
tag_from source.Nowhere x = Open
tag_from source.First x = x.t1
tag_from source.FirstOrSecond x = merged_tag x.t1 x.t2
tag_from source.Second x = x.t2
tag_from source.Word x = x.tm
tag_from source.SecondOrWord x = merged_tag x.t2 x.tm

-- which of the operands and of the memory word it looks at

abbrev pub has_first : Source → Bool
has_first source.First = true
has_first source.FirstOrSecond = true
has_first _ = false

abbrev pub has_second : Source → Bool
has_second source.Second = true
has_second source.FirstOrSecond = true
has_second source.SecondOrWord = true
has_second _ = false

abbrev pub has_word : Source → Bool
has_word source.Word = true
has_word source.SecondOrWord = true
has_word _ = false

-- the instruction's own word is open, and each operand that has to be
abbrev pub meets_row : Row → Ins SecretTag → Bool
meets_row row x = is_open x.ci && is_fit row.first x.t1 && is_fit row.second x.t2

-- the pc's tag is never looked at, the instruction's always, and of the others what has to be open or is in the result
abbrev pub row_ignores : Row → Mask
row_ignores row = record {
  pc = true;
  ci = false;
  t1 = not (row.first || has_first row.result);
  t2 = not (row.second || has_second row.result);
  tm = not (has_word row.result);
}

abbrev pub refused_for : Why → Refused
refused_for reason = record { part = part.Secret; why = reason }

-- the rule of a group with this row; the pc stays open, since no branch is decided by a secret
abbrev pub rule_by : Row → Group → Ins SecretTag → Result (Outs SecretTag) Refused
rule_by row g x =
    if meets_row row x then Ok (record { pc = Open; result = tag_from row.result x }) else Err (refused_for (why.Rule g))

abbrev pub secret_rule : Group → Ins SecretTag → Result (Outs SecretTag) Refused
secret_rule g x = rule_by (row_of g) g x

abbrev pub secret_ignores : Group → Mask
secret_ignores g = row_ignores (row_of g)

-- no secret is looked at before the rule, whatever the look
abbrev pub secret_peek : SecretTag → SecretTag → Result (Unit {0}) Refused
secret_peek first second = if is_open first && is_open second then Ok tt else Err (refused_for why.Peek)

-- ---- the service

-- answers the next secret byte
abbrev pub secret_service : ℕ
secret_service = 64

-- what is answered past the last one
abbrev pub no_secret : ℕ
no_secret = 4294967295

-- Of a number that is no byte, which no file has, the low byte is answered, so that a0 gets a word whatever stands in the list.
abbrev pub next_secret : SecretState → ℕ
next_secret s = if nat_lt s.next (length s.bytes) then slice_index s.bytes s.next % 2 ^ 8 else no_secret

-- how many bytes are answered: one, or none where none is left
abbrev pub answered : SecretState → ℕ
answered s = if nat_lt s.next (length s.bytes) then 1 else 0

-- The answer is secret, and plain to every other policy. How many bytes are answered is noted, so that the commit can be taken back.
abbrev pub secret_plan : SecretState → ℕ → SecretTag → Plan SecretTag
secret_plan s number pc = record {
  service = number;
  pc = pc;
  note = answered s;
  range = None;
  zero = false;
  answer = Some (record { value = next_secret s; tag = Secret; rest = rest.Plain });
}

-- where a byte was left, it was answered
abbrev pub after_secret : SecretState → SecretState
after_secret s = if nat_lt s.next (length s.bytes) then record s { next = s.next + 1 } else s

-- as many less as the plan notes
abbrev pub before_secret : SecretState → Plan SecretTag → SecretState
before_secret s plan = record s { next = s.next - plan.note }

-- only what is open is lent
abbrev pub secret_lend : SecretTag → Result (Unit {0}) Part
secret_lend tag = if is_open tag then Ok tt else Err part.Secret

-- ---- the policy

abbrev pub secret_text : SecretTag → List ℕ
secret_text Open = codes "open"
secret_text Secret = codes "secret"

-- A word that another policy's service makes zero is open, and so is all of an image.
abbrev pub secrecy : PolicyModel SecretTag SecretState
secrecy = record {
  plain = λ s. Open;
  rule = λ s g x. secret_rule g x;
  ignores = λ s g. secret_ignores g;
  peeks = λ s. true;
  peek = λ s shape first second. secret_peek first second;
  knows = λ s number. number == secret_service;
  uses = λ s number. 0;
  lend = λ s tag. secret_lend tag;
  room = λ s. 0;
  plan = λ s number a pc. Ok (secret_plan s number pc);
  retag = λ s plan old. Ok old;
  wipe = λ s pc old. Ok Open;
  commit = λ s plan. after_secret s;
  uncommit = before_secret;
  start_pc = λ s birth. Open;
  start_word = λ s birth. Open;
  text = λ s tag. secret_text tag;
  listed = λ s place. None;
}
