-- Compartments: each memory word has an owner, a set of those that may jump to it and a set of those that may write it.
-- The policy's value is how many compartments there are, and how many there may be.
use Rattle.std.specs.Prelude.{ℕ, ◌+◌, ◌-◌, ◌*◌, ◌%◌, ◌^◌, ◌<◌, ◌≤◌, ◌==◌, nat_le, nat_lt, Bool, true, false, not, ◌&&◌, ◌||◌, List, ◌++◌, codes, Option, Some, None, Result, Ok, Err, if◌then◌else◌}
use Rattle.std.specs.Fmt.{decimal}
use Rattle.rv_decode.specs.declared.groups.Group.{Group}
use Rattle.rv_decode.specs.declared.groups.Group.TheVariants as group
use Rattle.policy_trait.specs.Model.{PolicyModel}
use Rattle.policy_trait.specs.Sets.{CompartmentSet, has, mask_text, set_of, set_with}
use Rattle.policy_trait.specs.declared.rules.Ins.{Ins}
use Rattle.policy_trait.specs.declared.rules.Mask.{Mask}
use Rattle.policy_trait.specs.declared.rules.Outs.{Outs}
use Rattle.policy_trait.specs.declared.rules.Part.TheVariants.{Comp}
use Rattle.policy_trait.specs.declared.rules.Refused.{Refused}
use Rattle.policy_trait.specs.declared.rules.Why.{Why}
use Rattle.policy_trait.specs.declared.rules.Why.TheVariants as why
use Rattle.policy_trait.specs.declared.services.Args.{Args}
use Rattle.policy_trait.specs.declared.services.Plan.{Plan}
use Rattle.policy_trait.specs.declared.services.PlanEnd.{PlanEnd}
use Rattle.policy_trait.specs.declared.services.PlanEnd.TheVariants as plan_end
use Rattle.policy_trait.specs.declared.services.Rest.TheVariants as rest
use Rattle.policy_trait.specs.declared.services.Words.{Words}
use Rattle.compartment_policy.specs.declared.tag.CompartmentTag.{CompartmentTag}
use Rattle.compartment_policy.specs.declared.tag.CompartmentTag.TheVariants.{Plain, Pc, Place}

-- a set of compartments has room for so many, which are numbered from 0
abbrev pub compartment_limit : ℕ
compartment_limit = 128

-- how many compartments there are, which is the number of the next, and how many there may be
pub record CompartmentState : Type 0 where
  pub count : ℕ
  pub limit : ℕ

-- so many compartments, and as many as a set has room for may come to be
abbrev pub first_compartments : ℕ → CompartmentState
first_compartments count = record { count = count; limit = compartment_limit }

-- there is one at least, and there are no more than there may be, which a set has room for
pub record IsCount (state : CompartmentState) : Type 0 where
  pub some : 1 ≤ state.count
  pub within : state.count ≤ state.limit
  pub few : state.limit ≤ compartment_limit

abbrev pub refused_for : Why → Refused
refused_for reason = record { part = Comp; why = reason }

-- ---- the rules

-- the owner of the instruction's word, where the pc may go there: from a word of the same owner, or by a jump from a
-- compartment that the word lets in
abbrev pub entry_owner : CompartmentTag → CompartmentTag → Option ℕ
entry_owner (Pc jumped from) (Place owner into write) = if (from == owner) || (jumped && has into from) then Some owner else None
entry_owner (Pc jumped from) Plain = None
entry_owner (Pc jumped from) (Pc also owner) = None
entry_owner Plain instruction = None
entry_owner (Place owner into write) instruction = None

-- a compartment writes its own words, and those that let it write
abbrev pub may_write : ℕ → CompartmentTag → Bool
may_write compartment (Place owner into write) = (owner == compartment) || has write compartment
may_write compartment Plain = false
may_write compartment (Pc jumped owner) = false

abbrev pub is_jump : Group → Bool
is_jump group.Jal = true
is_jump group.Jalr = true
is_jump _ = false

abbrev pub is_store : Group → Bool
is_store group.StoreWord = true
is_store group.StorePart = true
is_store _ = false

-- an instruction of the compartment that owns its word: a store asks of its memory word, and leaves that word's tag
abbrev pub run_by : Option ℕ → Group → Ins CompartmentTag → Result (Outs CompartmentTag) Refused
run_by None g x = Err (refused_for (why.Rule g))
run_by (Some owner) g x =
    if not (is_store g) || may_write owner x.tm
    then Ok (record { pc = Pc (is_jump g) owner; result = if is_store g then x.tm else Plain })
    else Err (refused_for (why.Rule g))

abbrev pub compartment_rule : Group → Ins CompartmentTag → Result (Outs CompartmentTag) Refused
compartment_rule g x = run_by (entry_owner x.pc x.ci) g x

-- the tags of the pc and of the instruction are always used, the memory word's by a store
abbrev pub compartment_ignores : Group → Mask
compartment_ignores g = record { pc = false; ci = false; t1 = true; t2 = true; tm = not (is_store g) }

-- the pc's tag is that of a compartment that may write a word with the other tag
abbrev pub is_writer : CompartmentTag → CompartmentTag → Bool
is_writer (Pc jumped owner) word = may_write owner word
is_writer Plain word = false
is_writer (Place owner into write) word = false

-- a word is zeroed for a compartment that may write it, and keeps its tag
abbrev pub compartment_wipe : CompartmentTag → CompartmentTag → Result CompartmentTag Refused
compartment_wipe pc old = if is_writer pc old then Ok old else Err (refused_for why.Consent)

-- ---- the services, by their numbers

-- splits words off as a new compartment
abbrev pub split_service : ℕ
split_service = 32

-- lets a compartment jump to words
abbrev pub let_in_service : ℕ
let_in_service = 33

-- lets a compartment write words
abbrev pub let_write_service : ℕ
let_write_service = 34

abbrev pub compartment_knows : ℕ → Bool
compartment_knows number = (number == split_service) || (number == let_in_service) || (number == let_write_service)

abbrev pub compartment_uses : ℕ → ℕ
compartment_uses number = if number == split_service then 2 else 3

-- a0 is the base of the words, a1 their count
abbrev pub words_of : Args CompartmentTag → Words
words_of a = record { base = a.a0; count = a.a1 }

-- whole words within memory, at least one
abbrev pub is_range : ℕ → Words → Bool
is_range ram words = (words.base % 4 == 0) && (nat_le 1 words.count && nat_le (words.base + 4 * words.count) ram)

abbrev pub refused_plan : Why → Result (Plan CompartmentTag) PlanEnd
refused_plan reason = Err (plan_end.Refused (refused_for reason))

-- the words as the next compartment, and its number as the answer
abbrev pub splitting : ℕ → Words → CompartmentTag → Plan CompartmentTag
splitting count words pc = record {
  service = split_service;
  pc = pc;
  note = count;
  range = Some words;
  zero = false;
  answer = Some (record { value = count; tag = Plain; rest = rest.Plain });
}

-- while there may be one more
abbrev pub split_plan : CompartmentState → Args CompartmentTag → CompartmentTag → Result (Plan CompartmentTag) PlanEnd
split_plan state a pc =
    if is_range a.ram (words_of a) then
    (if nat_lt state.count state.limit then Ok (splitting state.count (words_of a) pc) else Err plan_end.Spent)
    else refused_plan why.Range

-- the compartment let into the words, or let write them
abbrev pub letting : ℕ → ℕ → Words → CompartmentTag → Plan CompartmentTag
letting number other words pc = record { service = number; pc = pc; note = other; range = Some words; zero = false; answer = None }

-- a2 is the number of a compartment
abbrev pub let_plan : ℕ → ℕ → Args CompartmentTag → CompartmentTag → Result (Plan CompartmentTag) PlanEnd
let_plan number count a pc =
    if is_range a.ram (words_of a) then
    (if nat_lt a.a2 count then Ok (letting number a.a2 (words_of a) pc) else refused_plan why.Args)
    else refused_plan why.Range

abbrev pub compartment_plan : CompartmentState → ℕ → Args CompartmentTag → CompartmentTag → Result (Plan CompartmentTag) PlanEnd
compartment_plan state number a pc = if number == split_service then split_plan state a pc else let_plan number state.count a pc

-- what the service makes of an owner's word, where `other` is the compartment that it names
abbrev pub given_by : ℕ → ℕ → ℕ → CompartmentSet → CompartmentSet → CompartmentTag
given_by number other owner into write =
    if number == split_service then Place other (set_of 0) (set_of 0) else
    if number == let_in_service then Place owner (set_with into other) write else
    Place owner into (set_with write other)

-- the caller owns the ECALL's word, and has to own each word of the range
abbrev pub new_place : ℕ → ℕ → CompartmentTag → CompartmentTag → Result CompartmentTag Refused
new_place number other (Pc jumped caller) (Place owner into write) =
    if caller == owner then Ok (given_by number other owner into write) else Err (refused_for why.NotOwner)
new_place number other (Pc jumped caller) Plain = Err (refused_for why.NotOwner)
new_place number other (Pc jumped caller) (Pc also owner) = Err (refused_for why.NotOwner)
new_place number other Plain old = Err (refused_for why.NotOwner)
new_place number other (Place owner into write) old = Err (refused_for why.NotOwner)

-- a number that was given is never given again
abbrev pub compartment_commit : CompartmentState → Plan CompartmentTag → CompartmentState
compartment_commit state plan = record state { count = if plan.service == split_service then state.count + 1 else state.count }

abbrev pub compartment_uncommit : CompartmentState → Plan CompartmentTag → CompartmentState
compartment_uncommit state plan = record state { count = if plan.service == split_service then state.count - 1 else state.count }

-- ---- the texts

abbrev pub compartment_text : CompartmentTag → List ℕ
compartment_text Plain = codes "plain"
compartment_text (Pc jumped owner) = codes "pc(" ++ decimal owner ++ (if jumped then codes ",j)" else codes ",-)")
compartment_text (Place owner into write) =
    codes "place(" ++ decimal owner ++ codes "," ++ mask_text into.bits ++ codes "," ++ mask_text write.bits ++ codes ")"

-- a tag whose owner is a word and whose sets have 128 bits, as a program's are
abbrev pub HasFittingNumbers : CompartmentTag → Type 0
HasFittingNumbers Plain = Unit {0}
HasFittingNumbers (Pc jumped owner) = owner < 2 ^ 32
HasFittingNumbers (Place owner into write) = (owner < 2 ^ 32) × (into.bits < 2 ^ 128) × (write.bits < 2 ^ 128)

abbrev pub compartments : PolicyModel CompartmentTag CompartmentState
compartments = record {
  plain = λ state. Plain;
  rule = λ state g x. compartment_rule g x;
  ignores = λ state g. compartment_ignores g;
  peeks = λ state. false;
  peek = λ state shape first second. Ok tt;
  knows = λ state number. compartment_knows number;
  uses = λ state number. compartment_uses number;
  lend = λ state tag. Ok tt;
  room = λ state. 0;
  plan = compartment_plan;
  retag = λ state plan old. new_place plan.service plan.note plan.pc old;
  wipe = λ state pc old. compartment_wipe pc old;
  commit = compartment_commit;
  uncommit = compartment_uncommit;
  start_pc = λ state birth. Pc false birth.owner;
  start_word = λ state birth. Place birth.owner birth.into birth.write;
  text = λ state tag. compartment_text tag;
  listed = λ state place. None;
}
