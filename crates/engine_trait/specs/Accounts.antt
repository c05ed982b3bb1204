-- The account of an engine: the tags that have words, the keys of kept rules, the counts, and why it is stopped as a whole.
use Rattle.std.specs.Prelude.{◌≡◌, ℕ, ◌%◌, ◌==◌, Bool, ◌&&◌, not, nat_lt, List, [], ◌∷◌, ◌++◌, filter, length, map, take, Option, Some, None, Result, Ok, Err, if◌then◌else◌, slice_index_or, slice_set}
use Rattle.std.specs.List.{list_any}
use Rattle.rv_decode.specs.contracts.groups.GroupPartialEq.TheImpl.{eq-value}
use Rattle.rv_decode.specs.declared.groups.Group.{Group}
use Rattle.rv_decode.specs.declared.groups.Group.TheVariants as group
use Rattle.policy_trait.specs.Model.{PolicyModel, masked_inputs}
use Rattle.policy_trait.specs.declared.rules.Ins.{Ins}
use Rattle.policy_trait.specs.declared.rules.Outs.{Outs}
use Rattle.policy_trait.specs.declared.services.Answer.{Answer}
use Rattle.monitor_calls.specs.Service.{Job}
use Rattle.turn_steps.specs.declared.look.Look.{Look}
use Rattle.turn_steps.specs.declared.stop.Stop.{Stop}
use Rattle.shared_terms.specs.Counts.{next_count}
use Rattle.undo_log.specs.Past.{Past, Record, past_of, past_tags, pushed}
use Rattle.engine_trait.specs.Machine.{Machine, core_tags}
use Rattle.engine_trait.specs.Turn.{job_at, preparation, rule_answer, rule_at, rule_inputs}
use Rattle.engine_trait.specs.declared.ends.Counts.{Counts}
use Rattle.engine_trait.specs.declared.ends.Halt.{Halt}

-- whether two groups are the same
abbrev pub group_eq : Group → Group → Bool
group_eq = eq-value.it

-- the groups in the order of the table of groups, from 1
abbrev pub group_number : Group → ℕ
group_number group.Const = 1
group_number group.Here = 2
group_number group.Jal = 3
group_number group.Jalr = 4
group_number group.Branch = 5
group_number group.LoadWord = 6
group_number group.LoadPart = 7
group_number group.StoreWord = 8
group_number group.StorePart = 9
group_number group.Move = 10
group_number group.AddImm = 11
group_number group.AluImm = 12
group_number group.Add = 13
group_number group.Sub = 14
group_number group.Alu = 15
group_number group.Fence = 16
group_number group.Exit = 17
group_number group.Put = 18
group_number group.Get = 19
group_number group.Break = 20
group_number group.Call = 21

-- the set of rules that a group belongs to, where there are so many
abbrev pub set_of : Group → ℕ → ℕ
set_of group count = group_number group % count

-- what a rule is looked up by: the group and the five tags, each input that the policy ignores made plain
pub record Key (T : Type 0) : Type 0 where
  pub group : Group
  pub inputs : Ins T

-- what an engine has counted and keeps beside its machine, and why it is stopped as a whole, if it is
pub record Account (T : Type 0) : Type 0 where
  -- the tags that have words, none twice, and how many may have; nothing that is told rests on their order
  pub table : List T
  pub limit : ℕ
  -- the keys of the rules that are kept, a list for each set, the most recent first, and how many each set may have. With 0
  -- there are no words, no limit and no kept rules.
  pub sets : List (List (Key T))
  pub ways : ℕ
  pub turns : ℕ
  pub hits : ℕ
  pub misses : ℕ
  pub sweeps : ℕ
  pub halt : Option Halt
  -- the records of the last turns, by which they can be taken back
  pub past : Past T T

-- the account of an engine that keeps no rules: no tag has a word
pub record IsUncached {T : Type 0} (account : Account T) : Type 0 where
  pub ways : account.ways ≡ 0
  pub table : account.table ≡ []
  pub sets : account.sets ≡ [] ∷ []

-- what an engine tells of its counts
abbrev pub counts_of : {T : Type 0} → Account T → Counts
counts_of account = record { turns = account.turns; hits = account.hits; misses = account.misses; sweeps = account.sweeps }

-- an engine that keeps no rules and no records, at the start
abbrev pub plain_account : {T : Type 0} → Account T
plain_account = record { table = []; limit = 0; sets = [] ∷ []; ways = 0; turns = 0; hits = 0; misses = 0; sweeps = 0; halt = None; past = past_of [] 0 }

-- with room for so many records, and none kept yet
abbrev pub with_history : {T : Type 0} → ℕ → Account T → Account T
with_history most account = record account { past = past_of [] most }

-- with one record more, the newest
abbrev pub remembering : {T : Type 0} → Record T T → Account T → Account T
remembering made account = record account { past = pushed account.past made }

-- more tags have words than may have
abbrev pub is_over : {T : Type 0} → Account T → Bool
is_over account = nat_lt account.limit (length account.table)

module _ {T : Type 0} (eq : T → T → Bool) where
  -- a tag that is new goes to the end
  abbrev pub with_tag : List T → T → List T
  with_tag seen tag = if list_any (eq tag) seen then seen else seen ++ tag ∷ []

  -- the same for each tag of a list in turn
  abbrev pub with_tags : List T → List T → List T
  with_tags seen [] = seen
  with_tags seen (tag ∷ tags) = with_tags (with_tag seen tag) tags

  -- whether the five tags are the same
  abbrev pub same_inputs : Ins T → Ins T → Bool
  same_inputs x y = eq x.pc y.pc && eq x.ci y.ci && eq x.t1 y.t1 && eq x.t2 y.t2 && eq x.tm y.tm

  -- whether the group and the five tags are the same
  abbrev pub same_key : Key T → Key T → Bool
  same_key x y = group_eq x.group y.group && same_inputs x.inputs y.inputs

  -- the kept keys of the set that a key belongs to
  abbrev pub set_keys : Key T → Account T → List (Key T)
  set_keys key account = slice_index_or account.sets (set_of key.group (length account.sets)) []

  -- whether a rule is kept under the key
  abbrev pub is_kept : Key T → Account T → Bool
  is_kept key account = list_any (same_key key) (set_keys key account)

  -- the key goes to the front, and the last one goes where there are too many
  abbrev pub fronted : ℕ → Key T → List (Key T) → List (Key T)
  fronted ways key keys = take ways (key ∷ filter (λ other. not (same_key key other)) keys)

  -- it does so in its set
  abbrev pub keeping : Key T → Account T → Account T
  keeping key account =
      record account { sets = slice_set account.sets (set_of key.group (length account.sets)) (fronted account.ways key (set_keys key account)) }

  -- a look-up is a hit, which moves the key to the front, or a miss
  abbrev pub looked_up : Key T → Account T → Account T
  looked_up key account =
      if is_kept key account then record (keeping key account) { hits = next_count account.hits } else record account { misses = next_count account.misses }

  -- the tags have words from now on
  abbrev pub seeing : List T → Account T → Account T
  seeing tags account = if account.ways == 0 then account else record account { table = with_tags account.table tags }

  -- an allowed rule is kept, and its outputs have words
  abbrev pub rule_kept : {E : Type 0} → Key T → Result (Outs T) E → Account T → Account T
  rule_kept key (Ok outs) account = seeing (outs.pc ∷ outs.result ∷ []) (keeping key account)
  rule_kept key (Err why) account = account

  -- a sweep, which is counted: just these tags and those in the records have words from now on, and no rule is kept
  abbrev pub swept : List T → Account T → Account T
  swept tags account =
      record account { table = with_tags [] (tags ++ past_tags account.past); sets = map (λ keys. []) account.sets; sweeps = next_count account.sweeps }

  -- A step in which tags get words. Where more would have one than may, a sweep comes first, which leaves theirs to the tags that
  -- stand somewhere.
  abbrev pub with_room : List T → (Account T → Account T) → Account T → Account T
  with_room standing step account = if is_over (step account) then step (swept standing account) else step account

-- the tag of an answer
abbrev pub answer_tags : {T : Type 0} → Option (Answer T) → List T
answer_tags None = []
answer_tags (Some answer) = answer.tag ∷ []

-- the tags that a service writes: those of its range, ascending, and that of its answer
abbrev pub written_tags : {T : Type 0} → Job T → List T
written_tags job = map (λ word. word.2) job.words ++ answer_tags job.plan.answer

-- the first of them, if there is any
abbrev pub first_written : {T : Type 0} → Job T → List T
first_written job = take 1 (written_tags job)

-- the outputs of a rule that allows
abbrev pub ruled_tags : {T E : Type 0} → Result (Outs T) E → List T
ruled_tags (Ok outs) = outs.pc ∷ outs.result ∷ []
ruled_tags (Err why) = []

-- the tags that stand somewhere before a turn, the plain one first
abbrev pub standing_tags : {S T : Type 0} → PolicyModel T S → Machine S T → List T
standing_tags m s = m.plain s.policy ∷ core_tags s.core

-- and before its service: the outputs of its rule too
abbrev pub served_tags : {S T : Type 0} → PolicyModel T S → Machine S T → ℕ → List T
served_tags m s h = standing_tags m s ++ ruled_tags (rule_at m s h)

module _ {S T : Type 0} (eq : T → T → Bool) (m : PolicyModel T S) (s : Machine S T) (h : ℕ) where
  -- the key that the rule of a look is kept under
  abbrev pub key_of : Look → Key T
  key_of look = record { group = look.group; inputs = masked_inputs (m.ignores s.policy look.group) (m.plain s.policy) (rule_inputs s.core h look) }

  -- each turn that comes to its rule looks it up once
  abbrev pub after_look : Result Look Stop → Account T → Account T
  after_look (Ok look) account = looked_up eq (key_of look) account
  after_look (Err why) account = account

  -- its rule is kept where it is allowed
  abbrev pub after_rule : Result Look Stop → Account T → Account T
  after_rule (Ok look) account = rule_kept eq (key_of look) (rule_answer m s h look) account
  after_rule (Err why) account = account

  -- the tags that a served service writes have words
  abbrev pub after_service : Result (Option (Job T)) Stop → Account T → Account T
  after_service (Ok (Some job)) account = seeing eq (written_tags job) account
  after_service (Ok None) account = account
  after_service (Err why) account = account

  -- the account after the look-up of a turn, if it came to one
  unfoldable pub look_counted : Account T → Account T
  look_counted account = after_look (preparation m s h) account

  -- the account after the rule of a turn, if it came to one
  unfoldable pub rule_counted : Account T → Account T
  rule_counted account = with_room eq (standing_tags m s) (after_rule (preparation m s h)) (look_counted account)

  -- the account after the service of a turn, if it came to one
  unfoldable pub service_counted : Account T → Account T
  service_counted account = with_room eq (served_tags m s h) (after_service (job_at m s h)) (rule_counted account)

  -- the account after a turn that is made. One whose rule needs more words than there may be never comes to its service.
  unfoldable pub account_after_turn : Account T → Account T
  account_after_turn account =
      record (if is_over (rule_counted account) then rule_counted account else service_counted account) { turns = next_count account.turns }

  -- the account of the step that needs more words than there may be, after its sweep: that of the rule's outputs, or that of
  -- the tags that the service writes
  abbrev pub account_out : Account T → Account T
  account_out account =
      if is_over (rule_counted account) then swept eq (standing_tags m s) (look_counted account) else swept eq (served_tags m s h) (rule_counted account)
