-- The steps of a turn where tags are words.
use Rattle.std.specs.Prelude.{◌≡◌, ◌⊎◌, ℕ, ◌<◌, Bool, true, false, ◌&&◌, ◌||◌, not, List, [], ◌∷◌, ◌++◌, map, Option, Some, None, Result, Ok, Err, IsOk, is_ok, length, slice_index}
use Rattle.std.specs.List.{AllByRecursion}
use Rattle.policy_trait.specs.Maps.{outs_by}
use Rattle.policy_trait.specs.Model.{PolicyModel}
use Rattle.policy_trait.specs.declared.rules.Outs.{Outs}
use Rattle.policy_trait.specs.declared.rules.Refused.{Refused}
use Rattle.policy_trait.specs.declared.services.Args.{Args}
use Rattle.policy_trait.specs.declared.services.PlanEnd.{PlanEnd}
use Rattle.tag_memory.specs.Hart.{HartState}
use Rattle.tag_memory.specs.Ram.{RamState, ram_tag, ram_word}
use Rattle.monitor_calls.specs.Service.{Job, service_job}
use Rattle.turn_steps.specs.Feeds.{Tape, first_fed}
use Rattle.turn_steps.specs.declared.look.Look.{Look}
use Rattle.turn_steps.specs.declared.stop.Stop.{Stop}
use Rattle.undo_log.specs.Past.{Past, Record, pushed}
use Rattle.engine_trait.specs.Accounts.{Account, Key, after_rule, first_written, is_kept, is_over, key_of, looked_up, remembering, seeing, standing_tags, swept, with_room, written_tags}
use Rattle.shared_terms.specs.Counts.{next_count}
use Rattle.engine_trait.specs.History.{bare_record, record_by, record_served}
use Rattle.engine_trait.specs.Machine.{fresh_core, hart_at, stopping}
use Rattle.engine_trait.specs.Standing.{Standing}
use Rattle.engine_trait.specs.Turn.{core_effected, core_served, is_served, preparation, rule_at, rule_inputs, service_on, service_stop, violation}
use Rattle.engine_trait.specs.declared.ends.Halt.{Halt}
use Rattle.engine_trait.specs.declared.ends.Halt.TheVariants as halt
use Rattle.engine_trait.specs.declared.ends.TurnEnd.{TurnEnd}
use Rattle.engine_trait.specs.declared.ends.TurnEnd.TheVariants as ends
use Rattle.rule_cache.specs.Stores.{Store}
use Rattle.tag_intern.specs.Table.{TableState}
use Rattle.tag_intern.specs.Words.{tag_at}
use Rattle.tag_intern.specs.declared.table.InternEnd.{InternEnd}
use Rattle.tag_intern.specs.declared.table.InternEnd.TheVariants as intern_end
use Rattle.miss_handler.specs.Asked.{AreOutWords, answer_on, tag_key}
use Rattle.miss_handler.specs.Books.{rulebook_of}
use Rattle.miss_handler.specs.declared.ends.AskEnd.{AskEnd}
use Rattle.miss_handler.specs.declared.ends.AskEnd.TheVariants as ask_end
use Rattle.pump_engine.specs.Pump.{PumpState, account_by_words, decode, machine_by_words, pump_of}

-- the engine of these parts: no hart has stopped, and no turn was made
abbrev pub pump_start : {S T : Type 0} → S → List (HartState ℕ) → RamState ℕ → TableState T → Store → Past ℕ T → PumpState S T
pump_start policy harts ram table store past = pump_of policy (fresh_core harts ram) table store 0 0 None past

-- a turn is remembered by this record, if there is one
abbrev pub pushed_if : {T U : Type 0} → Past T U → Option (Record T U) → Past T U
pushed_if past None = past
pushed_if past (Some made) = pushed past made

-- a turn that stopped the hart is counted and remembered
abbrev pub after_stop : {S T : Type 0} → PumpState S T → ℕ → Stop → PumpState S T
after_stop p h why =
    record p { core = stopping p.core h why; turns = next_count p.turns; past = pushed p.past (bare_record p.core h) }

-- the engine stopped as a whole
abbrev pub after_halt : {S T : Type 0} → PumpState S T → Halt → PumpState S T
after_halt p why = record p { halt = Some why }

-- a turn that had the effect of its instruction
abbrev pub after_effect : {S T : Type 0} → PumpState S T → Tape → ℕ → Look → Outs ℕ → PumpState S T
after_effect p feed h look outs = record p {
  core = core_effected p.core feed h look outs;
  turns = next_count p.turns;
  past = pushed p.past (record_by look.group p.core (first_fed feed.left) h look);
}

-- ---- the rule

-- the policy's value, the count of turns and the halt are as they were
pub record HasParts {S T : Type 0} (p q : PumpState S T) : Type 0 where
  pub policy : q.policy ≡ p.policy
  pub turns : q.turns ≡ p.turns
  pub halt : q.halt ≡ p.halt

-- ---- a sweep

module _ {S T : Type 0} (m : PolicyModel T S) (p : PumpState S T) where
  -- the tags that stand somewhere, and those of words that were made beside them
  abbrev pub standing_with : List ℕ → List T
  standing_with made = standing_tags m (machine_by_words m p) ++ map (decode m p) made

  -- a word has another number, and stands for the same tag
  pub record Moves (numbers : List ℕ) (q : PumpState S T) (word : ℕ) : Type 0 where
    pub same : decode m q (slice_index numbers word) ≡ decode m p word
    pub below : slice_index numbers word < length q.table.tags

-- after a sweep: every tag is where it was, and those of the words that were made have words too, by their new numbers
pub record IsSwept {S T : Type 0} (eq : T → T → Bool) (m : PolicyModel T S) (p : PumpState S T) (made numbers : List ℕ) (q : PumpState S T) : Type 0 where
  pub parts : HasParts p q
  pub machine : machine_by_words m q ≡ machine_by_words m p
  pub account : account_by_words m q ≡ swept eq (standing_with m p made) (account_by_words m p)
  pub moved : AllByRecursion (Moves m p numbers q) made

-- the engine stopped as a whole with this account; the machine is as it was
pub record Halts {S T : Type 0} (m : PolicyModel T S) (p : PumpState S T) (left : Account T) (why : Halt) (q : PumpState S T) : Type 0 where
  pub machine : machine_by_words m q ≡ machine_by_words m p
  pub account : account_by_words m q ≡ record left { halt = Some why }

module _ {S T : Type 0} (eq : T → T → Bool) (m : PolicyModel T S) (p : PumpState S T) (h : ℕ) (look : Look) where
  -- what the rule is looked up by, and its answer, in tags
  abbrev pub key_in : Key T
  key_in = tag_key (rulebook_of m p.policy) p.table.tags look.group (rule_inputs p.core h look)

  abbrev pub answer_in : Result (Outs T) Refused
  answer_in = answer_on (rulebook_of m p.policy) p.table.tags look.group (rule_inputs p.core h look)

  -- the account after the look-up, what the rule adds to one, and the account after the rule
  abbrev pub looked_in : Account T
  looked_in = looked_up eq key_in (account_by_words m p)

  abbrev pub ruling_in : Account T → Account T
  ruling_in account = after_rule eq m (machine_by_words m p) h (Ok look) account

  abbrev pub ruled_in : Account T
  ruled_in = with_room eq (standing_tags m (machine_by_words m p)) ruling_in looked_in

  -- the look-up is counted, and a sweep came
  abbrev pub swept_in : Account T
  swept_in = swept eq (standing_tags m (machine_by_words m p)) looked_in

  -- the rule allows: its outputs are those that the words stand for, the rule is kept, and no tag is another
  pub record Allows (q : PumpState S T) (outs : Outs ℕ) : Type 0 where
    pub rule : answer_in ≡ Ok (outs_by (decode m q) outs)
    pub account : account_by_words m q ≡ ruled_in
    pub machine : machine_by_words m q ≡ machine_by_words m p
    pub within : is_over (account_by_words m q) ≡ false
    pub words : AreOutWords (length q.table.tags) outs

  -- there are no outputs without a sweep: the look-up is counted, and nothing else is done
  pub record Unanswered (q : PumpState S T) (end : AskEnd) : Type 0 where
    pub account : account_by_words m q ≡ looked_in
    pub machine : machine_by_words m q ≡ machine_by_words m p
    pub within : is_over (account_by_words m q) ≡ false
    pub refused : (refusal : Refused) → end ≡ ask_end.Stopped refusal → answer_in ≡ Err refusal
    pub over : end ≡ ask_end.TagsOut → is_over (ruling_in looked_in) ≡ true
    pub wants : end ≡ ask_end.TagsOut → IsOk answer_in
    pub allowed : end ≡ ask_end.Memory → IsOk answer_in

  -- the account where there are no outputs: only the look-up is counted; or a sweep came, and still there were too many tags; or
  -- memory ran out, in the sweep or before it, or behind it where there was room
  abbrev pub LeavesAccount : AskEnd → Account T → Type 0
  LeavesAccount (ask_end.Stopped refusal) account = account ≡ looked_in
  LeavesAccount ask_end.TagsOut account = (account ≡ swept_in) × (is_over (ruling_in swept_in) ≡ true)
  LeavesAccount ask_end.Memory account = (account ≡ looked_in) ⊎ ((account ≡ swept_in) × (is_over (ruling_in swept_in) ≡ false))

  -- there are no outputs, with a sweep where one was wanting
  pub record Unruled (q : PumpState S T) (end : AskEnd) : Type 0 where
    pub account : LeavesAccount end (account_by_words m q)
    pub machine : machine_by_words m q ≡ machine_by_words m p
    pub within : is_over (account_by_words m q) ≡ false
    pub refused : (refusal : Refused) → end ≡ ask_end.Stopped refusal → answer_in ≡ Err refusal
    pub over : end ≡ ask_end.TagsOut → is_over (ruling_in looked_in) ≡ true
    pub allowed : end ≡ ask_end.Memory → IsOk answer_in

module _ {S T : Type 0} (eq : T → T → Bool) (m : PolicyModel T S) (p : PumpState S T) (h : ℕ) (look : Look) where
  -- the account as it stands, swept
  abbrev pub swept_now : Account T
  swept_now = swept eq (standing_tags m (machine_by_words m p)) (account_by_words m p)

  -- the rule allows, behind a sweep
  pub record Settled (q : PumpState S T) (outs : Outs ℕ) : Type 0 where
    pub rule : answer_in eq m p h look ≡ Ok (outs_by (decode m q) outs)
    pub account : account_by_words m q ≡ ruling_in eq m p h look swept_now
    pub machine : machine_by_words m q ≡ machine_by_words m p
    pub within : is_over (account_by_words m q) ≡ false
    pub words : AreOutWords (length q.table.tags) outs

  -- the account where there are no outputs behind a sweep, or memory ran out in it
  abbrev pub LeavesSwept : AskEnd → Account T → Type 0
  LeavesSwept (ask_end.Stopped refusal) account = answer_in eq m p h look ≡ Err refusal
  LeavesSwept ask_end.TagsOut account = (account ≡ swept_now) × (is_over (ruling_in eq m p h look swept_now) ≡ true)
  LeavesSwept ask_end.Memory account =
      (account ≡ account_by_words m p) ⊎ ((account ≡ swept_now) × (is_over (ruling_in eq m p h look swept_now) ≡ false))

  pub record Unsettled (q : PumpState S T) (end : AskEnd) : Type 0 where
    pub machine : machine_by_words m q ≡ machine_by_words m p
    pub within : is_over (account_by_words m q) ≡ false
    pub account : LeavesSwept end (account_by_words m q)

  abbrev pub Settles : PumpState S T → Result (Outs ℕ) AskEnd → Type 0
  Settles q (Ok outs) = Settled q outs
  Settles q (Err end) = Unsettled q end

-- how a turn without outputs ends, and what it leaves
abbrev pub unanswered_end : ℕ → AskEnd → TurnEnd
unanswered_end pc (ask_end.Stopped refusal) = ends.Stopped (violation pc refusal)
unanswered_end pc ask_end.TagsOut = ends.TagsOut
unanswered_end pc ask_end.Memory = ends.Memory

abbrev pub after_unanswered : {S T : Type 0} → PumpState S T → ℕ → AskEnd → PumpState S T
after_unanswered p h (ask_end.Stopped refusal) = after_stop p h (violation (hart_at p.core h).pc refusal)
after_unanswered p h ask_end.TagsOut = after_halt p halt.TagNumbers
after_unanswered p h ask_end.Memory = after_halt p halt.Memory

-- ---- a service of the policy

-- what a service will do that is asked so, over memory whose words a table reads
abbrev pub job_over : {S T : Type 0} → PolicyModel T S → S → T → TableState T → RamState ℕ → ℕ → Args T → T → Result (Job T) PlanEnd
job_over m policy plain table ram number arguments pc =
    service_job m policy (ram_word ram) (λ address. tag_at plain table.tags (ram_tag ram address)) number arguments pc

module _ {S T : Type 0} (eq : T → T → Bool) (m : PolicyModel T S) (p : PumpState S T) (h : ℕ) (look : Look) (outs : Outs ℕ) where
  -- what the service that is called will do, in tags
  abbrev pub service_in : Result (Job T) PlanEnd
  service_in = service_on m (machine_by_words m p) h look (outs_by (decode m p) outs)

  -- the tags that stand somewhere, the outputs of the rule among them
  abbrev pub outs_standing : List T
  outs_standing = standing_with m p (outs.pc ∷ outs.result ∷ [])

  -- the account after the tags that it writes have words
  abbrev pub written_in : Job T → Account T
  written_in job = with_room eq outs_standing (seeing eq (written_tags job)) (account_by_words m p)

  -- and after the first of them alone, without a sweep
  abbrev pub first_in : Job T → Account T
  first_in job = seeing eq (first_written job) (account_by_words m p)

  -- a sweep came
  abbrev pub swept_served : Account T
  swept_served = swept eq outs_standing (account_by_words m p)

  -- it was carried out, and the account is this one but for the count of turns and the turn's record
  pub record Serves (job : Job T) (account : Account T) (q : PumpState S T) : Type 0 where
    pub machine : machine_by_words m q ≡ record {
      policy = m.commit p.policy job.plan;
      core = core_served (machine_by_words m p).core h job.words job.plan.answer look.effect.next (decode m p outs.pc);
    }
    pub account_is : account_by_words m q
        ≡ record (remembering (record_served (machine_by_words m p).core h job.words job.plan) account) { turns = next_count p.turns }
    pub within : is_over (account_by_words m q) ≡ false

  -- how it ended without a sweep where nothing refuses it: it was carried out; or memory ran out, and the engine is stopped; or what it
  -- writes has no words, and nothing changed
  abbrev pub TriesOut : Job T → PumpState S T → Result TurnEnd InternEnd → Type 0
  TriesOut job q (Ok (ends.Ran None)) = Serves job (seeing eq (written_tags job) (account_by_words m p)) q
  TriesOut job q (Ok ends.Memory) = (q ≡ after_halt p halt.Memory) × (is_over (first_in job) ≡ false)
  TriesOut job q (Ok other) = ⊥
  TriesOut job q (Err intern_end.Full) = (q ≡ p) × (is_over (seeing eq (written_tags job) (account_by_words m p)) ≡ true)
  TriesOut job q (Err intern_end.Memory) = (q ≡ p) × (is_over (first_in job) ≡ false)

  -- how it ended where nothing refuses it, with a sweep where one was wanting
  abbrev pub CarriesOut : Job T → PumpState S T → TurnEnd → Type 0
  CarriesOut job q (ends.Ran None) = Serves job (written_in job) q
  CarriesOut job q ends.TagsOut = Halts m p swept_served halt.TagNumbers q × (is_over (written_in job) ≡ true)
  CarriesOut job q ends.Memory =
      Halts m p (account_by_words m p) halt.Memory q ⊎ (Halts m p swept_served halt.Memory q × (is_over (seeing eq (first_written job) swept_served) ≡ false))
  CarriesOut job q other = ⊥

  -- how it ended
  pub record EndsService (q : PumpState S T) (ended : TurnEnd) : Type 0 where
    pub served : (job : Job T) → service_in ≡ Ok job → CarriesOut job q ended
    pub stopped : (end : PlanEnd) → service_in ≡ Err end
        → (q ≡ after_stop p h (service_stop (hart_at p.core h).pc look.service end)) × (ended ≡ ends.Stopped (service_stop (hart_at p.core h).pc look.service end))

-- ---- memory

module _ {S T : Type 0} (eq : T → T → Bool) (m : PolicyModel T S) (e : Standing S T) (h : ℕ) where
  -- the rule of what is looked at is kept
  abbrev pub finds_rule : Result Look Stop → Bool
  finds_rule (Ok look) = is_kept eq (key_of eq m e.machine h look) e.account
  finds_rule (Err why) = false

  -- the turn is one that may take memory: its rule allows and is not kept, or it comes to a service of the policy that
  -- nothing refuses
  abbrev pub takes_memory : Bool
  takes_memory = (is_ok (rule_at m e.machine h) && not (finds_rule (preparation m e.machine h))) || is_served m e.machine h
