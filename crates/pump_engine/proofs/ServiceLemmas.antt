-- A service of the policy where tags are words: what it is asked with, and what it leaves.
use Rattle.std.proofs.Common.{◌≡◌, inl, ℕ, ◌%◌, ◌<◌, ◌≤◌, Bool, true, false, nat_lt, List, All, length, map, Option, option_map, Result, Ok, Err, IsOkAnd, OnErr, OnOk, is_err, take, refl, sym, ap, ◌∙◌, subst, if◌then◌else◌}
use Rattle.std.proofs.lemmas.Bool.{false≢true, le-ltb, lt-ltb}
use Rattle.policy_trait.specs.PolicyLaws.{KeepsLaws}
use Rattle.policy_trait.specs.Maps.{answer_by, args_by}
use Rattle.policy_trait.specs.Model.{IsGiven, PolicyModel}
use Rattle.policy_trait.specs.declared.rules.Outs.{Outs}
use Rattle.policy_trait.specs.declared.services.Answer.{Answer}
use Rattle.policy_trait.specs.declared.services.Args.{Args}
use Rattle.policy_trait.specs.declared.services.PlanEnd.{PlanEnd}
use Rattle.tag_memory.specs.Maps.{ram_by}
use Rattle.tag_memory.specs.Ram.{RamState, ram_tag, ram_word}
use Rattle.tag_memory.proofs.MapLemmas.{ram_tag_by}
use Rattle.monitor_calls.specs.Service.{Job, service_job}
use Rattle.turn_steps.specs.Services.{args_on}
use Rattle.turn_steps.specs.declared.look.Look.{Look}
use Rattle.undo_log.specs.Past.{past_by, pushed}
use Rattle.undo_log.proofs.MapLemmas.{pushed_by}
use Rattle.engine_trait.specs.Accounts.{first_written, is_over, remembering, seeing, with_tags, written_tags}
use Rattle.engine_trait.specs.History.{record_served}
use Rattle.shared_terms.specs.Counts.{next_count}
use Rattle.engine_trait.specs.Machine.{hart_at}
use Rattle.engine_trait.specs.Maps.{core_by, words_by}
use Rattle.turn_steps.specs.declared.stop.Stop.{Stop}
use Rattle.engine_trait.specs.Turn.{core_served, service_on, service_stop}
use Rattle.engine_trait.specs.declared.ends.Halt.TheVariants as halt
use Rattle.engine_trait.specs.declared.ends.TurnEnd.{TurnEnd}
use Rattle.engine_trait.specs.declared.ends.TurnEnd.TheVariants as ends
use Rattle.engine_trait.proofs.MapLemmas.{args_on_by, hart_at_by}
use Rattle.rule_cache.specs.Named.{keys_by}
use Rattle.tag_intern.specs.Table.{Extends, TableState, cut_to}
use Rattle.tag_intern.specs.Words.{tag_at}
use Rattle.tag_intern.specs.declared.table.InternEnd.{InternEnd}
use Rattle.tag_intern.specs.declared.table.InternEnd.TheVariants as intern_end
use Rattle.tag_intern.proofs.TableLemmas.{prefix}
use Rattle.miss_handler.specs.Asked.{AreOutWords}
use Rattle.miss_handler.specs.Books.{rulebook_of}
use Rattle.word_service.specs.Written.{IsAnswerBelow, IsWordBelow}
use Rattle.miss_handler.proofs.RuleLemmas.{rules_grown, sets_below, sets_grown}
use Rattle.pump_engine.specs.Pump.{IsPump, PumpState, account_by_words, decode, machine_by_words, pump_of}
use Rattle.pump_engine.specs.Steps.{CarriesOut, EndsService, Serves, TriesOut, after_halt, after_stop, first_in, job_over, service_in}
use Rattle.engine_trait.proofs.AccountLemmas.{keeps_some}
use Rattle.pump_engine.proofs.StepLemmas.{first_within}
use Rattle.pump_engine.proofs.RecordLemmas.{record_served_by}
use Rattle.pump_engine.proofs.StayLemmas.{after_service, decode_grown, machine_grown, machine_served, past_grown, pump_grown, pump_served}

-- ---- what it is asked with

module _ {S T : Type 0} (eq : T → T → Bool) (m : PolicyModel T S) (p : PumpState S T) (h : ℕ) (look : Look) (outs : Outs ℕ) where
  arguments_words : args_on (hart_at (core_by (decode m p) p.core) h) (ram_by (decode m p) p.core.ram) ≡ args_by (decode m p) (args_on (hart_at p.core h) p.core.ram)
  arguments_words = ap (λ hart. args_on hart (ram_by (decode m p) p.core.ram)) (hart_at_by (decode m p) p.core h) ∙ args_on_by (decode m p) (hart_at p.core h) p.core.ram

  service_words : service_in eq m p h look outs
      ≡ service_job m p.policy (ram_word p.core.ram) (λ address. decode m p (ram_tag p.core.ram address)) look.service
      (args_by (decode m p) (args_on (hart_at p.core h) p.core.ram)) (decode m p outs.pc)
  unfolding service_on
  service_words = λ j. service_job m p.policy (ram_word p.core.ram) (λ address. ram_tag_by (decode m p) p.core.ram address j) look.service (arguments_words j) (decode m p outs.pc)

  -- by a reading of words that is the engine's
  pub service_by : (plain : T) (table : TableState T) (ram : RamState ℕ) (arguments : Args T) (pc : T) → table ≡ p.table → plain ≡ m.plain p.policy → ram ≡ p.core.ram
      → arguments ≡ args_by (tag_at plain table.tags) (args_on (hart_at p.core h) p.core.ram) → pc ≡ tag_at plain table.tags outs.pc
      → service_in eq m p h look outs ≡ job_over m p.policy plain table ram look.service arguments pc
  service_by plain table ram arguments pc table_is plain_is ram_is arguments_are pc_is =
      service_words
      ∙ (λ j. job_over m p.policy (sym plain_is j) (sym table_is j) p.core.ram look.service
      (args_by (tag_at (sym plain_is j) (sym table_is j).tags) (args_on (hart_at p.core h) p.core.ram)) (tag_at (sym plain_is j) (sym table_is j).tags outs.pc))
      ∙ (λ j. job_over m p.policy plain table (sym ram_is j) look.service (sym arguments_are j) (sym pc_is j))

  -- the engine may be written otherwise
  pub service_as : (q : PumpState S T) (plain : T) (table : TableState T) (ram : RamState ℕ) (arguments : Args T) (pc : T) → p ≡ q
      → service_in eq m q h look outs ≡ job_over m q.policy plain table ram look.service arguments pc
      → service_in eq m p h look outs ≡ job_over m p.policy plain table ram look.service arguments pc
  service_as q plain table ram arguments pc same =
      subst (λ (r : PumpState S T). service_in eq m r h look outs ≡ job_over m r.policy plain table ram look.service arguments pc) (sym same)

-- ---- what it leaves

-- tags that were added are cut off again
pub cut_back : {T : Type 0} (old new : TableState T) (len : ℕ) → Extends old.tags new.tags → new.limit ≡ old.limit → len ≡ length old.tags → cut_to new len ≡ old
cut_back old new len extends limit_is len_is = λ j. record {
  tags = (ap (λ n. take n new.tags) len_is ∙ prefix old.tags new.tags extends) j;
  limit = limit_is j;
}

module _ {S T : Type 0} (eq : T → T → Bool) (m : PolicyModel T S) (holds : S → Type 0) (laws : KeepsLaws m holds) (p : PumpState S T) (is : IsPump m p) (h : ℕ) (look : Look) (outs : Outs ℕ)
    (job : Job T) (table : TableState T) (words : List (ℕ × ℕ × ℕ)) (answer : Option (Answer ℕ)) where
  -- the tags that are written have words, and what is written in words stands for them
  pub record IsWritten : Type 0 where
    pub seen : table.tags ≡ with_tags eq p.table.tags (written_tags job)
    pub limit : table.limit ≡ p.table.limit
    pub within : length table.tags ≤ table.limit
    pub extends : Extends p.table.tags table.tags
    pub words_are : (plain : T) → words_by (tag_at plain table.tags) words ≡ job.words
    pub answer_is : (plain : T) → option_map (answer_by (tag_at plain table.tags)) answer ≡ job.plan.answer
    pub below : All (IsWordBelow (length table.tags)) words
    pub answer_below : IsAnswerBelow (length table.tags) answer

  -- the engine with these words
  abbrev pub grown : PumpState S T
  grown = pump_of p.policy p.core table p.store p.turns p.sweeps p.halt p.past

  -- and after the service
  abbrev pub left : PumpState S T
  left = after_service m grown h job.plan words answer look.effect.next outs.pc (next_count p.turns)

  module _ (written : IsWritten) (given : IsGiven m p.policy job.plan) (outputs : AreOutWords (length p.table.tags) outs) where
    grown_is : IsPump m grown
    grown_is = pump_grown m p grown is refl refl refl written.extends written.within is.room (rules_grown (rulebook_of m p.policy) p.table.tags table.tags written.extends p.store.sets is.rules)

    pub pump_left : h < length p.core.harts → look.effect.next % 4 ≡ 0 → outs.pc < length table.tags → IsPump m left
    pump_left there aligned below =
        pump_served m holds laws grown job.plan given h words answer look.effect.next outs.pc (next_count p.turns) grown_is there aligned written.below written.answer_below below

    plain_stays : m.plain left.policy ≡ m.plain p.policy
    plain_stays = (laws.keeps p.policy job.plan given).plain

    pc_stays : decode m grown outs.pc ≡ decode m p outs.pc
    pc_stays = decode_grown m p grown refl written.extends outs.pc outputs.pc

    same_core : core_by (decode m grown) p.core ≡ core_by (decode m p) p.core
    same_core = ap (λ machine. machine.core) (machine_grown m p grown is.words refl refl written.extends)

    machine_left : machine_by_words m left ≡ record {
      policy = m.commit p.policy job.plan;
      core = core_served (machine_by_words m p).core h job.words job.plan.answer look.effect.next (decode m p outs.pc);
    }
    machine_left =
        machine_served m holds laws grown job.plan given h words answer look.effect.next outs.pc (next_count p.turns)
        ∙ (λ j. record {
          policy = m.commit p.policy job.plan;
          core = core_served (same_core j) h (written.words_are (m.plain p.policy) j) (written.answer_is (m.plain p.policy) j) look.effect.next (pc_stays j);
        })

    -- the records, with that of the service
    past_left : past_by (decode m left) left.past ≡ pushed (past_by (decode m p) p.past) (record_served (machine_by_words m p).core h job.words job.plan)
    past_left =
        ap (λ plain. past_by (tag_at plain table.tags) left.past) plain_stays
        ∙ sym (pushed_by (decode m grown) p.past (record_served p.core h words job.plan))
        ∙ (λ j. pushed (past_grown m p grown is.remembered refl refl written.extends j) (sym (record_served_by (decode m grown) p.core h (decode m grown) words job.plan) j))
        ∙ (λ j. pushed (past_by (decode m p) p.past) (record_served (same_core j) h (written.words_are (m.plain p.policy) j) job.plan))

    account_left : account_by_words m left
        ≡ record (remembering (record_served (machine_by_words m p).core h job.words job.plan) (seeing eq (written_tags job) (account_by_words m p))) { turns = next_count p.turns }
    account_left =
        (λ j. record (account_by_words m p) {
          table = written.seen j;
          limit = written.limit j;
          sets = (ap (λ plain. map (keys_by (tag_at plain table.tags)) p.store.sets) plain_stays
              ∙ sets_grown (m.plain p.policy) p.table.tags table.tags written.extends p.store.sets (sets_below (rulebook_of m p.policy) p.table.tags p.store.sets is.rules)) j;
          turns = next_count p.turns;
          past = past_left j;
        })
        ∙ sym (ap (λ is_none. record (remembering (record_served (machine_by_words m p).core h job.words job.plan)
        (if is_none then account_by_words m p else record (account_by_words m p) { table = with_tags eq p.table.tags (written_tags job) })) { turns = next_count p.turns })
        (keeps_some p.store.ways is.room))

    pub serves : Serves eq m p h look outs job (seeing eq (written_tags job) (account_by_words m p)) left
    serves = record { machine = machine_left; account_is = account_left; within = le-ltb table.limit (length table.tags) written.within }

-- ---- how a call of a service ends

-- an answer of a call, whose error is told by a test
pub ok_at : {A E : Type 0} (r : Result A E) (P : Type 0) (test : Bool) → test ≡ is_err r → test ≡ false → OnOk r P → P
ok_at (Ok x) P test is told holds = holds
ok_at (Err end) P test is told holds = absurd (false≢true (sym told ∙ is))

pub err_at : {A E : Type 0} (r : Result A E) (P : Type 0) (test : Bool) → test ≡ is_err r → test ≡ true → OnErr r P → P
err_at (Ok x) P test is told holds = absurd (false≢true (sym is ∙ told))
err_at (Err end) P test is told holds = holds

-- answers that are the same hold the same
same_ok : {A E : Type 0} (a b : A) → ◌≡◌ {A = Result A E} (Ok a) (Ok b) → a ≡ b
same_ok a b same = cc

same_err : {A E : Type 0} (a b : E) → ◌≡◌ {A = Result A E} (Err a) (Err b) → a ≡ b
same_err a b same = cc

ok_or_err : {A E : Type 0} (a : A) (b : E) → ◌≡◌ {A = Result A E} (Ok a) (Err b) → ⊥
ok_or_err a b same = cc

module _ {S T : Type 0} (eq : T → T → Bool) (m : PolicyModel T S) (p : PumpState S T) (h : ℕ) (look : Look) (outs : Outs ℕ) (q : PumpState S T) (ended : TurnEnd) where
  -- one that nothing refuses
  pub ends_carried : (job : Job T) → service_in eq m p h look outs ≡ Ok job → CarriesOut eq m p h look outs job q ended → EndsService eq m p h look outs q ended
  ends_carried job is carried = record {
    served = λ other same. subst (λ (j : Job T). CarriesOut eq m p h look outs j q ended) (same_ok {E = PlanEnd} job other (sym is ∙ same)) carried;
    stopped = λ end same. absurd (ok_or_err {A = Job T} job end (sym is ∙ same));
  }

  -- one that stops the hart
  pub ends_stopped : (end : PlanEnd) (why : Stop) → service_in eq m p h look outs ≡ Err end → why ≡ service_stop (hart_at p.core h).pc look.service end
      → q ≡ after_stop p h why → ended ≡ ends.Stopped why → EndsService eq m p h look outs q ended
  ends_stopped end why is why_is left_is ended_is =
      let stops = λ (other : PlanEnd) (same : service_in eq m p h look outs ≡ Err other).
      why_is ∙ ap (service_stop (hart_at p.core h).pc look.service) (same_err {A = Job T} end other (sym is ∙ same)) in
      record {
        served = λ job same. absurd (ok_or_err {A = Job T} job end (sym same ∙ is));
        stopped = λ other same. (left_is ∙ ap (after_stop p h) (stops other same), ended_is ∙ ap ends.Stopped (stops other same));
      }

-- ---- whether the first tag that a service writes can have a word

module _ {S T : Type 0} (eq : T → T → Bool) (m : PolicyModel T S) (p : PumpState S T) (is : IsPump m p) (h : ℕ) (look : Look) (outs : Outs ℕ) where
  -- with tags that come, there are too many exactly where the table has
  seeing_counted : (tags : List T) → is_over (seeing eq tags (account_by_words m p)) ≡ nat_lt p.table.limit (length (with_tags eq p.table.tags tags))
  seeing_counted tags =
      ap (λ is_none. is_over (if is_none then account_by_words m p else record (account_by_words m p) { table = with_tags eq p.table.tags tags }))
      (keeps_some p.store.ways is.room)

  -- where all that it writes has words, the first has
  pub written_fits : (job : Job T) (table : TableState T) → table.tags ≡ with_tags eq p.table.tags (written_tags job) → table.limit ≡ p.table.limit → length table.tags ≤ table.limit
      → is_over (first_in eq m p h look outs job) ≡ false
  written_fits job table seen limit within =
      first_within eq (written_tags job) (account_by_words m p)
      (seeing_counted (written_tags job) ∙ (λ j. nat_lt (sym limit j) (length (sym seen j))) ∙ le-ltb table.limit (length table.tags) within)

  -- what it writes has no words without a sweep: nothing changed
  pub tries_refused : (job : Job T) (q : PumpState S T) (end : InternEnd) → q ≡ p
      → (end ≡ intern_end.Full → p.table.limit < length (with_tags eq p.table.tags (written_tags job)))
      → (end ≡ intern_end.Memory → length (with_tags eq p.table.tags (first_written job)) ≤ p.table.limit) → TriesOut eq m p h look outs job q (Err end)
  tries_refused job q intern_end.Full same full memory = (same, seeing_counted (written_tags job) ∙ lt-ltb _ _ (full refl))
  tries_refused job q intern_end.Memory same full memory = (same, seeing_counted (first_written job) ∙ le-ltb _ _ (memory refl))

-- ---- a service that nothing refuses, and whose plan finds no memory

pub plan_wants : {S T : Type 0} (eq : T → T → Bool) (m : PolicyModel T S) (p : PumpState S T) (h : ℕ) (look : Look) (outs : Outs ℕ) (q : PumpState S T) (ended : TurnEnd) (P : Job T → Type 0)
    → IsOkAnd (service_in eq m p h look outs) P → q ≡ after_halt p halt.Memory → ended ≡ ends.Memory → EndsService eq m p h look outs q ended
plan_wants eq m p h look outs q ended P unrefused q_is ended_is =
    subst (EndsService eq m p h look outs q) (sym ended_is) (record {
      served = λ job is. inl (record { machine = ap (machine_by_words m) q_is; account = ap (account_by_words m) q_is });
      stopped = λ end is. absurd (subst (λ given. IsOkAnd given P) is unrefused);
    })
