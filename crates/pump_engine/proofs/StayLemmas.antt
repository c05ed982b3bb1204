-- The engine stays one whose words are those of its table: through a change of the table and through each step of a turn.
use Rattle.std.proofs.Common.{◌≡◌, ℕ, ◌%◌, ◌<◌, ◌≤◌, List, All, length, Option, Some, option_map, ap, sym, ◌∙◌, subst}
use Rattle.std.proofs.lemmas.List.{length-map}
use Rattle.std.proofs.lemmas.Option.{slice_get_within}
use Rattle.policy_trait.specs.PolicyLaws.{KeepsLaws, SameRules}
use Rattle.policy_trait.specs.Maps.{answer_by, outs_by}
use Rattle.policy_trait.specs.Model.{IsGiven, PolicyModel}
use Rattle.policy_trait.specs.declared.rules.Outs.{Outs}
use Rattle.policy_trait.specs.declared.services.Answer.{Answer}
use Rattle.policy_trait.specs.declared.services.Plan.{Plan}
use Rattle.tag_memory.specs.Maps.{hart_by}
use Rattle.tag_memory.specs.Ram.{ram_bytes}
use Rattle.turn_steps.specs.Effects.{IsSound}
use Rattle.turn_steps.specs.Feeds.{Tape, first_fed}
use Rattle.turn_steps.specs.declared.look.Look.{Look}
use Rattle.turn_steps.specs.declared.stop.Stop.{Stop}
use Rattle.shared_terms.specs.Counts.{next_count}
use Rattle.undo_log.specs.Past.{Past, past_by, pushed}
use Rattle.engine_trait.specs.History.{bare_record, record_by, record_served}
use Rattle.engine_trait.specs.Machine.{CoreState, IsMachine, Machine, stopping}
use Rattle.engine_trait.specs.Maps.{core_by, words_by}
use Rattle.engine_trait.specs.Turn.{core_effected, core_served}
use Rattle.engine_trait.specs.declared.ends.Halt.{Halt}
use Rattle.engine_trait.proofs.MachineLemmas.{effected_stays, served_stays, stopped_stays}
use Rattle.engine_trait.proofs.MapLemmas.{core_effected_by, core_served_by}
use Rattle.tag_intern.specs.Table.{Extends}
use Rattle.tag_intern.specs.Words.{tag_at}
use Rattle.tag_intern.proofs.TableLemmas.{longer, same_words}
use Rattle.miss_handler.specs.Asked.{AreOutWords, AreRules}
use Rattle.miss_handler.specs.Books.{rulebook_of}
use Rattle.miss_handler.proofs.RuleLemmas.{tag_at_grown}
use Rattle.word_service.specs.Written.{IsAnswerBelow, IsWordBelow}
use Rattle.pump_engine.specs.Low.{IsLowCore, IsLowPast}
use Rattle.pump_engine.specs.Pump.{IsPump, PumpState, decode, machine_by_words, pump_of}
use Rattle.pump_engine.specs.Steps.{after_effect, after_halt, after_stop}
use Rattle.pump_engine.proofs.LowLemmas.{low_effected, low_grown, low_same, low_served, low_stopped}
use Rattle.pump_engine.proofs.PastLemmas.{low_bare, low_made, low_past_grown, low_past_same, low_pushed, low_record_served}

-- ---- the engine after a change of its table or its store

module _ {S T : Type 0} (m : PolicyModel T S) (p q : PumpState S T) where
  pub decode_grown : q.policy ≡ p.policy → Extends p.table.tags q.table.tags → (word : ℕ) → word < length p.table.tags → decode m q word ≡ decode m p word
  decode_grown policy extends word below =
      ap (λ s. tag_at (m.plain s) q.table.tags word) policy ∙ tag_at_grown (m.plain p.policy) p.table.tags q.table.tags extends word below

  pub machine_grown : IsLowCore (length p.table.tags) p.core → q.policy ≡ p.policy → q.core ≡ p.core → Extends p.table.tags q.table.tags
      → machine_by_words m q ≡ machine_by_words m p
  machine_grown low policy core extends =
      let same = low_same (length p.table.tags) p.core low (decode m q) (decode m p) (decode_grown policy extends) in
      λ j. record { policy = policy j; core = (ap (core_by (decode m q)) core ∙ same) j }

  pub past_grown : IsLowPast (length p.table.tags) p.past → q.policy ≡ p.policy → q.past ≡ p.past → Extends p.table.tags q.table.tags
      → past_by (decode m q) q.past ≡ past_by (decode m p) p.past
  past_grown low policy past extends =
      ap (past_by (decode m q)) past ∙ low_past_same (length p.table.tags) p.past low (decode m q) (decode m p) (decode_grown policy extends)

  pub pump_grown : IsPump m p → q.policy ≡ p.policy → q.core ≡ p.core → q.past ≡ p.past → Extends p.table.tags q.table.tags
      → length q.table.tags ≤ q.table.limit → 1 ≤ q.store.ways → AreRules (rulebook_of m p.policy) q.table.tags q.store.sets → IsPump m q
  pump_grown is policy core past extends within room rules =
      let old = p.table.tags in
      let new = q.table.tags in
      let has_zero = slice_get_within old 0 (m.plain p.policy) is.plain_word in
      record {
        machine = subst (IsMachine m) (sym (machine_grown is.words policy core extends)) is.machine;
        plain_word = same_words old new extends 0 has_zero ∙ is.plain_word ∙ ap (λ s. Some (m.plain s)) (sym policy);
        within = within;
        words = subst (IsLowCore (length new)) (sym core) (low_grown (length old) p.core is.words (length new) (longer old new extends));
        rules = subst (λ s. AreRules (rulebook_of m s) new q.store.sets) (sym policy) rules;
        room = room;
        remembered = subst (IsLowPast (length new)) (sym past) (low_past_grown (length old) p.past is.remembered (length new) (longer old new extends));
      }

-- ---- the engine after a turn

-- the core and the records may be written otherwise; the turns and the halt are no part of what holds
pub pump_at : {S T : Type 0} (m : PolicyModel T S) (p : PumpState S T) → IsPump m p → (core : CoreState ℕ) → core ≡ p.core → (past : Past ℕ T) → past ≡ p.past
    → (turns sweeps : ℕ) (halt : Option Halt) → IsPump m (pump_of p.policy core p.table p.store turns sweeps halt past)
pump_at {S} {T} m p is core core_is past past_is turns sweeps halt =
    let written : IsPump m (pump_of p.policy p.core p.table p.store turns sweeps halt p.past) = record {
      machine = is.machine;
      plain_word = is.plain_word;
      within = is.within;
      words = is.words;
      rules = is.rules;
      room = is.room;
      remembered = is.remembered;
    } in
    subst (λ (c : CoreState ℕ). IsPump m (pump_of p.policy c p.table p.store turns sweeps halt past)) (sym core_is)
    (subst (λ (kept : Past ℕ T). IsPump m (pump_of p.policy p.core p.table p.store turns sweeps halt kept)) (sym past_is) written)

module _ {S T : Type 0} (m : PolicyModel T S) (p : PumpState S T) where
  pub machine_effected : (feed : Tape) (h : ℕ) (look : Look) (outs : Outs ℕ)
      → machine_by_words m (after_effect p feed h look outs) ≡ record (machine_by_words m p) {
        core = core_effected (machine_by_words m p).core feed h look (outs_by (decode m p) outs);
      }
  machine_effected feed h look outs =
      ap (λ (c : CoreState T). record { policy = p.policy; core = c }) (sym (core_effected_by (decode m p) p.core feed h look outs))

  harts_there : (h : ℕ) → h < length p.core.harts → h < length (machine_by_words m p).core.harts
  harts_there h there = subst (λ n. h < n) (sym (length-map p.core.harts (hart_by (decode m p)))) there

  module _ (is : IsPump m p) where
    -- with another core of its words, other records of them, and another count of turns
    pump_with : (core : CoreState ℕ) (turns : ℕ) (past : Past ℕ T) → IsMachine m (record { policy = p.policy; core = core_by (decode m p) core })
        → IsLowCore (length p.table.tags) core → IsLowPast (length p.table.tags) past → IsPump m (record p { core = core; turns = turns; past = past })
    pump_with core turns past machine words remembered = record {
      machine = machine;
      plain_word = is.plain_word;
      within = is.within;
      words = words;
      rules = is.rules;
      room = is.room;
      remembered = remembered;
    }

    pub pump_stopped : (h : ℕ) (why : Stop) → IsPump m (after_stop p h why)
    pump_stopped h why =
        pump_with (stopping p.core h why) (next_count p.turns) (pushed p.past (bare_record p.core h)) (stopped_stays m (machine_by_words m p) is.machine h why).machine
        (low_stopped (length p.table.tags) p.core is.words h why)
        (low_pushed (length p.table.tags) p.past is.remembered (bare_record p.core h) (low_bare (length p.table.tags) p.core is.words h))

    pub pump_halted : (why : Halt) → IsPump m (after_halt p why)
    pump_halted why = record {
      machine = is.machine;
      plain_word = is.plain_word;
      within = is.within;
      words = is.words;
      rules = is.rules;
      room = is.room;
      remembered = is.remembered;
    }

    pub pump_effected : (feed : Tape) (h : ℕ) (look : Look) (outs : Outs ℕ) → h < length p.core.harts → IsSound (ram_bytes p.core.ram) look.effect
        → AreOutWords (length p.table.tags) outs → IsPump m (after_effect p feed h look outs)
    pump_effected feed h look outs there sound outs_are =
        let tags_outs = outs_by (decode m p) outs in
        let stays = effected_stays m (machine_by_words m p) is.machine feed h look tags_outs (harts_there h there) sound in
        let made = record_by look.group p.core (first_fed feed.left) h look in
        pump_with (core_effected p.core feed h look outs) (next_count p.turns) (pushed p.past made)
        (subst (IsMachine m) (sym (machine_effected feed h look outs)) stays.machine)
        (low_effected (length p.table.tags) p.core is.words feed h look outs outs_are)
        (low_pushed (length p.table.tags) p.past is.remembered made (low_made (length p.table.tags) p.core is.words h (first_fed feed.left) look))

-- ---- the engine after a service of its policy

-- a commit leaves what the rulebook has
pub same_book : {S T : Type 0} (m : PolicyModel T S) (s n : S) → SameRules m s n → rulebook_of m n ≡ rulebook_of m s
same_book m s n same = λ j. record { plain = same.plain j; ignores = λ g. same.ignores g j; rule = λ g x. same.rule g x j }

-- it wrote the words and the answer, the policy took note of the plan, and the turn is remembered; so many turns were made
abbrev pub after_service : {S T : Type 0} → PolicyModel T S → PumpState S T → ℕ → Plan T → List (ℕ × ℕ × ℕ) → Option (Answer ℕ) → ℕ → ℕ → ℕ
    → PumpState S T
after_service m p h plan words answer next pc turns =
    record p {
      policy = m.commit p.policy plan;
      core = core_served p.core h words answer next pc;
      turns = turns;
      past = pushed p.past (record_served p.core h words plan);
    }

module _ {S T : Type 0} (m : PolicyModel T S) (holds : S → Type 0) (laws : KeepsLaws m holds) (p : PumpState S T) (plan : Plan T)
    (given : IsGiven m p.policy plan) where
  committed : SameRules m p.policy (m.commit p.policy plan)
  committed = laws.keeps p.policy plan given

  module _ (h : ℕ) (words : List (ℕ × ℕ × ℕ)) (answer : Option (Answer ℕ)) (next pc turns : ℕ) where
    abbrev tags_words : List (ℕ × ℕ × T)
    tags_words = words_by (decode m p) words

    abbrev tags_answer : Option (Answer T)
    tags_answer = option_map (answer_by (decode m p)) answer

    -- the machine after it: the same, done to the machine of tags
    abbrev pub machine_after : Machine S T
    machine_after = record {
      policy = m.commit p.policy plan;
      core = core_served (machine_by_words m p).core h tags_words tags_answer next (decode m p pc);
    }

    pub machine_served : machine_by_words m (after_service m p h plan words answer next pc turns) ≡ machine_after
    machine_served =
        (λ j. record {
          policy = m.commit p.policy plan;
          core = core_by (tag_at (committed.plain j) p.table.tags) (core_served p.core h words answer next pc);
        })
        ∙ ap (λ (c : CoreState T). record { policy = m.commit p.policy plan; core = c })
        (sym (core_served_by (decode m p) p.core h words answer next pc))

    pub pump_served : IsPump m p → h < length p.core.harts → next % 4 ≡ 0 → All (IsWordBelow (length p.table.tags)) words
        → IsAnswerBelow (length p.table.tags) answer → pc < length p.table.tags → IsPump m (after_service m p h plan words answer next pc turns)
    pump_served is there aligned all below pc_below =
        let stays = served_stays m (machine_by_words m p) is.machine holds laws h plan tags_words tags_answer next (decode m p pc)
        (harts_there m p h there) aligned given in
        record {
          machine = subst (IsMachine m) (sym machine_served) stays.machine;
          plain_word = is.plain_word ∙ ap Some (sym committed.plain);
          within = is.within;
          words = low_served (length p.table.tags) p.core is.words h words answer next pc all below pc_below;
          rules = subst (λ book. AreRules book p.table.tags p.store.sets) (sym (same_book m p.policy (m.commit p.policy plan) committed)) is.rules;
          room = is.room;
          remembered = low_pushed (length p.table.tags) p.past is.remembered (record_served p.core h words plan)
              (low_record_served (length p.table.tags) p.core is.words h words plan all);
        }
