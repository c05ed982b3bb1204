-- The newest turn, taken back where tags are words, is that of the tags that the words stand for.
use Rattle.std.proofs.Common.{◌≡◌, ℕ, List, [], ◌∷◌, length, map, Option, Some, None, is_some, refl, ap, sym, ◌∙◌, subst}
use Rattle.std.specs.List.{AllByRecursion}
use Rattle.std.specs.Option.{ForSome}
use Rattle.std.proofs.lemmas.List.{length-map}
use Rattle.std.proofs.lemmas.List.Elements.{All-from_recursion, recursion_from_All}
use Rattle.policy_trait.specs.Model.{IsCommitted, PolicyModel}
use Rattle.policy_trait.specs.PolicyLaws.{KeepsLaws, SameRules}
use Rattle.policy_trait.specs.declared.services.Plan.{Plan}
use Rattle.tag_memory.specs.Maps.{hart_by}
use Rattle.tag_memory.specs.Ram.{IsPlace, ram_bytes}
use Rattle.turn_steps.specs.Feeds.{Tape, unread}
use Rattle.undo_log.specs.Past.{Past, Record, newest, older, past_by, record_with, replaced_by, some_replaced_by}
use Rattle.undo_log.specs.declared.record.Replaced.{Replaced}
use Rattle.undo_log.proofs.MapLemmas.{newest_none_by, newest_some_by, older_by}
use Rattle.engine_trait.specs.Accounts.{Account}
use Rattle.engine_trait.specs.Back.{IsPastOf, awake, back}
use Rattle.engine_trait.specs.History.{core_undone, policy_undone, undone}
use Rattle.engine_trait.specs.HistoryLaws.{IsFit}
use Rattle.engine_trait.specs.Machine.{CoreState, IsMachine, Machine}
use Rattle.engine_trait.specs.Maps.{core_by}
use Rattle.engine_trait.proofs.PastLemmas.{IsNewest, back_none, back_some, past_newest}
use Rattle.rule_cache.specs.Named.{keys_by}
use Rattle.tag_intern.specs.Words.{tag_at}
use Rattle.miss_handler.specs.Asked.{AreRules}
use Rattle.pump_engine.specs.Back.{CanTakeBack, HasPast, taken_back, unread_by}
use Rattle.pump_engine.specs.Pump.{IsPump, PumpState, account_by_words, decode, machine_by_words, standing_by_words}
use Rattle.pump_engine.proofs.PastLemmas.{low_newest, low_older, low_undone}
use Rattle.pump_engine.proofs.RecordLemmas.{core_undone_by}
use Rattle.pump_engine.proofs.StayLemmas.{same_book}

-- ---- what fits a record of tags fits that of their words

module _ {T V : Type 0} (f : T → V) (bytes : ℕ) where
  words_fit : (range : List (Replaced T)) → AllByRecursion (λ (old : Replaced V). IsPlace bytes old.place) (map (replaced_by f) range)
      → AllByRecursion (λ (old : Replaced T). IsPlace bytes old.place) range
  words_fit [] all = tt
  words_fit (old ∷ range) all = (all.0, words_fit range all.1)

  fit_words : {U : Type 0} (harts : ℕ) (made : Record T U) → IsFit harts bytes (record_with f made) → IsFit harts bytes made
  fit_words harts made fit = record {
    hart = fit.hart;
    aligned = fit.aligned;
    reg = λ old is. fit.reg (replaced_by f old) (ap (some_replaced_by f) is);
    word = λ old is. fit.word (replaced_by f old) (ap (some_replaced_by f) is);
    range = All-from_recursion (λ (old : Replaced T). IsPlace bytes old.place) made.range
        (words_fit made.range (recursion_from_All (λ (old : Replaced V). IsPlace bytes old.place) (map (replaced_by f) made.range) fit.range));
  }

module _ {S T : Type 0} (m : PolicyModel T S) (holds : S → Type 0) (laws : KeepsLaws m holds) where
  -- ---- the policy

  unchanged : (s : S) → SameRules m s s
  unchanged s = record {
    plain = refl;
    rule = λ g x. refl;
    ignores = λ g. refl;
    peeks = refl;
    peek = λ shape first second. refl;
    knows = λ k. refl;
    uses = λ k. refl;
    lend = λ t. refl;
    room = refl;
    wipe = λ pc old. refl;
    start_pc = λ b. refl;
    start_word = λ b. refl;
    text = λ t. refl;
  }

  -- a commit that is taken back changed no rule
  same_undone : (s : S) (plan : Option (Plan T)) → ForSome plan (IsCommitted m holds s) → SameRules m (policy_undone m s plan) s
  same_undone s None committed = unchanged s
  same_undone s (Some plan) committed =
      let last = committed plan refl in
      let before_is : m.uncommit s plan ≡ last.before = ap (λ t. m.uncommit t plan) last.left ∙ laws.undoes last.before plan last.given last.held in
      subst (λ t. SameRules m t s) (sym before_is) (subst (SameRules m last.before) (sym last.left) (laws.keeps last.before plan last.given))

  module _ (p : PumpState S T) (made : Record ℕ T) (last : newest p.past ≡ Some made) where
    abbrev undone_pump : PumpState S T
    undone_pump = taken_back m p (Some made)

    last_told : newest (account_by_words m p).past ≡ Some (record_with (decode m p) made)
    last_told = newest_some_by (decode m p) p.past made last

    module _ (can : CanTakeBack m p holds made) where
      pub same : SameRules m (policy_undone m p.policy made.plan) p.policy
      same = same_undone p.policy made.plan can.committed

      machine_back : machine_by_words m undone_pump ≡ undone m (machine_by_words m p) (record_with (decode m p) made)
      machine_back =
          (λ j. record {
            policy = policy_undone m p.policy made.plan;
            core = core_by (tag_at (sym same.plain j) p.table.tags) (core_undone p.core made);
          })
          ∙ ap (λ (core : CoreState T). record { policy = policy_undone m p.policy made.plan; core = core }) (sym (core_undone_by (decode m p) p.core made))

      account_back : account_by_words m undone_pump ≡ record (account_by_words m p) { halt = awake p.halt; past = older (account_by_words m p).past }
      account_back =
          (λ j. record (account_by_words m p) {
            sets = map (keys_by (tag_at (sym same.plain j) p.table.tags)) p.store.sets;
            halt = awake p.halt;
            past = past_by (tag_at (sym same.plain j) p.table.tags) (older p.past);
          })
          ∙ ap (λ (past : Past T T). record (account_by_words m p) { halt = awake p.halt; past = past }) (sym (older_by (decode m p) p.past))

      -- it is an engine still
      pub pump_back : IsPump m p → IsPump m undone_pump
      pump_back is = record {
        machine = subst (IsMachine m) (sym machine_back) can.sound;
        plain_word = is.plain_word ∙ ap Some same.plain;
        within = is.within;
        words = low_undone (length p.table.tags) p.core made is.words (low_newest (length p.table.tags) p.past is.remembered made last);
        rules = subst (λ book. AreRules book p.table.tags p.store.sets) (same_book m (policy_undone m p.policy made.plan) p.policy same) is.rules;
        room = is.room;
        remembered = low_older (length p.table.tags) p.past is.remembered;
      }

      back_some_by : (feed : Tape) → back m (standing_by_words m p) feed ≡ record { standing = standing_by_words m undone_pump; feed = unread made.fed feed }
      back_some_by feed =
          back_some m (standing_by_words m p) feed (record_with (decode m p) made) last_told
          ∙ λ j. record { standing = record { machine = sym machine_back j; account = sym account_back j }; feed = unread made.fed feed }

    -- ---- the records of the last turns

    module _ (past : HasPast m p holds) where
      its_turn : IsNewest m holds (machine_by_words m p) (older (account_by_words m p).past).kept (record_with (decode m p) made)
      its_turn = past_newest m holds laws (machine_by_words m p) (account_by_words m p).past (record_with (decode m p) made) last_told past

      can_by : CanTakeBack m p holds made
      can_by =
          let newest_turn = its_turn in
          record {
            fit = fit_words (decode m p) (ram_bytes p.core.ram) (length p.core.harts) made
                (subst (λ (harts : ℕ). IsFit harts (ram_bytes p.core.ram) (record_with (decode m p) made)) (length-map p.core.harts (hart_by (decode m p))) newest_turn.fit);
            committed = newest_turn.committed;
            sound = subst (IsMachine m) (sym newest_turn.undone_is) newest_turn.sound;
          }

      past_by_back : HasPast m undone_pump holds
      past_by_back =
          subst (λ (account : Account T). IsPastOf m holds (machine_by_words m undone_pump) account.past.kept) (sym (account_back can_by))
          (subst (λ (s : Machine S T). IsPastOf m holds s (older (account_by_words m p).past).kept) (sym (machine_back can_by ∙ its_turn.undone_is)) its_turn.past)

  -- ---- whether there is a record or not

  module _ (p : PumpState S T) where
    pub back_by_words : (found : Option (Record ℕ T)) → newest p.past ≡ found → ForSome found (CanTakeBack m p holds) → (feed : Tape)
        → back m (standing_by_words m p) feed ≡ record { standing = standing_by_words m (taken_back m p found); feed = unread_by found feed }
    back_by_words None last can feed = back_none m (standing_by_words m p) feed (newest_none_by (decode m p) p.past last)
    back_by_words (Some made) last can feed = back_some_by p made last (can made refl) feed

    some_by_words : (found : Option (Record ℕ T)) → newest p.past ≡ found → is_some found ≡ is_some (newest (account_by_words m p).past)
    some_by_words None last = sym (ap is_some (newest_none_by (decode m p) p.past last))
    some_by_words (Some made) last = sym (ap is_some (newest_some_by (decode m p) p.past made last))

    pub some_told : is_some (newest p.past) ≡ is_some (newest (account_by_words m p).past)
    some_told = some_by_words (newest p.past) refl

    module _ (past : HasPast m p holds) where
      pub can_take_back : ForSome (newest p.past) (CanTakeBack m p holds)
      can_take_back made last = can_by p made last past

      past_stays : (found : Option (Record ℕ T)) → newest p.past ≡ found → HasPast m (taken_back m p found) holds
      past_stays None last = past
      past_stays (Some made) last = past_by_back p made last past

      pub past_taken : HasPast m (taken_back m p (newest p.past)) holds
      past_taken = past_stays (newest p.past) refl
