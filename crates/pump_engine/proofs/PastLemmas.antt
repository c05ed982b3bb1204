-- Records whose words are below a count: those of a core of such words, and what is done with them.
use Rattle.std.proofs.Common.{◌≡◌, ℕ, ◌<◌, ◌≤◌, List, [], All, Option, Some, None, slice_index, refl, ap, sym, ◌∙◌}
use Rattle.std.proofs.lemmas.Option.{none-some, same_Some}
use Rattle.policy_trait.specs.declared.services.Plan.{Plan}
use Rattle.turn_steps.specs.declared.look.Look.{Look}
use Rattle.undo_log.specs.Past.{Past, Record, newest, older, past_by, past_of, pushed, record_with}
use Rattle.undo_log.proofs.MapLemmas.{newest_some_by, newest_none_by, older_by, past_by_past_by, pushed_by}
use Rattle.engine_trait.specs.History.{bare_record, core_undone, record_by, record_served}
use Rattle.engine_trait.specs.Machine.{CoreState}
use Rattle.word_service.specs.Written.{IsWordBelow}
use Rattle.pump_engine.specs.Low.{IsLowCore, IsLowPast, IsLowRecord, Low}
use Rattle.pump_engine.proofs.LowLemmas.{low_words, number, raised}
use Rattle.pump_engine.proofs.RecordLemmas.{bare_record_by, core_undone_by, record_by_by, record_served_by}

-- ---- records of a core of such words

module _ {U : Type 0} (n : ℕ) (core : CoreState ℕ) (is : IsLowCore n core) (h : ℕ) where
  pub low_bare : IsLowRecord {U = U} n (bare_record core h)
  low_bare = record { low = bare_record is.low h; is = ap (λ (c : CoreState ℕ). bare_record c h) is.is ∙ bare_record_by number is.low h }

  pub low_made : (next : Option ℕ) (look : Look) → IsLowRecord {U = U} n (record_by look.group core next h look)
  low_made next look = record {
    low = record_by look.group is.low next h look;
    is = ap (λ (c : CoreState ℕ). record_by look.group c next h look) is.is ∙ record_by_by number is.low h look.group next look;
  }

  pub low_record_served : (words : List (ℕ × ℕ × ℕ)) (plan : Plan U) → All (IsWordBelow n) words → IsLowRecord n (record_served core h words plan)
  low_record_served words plan all =
      let written = low_words n words all in
      record {
        low = record_served is.low h written.words_low plan;
        is = (λ j. record_served (is.is j) h (written.words_are j) plan) ∙ record_served_by number is.low h number written.words_low plan;
      }

-- a core that such a record takes back
pub low_undone : {U : Type 0} (n : ℕ) (core : CoreState ℕ) (made : Record ℕ U) → IsLowCore n core → IsLowRecord n made → IsLowCore n (core_undone core made)
low_undone n core made is low = record {
  low = core_undone is.low low.low;
  is = (λ j. core_undone (is.is j) (low.is j)) ∙ core_undone_by number is.low low.low;
}

-- ---- all records

-- where there is none
pub low_none : {U : Type 0} (n : ℕ) (past : Past ℕ U) → past.kept ≡ [] → IsLowPast n past
low_none n past none = record { low = past_of [] past.most; is = ap (λ kept. past_of kept past.most) none }

module _ {U : Type 0} (n : ℕ) (past : Past ℕ U) (is : IsLowPast n past) where
  pub low_past_grown : (k : ℕ) → n ≤ k → IsLowPast k past
  low_past_grown k more = record { low = past_by (raised n k more) is.low; is = is.is ∙ sym (past_by_past_by (raised n k more) number is.low) }

  -- with other numbers, each below a count
  pub low_past_swept : (k : ℕ) (numbers : List ℕ) → ((word : ℕ) → slice_index numbers word < k) → IsLowPast k (past_by (slice_index numbers) past)
  low_past_swept k numbers below =
      let renumbered : Low n → Low k = λ word. record { word = slice_index numbers word.word; below = below word.word } in
      record {
        low = past_by renumbered is.low;
        is = ap (past_by (slice_index numbers)) is.is ∙ past_by_past_by number (slice_index numbers) is.low ∙ sym (past_by_past_by renumbered number is.low);
      }

  -- functions that agree on its words change it alike
  pub low_past_same : {T : Type 0} (f g : ℕ → T) → ((w : ℕ) → w < n → f w ≡ g w) → past_by f past ≡ past_by g past
  low_past_same f g same =
      ap (past_by f) is.is
      ∙ past_by_past_by number f is.low
      ∙ (λ j. past_by (λ (word : Low n). same word.word word.below j) is.low)
      ∙ sym (past_by_past_by number g is.low)
      ∙ sym (ap (past_by g) is.is)

  pub low_pushed : (made : Record ℕ U) → IsLowRecord n made → IsLowPast n (pushed past made)
  low_pushed made low = record { low = pushed is.low low.low; is = (λ j. pushed (is.is j) (low.is j)) ∙ pushed_by number is.low low.low }

  pub low_older : IsLowPast n (older past)
  low_older = record { low = older is.low; is = ap older is.is ∙ older_by number is.low }

  pub low_newest : (made : Record ℕ U) → newest past ≡ Some made → IsLowRecord n made
  low_newest made last = by (newest is.low) refl
    where
      by : (found : Option (Record (Low n) U)) → newest is.low ≡ found → IsLowRecord n made
      by None e = absurd (none-some made (sym (newest_none_by number is.low e) ∙ sym (ap newest is.is) ∙ last))
      by (Some low) e = record { low = low; is = same_Some made (record_with number low) (sym last ∙ ap newest is.is ∙ newest_some_by number is.low low e) }
