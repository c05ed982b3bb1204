-- Each turn under sealing keeps the invariant, and does what the key book allows.
use Rattle.std.proofs.Common.{◌≡◌, ℕ, true, List, [], ◌∷◌, ◌++◌, length, Some, None, Ok, sym, ap, ◌∙◌, subst}
use Rattle.std.specs.Option.{ForSome}
use Rattle.std.proofs.lemmas.Option.{none-some, same_Some}
use Rattle.rv_decode.specs.Groups.{a0}
use Rattle.monitor_calls.specs.Service.{retagged_range}
use Rattle.policy_parts.specs.Part.{beside_others}
use Rattle.policy_trait.specs.PolicyLaws.{IsRange}
use Rattle.policy_trait.specs.declared.rules.Outs.{Outs}
use Rattle.policy_trait.specs.declared.services.Args.{Args}
use Rattle.policy_trait.specs.declared.services.Plan.{Plan}
use Rattle.tag_memory.specs.Hart.{moved_to, reg_tag, reg_value}
use Rattle.tag_memory.specs.Ram.{RamState, ram_bytes, ram_tag, ram_word}
use Rattle.turn_steps.specs.Effects.{with_store, with_tagged}
use Rattle.turn_steps.specs.Services.{args_on, with_answer, with_words}
use Rattle.turn_steps.specs.declared.look.Look.{Look}
use Rattle.turn_steps.specs.declared.stop.Stop.{Stop}
use Rattle.engine_trait.specs.Events.{Event}
use Rattle.engine_trait.proofs.ValueLemmas.{hart_words}
use Rattle.engine_trait.specs.Machine.{HasWords, IsMachine, Machine, hart_at, is_ready_in}
use Rattle.engine_trait.specs.Turn.{core_served, rule_inputs, stopped_at}
use Rattle.part_turns.proofs.PlaceLemmas.{IsServed, each_answered, each_served, kept, nth_tag, nth_word, store_plain, words_plain, written}
use Rattle.part_turns.specs.Keeps.{Keeps}
use Rattle.part_turns.specs.Moments.{Service, service_of}
use Rattle.part_turns.specs.Turns.{Does, Turns, after_service, after_step, exits, goes, idles, serves, stops}
use Rattle.sealing_policy.specs.Sealing.{sealing}
use Rattle.sealing_policy.specs.declared.tag.SealTag.{SealTag}
use Rattle.seal_runs.specs.KeyBook.{KeyBook, answer_value, key_book, keys_by}
use Rattle.seal_runs.specs.SealInvariant.{Fits, SealInvariant}
use Rattle.seal_runs.specs.SealSafe.{SealTurn, UsesKey}
use Rattle.seal_runs.proofs.BookLemmas.{book_after, fits_grown, same_grows}
use Rattle.seal_runs.proofs.InvariantLemmas.{FitHart, Holds, holds_from, invariant_from, pcs_put_back, put_back, ready_shape}
use Rattle.seal_runs.proofs.RuleLemmas.{pc_tag}
use Rattle.seal_runs.proofs.ServiceLemmas.{IsServedBy, book_by, served_by, service_by_plan}
use Rattle.seal_runs.proofs.StepLemmas.{step_fits}

abbrev SealEvent : Type 0
SealEvent = Event SealTag

abbrev SealMachine : Type 0
SealMachine = Machine ℕ SealTag

-- ---- the machine after a turn

module _ (book : KeyBook) (s : SealMachine) (h : ℕ) (sound : IsMachine sealing s) (holds : Holds book s) (values : HasWords s.core) where
  stop_holds : (why : Stop) → Holds book (stopped_at s h why)
  stop_holds why = record { harts = holds.harts; ram = holds.ram; pcs = holds.pcs; keys = holds.keys }

  module _ (ready : is_ready_in s.core h ≡ true) where
    step_holds : (look : Look) (outs : Outs SealTag) (register value : ℕ) → sealing.rule s.policy look.group (rule_inputs s.core h look) ≡ Ok outs
        → Does (hart_at s.core h) s.core.ram look register value → Holds book (after_step sealing s h look outs register value)
    step_holds look outs register value rule does =
        let hart = hart_at s.core h in
        let fits =
        step_fits book hart s.core.ram (ready_shape s h sound ready) (hart_words s.core values h) sound.ram.shape (holds.harts h) holds.ram
        look outs rule register value does in
        record {
          harts = put_back book book s.core h (moved_to (with_tagged hart register value outs.result) look.effect.next outs.pc)
              (with_store s.core.ram look.effect.access outs.result)
              (same_grows book) (store_plain s.core.ram look.effect.access outs.result) holds.harts fits.registers;
          ram = fits.memory;
          pcs = pcs_put_back s.core h (moved_to (with_tagged hart register value outs.result) look.effect.next outs.pc)
              (with_store s.core.ram look.effect.access outs.result) (store_plain s.core.ram look.effect.access outs.result) holds.pcs
              (pc_tag look.group (rule_inputs s.core h look) outs rule);
          keys = holds.keys;
        }

    abbrev arguments : Args SealTag
    arguments = args_on (hart_at s.core h) s.core.ram

    module _ (number : ℕ) (p : Plan SealTag) (words : List (ℕ × ℕ × SealTag)) (served : IsServedBy book s.policy arguments number p) where
      abbrev new_book : KeyBook
      new_book = book_by book arguments number p

      abbrev new_ram : RamState SealTag
      new_ram = with_words s.core.ram words

      -- a word with its tag, as one that fitted
      word_fits : (n word : ℕ) → nth_word new_ram n ≡ word → Fits book word (nth_tag new_ram n) → Fits new_book (nth_word new_ram n) (nth_tag new_ram n)
      word_fits n word is fits =
          fits_grown book new_book served.grows (nth_word new_ram n) (nth_tag new_ram n) (subst (λ v. Fits book v (nth_tag new_ram n)) (sym is) fits)

      word_holds : (n : ℕ) → IsServed sealing s.policy p s.core.ram new_ram n → Fits new_book (nth_word new_ram n) (nth_tag new_ram n)
      word_holds n (written range ranged from below tag word) =
          word_fits n _ word (served.words range (nth_word s.core.ram n) (nth_tag s.core.ram n) (nth_tag new_ram n) ranged tag (holds.ram n))
      word_holds n (kept outside tag word) = word_fits n _ word (subst (Fits book (nth_word s.core.ram n)) (sym tag) (holds.ram n))

      answer_holds : FitHart new_book (with_answer (hart_at s.core h) p.answer)
      answer_holds =
          each_answered (Fits new_book) (hart_at s.core h) p.answer (ready_shape s h sound ready) served.answer
          (λ r. fits_grown book new_book served.grows (reg_value (hart_at s.core h) r) (reg_tag (hart_at s.core h) r) (holds.harts h r))

      service_holds : (look : Look) (outs : Outs SealTag) → sealing.rule s.policy look.group (rule_inputs s.core h look) ≡ Ok outs
          → ForSome p.range (IsRange (ram_bytes s.core.ram))
          → retagged_range (beside_others sealing) s.policy (ram_word s.core.ram) (ram_tag s.core.ram) p p.range ≡ Ok words
          → Holds new_book (after_service sealing s h look outs p words)
      unfolding core_served
      service_holds look outs rule is_range e = record {
        harts = put_back book new_book s.core h (moved_to (with_answer (hart_at s.core h) p.answer) look.effect.next outs.pc) new_ram
            served.grows (words_plain s.core.ram words) holds.harts answer_holds;
        ram = λ n. word_holds n (each_served sealing s.policy p s.core.ram sound.ram.shape words is_range e n);
        pcs = pcs_put_back s.core h (moved_to (with_answer (hart_at s.core h) p.answer) look.effect.next outs.pc) new_ram
            (words_plain s.core.ram words) holds.pcs (pc_tag look.group (rule_inputs s.core h look) outs rule);
        keys = served.has;
      }

-- ---- the invariant and the guarantee

module _ (before : List SealEvent) (e : SealEvent) where
  abbrev Kept : SealMachine → Type 0
  Kept t = SealTurn (key_book before) e × SealInvariant (before ++ e ∷ []) t

  -- a turn without a service
  quiet_kept : (t : SealMachine) → service_of e ≡ None → Holds (key_book before) t → HasWords t.core → Kept t
  quiet_kept t none holds values = (
    record { makes = λ x is. absurd (none-some x (sym none ∙ is)); unseals = λ x is. absurd (none-some x (sym none ∙ is)) },
    invariant_from (before ++ e ∷ []) (key_book before) t (book_after before e ∙ ap (keys_by (key_book before)) none) holds values,
  )

  -- a turn with that service
  served_kept : (t : SealMachine) (keys : ℕ) (a : Args SealTag) (number : ℕ) (p : Plan SealTag) → service_of e ≡ Some (service_by_plan number a p)
      → IsServedBy (key_book before) keys a number p → Holds (book_by (key_book before) a number p) t → HasWords t.core → Kept t
  served_kept t keys a number p is served holds values = (
    record {
      makes = λ x told.
          subst (λ (y : Service SealTag). y.number ≡ 16 → answer_value y.answer ≡ Some (length (key_book before).made)) (same x told) served.makes;
      unseals = λ x told. subst (λ (y : Service SealTag). y.number ≡ 18 → UsesKey (key_book before) y) (same x told) served.unseals;
    },
    invariant_from (before ++ e ∷ []) (book_by (key_book before) a number p) t (book_after before e ∙ ap (keys_by (key_book before)) is) holds values,
  )
    where
      same : (x : Service SealTag) → service_of e ≡ Some x → service_by_plan number a p ≡ x
      same x told = same_Some (service_by_plan number a p) x (sym is ∙ told)

  module _ (s : SealMachine) (h : ℕ) (sound : IsMachine sealing s) (invariant : SealInvariant before s) where
    -- what holds before the turn
    abbrev first : Holds (key_book before) s
    first = holds_from before s invariant

    turn_kept : (t : SealMachine) → Turns sealing s h e t → HasWords t.core → Kept t
    turn_kept t (idles waits hart unretired none left) values = quiet_kept t none (subst (Holds (key_book before)) (sym left) first) values
    turn_kept t (stops why ready hart unretired none left) values =
        quiet_kept t none (subst (Holds (key_book before)) (sym left) (stop_holds (key_book before) s h sound first invariant.values why)) values
    turn_kept t (exits look outs code allows none is touches left) values =
        quiet_kept t none (subst (Holds (key_book before)) (sym left) (stop_holds (key_book before) s h sound first invariant.values _)) values
    turn_kept t (goes look outs register value allows none does left) values =
        quiet_kept t none
        (subst (Holds (key_book before)) (sym left)
        (step_holds (key_book before) s h sound first invariant.values allows.ready look outs register value allows.rule does)) values
    turn_kept t (serves look outs p words allows is touches told planned is_range retagged left) values =
        let a : Args SealTag = args_on (hart_at s.core h) s.core.ram in
        let served : IsServedBy (key_book before) s.policy a look.service p =
        served_by (key_book before) s.policy first.keys a outs.pc (first.harts h a0) (first.harts h 11) look.service p planned in
        served_kept t s.policy a look.service p told served
        (subst (Holds (book_by (key_book before) a look.service p)) (sym left)
        (service_holds (key_book before) s h sound first invariant.values allows.ready look.service p words served look outs allows.rule is_range retagged))
        values

pub keeps_invariant : Keeps sealing SealInvariant (λ before event. SealTurn (key_book before) event)
keeps_invariant = record { turn = λ before s h e t sound invariant turns stay. turn_kept before e s h sound invariant t turns (stay invariant.values) }
