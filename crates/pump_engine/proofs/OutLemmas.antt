-- A service that nothing refuses: how it ends without a sweep, and behind one.
use Rattle.std.proofs.Common.{◌≡◌, inl, inr, ℕ, Bool, true, false, List, [], ◌∷◌, Some, None, Ok, Err, sym, ap, subst, ◌∙◌}
use Rattle.policy_trait.specs.Model.{PolicyModel}
use Rattle.policy_trait.specs.declared.rules.Outs.{Outs}
use Rattle.monitor_calls.specs.Service.{Job}
use Rattle.turn_steps.specs.declared.look.Look.{Look}
use Rattle.engine_trait.specs.Accounts.{Account, first_written, is_over, remembering, seeing, written_tags}
use Rattle.engine_trait.specs.History.{record_served}
use Rattle.engine_trait.specs.Machine.{Machine}
use Rattle.shared_terms.specs.Counts.{next_count}
use Rattle.engine_trait.specs.Turn.{core_served}
use Rattle.engine_trait.specs.declared.ends.Halt.{Halt}
use Rattle.engine_trait.specs.declared.ends.Halt.TheVariants as halt
use Rattle.engine_trait.specs.declared.ends.TurnEnd.{TurnEnd}
use Rattle.engine_trait.specs.declared.ends.TurnEnd.TheVariants as ends
use Rattle.engine_trait.proofs.RoomLemmas.{room_kept, room_swept}
use Rattle.tag_intern.specs.declared.table.InternEnd.TheVariants as intern_end
use Rattle.pump_engine.specs.Pump.{PumpState, account_by_words, decode, machine_by_words}
use Rattle.pump_engine.specs.Steps.{CarriesOut, Halts, IsSwept, Serves, TriesOut, after_halt, outs_standing, swept_served, written_in}

-- the engine stopped, and the account is its own
halts_as : {S T : Type 0} (m : PolicyModel T S) (p f : PumpState S T) (why : Halt) → f ≡ after_halt p why → Halts m p (account_by_words m p) why f
halts_as m p f why is = record { machine = ap (machine_by_words m) is; account = ap (account_by_words m) is }

module _ {S T : Type 0} (eq : T → T → Bool) (m : PolicyModel T S) (p : PumpState S T) (h : ℕ) (look : Look) (outs : Outs ℕ) (job : Job T) where
  abbrev writing : Account T → Account T
  writing account = seeing eq (written_tags job) account

  -- an account with the record of the service, which ran on this machine, and with so many turns
  abbrev noted : Machine S T → ℕ → Account T → Account T
  noted s turns account = record (remembering (record_served s.core h job.words job.plan) account) { turns = next_count turns }

  -- without a sweep
  served_once : (f : PumpState S T) → Serves eq m p h look outs job (writing (account_by_words m p)) f → Serves eq m p h look outs job (written_in eq m p h look outs job) f
  served_once f served = record {
    machine = served.machine;
    account_is = served.account_is
        ∙ ap (noted (machine_by_words m p) p.turns)
        (sym (room_kept eq (outs_standing eq m p h look outs) writing (account_by_words m p) (ap is_over (sym served.account_is) ∙ served.within)));
    within = served.within;
  }

  pub tried_carried : (f : PumpState S T) (end : TurnEnd) → TriesOut eq m p h look outs job f (Ok end) → CarriesOut eq m p h look outs job f end
  tried_carried f (ends.Ran None) served = served_once f served
  tried_carried f (ends.Ran (Some byte)) never = absurd never
  tried_carried f ends.Break never = absurd never
  tried_carried f (ends.Stopped why) never = absurd never
  tried_carried f ends.Idle never = absurd never
  tried_carried f ends.TagsOut never = absurd never
  tried_carried f ends.Memory wants = inl (halts_as m p f halt.Memory wants.0)

  -- memory ran out before anything changed
  pub wanting_carried : (q f : PumpState S T) → q ≡ p → f ≡ after_halt q halt.Memory → (ended : TurnEnd) → ended ≡ ends.Memory → CarriesOut eq m p h look outs job f ended
  wanting_carried q f same is ended ended_is =
      subst (CarriesOut eq m p h look outs job f) (sym ended_is) (inl (halts_as m p f halt.Memory (is ∙ ap (λ (s : PumpState S T). after_halt s halt.Memory) same)))

  -- ---- behind a sweep, at the outputs' new words

  module _ (over : is_over (writing (account_by_words m p)) ≡ true) (q : PumpState S T) (numbers : List ℕ) (moved : Outs ℕ)
      (sweep : IsSwept eq m p (outs.pc ∷ outs.result ∷ []) numbers q) (pc_is : decode m q moved.pc ≡ decode m p outs.pc) where
    written_swept : written_in eq m p h look outs job ≡ writing (swept_served eq m p h look outs)
    written_swept = room_swept eq (outs_standing eq m p h look outs) writing (account_by_words m p) over

    halts_swept : (f : PumpState S T) (why : Halt) → f ≡ after_halt q why → Halts m p (swept_served eq m p h look outs) why f
    halts_swept f why is = record {
      machine = ap (machine_by_words m) is ∙ sweep.machine;
      account = ap (account_by_words m) is ∙ ap (λ (a : Account T). record a { halt = Some why }) sweep.account;
    }

    served_swept : (f : PumpState S T) → Serves eq m q h look moved job (writing (account_by_words m q)) f → Serves eq m p h look outs job (written_in eq m p h look outs job) f
    served_swept f served = record {
      machine = served.machine ∙ λ j. record {
        policy = m.commit (sweep.machine j).policy job.plan;
        core = core_served (sweep.machine j).core h job.words job.plan.answer look.effect.next (pc_is j);
      };
      account_is = served.account_is
          ∙ (λ j. noted (sweep.machine j) (sweep.parts.turns j) (writing (sweep.account j)))
          ∙ ap (noted (machine_by_words m p) p.turns) (sym written_swept);
      within = served.within;
    }

    wants_swept : (f : PumpState S T) → f ≡ after_halt q halt.Memory → is_over (seeing eq (first_written job) (account_by_words m q)) ≡ false
        → CarriesOut eq m p h look outs job f ends.Memory
    wants_swept f is fits = inr (halts_swept f halt.Memory is, ap (λ (a : Account T). is_over (seeing eq (first_written job) a)) (sym sweep.account) ∙ fits)

    pub tried_swept : (f : PumpState S T) (end : TurnEnd) → TriesOut eq m q h look moved job f (Ok end) → CarriesOut eq m p h look outs job f end
    tried_swept f (ends.Ran None) served = served_swept f served
    tried_swept f (ends.Ran (Some byte)) never = absurd never
    tried_swept f ends.Break never = absurd never
    tried_swept f (ends.Stopped why) never = absurd never
    tried_swept f ends.Idle never = absurd never
    tried_swept f ends.TagsOut never = absurd never
    tried_swept f ends.Memory wants = wants_swept f wants.0 wants.1

    -- there is no room even so
    pub out_swept : (g f : PumpState S T) → TriesOut eq m q h look moved job g (Err intern_end.Full) → f ≡ after_halt g halt.TagNumbers → (ended : TurnEnd) → ended ≡ ends.TagsOut
        → CarriesOut eq m p h look outs job f ended
    out_swept g f tried is ended ended_is =
        subst (CarriesOut eq m p h look outs job f) (sym ended_is) (
          halts_swept f halt.TagNumbers (is ∙ ap (λ (s : PumpState S T). after_halt s halt.TagNumbers) tried.0),
          ap is_over (written_swept ∙ ap writing (sym sweep.account)) ∙ tried.1,
        )

    -- or memory ran out
    pub wanting_swept : (g f : PumpState S T) → TriesOut eq m q h look moved job g (Err intern_end.Memory) → f ≡ after_halt g halt.Memory → (ended : TurnEnd) → ended ≡ ends.Memory
        → CarriesOut eq m p h look outs job f ended
    wanting_swept g f tried is ended ended_is =
        subst (CarriesOut eq m p h look outs job f) (sym ended_is)
        (wants_swept f (is ∙ ap (λ (s : PumpState S T). after_halt s halt.Memory) tried.0) tried.1)
