-- The ways that a turn of words may end: each is the step of the tags that the words stand for.
use Rattle.std.proofs.Common.{◌≡◌, ◌≢◌, ℕ, Bool, true, false, Some, None, Ok, Err, IsOk, ◌⊎◌, inl, inr, refl, ap, sym, subst, ◌∙◌}
use Rattle.policy_trait.specs.Maps.{outs_by}
use Rattle.policy_trait.specs.Model.{PolicyModel}
use Rattle.policy_trait.specs.declared.rules.Outs.{Outs}
use Rattle.policy_trait.specs.declared.rules.Refused.{Refused}
use Rattle.policy_trait.specs.declared.services.PlanEnd.{PlanEnd}
use Rattle.tag_memory.specs.Hart.{HartState}
use Rattle.monitor_calls.specs.Service.{Job}
use Rattle.turn_steps.specs.Feeds.{Tape, first_fed}
use Rattle.turn_steps.specs.Looks.{is_call}
use Rattle.turn_steps.specs.declared.look.Look.{Look}
use Rattle.turn_steps.specs.declared.stop.Stop.{Stop}
use Rattle.undo_log.specs.Past.{Past, past_by, pushed}
use Rattle.undo_log.proofs.MapLemmas.{pushed_by}
use Rattle.engine_trait.specs.Accounts.{Account, after_rule, first_written, is_over, look_counted, remembering, rule_counted, seeing, served_tags, standing_tags, swept}
use Rattle.shared_terms.specs.Counts.{next_count}
use Rattle.engine_trait.specs.History.{bare_record, record_by, record_served}
use Rattle.engine_trait.specs.Machine.{Machine, hart_at}
use Rattle.engine_trait.specs.Standing.{GivesUp, GivesUpAtRule, GivesUpAtService, Standing, Stepped, Wants, is_ready, step, wanting}
use Rattle.engine_trait.specs.Turn.{Turned, rule_answer, carried_at, end_of, is_job, is_served, job_at, or_unserved, or_violation, turn_job, preparation, stopped_at, service_stop, violation}
use Rattle.engine_trait.specs.declared.ends.Halt.{Halt}
use Rattle.engine_trait.specs.declared.ends.Halt.TheVariants as halt
use Rattle.engine_trait.specs.declared.ends.TurnEnd.{TurnEnd}
use Rattle.engine_trait.specs.declared.ends.TurnEnd.TheVariants as ends
use Rattle.engine_trait.proofs.MapLemmas.{carried_at_by, core_effected_by, hart_at_by}
use Rattle.engine_trait.proofs.RoomLemmas.{room_swept}
use Rattle.engine_trait.proofs.StepLemmas.{step_idle}
use Rattle.engine_trait.proofs.TurnLemmas.{job_ruled, planned_own}
use Rattle.miss_handler.specs.declared.ends.AskEnd.{AskEnd}
use Rattle.miss_handler.specs.declared.ends.AskEnd.TheVariants as ask_end
use Rattle.pump_engine.specs.Pump.{PumpState, account_by_words, decode, machine_by_words, standing_by_words}
use Rattle.pump_engine.specs.Steps.{Allows, CarriesOut, Halts, HasParts, LeavesAccount, Serves, Unruled, after_effect, after_halt, after_stop, after_unanswered, answer_in, looked_in, outs_standing, ruled_in, ruling_in, service_in, swept_in, swept_served, unanswered_end, written_in}
use Rattle.pump_engine.proofs.CountLemmas.{allowed_at, look_counted_by_words, rule_allows, rule_counted_by_words}
use Rattle.pump_engine.proofs.RecordLemmas.{bare_record_by, record_by_by}
use Rattle.pump_engine.proofs.StepLemmas.{checked_step, out_at_rule, out_at_service, planned_call, refused_step, room_idle, ruled_step, served_are, standing_ruled, stepped_to}

-- the records of the tags that the words stand for, after a turn that stopped before its effect, and after that of an instruction
module _ {S T : Type 0} (m : PolicyModel T S) (q : PumpState S T) (h : ℕ) where
  abbrev pub told_past : Past T T
  told_past = past_by (decode m q) q.past

  pub stop_remembered : pushed told_past (bare_record (machine_by_words m q).core h) ≡ past_by (decode m q) (pushed q.past (bare_record q.core h))
  stop_remembered = ap (pushed told_past) (bare_record_by (decode m q) q.core h) ∙ pushed_by (decode m q) q.past (bare_record q.core h)

  pub effect_remembered : (feed : Tape) (look : Look)
      → pushed told_past (record_by look.group (machine_by_words m q).core (first_fed feed.left) h look)
      ≡ past_by (decode m q) (pushed q.past (record_by look.group q.core (first_fed feed.left) h look))
  effect_remembered feed look =
      ap (pushed told_past) (record_by_by (decode m q) q.core h look.group (first_fed feed.left) look)
      ∙ pushed_by (decode m q) q.past (record_by look.group q.core (first_fed feed.left) h look)

module _ {S T : Type 0} (eq : T → T → Bool) (m : PolicyModel T S) (p : PumpState S T) (feed : Tape) (h : ℕ) where
  -- the step of what the words stand for ends so
  abbrev pub StepsTo : PumpState S T → Tape → TurnEnd → Type 0
  StepsTo f fed ended = step eq m (standing_by_words m p) feed h ≡ record { standing = standing_by_words m f; feed = fed; ended = ended }

  -- that machine with the account of before the turn
  abbrev on : Machine S T → Standing S T
  on s = record { machine = s; account = account_by_words m p }

  -- as its parts tell it
  told : (f g : PumpState S T) (fed eaten : Tape) (ended end : TurnEnd) → StepsTo g eaten end → f ≡ g → fed ≡ eaten → ended ≡ end → StepsTo f fed ended
  told f g fed eaten ended end is f_is fed_is ended_is =
      is ∙ λ j. record { standing = standing_by_words m (sym f_is j); feed = sym fed_is j; ended = sym ended_is j }

  -- ---- a turn that comes to no rule

  -- the engine or the hart has stopped, or there is no such hart
  pub idle_turn : (f : PumpState S T) (fed : Tape) (ended : TurnEnd) → is_ready (standing_by_words m p) h ≡ false → f ≡ p → fed ≡ feed → ended ≡ ends.Idle
      → StepsTo f fed ended
  idle_turn f fed ended waits f_is fed_is ended_is =
      told f p fed feed ended ends.Idle (step_idle eq m (standing_by_words m p) feed h waits) f_is fed_is ended_is

  module _ (ready : is_ready (standing_by_words m p) h ≡ true) where
    -- one of the checks failed
    pub checked_turn : (f : PumpState S T) (why : Stop) (ended : TurnEnd) → is_over (account_by_words m p) ≡ false → preparation m (machine_by_words m p) h ≡ Err why
        → f ≡ after_stop p h why → ended ≡ ends.Stopped why → StepsTo f feed ended
    checked_turn f why ended within found f_is ended_is =
        told f (after_stop p h why) feed feed ended (ends.Stopped why)
        (checked_step eq m (standing_by_words m p) feed h ready why found within
        ∙ ap (λ past. stepped_to (record (account_by_words m p) { turns = next_count p.turns; past = past })
        (record { machine = stopped_at (machine_by_words m p) h why; feed = feed; ended = ends.Stopped why })) (stop_remembered m p h))
        f_is refl ended_is

    -- ---- a turn that comes to its rule

    module _ (q : PumpState S T) (look : Look) (found : preparation m (machine_by_words m p) h ≡ Ok look) (parts : HasParts p q) where
      -- the rule counts no turn, and the records may be told otherwise
      counts_on : (b : Account T) (turned : Turned S T) (past told : Past T T) → past ≡ told
          → stepped_to (record b { turns = next_count p.turns; past = past }) turned ≡ stepped_to (record b { turns = next_count q.turns; past = told }) turned
      counts_on b turned past told same = λ j. stepped_to (record b { turns = next_count (sym parts.turns j); past = same j }) turned

      -- a turn that stopped before its effect
      stop_counts_on : (why : Stop) → stepped_to (record (remembering (bare_record (machine_by_words m q).core h) (account_by_words m q)) { turns = next_count p.turns })
          (record { machine = stopped_at (machine_by_words m q) h why; feed = feed; ended = ends.Stopped why })
          ≡ record { standing = standing_by_words m (after_stop q h why); feed = feed; ended = ends.Stopped why }
      stop_counts_on why =
          counts_on (account_by_words m q) (record { machine = stopped_at (machine_by_words m q) h why; feed = feed; ended = ends.Stopped why })
          (pushed (told_past m q h) (bare_record (machine_by_words m q).core h)) (past_by (decode m q) (pushed q.past (bare_record q.core h))) (stop_remembered m q h)

      -- the same engine with the table that it has after its rule
      module _ (machine : machine_by_words m q ≡ machine_by_words m p) where
        abbrev asked : Standing S T
        asked = on (machine_by_words m q)

        asked_ready : is_ready asked h ≡ true
        asked_ready = ap (λ s. is_ready (on s) h) machine ∙ ready

        by_asked : (f : PumpState S T) (fed : Tape) (ended : TurnEnd)
            → step eq m asked feed h ≡ record { standing = standing_by_words m f; feed = fed; ended = ended } → StepsTo f fed ended
        by_asked f fed ended is = ap (λ s. step eq m (on s) feed h) (sym machine) ∙ is

        asked_prepared : preparation m asked.machine h ≡ Ok look
        asked_prepared = ap (λ s. preparation m s h) machine ∙ found

        -- the pc is no tag
        same_pc : (hart_at q.core h).pc ≡ (hart_at p.core h).pc
        same_pc =
            sym (ap (λ (hart : HartState T). hart.pc) (hart_at_by (decode m q) q.core h))
            ∙ ap (λ (s : Machine S T). (hart_at s.core h).pc) machine
            ∙ ap (λ (hart : HartState T). hart.pc) (hart_at_by (decode m p) p.core h)

        asked_allowed : rule_answer m asked.machine h look ≡ or_violation (hart_at q.core h).pc (answer_in eq m p h look)
        asked_allowed =
            ap (λ s. rule_answer m s h look) machine
            ∙ allowed_at m p h look eq
            ∙ ap (λ pc. or_violation pc (answer_in eq m p h look)) (sym same_pc)

        look_counted_asked : look_counted eq m asked.machine h asked.account ≡ looked_in eq m p h look
        look_counted_asked = ap (λ s. look_counted eq m s h asked.account) machine ∙ look_counted_by_words m p h look eq found

        rule_counted_asked : rule_counted eq m asked.machine h asked.account ≡ ruled_in eq m p h look
        rule_counted_asked = ap (λ s. rule_counted eq m s h asked.account) machine ∙ rule_counted_by_words m p h look eq found

      -- memory ran out in a turn whose rule allows
      given_up : (f : PumpState S T) → machine_by_words m f ≡ machine_by_words m p → IsOk (answer_in eq m p h look)
          → GivesUpAtRule eq m (standing_by_words m p) h (account_by_words m f) ⊎ GivesUpAtService eq m (standing_by_words m p) h (account_by_words m f)
          → GivesUp eq m (standing_by_words m p) feed h (standing_by_words m f) feed
      given_up f machine allows left = record {
        ready = ready;
        allowed = rule_allows m p h look eq found allows;
        machine = machine;
        unfed = refl;
        account = left;
      }

      -- ---- without outputs

      refused_turn : (refusal : Refused) → Unruled eq m p h look q (ask_end.Stopped refusal)
          → StepsTo (after_stop q h (violation (hart_at q.core h).pc refusal)) feed (ends.Stopped (violation (hart_at q.core h).pc refusal))
      refused_turn refusal given =
          let why = violation (hart_at q.core h).pc refusal in
          by_asked given.machine (after_stop q h why) feed (ends.Stopped why)
          (refused_step eq m (asked given.machine) feed h (asked_ready given.machine) look (asked_prepared given.machine) why
          (account_by_words m q) (asked_allowed given.machine ∙ ap (or_violation (hart_at q.core h).pc) (given.refused refusal refl))
          (look_counted_asked given.machine ∙ sym given.account) given.within
          ∙ stop_counts_on why)

      -- a step that stops the engine with an account
      halted_with : (why : Halt) (ended : TurnEnd) (a b : Account T) (s : Machine S T) → a ≡ b → ◌≡◌ {A = Stepped S T}
          (record { standing = record { machine = s; account = record a { halt = Some why } }; feed = feed; ended = ended })
          (record { standing = record { machine = s; account = record b { halt = Some why } }; feed = feed; ended = ended })
      halted_with why ended a b s same = λ j. record { standing = record { machine = s; account = record (same j) { halt = Some why } }; feed = feed; ended = ended }

      ruled_swept : is_over (ruling_in eq m p h look (looked_in eq m p h look)) ≡ true → ruled_in eq m p h look ≡ ruling_in eq m p h look (swept_in eq m p h look)
      ruled_swept = room_swept eq (standing_tags m (machine_by_words m p)) (ruling_in eq m p h look) (looked_in eq m p h look)

      out_turn : Unruled eq m p h look q ask_end.TagsOut → StepsTo (after_halt q halt.TagNumbers) feed ends.TagsOut
      out_turn given =
          by_asked given.machine (after_halt q halt.TagNumbers) feed ends.TagsOut
          (out_at_rule eq m (asked given.machine) feed h (asked_ready given.machine) (looked_in eq m p h look) (ruled_in eq m p h look)
          (look_counted_asked given.machine) (rule_counted_asked given.machine) (ap is_over (ruled_swept (given.over refl)) ∙ given.account.1)
          ∙ halted_with halt.TagNumbers ends.TagsOut (swept eq (standing_tags m (machine_by_words m q)) (looked_in eq m p h look)) (account_by_words m q) (machine_by_words m q)
          (ap (λ (s : Machine S T). swept eq (standing_tags m s) (looked_in eq m p h look)) given.machine ∙ sym given.account.0))

      unanswered_by : (end : AskEnd) → Unruled eq m p h look q end → end ≢ ask_end.Memory
          → StepsTo (after_unanswered q h end) feed (unanswered_end (hart_at q.core h).pc end)
      unanswered_by (ask_end.Stopped refusal) given has_memory = refused_turn refusal given
      unanswered_by ask_end.TagsOut given has_memory = out_turn given
      unanswered_by ask_end.Memory given has_memory = absurd (has_memory refl)

      pub unanswered_turn : (f : PumpState S T) (end : AskEnd) (ended : TurnEnd) → Unruled eq m p h look q end
          → f ≡ after_unanswered q h end → ended ≡ unanswered_end (hart_at q.core h).pc end → end ≢ ask_end.Memory → StepsTo f feed ended
      unanswered_turn f end ended given f_is ended_is has_memory =
          told f (after_unanswered q h end) feed feed ended (unanswered_end (hart_at q.core h).pc end) (unanswered_by end given has_memory) f_is refl ended_is

      -- memory ran out: the rule isn't kept
      counted_by_words : look_counted eq m (machine_by_words m p) h (account_by_words m p) ≡ looked_in eq m p h look
      counted_by_words = look_counted_by_words m p h look eq found

      rule_wants : LeavesAccount eq m p h look ask_end.Memory (account_by_words m q)
          → GivesUpAtRule eq m (standing_by_words m p) h (wanting (account_by_words m q))
      rule_wants (inl unswept) = inl (ap wanting (unswept ∙ sym counted_by_words))
      rule_wants (inr (is, fits)) = inr (record {
        fits = (λ j. is_over (after_rule eq m (machine_by_words m p) h (found j) (swept eq (standing_tags m (machine_by_words m p)) (counted_by_words j)))) ∙ fits;
        left = ap wanting (is ∙ ap (swept eq (standing_tags m (machine_by_words m p))) (sym counted_by_words));
      })

      wants_given_up : Unruled eq m p h look q ask_end.Memory → GivesUp eq m (standing_by_words m p) feed h (standing_by_words m (after_halt q halt.Memory)) feed
      wants_given_up given = given_up (after_halt q halt.Memory) given.machine (given.allowed refl) (inl (rule_wants given.account))

      pub unanswered_gives_up : (f : PumpState S T) (end : AskEnd) → Unruled eq m p h look q end → f ≡ after_unanswered q h end → end ≡ ask_end.Memory
          → GivesUp eq m (standing_by_words m p) feed h (standing_by_words m f) feed
      unanswered_gives_up f end given f_is end_is =
          subst (λ g. GivesUp eq m (standing_by_words m p) feed h (standing_by_words m g) feed) (sym (f_is ∙ ap (after_unanswered q h) end_is))
          (wants_given_up (subst (Unruled eq m p h look q) end_is given))

      -- ---- with outputs

      module _ (outs : Outs ℕ) (rule : Allows eq m p h look q outs) where
        abbrev outs_now : Outs T
        outs_now = outs_by (decode m q) outs

        abbrev now : Standing S T
        now = asked rule.machine

        prepared_now : preparation m now.machine h ≡ Ok look
        prepared_now = asked_prepared rule.machine

        allowed_now : rule_answer m now.machine h look ≡ Ok outs_now
        allowed_now = asked_allowed rule.machine ∙ ap (or_violation (hart_at q.core h).pc) rule.rule

        counted_now : rule_counted eq m now.machine h now.account ≡ account_by_words m q
        counted_now = rule_counted_asked rule.machine ∙ sym rule.account

        effect_by : is_call look.group ≡ false
            → StepsTo (after_effect q feed h look outs) (carried_at q.core feed h look outs).feed (end_of (carried_at q.core feed h look outs).done)
        effect_by own =
            by_asked rule.machine (after_effect q feed h look outs) (carried_at q.core feed h look outs).feed (end_of (carried_at q.core feed h look outs).done)
            (ruled_step eq m now feed h (asked_ready rule.machine) look prepared_now outs_now (Ok None) allowed_now
            (planned_own m now.machine h look outs_now own) (account_by_words m q) counted_now rule.within
            (account_by_words m q) (room_idle eq (standing_ruled eq m now.machine h look prepared_now outs_now allowed_now) (account_by_words m q) rule.within) rule.within
            ∙ λ j. record {
              standing = record {
                machine = record { policy = q.policy; core = core_effected_by (decode m q) q.core feed h look outs j };
                account = record (account_by_words m q) { turns = next_count (sym parts.turns j); past = effect_remembered m q h feed look j };
              };
              feed = (carried_at_by (decode m q) q.core feed h look outs j).feed;
              ended = end_of (carried_at_by (decode m q) q.core feed h look outs j).done;
            })

        -- an instruction that is no call of a policy's service
        pub effect_turn : (f : PumpState S T) (fed : Tape) (ended : TurnEnd) → is_call look.group ≡ false
            → f ≡ after_effect q feed h look outs → fed ≡ (carried_at q.core feed h look outs).feed → ended ≡ end_of (carried_at q.core feed h look outs).done
            → StepsTo f fed ended
        effect_turn f fed ended own f_is fed_is ended_is =
            told f (after_effect q feed h look outs) fed (carried_at q.core feed h look outs).feed ended (end_of (carried_at q.core feed h look outs).done)
            (effect_by own) f_is fed_is ended_is

        -- ---- a call of a policy's service

        module _ (call : is_call look.group ≡ true) where
          unserved_by : (end : PlanEnd) → service_in eq m q h look outs ≡ Err end
              → StepsTo (after_stop q h (service_stop (hart_at q.core h).pc look.service end)) feed (ends.Stopped (service_stop (hart_at q.core h).pc look.service end))
          unserved_by end ends_so =
              let why = service_stop (hart_at q.core h).pc look.service end in
              by_asked rule.machine (after_stop q h why) feed (ends.Stopped why)
              (ruled_step eq m now feed h (asked_ready rule.machine) look prepared_now outs_now (Err why) allowed_now
              (planned_call m now.machine h look outs_now (Err end) call ends_so
              ∙ ap (λ (hart : HartState T). or_unserved hart.pc look.service (Err end)) (hart_at_by (decode m q) q.core h))
              (account_by_words m q) counted_now rule.within
              (account_by_words m q) (room_idle eq (standing_ruled eq m now.machine h look prepared_now outs_now allowed_now) (account_by_words m q) rule.within) rule.within
              ∙ stop_counts_on why)

          -- which isn't served
          pub unserved_turn : (f : PumpState S T) (end : PlanEnd) (ended : TurnEnd) → service_in eq m q h look outs ≡ Err end
              → f ≡ after_stop q h (service_stop (hart_at q.core h).pc look.service end) → ended ≡ ends.Stopped (service_stop (hart_at q.core h).pc look.service end)
              → StepsTo f feed ended
          unserved_turn f end ended ends_so f_is ended_is =
              let why = service_stop (hart_at q.core h).pc look.service end in
              told f (after_stop q h why) feed feed ended (ends.Stopped why) (unserved_by end ends_so) f_is refl ended_is

          module _ (f : PumpState S T) (job : Job T) (serves : service_in eq m q h look outs ≡ Ok job) where
            planned_now : turn_job m now.machine h look outs_now ≡ Ok (Some job)
            planned_now = planned_call m now.machine h look outs_now (Ok job) call serves

            -- the account before its effect is counted
            abbrev written : Account T
            written = written_in eq m q h look outs job

            served_by : Serves eq m q h look outs job written f → StepsTo f feed (ends.Ran None)
            served_by done =
                by_asked rule.machine f feed (ends.Ran None)
                (ruled_step eq m now feed h (asked_ready rule.machine) look prepared_now outs_now (Ok (Some job)) allowed_now planned_now
                (account_by_words m q) counted_now rule.within written refl (ap is_over (sym done.account_is) ∙ done.within)
                ∙ λ j. record {
                  standing = record {
                    machine = sym done.machine j;
                    account = (ap (λ (n : ℕ). record (remembering (record_served now.machine.core h job.words job.plan) written) { turns = next_count n }) (sym parts.turns)
                        ∙ sym done.account_is) j;
                  };
                  feed = feed;
                  ended = ends.Ran None;
                })

            out_by : Halts m q (swept_served eq m q h look outs) halt.TagNumbers f → is_over written ≡ true → StepsTo f feed ends.TagsOut
            out_by halts over =
                by_asked rule.machine f feed ends.TagsOut
                (out_at_service eq m now feed h (asked_ready rule.machine) look prepared_now outs_now (Ok (Some job)) allowed_now planned_now
                (account_by_words m q) counted_now rule.within over
                ∙ λ j. record {
                  standing = record { machine = sym halts.machine j; account = sym halts.account j };
                  feed = feed;
                  ended = ends.TagsOut;
                })

            -- which is carried out, or writes more tags than can have words
            pub served_turn : (ended : TurnEnd) → CarriesOut eq m q h look outs job f ended → ended ≢ ends.Memory → StepsTo f feed ended
            served_turn (ends.Ran None) done has_memory = served_by done
            served_turn (ends.Ran (Some byte)) never has_memory = absurd never
            served_turn ends.Break never has_memory = absurd never
            served_turn (ends.Stopped why) never has_memory = absurd never
            served_turn ends.Idle never has_memory = absurd never
            served_turn ends.TagsOut out has_memory = out_by out.0 out.1
            served_turn ends.Memory halted has_memory = absurd (has_memory refl)

            -- the turn comes to it
            job_there : job_at m (machine_by_words m p) h ≡ Ok (Some job)
            job_there =
                ap (λ s. job_at m s h) (sym rule.machine) ∙ job_ruled m now.machine h look outs_now prepared_now allowed_now ∙ planned_now

            pub served_now : is_served m (machine_by_words m p) h ≡ true
            served_now = ap is_job job_there

            -- ---- memory ran out

            ruled_then : rule_counted eq m (machine_by_words m p) h (account_by_words m p) ≡ account_by_words m q
            ruled_then = rule_counted_by_words m p h look eq found ∙ sym rule.account

            standing_then : served_tags m (machine_by_words m p) h ≡ outs_standing eq m q h look outs
            standing_then =
                ap (λ (s : Machine S T). served_tags m s h) (sym rule.machine)
                ∙ served_are eq m now.machine h look prepared_now outs_now allowed_now

            abbrev Left : Type 0
            Left = GivesUpAtService eq m (standing_by_words m p) h (account_by_words m f)

            gives_up_by : Wants eq (served_tags m (machine_by_words m p) h) (seeing eq (first_written job))
                (rule_counted eq m (machine_by_words m p) h (account_by_words m p)) (account_by_words m f) → Left
            gives_up_by wants = record {
              job = job;
              served = job_there;
              ruled = ap is_over ruled_then ∙ rule.within;
              wants = wants;
            }

            -- without a sweep, or behind one
            service_wants : CarriesOut eq m q h look outs job f ends.Memory → (machine_by_words m f ≡ machine_by_words m p) × Left
            service_wants (inl halts) = (halts.machine ∙ rule.machine, gives_up_by (inl (halts.account ∙ ap wanting (sym ruled_then))))
            service_wants (inr (halts, fits)) = (
              halts.machine ∙ rule.machine,
              gives_up_by (inr (record {
                fits = (λ j. is_over (seeing eq (first_written job) (swept eq (standing_then j) (ruled_then j)))) ∙ fits;
                left = halts.account ∙ λ j. wanting (swept eq (sym standing_then j) (sym ruled_then j));
              })),
            )

            pub served_gives_up : (ended : TurnEnd) → CarriesOut eq m q h look outs job f ended → ended ≡ ends.Memory
                → GivesUp eq m (standing_by_words m p) feed h (standing_by_words m f) feed
            served_gives_up ended halted ended_is =
                let wants = service_wants (subst (CarriesOut eq m q h look outs job f) ended_is halted) in
                given_up f wants.0 (subst IsOk (sym rule.rule) refl) (inr wants.1)
