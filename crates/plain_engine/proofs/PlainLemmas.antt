-- Steps of an engine that keeps no rules, by where the turn ended.
use Rattle.std.proofs.Common.{◌≡◌, ℕ, [], Bool, true, false, Option, Some, None, Result, Ok, Err, IsOk, refl, ap, sym, ◌∙◌, inl, inr, subst, if◌then◌else◌}
use Rattle.std.proofs.lemmas.Bool.{false≢true}
use Rattle.policy_trait.specs.Model.{PolicyModel}
use Rattle.shared_terms.specs.Steps.{◌>>=◌}
use Rattle.policy_trait.specs.declared.rules.Outs.{Outs}
use Rattle.policy_trait.specs.declared.services.PlanEnd.{PlanEnd}
use Rattle.monitor_calls.specs.Service.{Job}
use Rattle.turn_steps.specs.Feeds.{Tape}
use Rattle.turn_steps.specs.Looks.{is_call}
use Rattle.turn_steps.specs.declared.look.Look.{Look}
use Rattle.turn_steps.specs.declared.stop.Stop.{Stop}
use Rattle.undo_log.specs.Past.{past_of}
use Rattle.engine_trait.specs.Accounts.{Account, IsUncached, account_after_turn, is_over, remembering}
use Rattle.shared_terms.specs.Counts.{next_count}
use Rattle.engine_trait.specs.History.{record_of}
use Rattle.engine_trait.specs.Machine.{Machine, hart_at}
use Rattle.engine_trait.specs.Standing.{GivesUp, Standing, Stepped, is_ready, step, wanting}
use Rattle.engine_trait.specs.Turn.{Turned, rule_answer, turn_effect, is_job, is_served, job_at, or_unserved, turn_job, preparation, service_on, settlement, stopped_at, turn_of}
use Rattle.engine_trait.specs.declared.ends.TurnEnd.{TurnEnd}
use Rattle.engine_trait.specs.declared.ends.TurnEnd.TheVariants as ends
use Rattle.engine_trait.proofs.AccountLemmas.{accounted_checked, accounted_missed, never_over, rule_counted_missed}
use Rattle.engine_trait.proofs.StepLemmas.{plain_step, ready_parts}
use Rattle.engine_trait.proofs.PastLemmas.{remembering_none}
use Rattle.engine_trait.proofs.TurnLemmas.{job_ruled, rule_looked, turn_checked, turn_refused, turn_ruled}
use Rattle.plain_engine.specs.Plain.{EndsService, after_asked, after_look_up, after_turn, allowed_turn, given_up}

module _ {S T : Type 0} (m : PolicyModel T S) (s : Machine S T) (h : ℕ) (look : Look) (outs : Outs T) where
  -- an instruction that is no call of a policy's service has its own effect
  pub own_turn : (feed : Tape) → is_call look.group ≡ false → allowed_turn m s feed h look outs ≡ turn_effect m s feed h look outs None
  unfolding turn_job
  own_turn feed own =
      ap (λ call. settlement m s feed h ((if call then or_unserved (hart_at s.core h).pc look.service (service_on m s h look outs) else Ok None) >>= λ job. Ok (turn_effect m s feed h look outs job))) own

  -- the work of a service that nothing refuses
  abbrev pub HasJob : Result (Option (Job T)) Stop → Type 0
  HasJob given = (job : Job T) × (given ≡ Ok (Some job))

  has_job : (pc service : ℕ) (given : Result (Job T) PlanEnd) → IsOk given → HasJob (or_unserved pc service given)
  has_job pc service (Ok job) ok = (job, refl)
  has_job pc service (Err end) ok = absurd (false≢true ok)

  -- a service that nothing refuses
  call_job : preparation m s h ≡ Ok look → rule_answer m s h look ≡ Ok outs → is_call look.group ≡ true → IsOk (service_on m s h look outs) → HasJob (job_at m s h)
  unfolding turn_job
  call_job looked ruled call given =
      let there = has_job (hart_at s.core h).pc look.service (service_on m s h look outs) given in (
        there.0,
        job_ruled m s h look outs looked ruled
            ∙ ap (λ is_so. if is_so then or_unserved (hart_at s.core h).pc look.service (service_on m s h look outs) else Ok None) call
            ∙ there.1,
      )

  pub call_served : preparation m s h ≡ Ok look → rule_answer m s h look ≡ Ok outs → is_call look.group ≡ true → IsOk (service_on m s h look outs) → is_served m s h ≡ true
  call_served looked ruled call given = ap is_job (call_job looked ruled call given).1

-- a step as its parts tell it
pub told : {S T : Type 0} (s : Stepped S T) (e f : Standing S T) (feed fed : Tape) (end ended : TurnEnd) → s ≡ record { standing = e; feed = feed; ended = end }
    → f ≡ e → fed ≡ feed → ended ≡ end → s ≡ record { standing = f; feed = fed; ended = ended }
told s e f feed fed end ended s_is f_is fed_is ended_is = s_is ∙ λ j. record { standing = sym f_is j; feed = sym fed_is j; ended = sym ended_is j }

-- of an engine that keeps no record
module _ {S T : Type 0} (eq : T → T → Bool) (m : PolicyModel T S) (e : Standing S T) (feed : Tape) (h : ℕ) (plain : IsUncached e.account) (bare : e.account.past ≡ past_of [] 0) (ready : is_ready e h ≡ true) where
  abbrev stepped_to : Account T → Turned S T → Stepped S T
  stepped_to account turned = record { standing = record { machine = turned.machine; account = account }; feed = turned.feed; ended = turned.ended }

  by_turn : (account : Account T) (turned : Turned S T) → account.past ≡ past_of [] 0 → account_after_turn eq m e.machine h e.account ≡ account
      → turn_of m e.machine feed h ≡ turned → step eq m e feed h ≡ stepped_to account turned
  by_turn account turned none counted_is turned_is =
      let made = record_of m e.machine feed h in
      plain_step eq m e feed h plain ready
      ∙ ap (λ a. stepped_to (remembering made a) (turn_of m e.machine feed h)) counted_is
      ∙ ap (λ a. stepped_to a (turn_of m e.machine feed h)) (remembering_none made account none)
      ∙ ap (λ t. stepped_to account t) turned_is

  -- one of the checks failed
  pub checked_step : (why : Stop) (f : Standing S T) (ended : TurnEnd) → preparation m e.machine h ≡ Err why → f ≡ after_turn e (stopped_at e.machine h why) → ended ≡ ends.Stopped why
      → step eq m e feed h ≡ record { standing = f; feed = feed; ended = ended }
  checked_step why f ended looked f_is ended_is =
      told (step eq m e feed h) (after_turn e (stopped_at e.machine h why)) f feed feed (ends.Stopped why) ended
      (by_turn (record e.account { turns = next_count e.account.turns }) (settlement m e.machine feed h (Err why)) bare
      (accounted_checked eq m e.machine h e.account why plain looked)
      (turn_checked m e.machine feed h why (ready_parts e h ready).1 looked))
      f_is refl ended_is

  abbrev after_rule : Account T
  after_rule = record e.account { misses = next_count e.account.misses; turns = next_count e.account.turns }

  -- the rule refused
  pub refused_step : (look : Look) (why : Stop) (f : Standing S T) (ended : TurnEnd) → preparation m e.machine h ≡ Ok look
      → rule_answer m e.machine h look ≡ Err why → f ≡ after_asked e (stopped_at e.machine h why) → ended ≡ ends.Stopped why
      → step eq m e feed h ≡ record { standing = f; feed = feed; ended = ended }
  refused_step look why f ended looked ruled f_is ended_is =
      told (step eq m e feed h) (after_asked e (stopped_at e.machine h why)) f feed feed (ends.Stopped why) ended
      (by_turn after_rule (settlement m e.machine feed h (Err why)) bare
      (accounted_missed eq m e.machine h e.account look plain looked)
      (turn_refused m e.machine feed h look why (ready_parts e h ready).1 looked ruled))
      f_is refl ended_is

  -- the rule allowed
  allowed_step : (look : Look) (outs : Outs T) (turned : Turned S T) (f : Standing S T) (fed : Tape) (ended : TurnEnd)
      → preparation m e.machine h ≡ Ok look → rule_answer m e.machine h look ≡ Ok outs → allowed_turn m e.machine feed h look outs ≡ turned
      → f ≡ after_asked e turned.machine → fed ≡ turned.feed → ended ≡ turned.ended
      → step eq m e feed h ≡ record { standing = f; feed = fed; ended = ended }
  allowed_step look outs turned f fed ended looked ruled turned_is f_is fed_is ended_is =
      told (step eq m e feed h) (after_asked e turned.machine) f turned.feed fed turned.ended ended
      (by_turn after_rule turned bare
      (accounted_missed eq m e.machine h e.account look plain looked)
      (turn_ruled m e.machine feed h look outs (ready_parts e h ready).1 looked ruled ∙ turned_is))
      f_is fed_is ended_is

  pub service_step : (look : Look) (outs : Outs T) (f : Standing S T) (ended : TurnEnd) → preparation m e.machine h ≡ Ok look
      → rule_answer m e.machine h look ≡ Ok outs → EndsService m e h look outs ended f
      → step eq m e feed h ≡ record { standing = f; feed = feed; ended = ended }
  service_step look outs f ended looked ruled served =
      allowed_step look outs (record { machine = f.machine; feed = feed; ended = ended }) f feed ended looked ruled (served.turned feed) served.standing refl refl

  pub effect_step : (look : Look) (outs : Outs T) (f : Standing S T) (fed : Tape) (ended : TurnEnd) → preparation m e.machine h ≡ Ok look
      → rule_answer m e.machine h look ≡ Ok outs → is_call look.group ≡ false
      → f ≡ after_asked e (turn_effect m e.machine feed h look outs None).machine
      → fed ≡ (turn_effect m e.machine feed h look outs None).feed → ended ≡ (turn_effect m e.machine feed h look outs None).ended
      → step eq m e feed h ≡ record { standing = f; feed = fed; ended = ended }
  effect_step look outs f fed ended looked ruled own =
      allowed_step look outs (turn_effect m e.machine feed h look outs None) f fed ended looked ruled (own_turn m e.machine h look outs feed own)

  -- memory ran out in a service that nothing refuses
  pub gives_up : (look : Look) (outs : Outs T) (f : Standing S T) → preparation m e.machine h ≡ Ok look → rule_answer m e.machine h look ≡ Ok outs
      → is_call look.group ≡ true → IsOk (service_on m e.machine h look outs) → f ≡ given_up (after_look_up e) → GivesUp eq m e feed h f feed
  gives_up look outs f looked ruled call given f_is =
      let there = call_job m e.machine h look outs looked ruled call given in
      let counted = rule_counted_missed eq m e.machine h e.account look plain looked in
      let missed : Account T = record e.account { misses = next_count e.account.misses } in
      let still : IsUncached missed = record { ways = plain.ways; table = plain.table; sets = plain.sets } in
      subst (λ (x : Standing S T). GivesUp eq m e feed h x feed) (sym f_is) (record {
        ready = ready;
        allowed = subst IsOk (sym (rule_looked m e.machine h look looked ∙ ruled)) refl;
        machine = refl;
        unfed = refl;
        account = inr (record {
          job = there.0;
          served = there.1;
          ruled = ap is_over counted ∙ never_over eq missed still;
          wants = inl (ap wanting (sym counted));
        });
      })
