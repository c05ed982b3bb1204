-- What a turn replaced, by where it ended.
use Rattle.std.proofs.Common.{◌≡◌, ℕ, true, false, None, Result, Ok, Err, ap, ◌∙◌, if◌then◌else◌}
use Rattle.policy_trait.specs.Model.{PolicyModel}
use Rattle.shared_terms.specs.Steps.{◌>>=◌}
use Rattle.policy_trait.specs.declared.rules.Outs.{Outs}
use Rattle.policy_trait.specs.declared.services.PlanEnd.{PlanEnd}
use Rattle.monitor_calls.specs.Service.{Job}
use Rattle.turn_steps.specs.Feeds.{Tape, first_fed}
use Rattle.turn_steps.specs.Looks.{is_call}
use Rattle.turn_steps.specs.declared.look.Look.{Look}
use Rattle.turn_steps.specs.declared.stop.Stop.{Stop}
use Rattle.undo_log.specs.Past.{Record}
use Rattle.engine_trait.specs.History.{bare_record, record_by, record_done, record_of, record_or_bare, record_served}
use Rattle.engine_trait.specs.Machine.{Machine, hart_at}
use Rattle.engine_trait.specs.Turn.{or_unserved, preparation, rule_answer, service_on, turn_job}
use Rattle.engine_trait.proofs.TurnLemmas.{planned_own}
use Rattle.plain_engine.specs.Plain.{allowed_record}

module _ {S T : Type 0} (m : PolicyModel T S) (s : Machine S T) (feed : Tape) (h : ℕ) where
  abbrev planned_record : Look → Outs T → Result (Record T T) Stop
  planned_record look outs = turn_job m s h look outs >>= λ job. Ok (record_done s.core (first_fed feed.left) h look job)

  abbrev ruled_record : Look → Result (Record T T) Stop
  ruled_record look = rule_answer m s h look >>= planned_record look

  -- one of the checks failed
  pub checked_made : (why : Stop) → preparation m s h ≡ Err why → record_of m s feed h ≡ bare_record s.core h
  unfolding record_of
  checked_made why looked = ap (λ found. record_or_bare s.core h (found >>= ruled_record)) looked

  prepared_made : (look : Look) → preparation m s h ≡ Ok look → record_of m s feed h ≡ record_or_bare s.core h (ruled_record look)
  unfolding record_of
  prepared_made look looked = ap (λ found. record_or_bare s.core h (found >>= ruled_record)) looked

  -- the rule refused
  pub refused_made : (look : Look) (why : Stop) → preparation m s h ≡ Ok look → rule_answer m s h look ≡ Err why → record_of m s feed h ≡ bare_record s.core h
  refused_made look why looked ruled = prepared_made look looked ∙ ap (λ answer. record_or_bare s.core h (answer >>= planned_record look)) ruled

  -- the rule allowed
  pub allowed_made : (look : Look) (outs : Outs T) → preparation m s h ≡ Ok look → rule_answer m s h look ≡ Ok outs → record_of m s feed h ≡ allowed_record m s feed h look outs
  allowed_made look outs looked ruled = prepared_made look looked ∙ ap (λ answer. record_or_bare s.core h (answer >>= planned_record look)) ruled

  -- an instruction that is no call of a policy's service
  pub effect_made : (look : Look) (outs : Outs T) → preparation m s h ≡ Ok look → rule_answer m s h look ≡ Ok outs → is_call look.group ≡ false
      → record_of m s feed h ≡ record_by look.group s.core (first_fed feed.left) h look
  effect_made look outs looked ruled own =
      allowed_made look outs looked ruled
      ∙ ap (λ job. record_or_bare s.core h (job >>= λ j. Ok (record_done s.core (first_fed feed.left) h look j))) (planned_own m s h look outs own)

  -- what a call of a policy's service comes to
  called_made : (look : Look) (outs : Outs T) (given : Result (Job T) PlanEnd) → is_call look.group ≡ true → service_on m s h look outs ≡ given
      → allowed_record m s feed h look outs
      ≡ record_or_bare s.core h (or_unserved (hart_at s.core h).pc look.service given >>= λ j. Ok (record_done s.core (first_fed feed.left) h look j))
  unfolding turn_job
  called_made look outs given call is =
      ap (λ is_so. record_or_bare s.core h ((if is_so then or_unserved (hart_at s.core h).pc look.service (service_on m s h look outs) else Ok None)
      >>= λ j. Ok (record_done s.core (first_fed feed.left) h look j))) call
      ∙ ap (λ found. record_or_bare s.core h (or_unserved (hart_at s.core h).pc look.service found >>= λ j. Ok (record_done s.core (first_fed feed.left) h look j))) is

  -- a service was carried out
  pub served_made : (look : Look) (outs : Outs T) (job : Job T) → is_call look.group ≡ true → service_on m s h look outs ≡ Ok job
      → allowed_record m s feed h look outs ≡ record_served s.core h job.words job.plan
  served_made look outs job call is = called_made look outs (Ok job) call is

  -- a service was refused
  pub unserved_made : (look : Look) (outs : Outs T) (end : PlanEnd) → is_call look.group ≡ true → service_on m s h look outs ≡ Err end
      → allowed_record m s feed h look outs ≡ bare_record s.core h
  unserved_made look outs end call is = called_made look outs (Err end) call is
