-- The account of an engine in two worlds: it tells no secret.
use Rattle.std.proofs.Common.{◌≡◌, ℕ, Bool, List, [], ◌∷◌, ◌++◌, map, Option, Some, None, Result, Ok, Err, refl, sym, ap, ◌∙◌, subst, if◌then◌else◌}
use Rattle.std.specs.List.{flat_map}
use Rattle.shared_terms.specs.Counts.{next_count}
use Rattle.shared_terms.specs.Steps.{◌>>=◌}
use Rattle.policy_trait.specs.Model.{PolicyModel, masked_inputs}
use Rattle.policy_trait.specs.declared.services.Plan.{Plan}
use Rattle.policy_trait.specs.declared.rules.Outs.{Outs}
use Rattle.policy_trait.specs.declared.services.Answer.{Answer}
use Rattle.monitor_calls.specs.Service.{Job}
use Rattle.tag_memory.specs.Hart.{HartState, hart_tags}
use Rattle.turn_steps.specs.declared.look.Look.{Look}
use Rattle.turn_steps.specs.declared.stop.Stop.{Stop}
use Rattle.engine_trait.specs.Accounts.{Account, account_after_turn, account_out, after_look, after_rule, after_service, answer_tags, is_over, key_of, look_counted, looked_up, rule_counted, rule_kept, ruled_tags, seeing, served_tags, service_counted, standing_tags, swept, with_room, written_tags}
use Rattle.engine_trait.specs.Machine.{Machine}
use Rattle.engine_trait.specs.Turn.{job_at, preparation, rule_answer, rule_at, rule_inputs, turn_job}
use Rattle.secret_runs.specs.Alike.{AlikeMachines, AllAlike}
use Rattle.secret_runs.specs.Hides.{AlikeAnswers, Hides, OkBy}
use Rattle.secret_runs.proofs.ServiceLemmas.{AlikeJobs, AlikeWords}
use Rattle.secret_runs.proofs.TurnLemmas.{AlikeWork, Looks, groups_same, inputs_same, job_alike, prepared_alike, ruled_same}

module _ {T : Type 0} (is_open : T → Bool) where
  harts_tags : (firsts seconds : List (HartState T)) → AllAlike is_open firsts seconds → flat_map hart_tags seconds ≡ flat_map hart_tags firsts
  harts_tags [] [] alike = refl
  harts_tags (a ∷ firsts) (b ∷ seconds) alike = λ j. (alike.0.pc_tag j ∷ alike.0.tags j) ++ harts_tags firsts seconds alike.1 j
  harts_tags [] (b ∷ seconds) alike = absurd alike
  harts_tags (a ∷ firsts) [] alike = absurd alike

  words_tags : (xs ys : List (ℕ × ℕ × T)) → AlikeWords is_open xs ys → map (λ word. word.2) ys ≡ map (λ word. word.2) xs
  words_tags [] [] alike = refl
  words_tags (x ∷ xs) (y ∷ ys) alike = λ j. alike.0.1.0 j ∷ words_tags xs ys alike.1 j
  words_tags [] (y ∷ ys) alike = absurd alike
  words_tags (x ∷ xs) [] alike = absurd alike

  answers_tags : (x y : Option (Answer T)) → AlikeAnswers is_open x y → answer_tags y ≡ answer_tags x
  answers_tags None None alike = refl
  answers_tags (Some x) (Some y) alike = ap (λ tag. tag ∷ []) alike.0
  answers_tags None (Some y) alike = absurd alike
  answers_tags (Some x) None alike = absurd alike

  written_same : (kin : Plan T → Plan T → Type 0) (j k : Job T) → AlikeJobs is_open kin j k → written_tags k ≡ written_tags j
  written_same kin j k alike = λ i. words_tags j.words k.words alike.words i ++ answers_tags j.plan.answer k.plan.answer alike.plan.answer i

module _ {S T : Type 0} (is_open : T → Bool) (eq : T → T → Bool) (m : PolicyModel T S) (like : S → S → Type 0) (kin : S → Plan T → Plan T → Type 0) (hides : Hides is_open m like kin)
    (s t : Machine S T) (alike : AlikeMachines is_open like s t) (h : ℕ) where
  abbrev AreLooks : Look → Look → Type 0
  AreLooks = Looks is_open m like kin hides s t alike h

  standing_same : standing_tags m t ≡ standing_tags m s
  standing_same = λ j. hides.plain s.policy t.policy alike.policy j ∷ (harts_tags is_open s.core.harts t.core.harts alike.core.harts j ++ alike.core.ram.tags j)

  -- ---- the look-up

  keys_same : (l k : Look) → AreLooks l k → key_of eq m t h k ≡ key_of eq m s h l
  keys_same l k looks =
      (λ j. record {
        group = groups_same is_open m like kin hides s t alike h l k looks j;
        inputs = masked_inputs (m.ignores t.policy (groups_same is_open m like kin hides s t alike h l k looks j)) (m.plain t.policy) (inputs_same is_open m like kin hides s t alike h l k looks j);
      })
      ∙ λ j. record {
        group = l.group;
        inputs = masked_inputs (hides.ignores s.policy t.policy alike.policy l.group j) (hides.plain s.policy t.policy alike.policy j) (rule_inputs s.core h l);
      }

  by_look : (found other : Result Look Stop) → OkBy AreLooks found other → (account : Account T) → after_look eq m t h other account ≡ after_look eq m s h found account
  by_look (Ok l) (Ok k) looks account = ap (λ key. looked_up eq key account) (keys_same l k looks)
  by_look (Err why) (Err other) looks account = refl
  by_look (Ok l) (Err other) looks account = absurd looks
  by_look (Err why) (Ok k) looks account = absurd looks

  looked_same : (account : Account T) → look_counted eq m t h account ≡ look_counted eq m s h account
  unfolding look_counted
  looked_same account = by_look (preparation m s h) (preparation m t h) (prepared_alike is_open m like kin hides s t alike h) account

  -- ---- the rule

  by_rule : (found other : Result Look Stop) → OkBy AreLooks found other → (account : Account T) → after_rule eq m t h other account ≡ after_rule eq m s h found account
  by_rule (Ok l) (Ok k) looks account = λ j. rule_kept eq (keys_same l k looks j) (ruled_same is_open m like kin hides s t alike h l k looks j) account
  by_rule (Err why) (Err other) looks account = refl
  by_rule (Ok l) (Err other) looks account = absurd looks
  by_rule (Err why) (Ok k) looks account = absurd looks

  pub counted_same : (account : Account T) → rule_counted eq m t h account ≡ rule_counted eq m s h account
  unfolding rule_counted
  counted_same account = λ j. with_room eq (standing_same j)
      (λ a. by_rule (preparation m s h) (preparation m t h) (prepared_alike is_open m like kin hides s t alike h) a j) (looked_same account j)

  -- ---- the service

  answered_by : (found other : Result Look Stop) → OkBy AreLooks found other → (other >>= rule_answer m t h) ≡ (found >>= rule_answer m s h)
  answered_by (Ok l) (Ok k) looks = ruled_same is_open m like kin hides s t alike h l k looks
  answered_by (Err why) (Err other) looks = ap (λ (w : Stop). Err w) looks
  answered_by (Ok l) (Err other) looks = absurd looks
  answered_by (Err why) (Ok k) looks = absurd looks

  answer_same : rule_at m t h ≡ rule_at m s h
  unfolding rule_at
  answer_same = answered_by (preparation m s h) (preparation m t h) (prepared_alike is_open m like kin hides s t alike h)

  served_same : served_tags m t h ≡ served_tags m s h
  served_same = λ j. standing_same j ++ ruled_tags (answer_same j)

  abbrev AreWork : Option (Job T) → Option (Job T) → Type 0
  AreWork = AlikeWork is_open m like kin hides s t alike h

  job_by_rule : (l k : Look) (answer : Result (Outs T) Stop) → AreLooks l k → OkBy AreWork (answer >>= λ outs. turn_job m s h l outs) (answer >>= λ outs. turn_job m t h k outs)
  job_by_rule l k (Ok outs) looks = job_alike is_open m like kin hides s t alike h l k outs looks
  job_by_rule l k (Err why) looks = refl

  job_by_look : (found other : Result Look Stop) → OkBy AreLooks found other
      → OkBy AreWork (found >>= λ l. rule_answer m s h l >>= λ outs. turn_job m s h l outs) (other >>= λ k. rule_answer m t h k >>= λ outs. turn_job m t h k outs)
  job_by_look (Ok l) (Ok k) looks =
      subst (λ (answer : Result (Outs T) Stop). OkBy AreWork (rule_answer m s h l >>= λ outs. turn_job m s h l outs) (answer >>= λ outs. turn_job m t h k outs))
      (sym (ruled_same is_open m like kin hides s t alike h l k looks)) (job_by_rule l k (rule_answer m s h l) looks)
  job_by_look (Err why) (Err other) looks = looks
  job_by_look (Ok l) (Err other) looks = absurd looks
  job_by_look (Err why) (Ok k) looks = absurd looks

  pub jobs_alike : OkBy AreWork (job_at m s h) (job_at m t h)
  unfolding job_at
  jobs_alike = job_by_look (preparation m s h) (preparation m t h) (prepared_alike is_open m like kin hides s t alike h)

  by_service : (job other : Result (Option (Job T)) Stop) → OkBy AreWork job other → (account : Account T) → after_service eq m t h other account ≡ after_service eq m s h job account
  by_service (Ok (Some j)) (Ok (Some k)) work account = ap (λ tags. seeing eq tags account) (written_same is_open (kin s.policy) j k work)
  by_service (Ok None) (Ok None) work account = refl
  by_service (Err why) (Err other) work account = refl
  by_service (Ok None) (Ok (Some k)) work account = absurd work
  by_service (Ok (Some j)) (Ok None) work account = absurd work
  by_service (Ok job) (Err other) work account = absurd work
  by_service (Err why) (Ok other) work account = absurd work

  serviced_same : (account : Account T) → service_counted eq m t h account ≡ service_counted eq m s h account
  unfolding service_counted
  serviced_same account = λ j. with_room eq (served_same j) (λ a. by_service (job_at m s h) (job_at m t h) jobs_alike a j) (counted_same account j)

  -- ---- the step

  pub accounts_same : (account : Account T) → account_after_turn eq m t h account ≡ account_after_turn eq m s h account
  unfolding account_after_turn
  accounts_same account = λ j. record (if is_over (counted_same account j) then counted_same account j else serviced_same account j) { turns = next_count account.turns }

  pub outs_same : (account : Account T) → account_out eq m t h account ≡ account_out eq m s h account
  outs_same account = λ j. if is_over (counted_same account j) then swept eq (standing_same j) (looked_same account j) else swept eq (served_same j) (counted_same account j)
